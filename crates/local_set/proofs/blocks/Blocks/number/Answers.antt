use Rattle.local_set.proofs.Editing.{plain_there}
use Rattle.local_set.specs.LocalSets.{blocks_of}
use Rattle.local_set.proofs.blocks.Blocks.number.Goals as goal

pub number_in-requires : goal.number_in-requires
number_in-requires c = plain_there (blocks_of c.self.inside.stored.entries) c.args.id c.args.at c.read.result (rw (← c.self.view_is) at c.requires) c.read.ensures.fit
