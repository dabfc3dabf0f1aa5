use Rattle.std.proofs.Common.{sym}
use Rattle.local_set.specs.LocalSets.{blocks_of}
use Rattle.local_set.proofs.Walks.{inserted_visits}
use Rattle.local_set.proofs.walk.Trace.visit.Goals as goal

pub returns : goal.returns
returns c = rw (c.in-Some.is) (inserted_visits (blocks_of c.args.blocks.now.list) c.args.self.now.found.keys c.insert.new.self.keys c.in-Some.id (sym c.if-not-has.ensures) c.in_ok-insert.ensures.keys)
