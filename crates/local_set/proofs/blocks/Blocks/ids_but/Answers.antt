use Rattle.local_set.proofs.Sorting.{listed_but}
use Rattle.local_set.proofs.blocks.Blocks.ids_but.Goals as goal

pub returns : goal.returns
returns c = rw (c.from_vec.ensures.list) (listed_but c.args.self.now.list c.args.found.now.keys c.in_ok-ids.ids.items c.sort_unstable.new.self.items c.in_ok-ids.ensures.ids c.in_ok-ids.ensures.unique c.sort_unstable.ensures.permutation c.sort_unstable.ensures.sorted)
