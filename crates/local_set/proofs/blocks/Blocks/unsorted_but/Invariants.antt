use Rattle.std.proofs.Common.{◌≡◌, not, filter, take}
use Rattle.std.specs.Map.{keys_of}
use Rattle.az_base.specs.Ids.{among}
use Rattle.local_set.proofs.blocks.Blocks.unsorted_but.Given as goal

abbrev pub invariant-loop-n : goal.invariant-loop-n
invariant-loop-n l = l.ids.items ≡ filter (λ b. not (among l.found.keys b)) (take l.n (keys_of l.self.list))
