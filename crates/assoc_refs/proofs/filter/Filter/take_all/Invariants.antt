use Rattle.std.proofs.Common.{◌≡◌, ℕ, ◌<◌, Some, slice_get}
use Rattle.az_base.specs.declared.block_id.BlockId.{BlockId}
use Rattle.assoc_refs.specs.Values.{Values}
use Rattle.assoc_refs.specs.Filter.{IsIn}
use Rattle.assoc_refs.proofs.filter.Filter.take_all.Given as goal

abbrev pub invariant-loop-n : goal.invariant-loop-n
invariant-loop-n l = (k : ℕ) (object : BlockId) (v : Values) → k < l.n → slice_get l.lists.entries k ≡ Some (object, v) → IsIn l.self.taken.items l.self.mask object
