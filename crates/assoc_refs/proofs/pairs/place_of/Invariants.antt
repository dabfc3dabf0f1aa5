use Rattle.std.proofs.Common.{◌-◌, ◌≡◌, ◌<◌, ◌≤◌, ℕ, Some, length, slice_get}
use Rattle.az_base.specs.declared.block_id.BlockId.{BlockId}
use Rattle.assoc_refs.specs.Values.{numbered}
use Rattle.assoc_refs.proofs.pairs.place_of.Given as goal

abbrev pub invariant-loop-low : goal.invariant-loop-low
invariant-loop-low l = record {
  within : l.low ≤ l.high;
  length : l.high ≤ length l.list;
  place : (j : ℕ) (e : ℕ × BlockId) → slice_get (numbered l.list) j ≡ Some e → (j < l.low → e.0 < l.key.0) × (l.high ≤ j → l.key.0 ≤ e.0);
}

abbrev pub decreases-loop-low : goal.decreases-loop-low
decreases-loop-low l = l.high - l.low
