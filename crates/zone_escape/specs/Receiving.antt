-- What a shared call gives to a register of its thread
use Rattle.std.specs.Prelude.{◌≡◌, ◌≤◌, ℕ, [], Option}
use Rattle.az_base.specs.declared.block_id.BlockId.{BlockId}
use Rattle.zone_model.specs.declared.entry.Reply.{Reply}
use Rattle.zone_model.specs.declared.entry.Reply.TheVariants as reply
use Rattle.zone_model.specs.Part.{Part, part_of, put_register}
use Rattle.zone_model.specs.Sound.{Sound}
use Rattle.zone_model.specs.State.{State}
use Rattle.shared_heap.specs.Holding.{HoldsOnceMore, replaced}
use Rattle.shared_heap.specs.Shared.{Shared}
use Rattle.shared_heap.specs.Stands.{Stands}
use Rattle.local_set.specs.LocalSets.{LocalSet, part_in, held_in}

-- the part after a reply that goes to a register, which a misuse leaves as it is
abbrev pub received : Part → ℕ → Reply → Part
received p to (reply.Block v) = put_register p to v
received p to _ = p

-- the state is that after the call: the heap is that of the state, but still counts for the thread what the register held before,
-- and the set has its thread's part of the state as soon as the register has what the reply gives
pub record Receives (l : LocalSet) (h : Shared) (to : ℕ) (r : Reply) (z : State) : Type 0 where
  pub part : part_of z l.thread ≡ received (part_in l) to r
  pub published : (r : ℕ) → held_in l.published r ≡ held_in l.registers r
  pub stands : Stands h z
  pub holds : to ≤ 15 → HoldsOnceMore h z l.thread (replaced r (held_in l.registers to))
  pub sound : Sound z
  pub room : h.room ≡ []

-- the set has its thread's part of the state, and the heap is that of the state, but counts this block once more, if there is one
pub record CountsOnceMore (l : LocalSet) (h : Shared) (before : Option BlockId) (z : State) : Type 0 where
  pub part : part_in l ≡ part_of z l.thread
  pub stands : Stands h z
  pub holds : HoldsOnceMore h z l.thread before
