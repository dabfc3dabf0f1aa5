-- A thread's own set, and a heap, that belong together: the set has the thread's part of a state, the heap what is shared of it
use Rattle.std.specs.Prelude.{◌≡◌, ◌==◌, ℕ, false, []}
use Rattle.az_base.specs.declared.block_id.BlockId.{BlockId}
use Rattle.az_base.specs.Ids.{among}
use Rattle.zone_model.specs.LocalSteps.{LocalRun}
use Rattle.zone_model.specs.Part.{part_of}
use Rattle.zone_model.specs.Sound.{Sound}
use Rattle.zone_model.specs.State.{State}
use Rattle.shared_heap.specs.Holding.{HoldsAgree}
use Rattle.shared_heap.specs.Shared.{Shared}
use Rattle.shared_heap.specs.Stands.{Stands}
use Rattle.zone_model.specs.Holds.{word_holds}
use Rattle.local_set.specs.LocalSets.{LocalSet, part_in, held_in, blocks_of}

-- the set belongs to the state: its waiting entries are local steps from its thread's part of the state to its own part, and what
-- it notes is what the thread holds otherwise than in the state
pub record Belongs (l : LocalSet) (z : State) : Type 0 where
  pub options : l.options ≡ z.options
  pub run : LocalRun (part_of z l.thread) l.thread l.waiting (part_in l)
  -- the registers that were published are those of the state
  pub published : (r : ℕ) → held_in l.published r ≡ z.registers l.thread r
  -- of each block that isn't noted as many words of the thread refer to it as in the state
  pub unchanged : (q : BlockId) → among l.changed q ≡ false → word_holds (blocks_of l.blocks) q ≡ word_holds (part_of z l.thread).blocks q

-- the heap is that of the sound state: what is shared, and how often each thread holds each escaped block
pub record IsHeapOf (h : Shared) (z : State) : Type 0 where
  pub stands : Stands h z
  pub holds : HoldsAgree h z
  pub sound : Sound z

-- both belong to the state, and no room is left over from an escape
pub record Together (l : LocalSet) (h : Shared) (z : State) : Type 0 where
  pub local : Belongs l z
  pub heap : IsHeapOf h z
  pub room : h.room ≡ []

-- both belong to some state
abbrev pub AreTogether : LocalSet → Shared → Type 0
AreTogether l h = (z : State) × Together l h z

-- they belong to each state to which others did
abbrev pub StayTogether : LocalSet → LocalSet → Shared → Shared → Type 0
StayTogether l m h k = (z : State) → Together l h z → Together m k z

-- the parts of other threads stay
abbrev pub OthersStay : ℕ → State → State → Type 0
OthersStay t z after = (u : ℕ) → (t == u) ≡ false → part_of after u ≡ part_of z u
