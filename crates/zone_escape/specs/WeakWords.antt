-- The Weak word that a call names
use Rattle.std.specs.Prelude.{◌≡◌, ℕ, Some, Option}
use Rattle.az_base.specs.declared.block_id.BlockId.{BlockId}
use Rattle.az_base.specs.declared.misuse.Misuse.{Misuse}
use Rattle.az_base.specs.declared.word.Class.TheVariants as class
use Rattle.zone_model.specs.declared.call.Call.{Call}
use Rattle.zone_model.specs.Sound.{Knows}
use Rattle.zone_model.specs.State.{State}
use Rattle.shared_heap.specs.Shared.{Shared}
use Rattle.shared_heap.specs.Steps.{NeedsWord, first_three}
use Rattle.local_set.specs.LocalSets.{LocalSet}
use Rattle.escape_plan.specs.Together.{Together}

-- this is the least of the first three misuses of a call that needs a Weak word of the block at the place
abbrev pub IsWeakMisuse : LocalSet → Shared → BlockId → ℕ → Option Misuse → Type 0
IsWeakMisuse l h id at m = (z : State) → Together l h z → (c : Call) (reg : ℕ) → z.registers l.thread reg ≡ Some id
    → NeedsWord z l.thread c reg at class.Weak → m ≡ first_three z l.thread c

-- both belong to a state in which the block has escaped or is an unescaped one of the thread
abbrev pub IsHeld : LocalSet → Shared → BlockId → Type 0
IsHeld l h id = (z : State) × Together l h z × Knows z l.thread id
