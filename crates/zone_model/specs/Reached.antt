-- What an open cycle that isn't condemned keeps of the blocks that it has reached
use Rattle.std.specs.Prelude.{◌≡◌, ◌⊎◌, Some, None, IsTrue, IsFalse}
use Rattle.az_base.specs.declared.block_id.BlockId.{BlockId}
use Rattle.zone_model.specs.State.{State, Cycle, is_escaped, is_unescaped}
use Rattle.zone_model.specs.Reach.{Edge, AnchoredFor}
use Rattle.zone_model.specs.Collection.{WasAnchored}

-- what is reached goes on along edges: from what is anchored now, from what was anchored, and from blocks outside the start
pub record KeepsReached (z : State) (c : Cycle) : Type 0 where
  -- what is anchored now was so at some moment
  pub now : (b : BlockId) → IsTrue (c.start b) → AnchoredFor c.mode z b → WasAnchored c b
  pub on : (a b : BlockId) → WasAnchored c a → Edge z a b → IsTrue (c.start b) → WasAnchored c b
  pub outside : (a b : BlockId) → IsFalse (c.start a) → Edge z a b → IsTrue (c.start b) → WasAnchored c b

-- while a cycle is open and not condemned, it keeps what it has reached
abbrev pub OpenReached : State → Type 0
OpenReached z = (c : Cycle) → z.cycle ≡ Some c → c.condemned ≡ None → KeepsReached z c

-- edges lead from blocks that are there
abbrev pub IsRooted : State → Type 0
IsRooted z = (a b : BlockId) → Edge z a b → IsTrue (is_escaped z a) ⊎ IsTrue (is_unescaped z a)

-- each edge after a change was there before it, or leads to what is anchored after it
abbrev pub AddsToAnchored : State → State → Cycle → Type 0
AddsToAnchored z after c = (a b : BlockId) → Edge after a b → Edge z a b ⊎ AnchoredFor c.mode after b
