-- Registers and roots that there are
-- The definitions take any number of a register or root. What scripts and histories name is in range, and then all else stays null.
use Rattle.std.specs.Prelude.{◌≡◌, ◌≤◌, ◌<◌, ℕ, Some, None}
use Rattle.std.specs.List.{AllByRecursion}
use Rattle.std.specs.FinMap.{get}
use Rattle.az_base.specs.declared.action.Action.{Action}
use Rattle.az_base.specs.declared.action.Action.TheVariants as action
use Rattle.az_base.specs.declared.block_id.BlockId.{BlockId}
use Rattle.zone_model.specs.declared.call.Call.{Call}
use Rattle.zone_model.specs.declared.call.Call.TheVariants as call
use Rattle.zone_model.specs.State.{State, Block}

-- the root to which a finaliser's action gives a value is one that there is
abbrev pub ActionInRange : Action → Type 0
ActionInRange (action.Keep g) = g.0 ≤ 255
ActionInRange (action.Pass g at) = g.0 ≤ 255

-- the register or root to which a call gives a value is one that there is
abbrev pub CallInRange : Call → Type 0
CallInRange (call.New to layout actions) = (to ≤ 15) × AllByRecursion ActionInRange actions
CallInRange (call.Load to from at) = to ≤ 15
CallInRange (call.Copy to from) = to ≤ 15
CallInRange (call.SetRoot root from) = root.0 ≤ 255
CallInRange (call.GetRoot to root) = to ≤ 15
CallInRange (call.Take to id) = to ≤ 15
CallInRange (call.GetAssoc to object key) = to ≤ 15
CallInRange (call.ReadWeak to loc) = to ≤ 15
CallInRange _ = Unit {0}

-- registers past 15 and roots past 255 are null, and no action would change that
pub record InRange (z : State) : Type 0 where
  pub registers : (t r : ℕ) → 15 < r → z.registers t r ≡ None
  pub roots : (g : ℕ) → 255 < g → z.roots g ≡ None
  pub actions : (id : BlockId) (b : Block) → get z.blocks id ≡ Some b → AllByRecursion ActionInRange b.actions
