-- Where a thread stands in its own cycle, and which calls it may then make
use Rattle.std.specs.Prelude.{◌≡◌, ℕ, Bool, true, false, List, length, filter, nat_lt, ◌==◌}
use Rattle.az_base.specs.declared.block_id.BlockId.{BlockId}
use Rattle.zone_model.specs.declared.call.Call.{Call}
use Rattle.zone_model.specs.declared.call.Call.TheVariants as call
use Rattle.zone_model.specs.Collection.{HasCondemned, awaits}
use Rattle.zone_model.specs.Phases.{Free, Marking}
use Rattle.zone_model.specs.State.{State}
use Rattle.zone_escape.specs.declared.phase.Phase.{Phase}
use Rattle.zone_escape.specs.declared.phase.Phase.TheVariants as phase

-- the thread stands so in its own cycle
abbrev pub IsIn : State → ℕ → Phase → Type 0
IsIn z t phase.Free = Free z t
IsIn z t phase.Marking = Marking z t
IsIn z t (phase.Settling left) = (r : List BlockId) × HasCondemned z t r × (length (filter (awaits z) r) ≡ left)

abbrev pub is_free : Phase → Bool
is_free phase.Free = true
is_free _ = false

abbrev pub is_marking : Phase → Bool
is_marking phase.Marking = true
is_marking _ = false

-- blocks wait for their finaliser
abbrev pub has_left : Phase → Bool
has_left (phase.Settling left) = nat_lt 0 left
has_left _ = false

-- all finalisers have run
abbrev pub is_settled : Phase → Bool
is_settled (phase.Settling left) = left == 0
is_settled _ = false

-- the thread may make the call in this phase
abbrev pub may_in : Phase → Call → Bool
may_in p (call.Begin mode) = is_free p
may_in p call.Leave = is_free p
may_in p call.Condemn = is_marking p
may_in p call.Finalise = has_left p
may_in p call.Reclaim = is_settled p
may_in p _ = true
