-- Where a thread stands before and after each step of its own cycle
use Rattle.std.specs.Prelude.{◌≡◌, ◌<◌, ◌+◌, ℕ, Bool, true, false}
use Rattle.zone_model.specs.declared.call.Call.{Call}
use Rattle.zone_model.specs.declared.call.Call.TheVariants as call
use Rattle.zone_model.specs.declared.entry.Reply.{Reply}
use Rattle.zone_model.specs.declared.entry.Reply.TheVariants as reply
use Rattle.zone_model.specs.Phases.{Free, Marking, Settling}
use Rattle.zone_model.specs.State.{State}

-- where such a step may be made, with so many blocks left to finalise
abbrev pub InStage : Call → ℕ → State → ℕ → Type 0
InStage call.Condemn left = Marking
InStage call.Finalise left = λ z t. (0 < left) × Settling left z t
InStage call.Reclaim left = Settling 0
InStage _ left = λ z t. ⊥

-- and where the thread stands after it, with so many left now
abbrev pub OutStage : Call → ℕ → ℕ → State → ℕ → Type 0
OutStage call.Condemn left next = Settling next
OutStage call.Finalise left next = λ z t. (next + 1 ≡ left) × Settling next z t
OutStage call.Reclaim left next = Free
OutStage _ left next = λ z t. ⊥

-- what Begin replies
abbrev pub begun_reply : Bool → Reply
begun_reply true = reply.Begun
begun_reply false = reply.Busy

-- whether it began a cycle
abbrev pub is_begun : Reply → Bool
is_begun reply.Begun = true
is_begun _ = false

-- and where the thread stands after it
abbrev pub Opened : Bool → State → ℕ → Type 0
Opened true = Marking
Opened false = Free

-- a collection's last reply
abbrev pub IsSettled : Reply → Type 0
IsSettled (reply.Settled gone kept) = Unit {0}
IsSettled _ = ⊥

-- what such a step replies, so far as it is told on
abbrev pub Tells : Call → Reply → Type 0
Tells call.Reclaim r = IsSettled r
Tells _ r = Unit {0}
