-- One entry, from a state to the next
-- The entry carries its reply, so that a state and an entry have one next state.
use Rattle.std.specs.Prelude.{◌≡◌, ℕ, Bool, false, MatchOption, option_map, is_some, if◌then◌else◌, ◌∷◌}
use Rattle.az_base.specs.declared.block_id.BlockId.{BlockId}
use Rattle.zone_model.specs.declared.call.Call.{Call}
use Rattle.zone_model.specs.declared.call.Call.TheVariants as call
use Rattle.zone_model.specs.declared.entry.Reply.{Reply}
use Rattle.zone_model.specs.declared.entry.Reply.TheVariants as reply
use Rattle.zone_model.specs.declared.entry.Entry.{Entry}
use Rattle.zone_model.specs.State.{State, Cycle, Moment, moment}
use Rattle.zone_model.specs.Escape.{Need, Tells, with_escaped}
use Rattle.zone_model.specs.Misuses.{misuse_of}
use Rattle.zone_model.specs.Collection.{IsBusy}
use Rattle.zone_model.specs.Effect.{Effect}

-- a cycle that isn't condemned has seen this moment, too
abbrev pub with_moment : Moment → Cycle → Cycle
with_moment m c = if is_some c.condemned then c else record c { moments = m ∷ c.moments }

-- the open cycle has seen this state
abbrev pub seen_now : State → State
seen_now z = record z { cycle = option_map (with_moment (moment z)) z.cycle }

-- a call that finds another thread's cycle open
abbrev pub FindsBusy : State → ℕ → Call → Type 0
FindsBusy z t (call.Begin mode) = IsBusy z t
FindsBusy z t _ = ⊥

-- what a call does that is no misuse: nothing where it is busy, and else its effect, which an open cycle sees
abbrev pub Happens : State → ℕ → Call → Reply → State → Type 0
Happens z t call reply.Busy after = FindsBusy z t call × (after ≡ z)
Happens z t call reply after = (mid : State) × Effect z t call reply mid × (after ≡ seen_now mid)

-- an entry is a step where its thread hasn't ended: a misuse replies its number and changes nothing; else the blocks of Need become escaped, and then the call happens
pub record Step (z : State) (e : Entry) (after : State) : Type 0 where
  pub running : z.ended e.thread ≡ false
  pub need : BlockId → Bool
  pub needed : Tells need (Need z e.thread e.call)
  pub does : MatchOption (misuse_of z e.thread e.call need)
      (Happens (with_escaped z need) e.thread e.call e.reply after)
      (λ m. (e.reply ≡ reply.Misuse m) × (after ≡ z))
