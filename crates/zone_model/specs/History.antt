-- Histories: which are legal, and which are those of a script's lines
use Rattle.std.specs.Prelude.{◌≡◌, ◌⊎◌, ℕ, ◌==◌, Bool, true, false, List, [], ◌∷◌, ◌++◌, map, filter, replicate, IsFalse}
use Rattle.std.specs.List.{list_any}
use Rattle.az_base.specs.declared.action.Mode.{Mode}
use Rattle.az_base.specs.declared.options.Options.{Options}
use Rattle.zone_model.specs.declared.act.Act.{Act}
use Rattle.zone_model.specs.declared.act.Act.TheVariants as act
use Rattle.zone_model.specs.declared.call.Call.{Call}
use Rattle.zone_model.specs.declared.call.Call.TheVariants as call
use Rattle.zone_model.specs.declared.entry.Reply.TheVariants as reply
use Rattle.zone_model.specs.declared.entry.Entry.{Entry}
use Rattle.zone_model.specs.State.{State, opening}
use Rattle.zone_model.specs.Step.{Step}

-- the entries lead, one step each, from one state to the other
abbrev pub Run : State → List Entry → State → Type 0
Run z [] last = last ≡ z
Run z (e ∷ es) last = (mid : State) × Step z e mid × Run mid es last

-- the history runs from the opening state, and this is its last state
abbrev pub Ends : Options → List Entry → State → Type 0
Ends o history z = Run (opening o) history z

-- the history runs from the opening state
abbrev pub Legal : Options → List Entry → Type 0
Legal o history = (z : State) × Ends o history z

-- the call is a step of a collection's cycle (a local collection has none)
abbrev pub is_cycle_step : Call → Bool
is_cycle_step (call.Begin mode) = true
is_cycle_step call.Condemn = true
is_cycle_step call.Finalise = true
is_cycle_step call.Reclaim = true
is_cycle_step _ = false

-- no call of the history is a step of a collection's cycle
abbrev pub NoCollection : List Entry → Type 0
NoCollection history = IsFalse (list_any (λ e. is_cycle_step e.call) history)

-- the entries of a thread, in order
abbrev pub entries_of : ℕ → List Entry → List Entry
entries_of t history = filter (λ e. e.thread == t) history

-- the calls of the entries
abbrev pub calls_of : List Entry → List Call
calls_of es = map (λ e. e.call) es

-- a Begin of this mode with Busy
abbrev pub IsRefused : Mode → List Entry → Type 0
IsRefused mode es = (e : Entry) × (es ≡ e ∷ []) × (e.call ≡ call.Begin mode) × (e.reply ≡ reply.Busy)

-- a Begin of this mode with Begun, a Condemn, some number of Finalise and a Reclaim
abbrev pub IsCollection : Mode → List Entry → Type 0
IsCollection mode es = (e : Entry) × (more : List Entry) × (n : ℕ) × (es ≡ e ∷ more) × (e.call ≡ call.Begin mode) × (e.reply ≡ reply.Begun)
    × (calls_of more ≡ call.Condemn ∷ replicate n call.Finalise ++ call.Reclaim ∷ [])

-- the entries are the group of what a line asks for
abbrev pub IsGroup : Act → List Entry → Type 0
IsGroup (act.Call c) es = calls_of es ≡ c ∷ []
IsGroup (act.Collect mode) es = IsRefused mode es ⊎ IsCollection mode es

-- the entries are, in order, one group for each line and then one Leave
abbrev pub Matches : List Entry → List Act → Type 0
Matches es [] = calls_of es ≡ call.Leave ∷ []
Matches es (a ∷ acts) = (group : List Entry) × (rest : List Entry) × (es ≡ group ++ rest) × IsGroup a group × Matches rest acts
