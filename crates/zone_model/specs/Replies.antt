-- Entries that are the same but for the room of their lists
use Rattle.std.specs.Prelude.{◌≡◌, ◌≢◌, ℕ, List, map}
use Rattle.std.specs.List.{AllByRecursion}
use Rattle.zone_model.specs.declared.act.Act.{Act}
use Rattle.zone_model.specs.declared.act.Act.TheVariants as act
use Rattle.zone_model.specs.declared.call.Call.{Call}
use Rattle.zone_model.specs.declared.call.Call.TheVariants as call
use Rattle.zone_model.specs.declared.entry.Reply.{Reply}
use Rattle.zone_model.specs.declared.entry.Entry.{Entry}
use Rattle.zone_model.specs.Bare.{bare_entry}

-- the entry of a thread's call with a reply
abbrev pub replied : ℕ → Call → Reply → Entry
replied t c r = record { thread = t; call = c; reply = r }

-- all entries are the thread's
abbrev pub AllOf : ℕ → List Entry → Type 0
AllOf t es = AllByRecursion (λ e. e.thread ≡ t) es

-- the entries are the same, but for the room of their lists
abbrev pub SameButRoom : List Entry → List Entry → Type 0
SameButRoom es fs = map bare_entry es ≡ map bare_entry fs

-- a script's line asks for no Condemn by itself, but for a whole collection
abbrev pub NoCondemn : Act → Type 0
NoCondemn (act.Call c) = c ≢ call.Condemn
NoCondemn (act.Collect mode) = Unit {0}
