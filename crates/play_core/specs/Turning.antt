-- What a call makes of its thread's own set and the core
use Rattle.std.specs.Prelude.{◌≡◌, ◌==◌, MatchBool, length}
use Rattle.zone_model.specs.declared.call.Call.{Call}
use Rattle.zone_model.specs.declared.entry.Reply.{Reply}
use Rattle.zone_model.specs.Part.{is_local}
use Rattle.local_set.specs.Calls.{Made, Same}
use Rattle.local_set.specs.LocalSets.{LocalSet, part_in}
use Rattle.zone_escape.specs.Cores.{CoreShown}
use Rattle.zone_escape.specs.Publications.{Flushed, Stepped, Refused}

-- where as many entries wait as may, they were published
abbrev pub MakesRoom : LocalSet → LocalSet → CoreShown → CoreShown → Type 0
MakesRoom l m k n = MatchBool (length l.waiting == l.options.pending) (Flushed l m k n) ((m ≡ l) × (n ≡ k))

-- a local call waits, after room was made for it; any other is published behind what waits
abbrev pub Turned : LocalSet → LocalSet → CoreShown → CoreShown → Call → Reply → Type 0
Turned l m k n call reply = MatchBool (is_local (part_in l) call) ((mid : LocalSet) × MakesRoom l mid k n × Made mid m call reply) (Stepped l m k n call reply)

-- nothing was done, or what waits was published and nothing else
abbrev pub Stopped : LocalSet → LocalSet → CoreShown → CoreShown → Type 0
Stopped l m k n = (mid : LocalSet) × Refused l mid k n × Same mid m
