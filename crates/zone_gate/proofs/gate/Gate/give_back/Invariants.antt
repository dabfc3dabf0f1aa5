use Rattle.std.proofs.Common.{◌-◌, length}
use Rattle.zone_model.specs.History.{entries_of}
use Rattle.zone_gate.proofs.gate.Gate.give_back.Given as goal

-- the cut of this turn
abbrev pub ghost-then : goal.ghost-then
ghost-then g a = record {
  length = length (entries_of a._turn.now.thread (g.V.Kept.list a._turn.now.now.value));
  scanned = g.V.Kept.black a._turn.now.now.value - g.V.Kept.black a._turn.now.was.value;
  grey = g.V.Kept.grey a._turn.now.now.value;
}
