use Rattle.std.proofs.Common.{◌≡◌, ◌≤◌}
use Rattle.local_set.specs.LocalSets.{held_in}
use Rattle.zone_model.specs.Holds.{register_holds}
use Rattle.local_set.proofs.local.Local.register_holds.Given as goal

abbrev pub invariant-loop-at : goal.invariant-loop-at
invariant-loop-at l = record {
  counted : l.holds ≡ register_holds (held_in l.self.registers) l.id l.at;
  few : l.holds ≤ l.at;
}
