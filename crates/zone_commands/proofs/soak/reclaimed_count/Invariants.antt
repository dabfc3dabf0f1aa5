use Rattle.std.proofs.Common.{◌≡◌, ◌≤◌, ◌*◌, take}
use Rattle.zone_commands.specs.Soak.{reclaimed_count}
use Rattle.zone_commands.proofs.soak.reclaimed_count.Given as goal

abbrev pub invariant-loop-entry : goal.invariant-loop-entry
invariant-loop-entry l = record { count : l.count ≡ reclaimed_count (take l.entry-index l.entries); small : l.count ≤ l.entry-index * 18446744073709551615 }
