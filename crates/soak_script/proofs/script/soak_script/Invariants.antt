use Rattle.std.proofs.Common.{◌≡◌}
use Rattle.soak_script.specs.Generated.{number_after, lines_after}
use Rattle.soak_script.proofs.script.soak_script.Given as goal

abbrev pub invariant-loop-i : goal.invariant-loop-i
invariant-loop-i l = record { number : l.x ≡ number_after l.start l.i; lines : l.lines.items ≡ lines_after l.start l.i }
