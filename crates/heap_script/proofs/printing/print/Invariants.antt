use Rattle.std.proofs.Common.{◌≡◌, ◌++◌, take, string_bytes}
use Rattle.std.specs.List.{flat_map}
use Rattle.call_words.specs.Spacing.{fed_line}
use Rattle.heap_script.specs.Printed.{line_words}
use Rattle.heap_script.proofs.printing.print.Given as goal

abbrev pub invariant-loop-line : goal.invariant-loop-line
invariant-loop-line l = string_bytes l.out ≡ string_bytes l.initial.out ++ flat_map (λ line. fed_line (line_words line)) (take l.line-index l.lines)
