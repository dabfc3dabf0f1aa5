use Rattle.std.proofs.Common.{◌≡◌, false, take, string_bytes}
use Rattle.std.specs.List.{list_any}
use Rattle.zone_commands.specs.CommandLine.{is_dashed}
use Rattle.zone_commands.proofs.words.any_dashed.Given as goal

abbrev pub invariant-loop-word : goal.invariant-loop-word
invariant-loop-word l = list_any (λ word. is_dashed (string_bytes word)) (take l.word-index l.words) ≡ false
