use Rattle.std.proofs.Common.{◌≡◌, ◌++◌, take, string_bytes}
use Rattle.std.specs.List.{flat_map}
use Rattle.call_words.specs.Words.{letter_text}
use Rattle.call_words.proofs.push_calls.push_letters.Given as goal

abbrev pub invariant-loop-class : goal.invariant-loop-class
invariant-loop-class l = string_bytes l.out ≡ string_bytes l.initial.out ++ flat_map letter_text (take l.class-index l.classes)
