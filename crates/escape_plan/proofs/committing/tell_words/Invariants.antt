use Rattle.std.proofs.Common.{take}
use Rattle.escape_plan.specs.Moving.{refer_to, Told}
use Rattle.escape_plan.proofs.committing.tell_words.Given as goal

abbrev pub invariant-loop-word : goal.invariant-loop-word
invariant-loop-word l = Told l.local l.fn.heap l.heap (refer_to (take l.word-index l.words))
