use Rattle.std.proofs.Common.{take}
use Rattle.escape_plan.specs.Moving.{refer_to, Told}
use Rattle.zone_escape.specs.Telling.{emptied}
use Rattle.zone_escape.proofs.leaving.let_words_go.Given as goal

abbrev pub invariant-loop-word : goal.invariant-loop-word
invariant-loop-word l = Told (emptied l.local) l.fn.heap l.heap (refer_to (take l.word-index l.words))
