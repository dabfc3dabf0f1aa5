use Rattle.std.proofs.Common.{◌≡◌, take, not}
use Rattle.std.specs.FinMap.{retain_keys}
use Rattle.zone_model.specs.State.{is_word_of}
use Rattle.shared_heap.proofs.heap.cycles.forget_words.Given as goal

abbrev pub invariant-loop-id : goal.invariant-loop-id
invariant-loop-id l = l.weak.shown ≡ retain_keys l.fn.weak.shown (λ q. not (is_word_of (take l.id-index l.gone) q))
