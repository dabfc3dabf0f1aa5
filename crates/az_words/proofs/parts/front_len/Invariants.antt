use Rattle.std.proofs.Common.{◌≡◌, ℕ, ◌<◌, eqb, get_or, false}
use Rattle.az_words.proofs.parts.front_len.Given as goal

abbrev pub invariant-loop-i : goal.invariant-loop-i
invariant-loop-i l = (k : ℕ) → k < l.i → eqb (get_or l.word k 0) l.byte ≡ false
