-- The lines of a text are texts.
use Rattle.std.proofs.Common.{◌≡◌, sym, ℕ, ◌+◌, ◌-◌, ◌<◌, ◌≤◌, true, List, length, take, drop, get_or, ap, ◌∙◌, subst, arith}
use Rattle.std.specs.Str.{IsUtf8, IsCharBoundary}
use Rattle.std.proofs.lemmas.Bool.{eqb-true}
use Rattle.std.proofs.lemmas.List.{nil_from_length, length-drop, take_all, drop-drop}
use Rattle.std.proofs.lemmas.Str.{IsUtf8-nil, IsUtf8-take, IsUtf8-drop, IsCharBoundary-after_ascii}
use Rattle.az_words.specs.Lines.{is_feed}

pub text_cut : (bs front back : List ℕ) (n : ℕ) → IsUtf8 bs → front ≡ take n bs → back ≡ drop n bs → n ≤ length bs → 1 ≤ length back → (n < length bs → is_feed (get_or bs n 0) ≡ true)
    → IsUtf8 front × IsUtf8 (take (length back - 1) (drop 1 back))
text_cut bs front back n text f b l some e =
    let len : length back ≡ length bs - n = ap length b ∙ length-drop n bs in
    let within : n < length bs = omega arith in
    let feed : get_or bs n 0 ≡ 10 = eqb-true _ _ (e within) in
    let here : IsCharBoundary bs n = (l, λ _ large. absurd (omega arith)) in
    let after : IsCharBoundary bs (n + 1) = IsCharBoundary-after_ascii bs n text within (omega arith) in
    let all : take (length back - 1) (drop 1 back) ≡ drop 1 back = take_all (length back - 1) (drop 1 back) (omega (arith, length-drop 1 back)) in
    (subst IsUtf8 (sym f) (IsUtf8-take bs n text here), subst IsUtf8 (sym (all ∙ ap (drop 1) b ∙ drop-drop 1 n bs)) (IsUtf8-drop bs (n + 1) text after))

pub text_end : (bs back : List ℕ) → IsUtf8 bs → length back < 1 → IsUtf8 bs × IsUtf8 back
text_end bs back text none = (text, subst IsUtf8 (sym (nil_from_length back (omega arith))) IsUtf8-nil)
