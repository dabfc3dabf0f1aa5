use Rattle.std.proofs.Common.{◌≡◌, ◌∙◌, ◌∷◌, ◌++◌, ◌+◌, ◌<◌, ℕ, List, [], Result, Ok, Err, is_ok, if◌then◌else◌, sym, ap, arith}
use Rattle.std.proofs.lemmas.Fmt.{decimal_digit}
use Rattle.std.specs.Fmt.{decimal}
use Rattle.call_words.specs.Spacing.{Adds}
use Rattle.call_words.proofs.push_pieces.push_digit.Goals as goal

-- what was pushed is the digit
digit_added : {T E : Type 0} (r : Result T E) (old new bytes : List ℕ) (n : ℕ) → n < 10 → bytes ≡ (48 + n) ∷ [] → new ≡ (if is_ok r then old ++ bytes else old) → Adds old new r (decimal n)
digit_added (Ok x) old new bytes n few is pushed = pushed ∙ ap (λ t. old ++ t) (is ∙ sym (decimal_digit n few))
digit_added (Err e) old new bytes n few is pushed = tt

pub returns : goal.returns
returns c =
    let n = c.args.digit in
    digit_added c.push.result _ _ _ n c.requires
    (c.push.ensures.ascii (omega (arith, c.from.ensures, c.requires)) ∙ ap (λ ch. ch ∷ []) (omega (arith, c.from.ensures, c.requires))) c.push.ensures.bytes
