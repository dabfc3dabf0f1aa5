use Rattle.std.proofs.Common.{◌≡◌, length, arith, ap, sym, ◌∙◌}
use Rattle.std.proofs.lemmas.Bool.{eqb-false}
use Rattle.block_layouts.proofs.LetterTexts.{length-classes_of}
use Rattle.block_layouts.proofs.layout.Layout.parse.Goals as goal

pub invariant_of-result : goal.invariant_of-result
invariant_of-result c =
    let letters = c.as_bytes-letters.result.now in
    let len : length c.from_vec.result ≡ length letters =
    ap length (c.from_vec.ensures ∙ c.in_ok-classes.ensures) ∙ length-classes_of letters (sym c.first_other.ensures ∙ c.in_default.is) in
    let some = eqb-false (length letters) 0 (sym c.is_empty.ensures ∙ c.if-is_empty.false) in
    (omega arith, omega arith)
