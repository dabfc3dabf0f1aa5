-- A text of letters has as many classes as letters
use Rattle.std.proofs.Common.{◌≡◌, ℕ, ◌+◌, ◌≤◌, Bool, true, false, cond, List, [], ◌∷◌, length, Some, None, not, refl, arith, is_none}
use Rattle.std.specs.List.{prefix_len, cons_option}
use Rattle.std.proofs.lemmas.Bool.{ltb-false}
use Rattle.block_layouts.specs.Letters.{class_of, is_other, classes_of, first_other}

all_letters : (text : List ℕ) → length text ≤ prefix_len (λ x. not (is_other x)) text → length (classes_of text) ≡ length text
all_letters [] h = refl
all_letters (b ∷ bs) h =
    elim (class_of b) as (λ o. length (b ∷ bs) ≤ cond (not (is_none o)) (1 + prefix_len (λ x. not (is_other x)) bs) 0 → length (cons_option o (classes_of bs)) ≡ length (b ∷ bs)) [
      | None ↦ λ k. absurd (omega arith)
      | Some c ↦ λ k. let rest = all_letters bs (omega arith) in omega arith
    ] h

none_given : (b : Bool) (n : ℕ) → cond b (Some n) None ≡ None → b ≡ false
none_given true n e = cc
none_given false n e = refl

pub length-classes_of : (text : List ℕ) → first_other text ≡ None → length (classes_of text) ≡ length text
length-classes_of text none = all_letters text (ltb-false _ _ (none_given _ _ none))
