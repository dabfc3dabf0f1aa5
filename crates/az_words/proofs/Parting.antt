-- A word in two parts, as code finds them from the front.
use Rattle.std.proofs.Common.{◌≡◌, sym, ℕ, zero, suc, ◌+◌, ◌-◌, ◌<◌, ◌≤◌, true, eqb, List, [], ◌∷◌, length, take, drop, get_or, Some, None, refl, ap, ◌∙◌, arith}
use Rattle.std.specs.Option.{option_map}
use Rattle.std.proofs.lemmas.Bool.{cond-true, cond-false}
use Rattle.std.proofs.lemmas.List.{length-drop, take_all, drop-drop}
use Rattle.az_words.specs.Parts.{cut_at}
use Rattle.az_words.proofs.Cutting.{NoneBefore}

cut_first : (byte : ℕ) (bs : List ℕ) (n : ℕ) → n < length bs → NoneBefore (λ b. eqb b byte) bs n → eqb (get_or bs n 0) byte ≡ true → cut_at byte bs ≡ Some (take n bs, drop (suc n) bs)
cut_first byte [] n l h e = absurd (omega arith)
cut_first byte (b ∷ bs) zero l h e = cond-true (eqb b byte) (Some ([], bs)) _ e
cut_first byte (b ∷ bs) (suc n) l h e =
    cond-false (eqb b byte) (Some ([], bs)) _ (h 0 (omega arith))
    ∙ ap (option_map (λ p. (b ∷ p.0, p.1))) (cut_first byte bs n (omega arith) (λ k m. h (suc k) (omega arith)) e)

cut_none : (byte : ℕ) (bs : List ℕ) → NoneBefore (λ b. eqb b byte) bs (length bs) → cut_at byte bs ≡ None
cut_none byte [] h = refl
cut_none byte (b ∷ bs) h =
    cond-false (eqb b byte) (Some ([], bs)) _ (h 0 (omega arith)) ∙ ap (option_map (λ p. (b ∷ p.0, p.1))) (cut_none byte bs (λ k m. h (suc k) (omega arith)))

-- the same, at the two parts of a slice that is split at place n
pub cut_here : (byte : ℕ) (bs front back : List ℕ) (n : ℕ) → front ≡ take n bs → back ≡ drop n bs → n ≤ length bs → 1 ≤ length back → NoneBefore (λ b. eqb b byte) bs n
    → (n < length bs → eqb (get_or bs n 0) byte ≡ true) → cut_at byte bs ≡ Some (front, take (length back - 1) (drop 1 back))
cut_here byte bs front back n f b l some h e =
    let len : length back ≡ length bs - n = ap length b ∙ length-drop n bs in
    let all : take (length back - 1) (drop 1 back) ≡ drop 1 back = take_all (length back - 1) (drop 1 back) (omega (arith, length-drop 1 back)) in
    let one : n + 1 ≡ suc n = omega arith in
    let rest : drop 1 (drop n bs) ≡ drop (suc n) bs = drop-drop 1 n bs ∙ ap (λ k. drop k bs) one in
    cut_first byte bs n (omega arith) h (e (omega arith)) ∙ ap (λ x. Some (x, drop (suc n) bs)) (sym f) ∙ ap (λ r. Some (front, r)) (sym (all ∙ ap (drop 1) b ∙ rest))

pub cut_nowhere : (byte : ℕ) (bs back : List ℕ) (n : ℕ) → back ≡ drop n bs → n ≤ length bs → length back < 1 → NoneBefore (λ b. eqb b byte) bs n → cut_at byte bs ≡ None
cut_nowhere byte bs back n b l none h =
    let len : length bs - n ≡ length back = sym (length-drop n bs) ∙ ap length (sym b) in
    cut_none byte bs (λ k m. h k (omega arith))
