-- The first line that can't stand is one
use Rattle.std.proofs.Common.{◌≡◌, ℕ, ◌<◌, List, [], ◌∷◌, ◌++◌, length, sym, ap, ◌∙◌, subst, arith, append_assoc}
use Rattle.std.proofs.lemmas.List.Concat.{flat_map-append}
use Rattle.std.proofs.lemmas.List.Elements.{recursion_from_All}
use Rattle.history_text.specs.Texts.{HasNoFeed, fed, IsText, BeginsText, IsWrongAt}
use Rattle.history_text.proofs.Cutting.{fed_first, longer_cut}

-- what begins a text does so with less of it
begins_shorter : (front back : List ℕ) → BeginsText (front ++ back) → BeginsText front
begins_shorter front back b = record {
  options = b.options;
  history = b.history;
  stats = b.stats;
  rest = back ++ b.rest;
  is = subst (λ t. IsText t b.options b.history b.stats) (append_assoc front back b.rest) b.is;
}

not_before : (bytes : List ℕ) (m n : ℕ) → IsWrongAt bytes m → IsWrongAt bytes n → m < n → ⊥
not_before bytes m n a b l =
    let solid_a = recursion_from_All HasNoFeed a.before a.lines in
    let solid_b = recursion_from_All HasNoFeed b.before b.lines in
    let fewer : length a.before < length b.before = omega (arith, l, a.place, b.place) in
    let c = longer_cut a.before b.before a.after b.after solid_a solid_b (sym a.cut ∙ b.cut) fewer in
    let line = c.0 in
    let whole : fed b.before ≡ (fed a.before ++ line ++ 10 ∷ []) ++ fed c.1 =
    ap fed c.2 ∙ flat_map-append (λ x. x ++ 10 ∷ []) a.before (line ∷ c.1) ∙ ap (λ t. fed a.before ++ t) (fed_first line c.1) ∙ sym (append_assoc (fed a.before) line (10 ∷ fed c.1))
    ∙ sym (append_assoc (fed a.before ++ line) (10 ∷ []) (fed c.1)) in
    a.cannot line (fed c.1 ++ b.after) c.4 c.3 (begins_shorter (fed a.before ++ line ++ 10 ∷ []) (fed c.1) (subst BeginsText whole b.can))

pub one_line : (bytes : List ℕ) (m n : ℕ) → IsWrongAt bytes m → IsWrongAt bytes n → m ≡ n
one_line bytes m n a b =
    let up : m < n → ⊥ = not_before bytes m n a b in
    let down : n < m → ⊥ = not_before bytes n m b a in
    between m n up down
  where
    between : (m n : ℕ) → (m < n → ⊥) → (n < m → ⊥) → m ≡ n
    between m n up down = grind arith
