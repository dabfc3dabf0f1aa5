-- Lines that end in line feeds are cut apart in one way
use Rattle.std.proofs.Common.{◌≡◌, ℕ, ◌<◌, true, not, List, [], ◌∷◌, ◌++◌, length, refl, sym, ◌∙◌, subst, arith, append_assoc}
use Rattle.std.specs.List.{list_all, AllByRecursion}
use Rattle.std.proofs.lemmas.Bool.{and_parts}
use Rattle.az_words.specs.Lines.{is_feed}
use Rattle.history_text.specs.Texts.{HasNoFeed, fed}

pub goes : (b : ℕ) (bs : List ℕ) → HasNoFeed (b ∷ bs) → (b ≡ 10 → ⊥) × HasNoFeed bs
goes b bs h =
    let p = and_parts (not (is_feed b)) (list_all (λ b. not (is_feed b)) bs) h in
    ((λ e. let k : not (is_feed 10) ≡ true = subst (λ x. not (is_feed x) ≡ true) e p.0 in cc), p.1)

-- the first line, and the rest
pub cut_one : (x y xs ys : List ℕ) → HasNoFeed x → HasNoFeed y → x ++ 10 ∷ xs ≡ y ++ 10 ∷ ys → (x ≡ y) × (xs ≡ ys)
cut_one [] [] xs ys hx hy e = (refl, cc)
cut_one [] (b ∷ y) xs ys hx hy e = let k : b ≡ 10 = cc in absurd ((goes b y hy).0 k)
cut_one (a ∷ x) [] xs ys hx hy e = let k : a ≡ 10 = cc in absurd ((goes a x hx).0 k)
cut_one (a ∷ x) (b ∷ y) xs ys hx hy e =
    let same : a ≡ b = cc in
    let rest : x ++ 10 ∷ xs ≡ y ++ 10 ∷ ys = cc in
    let r = cut_one x y xs ys (goes a x hx).1 (goes b y hy).1 rest in
    (cc (same, r.0), r.1)

nothing : (x xs : List ℕ) → [] ≡ x ++ 10 ∷ xs → ⊥
nothing [] xs e = cc
nothing (b ∷ x) xs e = cc

fed_cons : (x : List ℕ) (xs : List (List ℕ)) (after : List ℕ) → fed (x ∷ xs) ++ after ≡ x ++ 10 ∷ (fed xs ++ after)
fed_cons x xs after = append_assoc (x ++ 10 ∷ []) (fed xs) after ∙ append_assoc x (10 ∷ []) (fed xs ++ after)

pub fed_first : (y : List ℕ) (ys : List (List ℕ)) → fed (y ∷ ys) ≡ y ++ 10 ∷ fed ys
fed_first y ys = append_assoc y (10 ∷ []) (fed ys)

-- the lines of a text that begins with these lines
pub cut_lines : (xs ys : List (List ℕ)) (after : List ℕ) → AllByRecursion HasNoFeed xs → AllByRecursion HasNoFeed ys → fed ys ≡ fed xs ++ after
    → (zs : List (List ℕ)) × (ys ≡ xs ++ zs) × (after ≡ fed zs)
cut_lines [] ys after hx hy e = (ys, refl, sym e)
cut_lines (x ∷ xs) [] after hx hy e = absurd (nothing x (fed xs ++ after) (e ∙ fed_cons x xs after))
cut_lines (x ∷ xs) (y ∷ ys) after hx hy e =
    let c = cut_one y x (fed ys) (fed xs ++ after) hy.0 hx.0 (sym (fed_first y ys) ∙ e ∙ fed_cons x xs after) in
    let r = cut_lines xs ys after hx.1 hy.1 c.1 in
    (r.0, cc (c.0, r.1), r.2)

-- of two cuts of the same bytes, the longer goes on where the shorter ends
pub longer_cut : (xs ys : List (List ℕ)) (a b : List ℕ) → AllByRecursion HasNoFeed xs → AllByRecursion HasNoFeed ys → fed xs ++ a ≡ fed ys ++ b → length xs < length ys
    → (z : List ℕ) × (zs : List (List ℕ)) × (ys ≡ xs ++ z ∷ zs) × (a ≡ z ++ 10 ∷ (fed zs ++ b)) × HasNoFeed z
longer_cut [] [] a b hx hy e l = absurd (omega arith)
longer_cut [] (y ∷ ys) a b hx hy e l = (y, ys, refl, e ∙ fed_cons y ys b, hy.0)
longer_cut (x ∷ xs) [] a b hx hy e l = absurd (omega arith)
longer_cut (x ∷ xs) (y ∷ ys) a b hx hy e l =
    let c = cut_one x y (fed xs ++ a) (fed ys ++ b) hx.0 hy.0 (sym (fed_cons x xs a) ∙ e ∙ fed_cons y ys b) in
    let r = longer_cut xs ys a b hx.1 hy.1 c.1 (omega arith) in
    (r.0, r.1, cc (c.0, r.2), r.3, r.4)
