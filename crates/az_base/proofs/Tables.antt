-- A table as a finite map, where the test of keys is that of an order that tells all keys apart
use Rattle.std.proofs.Common.{◌≡◌, ℕ, suc, ◌+◌, length, arith, Bool, false, cond, List, [], ◌∷◌, ◌||◌, Option, Some, None, is_some, refl, sym, ap, ◌∙◌}
use Rattle.std.specs.declared.cmp.Ordering.{Ordering}
use Rattle.std.specs.Ordering.{is_eq, eq_by_cmp}
use Rattle.std.specs.Cmp.{IsTotalOrder, eq_by_cmp_equiv}
use Rattle.std.specs.List.{list_any, IsDistinct}
use Rattle.std.specs.Map.{lookup, keys_of}
use Rattle.std.proofs.lemmas.Map.Keys.{IsDistinct-tail}
use Rattle.std.proofs.lemmas.Map.Made.{is_some-lookup}
use Rattle.std.specs.FinMap.{FinMap, IsAntisymmetric, find, from_entries, get, insert, remove, get-insert, get-remove, get-from_entries, same_map, len, len-empty, len-insert}
use Rattle.az_base.specs.WithValue.{with_value}

-- a key of distinct ones is none of those after it
pub none_alike : {K : Type 0} (eq : K → K → Bool) (k : K) (ks : List K) → IsDistinct eq (k ∷ ks) → list_any (eq k) ks ≡ false
unfolding IsDistinct
none_alike eq k [] h = refl
none_alike eq k (x ∷ ks) h = ap (λ t. t || list_any (eq k) ks) h.0.0 ∙ none_alike eq k ks (h.0.1, h.1.1)

-- what a map has in which one key got a value or lost it
pub get-with_value : {K X : Type 0} {R : K → K → Ordering} (o : IsTotalOrder R) (m : FinMap R X) (k : K) (v : Option X) (q : K) → get (with_value m k v) q ≡ cond (eq_by_cmp R q k) v (get m q)
get-with_value o m k None q = get-remove o m k q
get-with_value o m k (Some x) q = get-insert o m k x q

module _ {K X : Type 0} {R : K → K → Ordering} (o : IsTotalOrder R) (eq : K → K → Bool) (tests : (a b : K) → eq a b ≡ is_eq (R a b)) where
  -- the map that the entries make has what a look-up finds
  pub shown-get : (es : List (K × X)) (q : K) → get (from_entries {R = R} es) q ≡ lookup (eq q) es
  shown-get es q = get-from_entries o es q ∙ found es
    where
      found : (es : List (K × X)) → find R q es ≡ lookup (eq q) es
      found [] = refl
      found (e ∷ es) = ap (λ t. cond t (Some e.1) (find R q es)) (sym (tests q e.0)) ∙ ap (cond (eq q e.0) (Some e.1)) (found es)

  -- with distinct keys it has as many entries
  pub shown-len : (es : List (K × X)) → IsDistinct eq (keys_of es) → len (from_entries {R = R} es) ≡ length es
  shown-len [] h = len-empty R X
  shown-len (e ∷ es) h =
      let rest : len (from_entries {R = R} es) ≡ length es = shown-len es (IsDistinct-tail eq e.0 (keys_of es) h) in
      len-insert o (from_entries es) e.0 e.1
      ∙ ap (λ t. cond t (len (from_entries {R = R} es)) (len (from_entries {R = R} es) + 1)) (ap is_some (shown-get es e.0) ∙ is_some-lookup (eq e.0) es ∙ none_alike eq e.0 (keys_of es) h)
      ∙ plus (len (from_entries {R = R} es)) (length es) rest
    where
      plus : (a b : ℕ) → a ≡ b → a + 1 ≡ suc b
      plus a b e = omega arith

  module _ (same : IsAntisymmetric R) (es fs : List (K × X)) (k : K) where
    pub shown-insert : (v : X) → ((q : K) → lookup (eq q) fs ≡ cond (eq k q) (Some v) (lookup (eq q) es)) → from_entries {R = R} fs ≡ insert (from_entries es) k v
    shown-insert v is = same_map o same _ _ (λ q.
        shown-get fs q ∙ is q ∙ ap (λ b. cond b (Some v) (lookup (eq q) es)) (tests k q ∙ (eq_by_cmp_equiv o).symm k q)
        ∙ sym (get-insert o (from_entries es) k v q ∙ ap (cond (is_eq (R q k)) (Some v)) (shown-get es q)))

    pub shown-remove : ((q : K) → lookup (eq q) fs ≡ cond (eq k q) None (lookup (eq q) es)) → from_entries {R = R} fs ≡ remove (from_entries es) k
    shown-remove is = same_map o same _ _ (λ q.
        shown-get fs q ∙ is q ∙ ap (λ b. cond b None (lookup (eq q) es)) (tests k q ∙ (eq_by_cmp_equiv o).symm k q)
        ∙ sym (get-remove o (from_entries es) k q ∙ ap (cond (is_eq (R q k)) None) (shown-get es q)))
