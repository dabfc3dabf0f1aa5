-- Laws of maps with another value at each key, and of sums over a map
use Rattle.std.specs.Prelude.{◌≡◌, ℕ, ◌+◌, Bool, true, false, cond, ◌&&◌, T, List, [], ◌∷◌, length, Option, Some, None, refl}
use Rattle.std.proofs.Common.{sym, ap, subst, ◌∙◌, arith}
use Rattle.std.specs.Option.{option_map}
use Rattle.std.specs.declared.cmp.Ordering.{Ordering}
use Rattle.std.specs.declared.cmp.Ordering.TheVariants.{Less, Equal, Greater}
use Rattle.std.specs.Ordering.{is_lt, is_eq}
use Rattle.std.specs.Cmp.{IsTotalOrder}
use Rattle.std.specs.FinMap.{FinMap, IsAntisymmetric, empty, len-entries, len-empty, entries, entries_sorted, entries-insert, get, get-entries, get-from_sorted, insert, find, put, is_sorted}
use Rattle.std.specs.FinMap.Entries.{below_all, by_order}
use Rattle.zone_model.specs.Maps.{each_value, map_values, list_total, total}

pub first : (a b : Bool) → T (a && b) → T a
first true b p = tt
first false b p = p

pub second : (a b : Bool) → T (a && b) → T b
second true b p = p
second false b p = absurd p

pub less : (o : Ordering) → T (is_lt o) → o ≡ Less
less Less p = refl
less Equal p = absurd p
less Greater p = absurd p

-- the value that f gives, or 0 where there is none
abbrev pub at_value : {X : Type 0} → (X → ℕ) → Option X → ℕ
at_value f None = 0
at_value f (Some x) = f x

module _ {K X Y : Type 0} (R : K → K → Ordering) (f : K → X → Y) where
  below-each : (k : K) (es : List (K × X)) → below_all R k (each_value R f es) ≡ below_all R k es
  below-each k [] = refl
  below-each k (e ∷ es) = ap (λ b. is_lt (R k e.0) && b) (below-each k es)

  pub sorted-each : (es : List (K × X)) → is_sorted R (each_value R f es) ≡ is_sorted R es
  sorted-each [] = refl
  sorted-each (e ∷ es) = ap (λ b. b && is_sorted R (each_value R f es)) (below-each e.0 es) ∙ ap (λ b. below_all R e.0 es && b) (sorted-each es)

  pub find-each : IsAntisymmetric R → (q : K) (es : List (K × X)) → find R q (each_value R f es) ≡ option_map (f q) (find R q es)
  find-each same q [] = refl
  find-each same q (e ∷ es) =
      elim (R q e.0) as (λ r. R q e.0 ≡ r → cond (is_eq r) (Some (f e.0 e.1)) (find R q (each_value R f es)) ≡ option_map (f q) (cond (is_eq r) (Some e.1) (find R q es))) [
        | Less ↦ λ t. find-each same q es
        | Equal ↦ λ t. ap (λ k. Some (f k e.1)) (sym (same q e.0 t))
        | Greater ↦ λ t. find-each same q es
      ] refl

  pub get-map_values : IsAntisymmetric R → (m : FinMap R X) (q : K) → get (map_values R f m) q ≡ option_map (f q) (get m q)
  unfolding map_values
  get-map_values same m q = get-from_sorted R _ q (subst T (sym (sorted-each (entries m))) (entries_sorted m)) ∙ find-each same q (entries m) ∙ ap (option_map (f q)) (sym (get-entries m q))

module _ {K X : Type 0} {R : K → K → Ordering} (o : IsTotalOrder R) where
  pub find_below : (q : K) (es : List (K × X)) → T (below_all R q es) → find R q es ≡ None
  find_below q [] h = refl
  find_below q (e ∷ es) h = ap (λ r. cond (is_eq r) (Some e.1) (find R q es)) (less _ (first _ _ h)) ∙ find_below q es (second _ _ h)

  find_less : (x y : K) (es : List (K × X)) → R x y ≡ Less → T (below_all R y es) → find R x es ≡ None
  find_less x y [] p h = refl
  find_less x y (e ∷ es) p h = ap (λ r. cond (is_eq r) (Some e.1) (find R x es)) (o.trans x y e.0 p (less _ (first _ _ h))) ∙ find_less x y es p (second _ _ h)

module _ {K X : Type 0} {R : K → K → Ordering} (o : IsTotalOrder R) (same : IsAntisymmetric R) (f : K → X → ℕ) where
  total-put : (k : K) (v : X) (es : List (K × X)) → T (is_sorted R es) → list_total f (put R k v es) + at_value (f k) (find R k es) ≡ list_total f es + f k v
  total-put k v [] h = omega arith
  total-put k v (e ∷ es) h =
      let rest : list_total f (put R k v es) + at_value (f k) (find R k es) ≡ list_total f es + f k v = total-put k v es (second (below_all R e.0 es) (is_sorted R es) h) in
      elim (R k e.0) as (λ r. R k e.0 ≡ r → list_total f (by_order r ((k, v) ∷ e ∷ es) ((e.0, v) ∷ es) (e ∷ put R k v es)) + at_value (f k) (cond (is_eq r) (Some e.1) (find R k es)) ≡ list_total f (e ∷ es) + f k v) [
        | Less ↦ λ p. rw (find_less o k e.0 es p (first _ _ h)) (omega arith)
        | Equal ↦ λ p. rw (same k e.0 p) (omega arith)
        | Greater ↦ λ p. omega (arith, rest)
      ] refl

  -- what is put in counts, and what was there no longer
  pub total-insert : (m : FinMap R X) (k : K) (v : X) → total f (insert m k v) + at_value (f k) (get m k) ≡ total f m + f k v
  unfolding total
  total-insert m k v = rw (entries-insert o m k v, get-entries m k) (total-put k v (entries m) (entries_sorted m))

none_listed : {K X : Type 0} (f : K → X → ℕ) (es : List (K × X)) → length es ≡ 0 → list_total f es ≡ 0
none_listed f [] h = refl
none_listed f (e ∷ es) h = absurd (omega arith)

pub total-empty : {K X : Type 0} (R : K → K → Ordering) (f : K → X → ℕ) → total f (empty {X = X} {R = R}) ≡ 0
unfolding total
total-empty {X = X} R f = none_listed f _ (sym (len-entries empty) ∙ len-empty R X)
