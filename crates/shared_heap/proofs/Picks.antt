-- The entries of a finite map to which a function gives a value
use Rattle.std.proofs.Common.{◌≡◌, ℕ, ◌+◌, false, cond, T, List, [], ◌∷◌, Option, Some, None, refl, sym, ap, subst, ◌∙◌, arith}
use Rattle.std.specs.Option.{option_and_then}
use Rattle.std.specs.declared.cmp.Ordering.{Ordering}
use Rattle.std.specs.declared.cmp.Ordering.TheVariants.{Less, Equal, Greater}
use Rattle.std.specs.Ordering.{is_eq}
use Rattle.std.specs.Cmp.{IsTotalOrder}
use Rattle.std.specs.FinMap.{FinMap, IsAntisymmetric, entries, entries_sorted, from_sorted, entries-from_sorted, get, get-entries, get-from_sorted, same_map}
use Rattle.std.specs.FinMap.Entries.{below_all, find, is_sorted}
use Rattle.az_base.proofs.Sorted.{first, second, both, find_below}
use Rattle.zone_model.specs.Maps.{total, list_total}
use Rattle.zone_model.proofs.MapLaws.{at_value}

-- the entry stays with this value, or goes
abbrev add_some : {K Y : Type 0} → K → Option Y → List (K × Y) → List (K × Y)
add_some k None rest = rest
add_some k (Some y) rest = (k, y) ∷ rest

module _ {K X Y : Type 0} (R : K → K → Ordering) (f : K → X → Option Y) where
  abbrev pub pick_list : List (K × X) → List (K × Y)
  pick_list [] = []
  pick_list (e ∷ es) = add_some e.0 (f e.0 e.1) (pick_list es)

  below-pick : (k : K) (es : List (K × X)) → T (below_all R k es) → T (below_all R k (pick_list es))
  below-pick k [] h = tt
  below-pick k (e ∷ es) h = elim (f e.0 e.1) as (λ o. T (below_all R k (add_some e.0 o (pick_list es)))) [
    | None ↦ below-pick k es (second _ _ h)
    | Some y ↦ both _ _ (first _ _ h) (below-pick k es (second _ _ h))
  ]

  pub sorted-pick : (es : List (K × X)) → T (is_sorted R es) → T (is_sorted R (pick_list es))
  sorted-pick [] h = tt
  sorted-pick (e ∷ es) h = elim (f e.0 e.1) as (λ o. T (is_sorted R (add_some e.0 o (pick_list es)))) [
    | None ↦ sorted-pick es (second _ _ h)
    | Some y ↦ both _ _ (below-pick e.0 es (first _ _ h)) (sorted-pick es (second _ _ h))
  ]

  pub find-pick : IsTotalOrder R → IsAntisymmetric R → (q : K) (es : List (K × X)) → T (is_sorted R es) → find R q (pick_list es) ≡ option_and_then (f q) (find R q es)
  find-pick o same q [] h = refl
  find-pick o same q (e ∷ es) h =
      let rest = find-pick o same q es (second _ _ h) in
      elim (R q e.0) as (λ r. R q e.0 ≡ r → find R q (pick_list (e ∷ es)) ≡ option_and_then (f q) (cond (is_eq r) (Some e.1) (find R q es))) [
        | Less ↦ λ t. passed e.0 (f e.0 e.1) (pick_list es) (R q e.0) refl (ap is_eq t) ∙ rest
        | Equal ↦ λ t. here e es q o same t h (f e.0 e.1) refl
        | Greater ↦ λ t. passed e.0 (f e.0 e.1) (pick_list es) (R q e.0) refl (ap is_eq t) ∙ rest
      ] refl
    where
      passed : (k : K) (v : Option Y) (more : List (K × Y)) (r : Ordering) → R q k ≡ r → is_eq r ≡ false → find R q (add_some k v more) ≡ find R q more
      passed k None more r e n = refl
      passed k (Some y) more r e n = ap (λ b. cond b (Some y) (find R q more)) (ap is_eq e ∙ n)

      here : (e : K × X) (es : List (K × X)) (q : K) (o : IsTotalOrder R) (same : IsAntisymmetric R) → R q e.0 ≡ Equal → T (is_sorted R (e ∷ es)) → (v : Option Y) → f e.0 e.1 ≡ v → find R q (add_some e.0 v (pick_list es)) ≡ f q e.1
      here e es q o same t h None is =
          find_below R q (pick_list es) (below-pick q es (subst (λ k. T (below_all R k es)) (sym (same q e.0 t)) (first _ _ h))) ∙ sym is ∙ ap (λ k. f k e.1) (sym (same q e.0 t))
      here e es q o same t h (Some y) is = ap (λ b. cond b (Some y) (find R q (pick_list es))) (ap is_eq t) ∙ sym is ∙ ap (λ k. f k e.1) (sym (same q e.0 t))

  -- the entries to which f gives a value, with this value
  pub pick : FinMap R X → FinMap R Y
  pick m = from_sorted (pick_list (entries m))

  pub get-pick : IsTotalOrder R → IsAntisymmetric R → (m : FinMap R X) (q : K) → get (pick m) q ≡ option_and_then (f q) (get m q)
  unfolding pick
  get-pick o same m q = get-from_sorted R _ q (sorted-pick (entries m) (entries_sorted m)) ∙ find-pick o same q (entries m) (entries_sorted m) ∙ ap (option_and_then (f q)) (sym (get-entries m q))

  pub entries-pick : (m : FinMap R X) → entries (pick m) ≡ pick_list (entries m)
  unfolding pick
  entries-pick m = entries-from_sorted R _ (sorted-pick (entries m) (entries_sorted m))

added-total : {K Y : Type 0} (g : K → Y → ℕ) (k : K) (v : Option Y) (es : List (K × Y)) → list_total g (add_some k v es) ≡ at_value (g k) v + list_total g es
added-total g k None es = omega arith
added-total g k (Some y) es = refl

module _ {K X Y : Type 0} (R : K → K → Ordering) (g : K → Y → ℕ) where
  pick-total : (f : K → X → Option Y) (es : List (K × X)) → list_total g (pick_list R f es) ≡ list_total (λ k x. at_value (g k) (f k x)) es
  pick-total f [] = refl
  pick-total f (e ∷ es) = added-total g e.0 (f e.0 e.1) (pick_list R f es) ∙ ap (λ n. at_value (g e.0) (f e.0 e.1) + n) (pick-total f es)

  pub total-pick : (f : K → X → Option Y) (m : FinMap R X) → total g (pick R f m) ≡ total (λ k x. at_value (g k) (f k x)) m
  unfolding total
  total-pick f m = ap (list_total g) (entries-pick R f m) ∙ pick-total f (entries m)

  -- the sums over two maps, of which one has what f gives of the other
  pub total-picked : IsTotalOrder R → IsAntisymmetric R → (f : K → X → Option Y) (m : FinMap R X) (n : FinMap R Y) → ((q : K) → get n q ≡ option_and_then (f q) (get m q)) → total g n ≡ total (λ k x. at_value (g k) (f k x)) m
  total-picked o same f m n is = ap (total g) (same_map o same n (pick R f m) (λ q. is q ∙ sym (get-pick R f o same m q))) ∙ total-pick f m

zero-total : {K X : Type 0} (es : List (K × X)) → list_total (λ k x. 0) es ≡ 0
zero-total [] = refl
zero-total (e ∷ es) = omega (arith, zero-total es)

pub total-zero : {K X : Type 0} {R : K → K → Ordering} (m : FinMap R X) → total (λ k x. 0) m ≡ 0
unfolding total
total-zero m = zero-total (entries m)
