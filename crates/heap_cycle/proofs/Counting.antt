-- How many blocks of a list pass a test
use Rattle.std.proofs.Common.{◌≡◌, ◌+◌, ◌≤◌, ◌||◌, ◌⊎◌, ℕ, Bool, true, false, not, cond, List, [], ◌∷◌, Option, Some, None, IsSome, IsTrue, count_by, length, refl, sym, ap, subst, ◌∙◌, inl, inr, arith}
use Rattle.std.proofs.lemmas.List.Sums.{sum_by-cons}
use Rattle.std.specs.Option.{option_map_or}
use Rattle.std.specs.FinMap.{FinMap, get, insert, retain_keys, get-insert, get-retain_keys, same_map}
use Rattle.az_base.specs.declared.block_id.BlockId.{BlockId}
use Rattle.az_base.specs.Ids.{among, same_id, id_cmp, ids_total, exact_ids}
use Rattle.az_base.proofs.Ids.{same_is, same_self, same_turned}
use Rattle.quantum_space.specs.Shapes.{Has, Once}
use Rattle.quantum_space.proofs.Lists.{count_same}
use Rattle.zone_model.specs.Maps.{total}
use Rattle.zone_model.proofs.Totals.{total_added}

-- one more
pub count_more : (f : BlockId → Bool) (x : BlockId) (xs : List BlockId) → count_by f (x ∷ xs) ≡ cond {A = ℕ} (f x) 1 0 + count_by f xs
count_more f x xs = sum_by-cons (λ y. cond (f y) 1 0) x xs

-- a list without the first place of a block
without_one : BlockId → List BlockId → List BlockId
without_one x [] = []
without_one x (y ∷ ys) = cond (same_id x y) ys (y ∷ without_one x ys)

either : (a b : Bool) → (a || b) ≡ true → (a ≡ true) ⊎ (b ≡ true)
either true b h = inl refl
either false b h = inr h

one_less : (f : BlockId → Bool) (x : BlockId) (ys : List BlockId) → IsTrue (among ys x) → count_by f ys ≡ cond {A = ℕ} (f x) 1 0 + count_by f (without_one x ys)
unfolding without_one
one_less f x [] i = cc (i)
one_less f x (y ∷ ys) i = by (same_id x y) refl i (one_less f x ys)
  where
    by : (t : Bool) → same_id x y ≡ t → (t || among ys x) ≡ true → (IsTrue (among ys x) → count_by f ys ≡ cond {A = ℕ} (f x) 1 0 + count_by f (without_one x ys))
        → count_by f (y ∷ ys) ≡ cond {A = ℕ} (f x) 1 0 + count_by f (cond t ys (y ∷ without_one x ys))
    by true e h rest = count_more f y ys ∙ ap (λ v. cond {A = ℕ} (f v) 1 0 + count_by f ys) (sym (same_is x y e))
    by false e h rest = let here = rest h in let a = count_more f y ys in let b = count_more f y (without_one x ys) in omega (arith, here, a, b)

others_left : (x q : BlockId) (ys : List BlockId) → same_id q x ≡ false → IsTrue (among ys q) → IsTrue (among (without_one x ys) q)
unfolding without_one
others_left x q [] other i = i
others_left x q (y ∷ ys) other i = by (same_id x y) refl (others_left x q ys other) (either (same_id q y) (among ys q) i)
  where
    or_true : (a b : Bool) → b ≡ true → (a || b) ≡ true
    or_true true b h = refl
    or_true false b h = h

    by : (t : Bool) → same_id x y ≡ t → (IsTrue (among ys q) → IsTrue (among (without_one x ys) q)) → (same_id q y ≡ true) ⊎ (among ys q ≡ true) → IsTrue (among (cond t ys (y ∷ without_one x ys)) q)
    by true e rest (inl here) = let no : false ≡ true = sym other ∙ ap (same_id q) (same_is x y e) ∙ here in cc (no)
    by true e rest (inr later) = later
    by false e rest (inl here) = ap (λ t. t || among (without_one x ys) q) here
    by false e rest (inr later) = or_true (same_id q y) (among (without_one x ys) q) (rest later)

-- no more of some blocks pass a test than of all, where each stands once among the some
pub fewer_pass : (f : BlockId → Bool) (xs ys : List BlockId) → Once xs → ((b : BlockId) → Has xs b → IsTrue (among ys b)) → count_by f xs ≤ count_by f ys
fewer_pass f [] ys once within = omega arith
fewer_pass f (x ∷ xs) ys once within =
    let rest = fewer_pass f xs (without_one x ys) once.1 (λ b i. others_left x b ys (other b i) (within b (inr i))) in
    let a = count_more f x xs in
    let b = one_less f x ys (within x (inl refl)) in
    omega (arith, rest, a, b)
  where
    other : (b : BlockId) → Has xs b → same_id b x ≡ false
    other b i = by (same_id b x) refl
      where
        by : (t : Bool) → same_id b x ≡ t → t ≡ false
        by false e = refl
        by true e = absurd (once.0 (subst (Has xs) (same_is b x e) i))

-- nor are there more of them
pub no_more : (xs ys : List BlockId) → Once xs → ((b : BlockId) → Has xs b → IsTrue (among ys b)) → length xs ≤ length ys
no_more xs ys once within =
    let few = fewer_pass (λ b. true) xs ys once within in
    let a = all_pass xs in
    let b = all_pass ys in
    omega (arith, few, a, b)
  where
    all_pass : (zs : List BlockId) → count_by (λ (b : BlockId). true) zs ≡ length zs
    all_pass [] = refl
    all_pass (z ∷ zs) = let e = count_more (λ (b : BlockId). true) z zs in let rest = all_pass zs in omega (arith, e, rest)

-- a map without one key, and its sum
module _ {X : Type 0} (m : FinMap id_cmp X) (id : BlockId) where
  abbrev pub rest_of : FinMap id_cmp X
  rest_of = retain_keys m (λ k. not (same_id id k))

  rest_at : (q : BlockId) → get rest_of q ≡ cond (same_id id q) None (get m q)
  rest_at q = get-retain_keys m (λ k. not (same_id id k)) q (λ k e. ap (λ k. not (same_id id k)) (sym (exact_ids q k e))) ∙ turn (same_id id q)
    where
      turn : (b : Bool) → cond (not b) (get m q) None ≡ cond b None (get m q)
      turn true = refl
      turn false = refl

  pub sum_less : (f : BlockId → X → ℕ) (x : X) → get m id ≡ Some x → total f m ≡ total f rest_of + f id x
  sum_less f x is =
      ap (total f) (same_map ids_total exact_ids _ _ (λ q. go q (same_id q id) refl))
      ∙ total_added ids_total exact_ids f rest_of id x (rest_at id ∙ ap (λ t. cond t None (get m id)) (same_self id))
    where
      go : (q : BlockId) (t : Bool) → same_id q id ≡ t → get m q ≡ get (insert rest_of id x) q
      go q true e = ap (get m) (same_is q id e) ∙ is ∙ sym (get-insert ids_total rest_of id x q ∙ ap (λ t. cond t (Some x) (get rest_of q)) e)
      go q false e = sym (get-insert ids_total rest_of id x q ∙ ap (λ t. cond t (Some x) (get rest_of q)) e ∙ rest_at q ∙ ap (λ t. cond t None (get m q)) (same_turned id q ∙ e))

-- as many pass two tests that agree on the list
pub counts_alike : (f g : BlockId → Bool) (xs : List BlockId) → ((b : BlockId) → Has xs b → f b ≡ g b) → count_by f xs ≡ count_by g xs
counts_alike f g xs same = count_same f g xs same

-- the blocks of the map that pass a test are no fewer than those of a list that pass it, where each stands once in it
pub no_more_listed : {X : Type 0} (p : X → Bool) (m : FinMap id_cmp X) (xs : List BlockId) → Once xs → ((b : BlockId) → Has xs b → IsSome (get m b)) → count_by (λ b. option_map_or p (get m b) false) xs ≤ total (λ id k. cond {A = ℕ} (p k) 1 0) m
no_more_listed {X} p m [] once here = omega arith
no_more_listed {X} p m (x ∷ xs) once here = by (get m x) refl (here x (inl refl)) (no_more_listed p (rest_of m x) xs once.1 stays)
  where
    test : FinMap id_cmp X → BlockId → Bool
    test n b = option_map_or p (get n b) false

    other : (b : BlockId) → Has xs b → same_id x b ≡ false
    other b i = by (same_id x b) refl
      where
        by : (t : Bool) → same_id x b ≡ t → t ≡ false
        by false e = refl
        by true e = absurd (once.0 (subst (Has xs) (sym (same_is x b e)) i))

    same : (b : BlockId) → Has xs b → get (rest_of m x) b ≡ get m b
    same b i = rest_at m x b ∙ ap (λ t. cond t None (get m b)) (other b i)

    stays : (b : BlockId) → Has xs b → IsSome (get (rest_of m x) b)
    stays b i = subst IsSome (sym (same b i)) (here b (inr i))

    by : (o : Option X) → get m x ≡ o → IsSome o → count_by (λ b. option_map_or p (get (rest_of m x) b) false) xs ≤ total (λ id k. cond {A = ℕ} (p k) 1 0) (rest_of m x)
        → count_by (λ b. option_map_or p (get m b) false) (x ∷ xs) ≤ total (λ id k. cond {A = ℕ} (p k) 1 0) m
    by None e i rest = cc (i)
    by (Some k) e i rest =
        let sum = sum_less m x (λ id k. cond {A = ℕ} (p k) 1 0) k e in
        let first = count_more (λ b. option_map_or p (get m b) false) x xs in
        let one : cond {A = ℕ} (option_map_or p (get m x) false) 1 0 ≡ cond {A = ℕ} (p k) 1 0 = ap (λ o. cond {A = ℕ} (option_map_or p o false) 1 0) e in
        let alike = counts_alike (λ b. option_map_or p (get (rest_of m x) b) false) (λ b. option_map_or p (get m b) false) xs (λ b i. ap (λ o. option_map_or p o false) (same b i)) in
        omega (arith, sum, first, one, alike, rest)
