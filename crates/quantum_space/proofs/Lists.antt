-- Membership, lists without repeats, and counts of a test that changes at one place
use Rattle.std.proofs.Common.{◌≡◌, ◌≢◌, ℕ, ◌+◌, ◌<◌, ◌≤◌, Bool, true, false, cond, List, [], ◌∷◌, ◌++◌, Some, refl, sym, ap, ◌∙◌, subst, arith, slice_get, ◌⊎◌, ◌||◌, inl, inr, length, zero, suc, count_by, filter, take, add-one}
use Rattle.std.proofs.lemmas.Grind.{common_steps}
use Rattle.std.specs.declared.cmp.Ordering.TheVariants.{Less, Equal, Greater}
use Rattle.std.specs.Ordering.{is_eq}
use Rattle.std.specs.Cmp.{tied_itself}
use Rattle.std.specs.List.Sorted.{IsStrictlySortedBy}
use Rattle.std.specs.List.{AllByRecursion}
use Rattle.std.specs.Option.{option_to_list}
use Rattle.az_base.specs.declared.block_id.BlockId.{BlockId}
use Rattle.az_base.specs.Ids.{id_cmp, exact_ids, ids_total}
use Rattle.az_base.specs.Ids.{same_id, among}
use Rattle.quantum_space.specs.Shapes.{Has, Once}

pub same_is : (a b : BlockId) → same_id a b ≡ true → a ≡ b
same_is a b h =
    elim (id_cmp a b) as (λ r. id_cmp a b ≡ r → is_eq r ≡ true → a ≡ b) [ Less ↦ λ e f. cc | Equal ↦ λ e f. exact_ids a b e | Greater ↦ λ e f. cc ] refl h

pub itself : (a : BlockId) → same_id a a ≡ true
itself a = ap is_eq (tied_itself ids_total a)

pub same_or_not : (a b : BlockId) → (a ≡ b) ⊎ ((a ≢ b) × (same_id a b ≡ false))
same_or_not a b = go (same_id a b) refl
  where
    go : (t : Bool) → same_id a b ≡ t → (a ≡ b) ⊎ ((a ≢ b) × (same_id a b ≡ false))
    go true e = inl (same_is a b e)
    go false e = inr ((λ s. let h : same_id a b ≡ true = subst (λ x. same_id a x ≡ true) s (itself a) in cc), e)

pub in_front : (xs ys : List BlockId) (b : BlockId) → Has xs b → Has (xs ++ ys) b
in_front [] ys b h = absurd h
in_front (x ∷ xs) ys b (inl e) = inl e
in_front (x ∷ xs) ys b (inr h) = inr (in_front xs ys b h)

pub at_end : (xs : List BlockId) (b : BlockId) → Has (xs ++ b ∷ []) b
at_end [] b = inl refl
at_end (x ∷ xs) b = inr (at_end xs b)

pub end_cases : (xs : List BlockId) (y b : BlockId) → Has (xs ++ y ∷ []) b → Has xs b ⊎ (y ≡ b)
end_cases [] y b (inl e) = inr e
end_cases [] y b (inr h) = absurd h
end_cases (x ∷ xs) y b (inl e) = inl (inl e)
end_cases (x ∷ xs) y b (inr h) = elim (end_cases xs y b h) [ inl k ↦ inl (inr k) | inr e ↦ inr e ]

pub once_push : (xs : List BlockId) (b : BlockId) → Once xs → ¬ Has xs b → Once (xs ++ b ∷ [])
once_push [] b o n = ((λ h. h), tt)
once_push (x ∷ xs) b o n = ((λ h. elim (end_cases xs b x h) [ inl k ↦ o.0 k | inr e ↦ n (inl (sym e)) ]), once_push xs b o.1 (λ h. n (inr h)))

pub once_pop : (xs : List BlockId) (b : BlockId) → Once (xs ++ b ∷ []) → Once xs × (¬ Has xs b)
once_pop [] b o = (tt, λ h. h)
once_pop (x ∷ xs) b o =
    let rest = once_pop xs b o.1 in
    (((λ h. o.0 (in_front xs (b ∷ []) x h)), rest.0), (λ h. elim h [ inl e ↦ o.0 (subst (λ y. Has (xs ++ b ∷ []) y) (sym e) (at_end xs b)) | inr k ↦ rest.1 k ]))

-- an ascending list has no block twice
above_not : (x : BlockId) (xs : List BlockId) → AllByRecursion (λ y. id_cmp x y ≡ Less) xs → ¬ Has xs x
above_not x [] a h = h
above_not x (y ∷ xs) a (inl e) = let tied = tied_itself ids_total x in let less : id_cmp x x ≡ Less = subst (λ z. id_cmp x z ≡ Less) e a.0 in cc
above_not x (y ∷ xs) a (inr h) = above_not x xs a.1 h

pub once_sorted : (xs : List BlockId) → IsStrictlySortedBy id_cmp xs → Once xs
unfolding IsStrictlySortedBy
once_sorted [] s = tt
once_sorted (x ∷ xs) s = (above_not x xs s.0, once_sorted xs s.1)

-- counts of tests that agree
pub count_same : (p q : BlockId → Bool) (xs : List BlockId) → ((b : BlockId) → Has xs b → p b ≡ q b) → count_by p xs ≡ count_by q xs
count_same p q [] h = refl
count_same p q (x ∷ xs) h = let e = h x (inl refl) in let r = count_same p q xs (λ b k. h b (inr k)) in grind (arith, common_steps, e, r)

-- the count of a test that passes less
pub count_below : (p q : BlockId → Bool) (xs : List BlockId) → ((b : BlockId) → Has xs b → q b ≡ true → p b ≡ true) → count_by q xs ≤ count_by p xs
count_below p q [] h = omega arith
count_below p q (x ∷ xs) h = let r = count_below p q xs (λ b k. h b (inr k)) in go (p x) (q x) refl refl r
  where
    go : (s t : Bool) → p x ≡ s → q x ≡ t → count_by q xs ≤ count_by p xs → count_by q (x ∷ xs) ≤ count_by p (x ∷ xs)
    go true true e f r = grind (arith, common_steps, e, f, r)
    go true false e f r = grind (arith, common_steps, e, f, r)
    go false true e f r = let k = h x (inl refl) f in cc
    go false false e f r = grind (arith, common_steps, e, f, r)

-- the count of a test that fails at one more block
pub count_one_less : (p q : BlockId → Bool) (xs : List BlockId) (id : BlockId) → Has xs id → p id ≡ true → q id ≡ false → ((b : BlockId) → Has xs b → q b ≡ true → p b ≡ true) → count_by q xs + 1 ≤ count_by p xs
count_one_less p q [] id h pt qf k = absurd h
count_one_less p q (x ∷ xs) id (inl e) pt qf k =
    let r = count_below p q xs (λ b j. k b (inr j)) in
    let px : p x ≡ true = ap p e ∙ pt in
    let qx : q x ≡ false = ap q e ∙ qf in
    grind (arith, common_steps, px, qx, r)
count_one_less p q (x ∷ xs) id (inr h) pt qf k = let r = count_one_less p q xs id h pt qf (λ b j. k b (inr j)) in go (p x) (q x) refl refl r
  where
    go : (s t : Bool) → p x ≡ s → q x ≡ t → count_by q xs + 1 ≤ count_by p xs → count_by q (x ∷ xs) + 1 ≤ count_by p (x ∷ xs)
    go true true e f r = grind (arith, common_steps, e, f, r)
    go true false e f r = grind (arith, common_steps, e, f, r)
    go false true e f r = let m = k x (inl refl) f in cc
    go false false e f r = grind (arith, common_steps, e, f, r)

-- the count of a test that passes at exactly one more block
pub count_one_more : (p q : BlockId → Bool) (xs : List BlockId) (id : BlockId) → Once xs → Has xs id → p id ≡ false → q id ≡ true → ((b : BlockId) → b ≢ id → q b ≡ p b) → count_by q xs ≡ count_by p xs + 1
count_one_more p q [] id o h pf qt k = absurd h
count_one_more p q (x ∷ xs) id o (inl e) pf qt k =
    let r = count_same q p xs (λ b j. k b (λ s. o.0 (subst (Has xs) (s ∙ sym e) j))) in
    let px : p x ≡ false = ap p e ∙ pf in
    let qx : q x ≡ true = ap q e ∙ qt in
    grind (arith, common_steps, px, qx, r)
count_one_more p q (x ∷ xs) id o (inr h) pf qt k =
    let r = count_one_more p q xs id o.1 h pf qt k in
    let e = k x (λ s. o.0 (subst (Has xs) (sym s) h)) in
    go (p x) refl e r
  where
    go : (s : Bool) → p x ≡ s → q x ≡ p x → count_by q xs ≡ count_by p xs + 1 → count_by q (x ∷ xs) ≡ count_by p (x ∷ xs) + 1
    go true e f r = grind (arith, common_steps, e, f, r)
    go false e f r = grind (arith, common_steps, e, f, r)

pub has_or_not : (xs : List BlockId) (b : BlockId) → Has xs b ⊎ (¬ Has xs b)
has_or_not [] b = inr (λ h. h)
has_or_not (x ∷ xs) b = elim (same_or_not x b) [
  | inl e ↦ inl (inl e)
  | inr n ↦ elim (has_or_not xs b) [ inl h ↦ inl (inr h) | inr k ↦ inr (λ h. elim h [ inl e ↦ n.0 e | inr j ↦ k j ]) ]
]

pub has_at : (xs : List BlockId) (k : ℕ) (b : BlockId) → slice_get xs k ≡ Some b → Has xs b
has_at [] k b e = cc
has_at (x ∷ xs) zero b e = inl cc
has_at (x ∷ xs) (suc k) b e = inr (has_at xs k b e)

-- the place of a block in the list
pub record Place (xs : List BlockId) (b : BlockId) : Type 0 where
  pub k : ℕ
  pub below : k < length xs
  pub is : slice_get xs k ≡ Some b

pub place_of : (xs : List BlockId) (b : BlockId) → Has xs b → Place xs b
place_of [] b h = absurd h
place_of (x ∷ xs) b (inl e) = record { k = zero; below = omega arith; is = ap Some e }
place_of (x ∷ xs) b (inr h) = let p = place_of xs b h in record { k = suc p.k; below = omega (arith, p.below); is = p.is }

-- membership, and its test
pub has_among : (xs : List BlockId) (b : BlockId) → Has xs b → among xs b ≡ true
has_among [] b h = absurd h
has_among (x ∷ xs) b (inl e) = ap (λ t. t || among xs b) (ap (λ y. same_id b y) e ∙ itself b)
has_among (x ∷ xs) b (inr h) = go (same_id b x) (has_among xs b h)
  where
    go : (t : Bool) → among xs b ≡ true → (t || among xs b) ≡ true
    go true e = refl
    go false e = e

pub among_has : (xs : List BlockId) (b : BlockId) → among xs b ≡ true → Has xs b
among_has [] b h = cc
among_has (x ∷ xs) b h = go (same_id b x) refl h (λ k. among_has xs b k)
  where
    go : (t : Bool) → same_id b x ≡ t → (t || among xs b) ≡ true → (among xs b ≡ true → Has xs b) → Has (x ∷ xs) b
    go true e k r = inl (sym (same_is b x e))
    go false e k r = inr (r k)

pub not_has : (xs : List BlockId) (b : BlockId) → among xs b ≡ false → ¬ Has xs b
not_has xs b e h = let t = has_among xs b h in cc

pub not_among : (xs : List BlockId) (b : BlockId) → ¬ Has xs b → among xs b ≡ false
not_among xs b n = go (among xs b) refl
  where
    go : (t : Bool) → among xs b ≡ t → among xs b ≡ false
    go true e = absurd (n (among_has xs b e))
    go false e = e

-- what a filter leaves
pub filter_has : (p : BlockId → Bool) (xs : List BlockId) (b : BlockId) → Has xs b → p b ≡ true → Has (filter p xs) b
filter_has p [] b h k = absurd h
filter_has p (x ∷ xs) b (inl e) k = rw (ap p e ∙ k) (inl e)
filter_has p (x ∷ xs) b (inr h) k = go (p x) refl (filter_has p xs b h k)
  where
    go : (t : Bool) → p x ≡ t → Has (filter p xs) b → Has (filter p (x ∷ xs)) b
    go true e i = rw e (inr i)
    go false e i = rw e i

pub has_filter : (p : BlockId → Bool) (xs : List BlockId) (b : BlockId) → Has (filter p xs) b → Has xs b × (p b ≡ true)
has_filter p [] b h = absurd h
has_filter p (x ∷ xs) b h = go (p x) refl (λ k. has_filter p xs b k)
  where
    go : (t : Bool) → p x ≡ t → (Has (filter p xs) b → Has xs b × (p b ≡ true)) → Has (x ∷ xs) b × (p b ≡ true)
    go true e r = (let k = rw e at h in elim k [ inl j ↦ (inl j, sym (ap p j) ∙ e) | inr j ↦ (let q = r j in (inr q.0, q.1)) ])
    go false e r = (let k = rw e at h in let q = r k in (inr q.0, q.1))

count_none : (xs : List BlockId) → count_by (λ b. false) xs ≡ 0
count_none [] = refl
count_none (x ∷ xs) = count_none xs

is_not : (t : Bool) → (t ≡ true → ⊥) → t ≡ false
is_not true n = absurd (n refl)
is_not false n = refl

-- the test, but for one id
abbrev but : BlockId → (BlockId → Bool) → BlockId → Bool
but y p b = cond (same_id y b) false (p b)

but_true : (y : BlockId) (p : BlockId → Bool) (b : BlockId) → but y p b ≡ true → (y ≢ b) × (p b ≡ true)
but_true y p b e = elim (same_or_not y b) [
  | inl k ↦ (let h : but y p b ≡ false = ap (λ t. cond t false (p b)) (ap (same_id y) (sym k) ∙ itself y) in cc)
  | inr k ↦ (k.0, sym (ap (λ t. cond t false (p b)) k.1) ∙ e)
]

-- a test that only members of a list pass, each counted once, passes at most so often as the list is long
pub count_within : (p : BlockId → Bool) (xs ys : List BlockId) → Once xs → ((b : BlockId) → Has xs b → p b ≡ true → Has ys b) → count_by p xs ≤ length ys
count_within p xs [] o h = let none = count_same p (λ b. false) xs (λ b k. is_not (p b) (h b k)) in let zeros = count_none xs in omega (arith, none, zeros)
count_within p xs (y ∷ ys) o h = go (has_or_not xs y) (p y) refl (count_within (but y p) xs ys o smaller) (count_within p xs ys o)
  where
    rest : (b : BlockId) → Has (y ∷ ys) b → y ≢ b → Has ys b
    rest b (inl e) n = absurd (n e)
    rest b (inr k) n = k

    smaller : (b : BlockId) → Has xs b → but y p b ≡ true → Has ys b
    smaller b k e = let t = but_true y p b e in rest b (h b k t.1) t.0

    go : Has xs y ⊎ (¬ Has xs y) → (t : Bool) → p y ≡ t → count_by (but y p) xs ≤ length ys → (((b : BlockId) → Has xs b → p b ≡ true → Has ys b) → count_by p xs ≤ length ys) → count_by p xs ≤ length (y ∷ ys)
    go (inr n) t e less same = let m = same (λ b k j. rest b (h b k j) (λ i. n (subst (Has xs) (sym i) k))) in omega (arith, m)
    go (inl k) false e less same = let m = same (λ b k j. rest b (h b k j) (λ i. let f : p y ≡ true = ap p i ∙ j in cc)) in omega (arith, m)
    go (inl k) true e less same =
        let off : but y p y ≡ false = ap (λ t. cond t false (p y)) (itself y) in
        let one = count_one_more (but y p) p xs y o k off e (λ b n. elim (same_or_not y b) [ inl i ↦ absurd (n (sym i)) | inr i ↦ sym (ap (λ t. cond t false (p b)) i.1) ]) in
        omega (arith, one, less)

-- one block more of a filtered list
filter_one : (p : BlockId → Bool) (xs : List BlockId) (n : ℕ) → filter p (take (suc n) xs) ≡ filter p (take n xs) ++ filter p (option_to_list (slice_get xs n))
filter_one p [] n = elim n as (λ n. filter p (take (suc n) []) ≡ filter p (take n []) ++ filter p (option_to_list (slice_get [] n))) [ zero ↦ refl | suc k ↦ refl ]
filter_one p (x ∷ xs) zero = refl
filter_one p (x ∷ xs) (suc n) = go (p x) refl (filter_one p xs n)
  where
    go : (t : Bool) → p x ≡ t → filter p (take (suc n) xs) ≡ filter p (take n xs) ++ filter p (option_to_list (slice_get xs n)) → filter p (take (suc (suc n)) (x ∷ xs)) ≡ filter p (take (suc n) (x ∷ xs)) ++ filter p (option_to_list (slice_get xs n))
    go true e h = rw e (ap (λ ys. x ∷ ys) h)
    go false e h = rw e h

pub filter_next : (p : BlockId → Bool) (xs : List BlockId) (n : ℕ) → filter p (take (n + 1) xs) ≡ filter p (take n xs) ++ filter p (option_to_list (slice_get xs n))
filter_next p xs n = rw add-one (filter_one p xs n)
