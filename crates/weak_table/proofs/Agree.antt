-- Each location is at its place in its group's list, and the lists hold no others
use Rattle.std.proofs.Common.{◌≡◌, ℕ, ◌+◌, ◌-◌, ◌<◌, Bool, true, false, cond, List, [], ◌∷◌, ◌++◌, take, length, slice_get, slice_set, get_or, Option, Some, None, refl, sym, ap, subst, ◌∙◌, suc, zero, arith, true≢false, ◌⊎◌, inl, inr}
use Rattle.std.proofs.lemmas.Option.{slice_get_within, slice_get-get_or}
use Rattle.std.specs.List.{swap_remove}
use Rattle.az_base.specs.declared.block_id.BlockId.{BlockId}
use Rattle.az_base.specs.declared.weak_loc.WeakLoc.{WeakLoc}
use Rattle.weak_table.specs.Listings.{Listed}
use Rattle.az_base.specs.Ids.{id_eq}
use Rattle.az_base.specs.Places.{loc_eq}
use Rattle.weak_table.specs.Agrees.{Agrees, place, is_one}
use Rattle.az_base.proofs.Ids.{eq_is, eq_self}
use Rattle.az_base.proofs.Places.{loc_is, loc_self}
use Rattle.weak_table.proofs.SameKeys.{false_of}

get-early : {X : Type 0} (xs ys : List X) (i : ℕ) (x : X) → slice_get xs i ≡ Some x → slice_get (xs ++ ys) i ≡ Some x
get-early [] ys i x h = cc
get-early (y ∷ xs) ys zero x h = h
get-early (y ∷ xs) ys (suc i) x h = get-early xs ys i x h

get-last : {X : Type 0} (xs : List X) (x : X) → slice_get (xs ++ x ∷ []) (length xs) ≡ Some x
get-last [] x = refl
get-last (y ∷ xs) x = get-last xs x

-- an item of a list with one more at its end
early-or-last : {X : Type 0} (xs : List X) (x y : X) (i : ℕ) → slice_get (xs ++ x ∷ []) i ≡ Some y → (slice_get xs i ≡ Some y) ⊎ ((i ≡ length xs) × (x ≡ y))
early-or-last [] x y zero h = inr (refl, same h)
  where
    same : Some x ≡ Some y → x ≡ y
    same e = cc
early-or-last [] x y (suc i) h = cc
early-or-last (z ∷ xs) x y zero h = inl h
early-or-last (z ∷ xs) x y (suc i) h = elim (early-or-last xs x y i h) as (λ _. (slice_get xs i ≡ Some y) ⊎ ((suc i ≡ suc (length xs)) × (x ≡ y))) [ inl e ↦ inl e | inr e ↦ inr (ap suc e.0, e.1) ]

module _ {X : Type 0} where
  get-take : (xs : List X) (n k : ℕ) → k < n → slice_get (take n xs) k ≡ slice_get xs k
  get-take xs zero k l = absurd (omega arith)
  get-take [] (suc n) k l = refl
  get-take (x ∷ xs) (suc n) zero l = refl
  get-take (x ∷ xs) (suc n) (suc k) l = get-take xs n k (omega arith)

  take-within : (xs : List X) (n k : ℕ) (x : X) → slice_get (take n xs) k ≡ Some x → k < n
  take-within xs zero k x h = cc
  take-within [] (suc n) k x h = cc
  take-within (y ∷ xs) (suc n) zero x h = omega arith
  take-within (y ∷ xs) (suc n) (suc k) x h = let r : k < n = take-within xs n k x h in omega arith

  set-other : (xs : List X) (i k : ℕ) (v : X) → (k ≡ i → ⊥) → slice_get (slice_set xs i v) k ≡ slice_get xs k
  set-other [] i k v n = refl
  set-other (x ∷ xs) zero zero v n = absurd (n refl)
  set-other (x ∷ xs) zero (suc k) v n = refl
  set-other (x ∷ xs) (suc i) zero v n = refl
  set-other (x ∷ xs) (suc i) (suc k) v n = set-other xs i k v (λ e. n (ap suc e))

  set-there : (xs : List X) (i : ℕ) (v : X) → i < length xs → slice_get (slice_set xs i v) i ≡ Some v
  set-there [] i v l = absurd (omega arith)
  set-there (x ∷ xs) zero v l = refl
  set-there (x ∷ xs) (suc i) v l = set-there xs i v (omega arith)

  -- a list from which an item went, and the last took its place
  swapped-within : (xs : List X) (i k : ℕ) (d x : X) → slice_get (swap_remove xs i d) k ≡ Some x → k + 1 < length xs
  swapped-within xs i k d x h = let r : k < length xs - 1 = take-within (slice_set xs i (get_or xs (length xs - 1) d)) (length xs - 1) k x h in omega arith

  swapped-other : (xs : List X) (i k : ℕ) (d : X) → k + 1 < length xs → (k ≡ i → ⊥) → slice_get (swap_remove xs i d) k ≡ slice_get xs k
  swapped-other xs i k d l n = get-take (slice_set xs i (get_or xs (length xs - 1) d)) (length xs - 1) k (omega arith) ∙ set-other xs i k (get_or xs (length xs - 1) d) n

  swapped-there : (xs : List X) (i : ℕ) (d : X) → i + 1 < length xs → slice_get (swap_remove xs i d) i ≡ slice_get xs (length xs - 1)
  swapped-there xs i d l =
      get-take (slice_set xs i (get_or xs (length xs - 1) d)) (length xs - 1) i (omega arith) ∙ set-there xs i (get_or xs (length xs - 1) d) (omega arith)
      ∙ sym (slice_get-get_or xs (length xs - 1) d (omega arith))

same_place : (p q : Listed) → Some p ≡ Some q → p ≡ q
same_place p q e = cc

same_some : (x y : WeakLoc) → Some x ≡ Some y → x ≡ y
same_some x y e = cc

same_nat : (i j : ℕ) → (i ≡ j) ⊎ (i ≡ j → ⊥)
same_nat zero zero = inl refl
same_nat zero (suc j) = inr (λ e. omega arith)
same_nat (suc i) zero = inr (λ e. omega arith)
same_nat (suc i) (suc j) = elim (same_nat i j) as (λ _. (suc i ≡ suc j) ⊎ (suc i ≡ suc j → ⊥)) [ inl e ↦ inl (ap suc e) | inr n ↦ inr (λ e. n (omega arith)) ]

before_last : (i n : ℕ) → i < n → (i + 1 < n) ⊎ (i ≡ n - 1)
before_last i n l = elim (same_nat i (n - 1)) as (λ _. (i + 1 < n) ⊎ (i ≡ n - 1)) [ inl e ↦ inr e | inr d ↦ inl (omega (arith, d)) ]

module _ (P Q : WeakLoc → Option Listed) (L M : BlockId → List WeakLoc) (a : Agrees P L) (l : WeakLoc) (b : BlockId) where
  -- a location that wasn't anywhere enters a group's list at its end
  pub agrees-entered : P l ≡ None → ((q : WeakLoc) → Q q ≡ cond (loc_eq l q) (Some (place b (length (L b)))) (P q)) → ((c : BlockId) → M c ≡ cond (id_eq b c) (L b ++ l ∷ []) (L c)) → Agrees Q M
  agrees-entered none at lists = record {
    placed = λ q p h. by_loc q p (loc_eq l q) refl (sym (at q) ∙ h);
    listed = λ c i q h. by_id c i q (id_eq b c) refl (sym (ap (λ xs. slice_get xs i) (lists c)) ∙ h);
  }
    where
      in_list : (p : Listed) (q : WeakLoc) (t : Bool) → id_eq b p.group ≡ t → slice_get (L p.group) p.at ≡ Some q → slice_get (cond t (L b ++ l ∷ []) (L p.group)) p.at ≡ Some q
      in_list p q true e h = get-early (L b) (l ∷ []) p.at q (ap (λ c. slice_get (L c) p.at) (eq_is b p.group e) ∙ h)
      in_list p q false e h = h

      by_loc : (q : WeakLoc) (p : Listed) (t : Bool) → loc_eq l q ≡ t → cond t (Some (place b (length (L b)))) (P q) ≡ Some p → slice_get (M p.group) p.at ≡ Some q
      by_loc q p true e h =
          subst (λ (p : Listed). slice_get (M p.group) p.at ≡ Some q) (same_place (place b (length (L b))) p h)
          (ap (λ xs. slice_get xs (length (L b))) (lists b ∙ ap (λ t. cond t (L b ++ l ∷ []) (L b)) (eq_self b)) ∙ get-last (L b) l ∙ ap Some (loc_is l q e))
      by_loc q p false e h = ap (λ xs. slice_get xs p.at) (lists p.group) ∙ in_list p q (id_eq b p.group) refl (a.placed q p h)

      not_it : (q : WeakLoc) (c : BlockId) (i : ℕ) → P q ≡ Some (place c i) → Q q ≡ Some (place c i)
      not_it q c i h = at q ∙ ap (λ t. cond t (Some (place b (length (L b)))) (P q)) (false_of (loc_eq l q) (λ e. absurd (nothing (sym h ∙ ap P (sym (loc_is l q e)) ∙ none)))) ∙ h
        where
          nothing : Some (place c i) ≡ None → ⊥
          nothing e = cc

      by_id : (c : BlockId) (i : ℕ) (q : WeakLoc) (t : Bool) → id_eq b c ≡ t → slice_get (cond t (L b ++ l ∷ []) (L c)) i ≡ Some q → Q q ≡ Some (place c i)
      by_id c i q true e h = subst (λ c. Q q ≡ Some (place c i)) (eq_is b c e) (either (early-or-last (L b) l q i h))
        where
          either : (slice_get (L b) i ≡ Some q) ⊎ ((i ≡ length (L b)) × (l ≡ q)) → Q q ≡ Some (place b i)
          either (inl g) = not_it q b i (a.listed b i q g)
          either (inr g) = at q ∙ ap (λ t. cond t (Some (place b (length (L b)))) (P q)) (subst (λ x. loc_eq l x ≡ true) g.1 (loc_self l)) ∙ ap (λ n. Some (place b n)) (sym g.0)
      by_id c i q false e h = not_it q c i (a.listed c i q h)

  -- a location leaves its group's list, and the last of the list takes its place
  module _ (i : ℕ) (d : WeakLoc) (moved : Option WeakLoc) (was : P l ≡ Some (place b i)) (lists : (c : BlockId) → M c ≡ cond (id_eq b c) (swap_remove (L b) i d) (L c))
      (mover : moved ≡ slice_get (swap_remove (L b) i d) i) (at : (q : WeakLoc) → Q q ≡ cond (is_one moved q) (Some (place b i)) (cond (loc_eq l q) None (P q))) where
    here : slice_get (L b) i ≡ Some l
    here = a.placed l (place b i) was

    the_one : (q : WeakLoc) → is_one moved q ≡ true → moved ≡ Some q
    the_one q e = by moved e
      where
        by : (m : Option WeakLoc) → is_one m q ≡ true → m ≡ Some q
        by None e = absurd (true≢false (sym e))
        by (Some m) e = ap Some (loc_is m q e)

    -- what moved was the last
    moved_last : (q : WeakLoc) → moved ≡ Some q → slice_get (L b) (length (L b) - 1) ≡ Some q
    moved_last q e =
        let there : slice_get (swap_remove (L b) i d) i ≡ Some q = sym mover ∙ e in
        sym (swapped-there (L b) i d (swapped-within (L b) i i d q there)) ∙ there

    new_list : M b ≡ swap_remove (L b) i d
    new_list = lists b ∙ ap (λ t. cond t (swap_remove (L b) i d) (L b)) (eq_self b)

    stays : (q : WeakLoc) (c : BlockId) (j : ℕ) → (moved ≡ Some q → ⊥) → (loc_eq l q ≡ true → ⊥) → P q ≡ Some (place c j) → Q q ≡ Some (place c j)
    stays q c j n m h =
        at q ∙ ap (λ t. cond t (Some (place b i)) (cond (loc_eq l q) None (P q))) (false_of (is_one moved q) (λ e. n (the_one q e)))
        ∙ ap (λ t. cond t None (P q)) (false_of (loc_eq l q) m) ∙ h

    -- so it is somewhere, and isn't the one that left
    pub moved-there : (m : WeakLoc) → moved ≡ Some m → cond (loc_eq l m) None (P m) ≡ Some (place b (length (L b) - 1))
    moved-there m e = by (loc_eq l m) refl
      where
        its_place : P m ≡ Some (place b (length (L b) - 1))
        its_place = a.listed b (length (L b) - 1) m (moved_last m e)

        earlier : i + 1 < length (L b)
        earlier = swapped-within (L b) i i d m (sym mover ∙ e)

        by : (t : Bool) → loc_eq l m ≡ t → cond t None (P m) ≡ Some (place b (length (L b) - 1))
        by true f = absurd (late (ap (λ (p : Listed). p.at) (same_place (place b i) (place b (length (L b) - 1)) (sym was ∙ ap P (loc_is l m f) ∙ its_place))))
          where
            late : i ≡ length (L b) - 1 → ⊥
            late g = let k : i + 1 < length (L b) = swapped-within (L b) i i d m (sym mover ∙ e) in omega (arith, g, k)
        by false f = its_place

    pub here-within : i < length (L b)
    here-within = slice_get_within (L b) i l here

    pub agrees-left : Agrees Q M
    agrees-left = record {
      placed = λ q p h. by_moved q p (is_one moved q) refl (sym (at q) ∙ h);
      listed = λ c j q h. by_id c j q (id_eq b c) refl (sym (ap (λ xs. slice_get xs j) (lists c)) ∙ h);
    }
      where
        in_same : (q : WeakLoc) (j : ℕ) → is_one moved q ≡ false → loc_eq l q ≡ false → slice_get (L b) j ≡ Some q → slice_get (swap_remove (L b) i d) j ≡ Some q
        in_same q j n m h = by (before_last j (length (L b)) (slice_get_within (L b) j q h))
          where
            apart : j ≡ i → ⊥
            apart e = true≢false (sym (loc_self l) ∙ ap (loc_eq l) (same_some l q (sym here ∙ ap (slice_get (L b)) (sym e) ∙ h)) ∙ m)

            is_moved : j ≡ length (L b) - 1 → i + 1 < length (L b) → ⊥
            is_moved e k =
                let m_is : moved ≡ Some q = mover ∙ swapped-there (L b) i d k ∙ ap (slice_get (L b)) (sym e) ∙ h in
                true≢false (sym (loc_self q) ∙ ap (λ o. is_one o q) (sym m_is) ∙ n)

            by : (j + 1 < length (L b)) ⊎ (j ≡ length (L b) - 1) → slice_get (swap_remove (L b) i d) j ≡ Some q
            by (inl k) = swapped-other (L b) i j d k apart ∙ h
            by (inr e) = let w : i < length (L b) = slice_get_within (L b) i l here in absurd (is_moved e (omega (arith, w, apart, e)))

        in_list : (q : WeakLoc) (p : Listed) (t : Bool) → id_eq b p.group ≡ t → is_one moved q ≡ false → loc_eq l q ≡ false → slice_get (L p.group) p.at ≡ Some q
            → slice_get (cond t (swap_remove (L b) i d) (L p.group)) p.at ≡ Some q
        in_list q p true e n m h = in_same q p.at n m (ap (λ c. slice_get (L c) p.at) (eq_is b p.group e) ∙ h)
        in_list q p false e n m h = h

        by_loc : (q : WeakLoc) (p : Listed) (t : Bool) → loc_eq l q ≡ t → is_one moved q ≡ false → cond t None (P q) ≡ Some p → slice_get (M p.group) p.at ≡ Some q
        by_loc q p true e n h = absurd (nothing h)
          where
            nothing : None ≡ Some p → ⊥
            nothing e = cc
        by_loc q p false e n h = ap (λ xs. slice_get xs p.at) (lists p.group) ∙ in_list q p (id_eq b p.group) refl n e (a.placed q p h)

        by_moved : (q : WeakLoc) (p : Listed) (t : Bool) → is_one moved q ≡ t → cond t (Some (place b i)) (cond (loc_eq l q) None (P q)) ≡ Some p → slice_get (M p.group) p.at ≡ Some q
        by_moved q p true e h =
            subst (λ (p : Listed). slice_get (M p.group) p.at ≡ Some q) (same_place (place b i) p h)
            (ap (λ xs. slice_get xs i) new_list ∙ sym mover ∙ the_one q e)
        by_moved q p false e h = by_loc q p (loc_eq l q) refl e h

        not_last : (q : WeakLoc) (c : BlockId) (j : ℕ) → P q ≡ Some (place c j) → moved ≡ Some q → Some (place c j) ≡ Some (place b (length (L b) - 1))
        not_last q c j h e = sym h ∙ a.listed b (length (L b) - 1) q (moved_last q e)

        not_first : (q : WeakLoc) (c : BlockId) (j : ℕ) → P q ≡ Some (place c j) → loc_eq l q ≡ true → Some (place c j) ≡ Some (place b i)
        not_first q c j h e = sym h ∙ ap P (sym (loc_is l q e)) ∙ was

        other_group : (c : BlockId) (j k : ℕ) → id_eq b c ≡ false → Some (place c j) ≡ Some (place b k) → ⊥
        other_group c j k e h = true≢false (sym (eq_self b) ∙ ap (λ (p : Listed). id_eq b p.group) (sym (same_place (place c j) (place b k) h)) ∙ e)

        same_at : (c e : BlockId) (j k : ℕ) → Some (place c j) ≡ Some (place e k) → j ≡ k
        same_at c e j k h = ap (λ (p : Listed). p.at) (same_place (place c j) (place e k) h)

        by_at : (j : ℕ) (q : WeakLoc) → slice_get (swap_remove (L b) i d) j ≡ Some q → (j ≡ i) ⊎ (j ≡ i → ⊥) → Q q ≡ Some (place b j)
        by_at j q h (inl e) =
            at q ∙ ap (λ t. cond t (Some (place b i)) (cond (loc_eq l q) None (P q))) (ap (λ o. is_one o q) (mover ∙ ap (slice_get (swap_remove (L b) i d)) (sym e) ∙ h) ∙ loc_self q)
            ∙ ap (λ n. Some (place b n)) (sym e)
        by_at j q h (inr n) =
            let k : j + 1 < length (L b) = swapped-within (L b) i j d q h in
            let old : P q ≡ Some (place b j) = a.listed b j q (sym (swapped-other (L b) i j d k n) ∙ h) in
            stays q b j (λ e. let s : j ≡ length (L b) - 1 = same_at b b j (length (L b) - 1) (not_last q b j old e) in absurd (omega (arith, s, k))) (λ e. n (same_at b b j i (not_first q b j old e))) old

        by_id : (c : BlockId) (j : ℕ) (q : WeakLoc) (t : Bool) → id_eq b c ≡ t → slice_get (cond t (swap_remove (L b) i d) (L c)) j ≡ Some q → Q q ≡ Some (place c j)
        by_id c j q true e h = subst (λ c. Q q ≡ Some (place c j)) (eq_is b c e) (by_at j q h (same_nat j i))
        by_id c j q false e h =
            let old : P q ≡ Some (place c j) = a.listed c j q h in
            stays q c j (λ m. other_group c j (length (L b) - 1) e (not_last q c j old m)) (λ m. other_group c j i e (not_first q c j old m)) old
