-- Lists of threads with their counts, seen as finite maps
use Rattle.std.proofs.Common.{◌≡◌, ◌≢◌, ℕ, ◌==◌, ◌+◌, ◌<◌, ◌≤◌, nat_lt, Bool, true, false, not, cond, List, [], ◌∷◌, ◌++◌, length, get_or, slice_set, take, drop, length-set, Option, Some, None, filter, map, ◌||◌, refl, sym, ap, ◌∙◌, subst, arith, zero, suc}
use Rattle.std.proofs.lemmas.Bool.Decides.{nat_tests}
use Rattle.std.proofs.lemmas.Grind.{common_steps}
use Rattle.std.specs.Option.{unwrap_or}
use Rattle.std.proofs.lemmas.List.{append-nil}
use Rattle.std.proofs.Math.Seq.{take-length, drop-length}
use Rattle.std.specs.List.{list_any, position_or_len, position, refill}
use Rattle.std.specs.Ordering.{eq_by_cmp, is_eq, nat_cmp}
use Rattle.std.specs.Cmp.{nat_cmp_total, eq_by_cmp_equiv}
use Rattle.std.specs.FinMap.{nat_cmp-IsAntisymmetric, empty, get, insert, remove, from_entries, get-from_entries, get-insert, get-remove, get-empty, same_map, entries, get-entries, len-entries, len-empty}
use Rattle.std.specs.FinMap.Entries.{find}
use Rattle.block_table.specs.Holds.{ArePositive, Holds, is_held_by, times, with_times}

tested : (q k : ℕ) → eq_by_cmp nat_cmp q k ≡ (q == k)
tested q k = grind (arith, nat_tests, common_steps)

-- the two tests of threads
pub tied : (q k : ℕ) → is_eq (nat_cmp q k) ≡ (k == q)
tied q k = (eq_by_cmp_equiv nat_cmp_total).symm q k ∙ tested k q

one_more : (n : ℕ) → 1 + n ≡ suc n
one_more n = omega arith

-- the count at the place of the thread
pub found : (t : ℕ) (xs : List (ℕ × ℕ)) (d : ℕ × ℕ) → position_or_len (λ h. h.0 == t) xs < length xs → find nat_cmp t xs ≡ Some (get_or xs (position_or_len (λ h. h.0 == t) xs) d).1
found t [] d h = absurd (omega arith)
found t (x ∷ xs) d h =
    let p : ℕ = position_or_len (λ (h : ℕ × ℕ). h.0 == t) xs in
    ap (λ b. cond b (Some x.1) (find nat_cmp t xs)) (tied t x.0)
    ∙ elim (x.0 == t) as (λ b. cond (not b) (1 + p) 0 < 1 + length xs → cond b (Some x.1) (find nat_cmp t xs) ≡ Some (get_or (x ∷ xs) (cond (not b) (1 + p) 0) d).1) [
      | true ↦ λ l. refl
      | false ↦ λ l. found t xs d (omega arith) ∙ ap (λ j. Some (get_or (x ∷ xs) j d).1) (sym (one_more p))
    ] (omega arith)

-- the thread isn't there
pub not_found : (t : ℕ) (xs : List (ℕ × ℕ)) → length xs ≤ position_or_len (λ h. h.0 == t) xs → find nat_cmp t xs ≡ None
not_found t [] h = refl
not_found t (x ∷ xs) h =
    let p : ℕ = position_or_len (λ (h : ℕ × ℕ). h.0 == t) xs in
    ap (λ b. cond b (Some x.1) (find nat_cmp t xs)) (tied t x.0)
    ∙ elim (x.0 == t) as (λ b. 1 + length xs ≤ cond (not b) (1 + p) 0 → cond b (Some x.1) (find nat_cmp t xs) ≡ None) [
      | true ↦ λ l. absurd (omega arith)
      | false ↦ λ l. not_found t xs (omega arith)
    ] (omega arith)

-- another count at the place of the thread
over : (q t k n m : ℕ) (o : Option ℕ) → (k == t) ≡ true → cond (t == q) (Some n) o ≡ cond (t == q) (Some n) (cond (k == q) (Some m) o)
over q t k n m o h = grind (arith, nat_tests, common_steps)

apart : (q t k n m : ℕ) (o : Option ℕ) → (k == t) ≡ false → cond (k == q) (Some m) (cond (t == q) (Some n) o) ≡ cond (t == q) (Some n) (cond (k == q) (Some m) o)
apart q t k n m o h = grind (arith, nat_tests, common_steps)

pub set_found : (t n q : ℕ) (xs : List (ℕ × ℕ)) → position_or_len (λ h. h.0 == t) xs < length xs
    → find nat_cmp q (slice_set xs (position_or_len (λ h. h.0 == t) xs) (t, n)) ≡ cond (t == q) (Some n) (find nat_cmp q xs)
set_found t n q [] h = absurd (omega arith)
set_found t n q (x ∷ xs) h =
    let p : ℕ = position_or_len (λ (h : ℕ × ℕ). h.0 == t) xs in
    elim (x.0 == t) as (λ b. (x.0 == t) ≡ b → cond (not b) (1 + p) 0 < 1 + length xs → find nat_cmp q (slice_set (x ∷ xs) (cond (not b) (1 + p) 0) (t, n)) ≡ cond (t == q) (Some n) (cond (is_eq (nat_cmp q x.0)) (Some x.1) (find nat_cmp q xs))) [
      | true ↦ λ e l. ap (λ b. cond b (Some n) (find nat_cmp q xs)) (tied q t) ∙ over q t x.0 n x.1 (find nat_cmp q xs) e ∙ ap (λ b. cond (t == q) (Some n) (cond b (Some x.1) (find nat_cmp q xs))) (sym (tied q x.0))
      | false ↦ λ e l. ap (λ j. find nat_cmp q (slice_set (x ∷ xs) j (t, n))) (one_more p) ∙ ap (λ o. cond (is_eq (nat_cmp q x.0)) (Some x.1) o) (set_found t n q xs (omega arith)) ∙ ap (λ b. cond b (Some x.1) (cond (t == q) (Some n) (find nat_cmp q xs))) (tied q x.0)
          ∙ apart q t x.0 n x.1 (find nat_cmp q xs) e ∙ ap (λ b. cond (t == q) (Some n) (cond b (Some x.1) (find nat_cmp q xs))) (sym (tied q x.0))
    ] refl (omega arith)

-- the counts of the other threads
without_it : (q t k m : ℕ) (o : Option ℕ) → (k == t) ≡ true → cond (t == q) None o ≡ cond (t == q) None (cond (k == q) (Some m) o)
without_it q t k m o h = grind (arith, nat_tests, common_steps)

still : (q t k m : ℕ) (o : Option ℕ) → (k == t) ≡ false → cond (k == q) (Some m) (cond (t == q) None o) ≡ cond (t == q) None (cond (k == q) (Some m) o)
still q t k m o h = grind (arith, nat_tests, common_steps)

pub filtered : (t q : ℕ) (xs : List (ℕ × ℕ)) → find nat_cmp q (filter (λ h. not (h.0 == t)) xs) ≡ cond (t == q) None (find nat_cmp q xs)
filtered t q [] = nothing (t == q)
  where
    nothing : (b : Bool) → None ≡ cond b None (let o : Option ℕ = None in o)
    nothing true = refl
    nothing false = refl
filtered t q (x ∷ xs) =
    let rest : List (ℕ × ℕ) = filter (λ h. not (h.0 == t)) xs in
    elim (x.0 == t) as (λ b. (x.0 == t) ≡ b → find nat_cmp q (cond (not b) (x ∷ rest) rest) ≡ cond (t == q) None (cond (is_eq (nat_cmp q x.0)) (Some x.1) (find nat_cmp q xs))) [
      | true ↦ λ e. filtered t q xs ∙ without_it q t x.0 x.1 (find nat_cmp q xs) e ∙ ap (λ b. cond (t == q) None (cond b (Some x.1) (find nat_cmp q xs))) (sym (tied q x.0))
      | false ↦ λ e. ap (λ o. cond (is_eq (nat_cmp q x.0)) (Some x.1) o) (filtered t q xs) ∙ ap (λ b. cond b (Some x.1) (cond (t == q) None (find nat_cmp q xs))) (tied q x.0)
          ∙ still q t x.0 x.1 (find nat_cmp q xs) e ∙ ap (λ b. cond (t == q) None (cond b (Some x.1) (find nat_cmp q xs))) (sym (tied q x.0))
    ] refl

-- the same, as maps
pub map_set : (old new : List (ℕ × ℕ)) (t n : ℕ) → ((q : ℕ) → find nat_cmp q new ≡ cond (t == q) (Some n) (find nat_cmp q old)) → from_entries {R = nat_cmp} new ≡ insert (from_entries old) t n
map_set old new t n is = same_map nat_cmp_total nat_cmp-IsAntisymmetric _ _ (λ q.
    get-from_entries nat_cmp_total new q ∙ is q
    ∙ sym (get-insert nat_cmp_total (from_entries old) t n q ∙ ap (cond (is_eq (nat_cmp q t)) (Some n)) (get-from_entries nat_cmp_total old q) ∙ ap (λ b. cond b (Some n) (find nat_cmp q old)) (tied q t)))

pub map_without : (old new : List (ℕ × ℕ)) (t : ℕ) → ((q : ℕ) → find nat_cmp q new ≡ cond (t == q) None (find nat_cmp q old)) → from_entries {R = nat_cmp} new ≡ remove (from_entries old) t
map_without old new t is = same_map nat_cmp_total nat_cmp-IsAntisymmetric _ _ (λ q.
    get-from_entries nat_cmp_total new q ∙ is q
    ∙ sym (get-remove nat_cmp_total (from_entries old) t q ∙ ap (cond (is_eq (nat_cmp q t)) None) (get-from_entries nat_cmp_total old q) ∙ ap (λ b. cond b None (find nat_cmp q old)) (tied q t)))

-- a positive number is kept
pub positive : (m : Holds) (t n : ℕ) → n ≢ 0 → with_times m t n ≡ insert m t n
positive m t zero h = absurd (h refl)
positive m t (suc n) h = refl

-- a map of no entries has no entry
pub none_listed : (xs : List (ℕ × ℕ)) → from_entries {R = nat_cmp} xs ≡ empty → length xs ≡ 0
none_listed [] e = refl
none_listed (x ∷ xs) e =
    let none : find nat_cmp x.0 (x ∷ xs) ≡ None = sym (get-from_entries nat_cmp_total (x ∷ xs) x.0) ∙ ap (λ (m : Holds). get m x.0) e ∙ get-empty nat_cmp x.0 in
    let here : find nat_cmp x.0 (x ∷ xs) ≡ Some x.1 = ap (λ b. cond b (Some x.1) (find nat_cmp x.0 xs)) (tied x.0 x.0 ∙ itself x.0) in
    absurd (differ (sym none ∙ here))
  where
    itself : (n : ℕ) → (n == n) ≡ true
    itself n = grind (arith, nat_tests)

    differ : {n : ℕ} → None ≡ Some n → ⊥
    differ e = cc

-- what the place of a thread says, and what none says
pub place_found : (t : ℕ) (xs : List (ℕ × ℕ)) (d : ℕ × ℕ) (p : ℕ) → position (λ h. h.0 == t) xs ≡ Some p
    → (p < length xs) × (find nat_cmp t xs ≡ Some (get_or xs p d).1) × ((n q : ℕ) → find nat_cmp q (slice_set xs p (t, n)) ≡ cond (t == q) (Some n) (find nat_cmp q xs))
place_found t xs d p e =
    elim (nat_lt k (length xs)) as (λ b. nat_lt k (length xs) ≡ b → cond b (Some k) None ≡ Some p → (p < length xs) × (find nat_cmp t xs ≡ Some (get_or xs p d).1) × ((n q : ℕ) → find nat_cmp q (slice_set xs p (t, n)) ≡ cond (t == q) (Some n) (find nat_cmp q xs))) [
      | true ↦ λ l f. subst (λ j. (j < length xs) × (find nat_cmp t xs ≡ Some (get_or xs j d).1) × ((n q : ℕ) → find nat_cmp q (slice_set xs j (t, n)) ≡ cond (t == q) (Some n) (find nat_cmp q xs))) (same f) (below l, found t xs d (below l), λ n q. set_found t n q xs (below l))
      | false ↦ λ l f. cc
    ] refl e
  where
    k : ℕ
    k = position_or_len (λ (h : ℕ × ℕ). h.0 == t) xs

    below : {a b : ℕ} → nat_lt a b ≡ true → a < b
    below h = grind (arith, nat_tests)

    same : {a b : ℕ} → Some a ≡ Some b → a ≡ b
    same h = cc

pub place_none : (t : ℕ) (xs : List (ℕ × ℕ)) → position (λ h. h.0 == t) xs ≡ None → find nat_cmp t xs ≡ None
place_none t xs e = elim (nat_lt k (length xs)) as (λ b. nat_lt k (length xs) ≡ b → cond b (Some k) None ≡ None → find nat_cmp t xs ≡ None) [
  | true ↦ λ l f. cc
  | false ↦ λ l f. not_found t xs (above l)
] refl e
  where
    k : ℕ
    k = position_or_len (λ (h : ℕ × ℕ). h.0 == t) xs

    above : {a b : ℕ} → nat_lt a b ≡ false → b ≤ a
    above h = grind (arith, nat_tests)

-- a list after a write through a slice
pub refilled : {X : Type 0} (xs : List X) (p : ℕ) (x : X) → refill (length xs) xs (slice_set xs p x) ≡ slice_set xs p x
refilled xs p x =
    ap (λ n. take (length xs) (slice_set xs p x ++ drop n xs)) (length-set xs p x)
    ∙ ap (λ ys. take (length xs) (slice_set xs p x ++ ys)) (drop-length xs)
    ∙ ap (take (length xs)) (append-nil (slice_set xs p x))
    ∙ ap (λ n. take n (slice_set xs p x)) (sym (length-set xs p x))
    ∙ take-length (slice_set xs p x)

-- the count that is found, and 0 where none is
pub so_many_times : (xs : List (ℕ × ℕ)) (t n : ℕ) → find nat_cmp t xs ≡ Some n → times (from_entries xs) t ≡ n
so_many_times xs t n is = ap (λ (o : Option ℕ). unwrap_or o 0) (get-from_entries nat_cmp_total xs t ∙ is)

pub no_times : (xs : List (ℕ × ℕ)) (t : ℕ) → find nat_cmp t xs ≡ None → times (from_entries xs) t ≡ 0
no_times xs t is = ap (λ (o : Option ℕ). unwrap_or o 0) (get-from_entries nat_cmp_total xs t ∙ is)

-- what isn't 0 is positive
pub above : (n : ℕ) → n ≢ 0 → 0 < n
above zero h = absurd (h refl)
above (suc n) h = omega arith

-- positive numbers stay so
pub positive_set : (xs : List (ℕ × ℕ)) (p : ℕ) (x : ℕ × ℕ) → 0 < x.1 → ArePositive xs → ArePositive (slice_set xs p x)
positive_set [] p x h a = tt
positive_set (y ∷ xs) zero x h a = (h, a.1)
positive_set (y ∷ xs) (suc p) x h a = (a.0, positive_set xs p x h a.1)

pub positive_push : (xs : List (ℕ × ℕ)) (x : ℕ × ℕ) → 0 < x.1 → ArePositive xs → ArePositive (xs ++ x ∷ [])
positive_push [] x h a = (h, tt)
positive_push (y ∷ xs) x h a = (a.0, positive_push xs x h a.1)

pub positive_kept : (t : ℕ) (xs : List (ℕ × ℕ)) → ArePositive xs → ArePositive (filter (λ h. not (h.0 == t)) xs)
positive_kept t [] a = tt
positive_kept t (y ∷ xs) a = by (not (y.0 == t)) (positive_kept t xs a.1)
  where
    by : (b : Bool) → ArePositive (filter (λ h. not (h.0 == t)) xs) → ArePositive (cond b (y ∷ filter (λ h. not (h.0 == t)) xs) (filter (λ h. not (h.0 == t)) xs))
    by true rest = (a.0, rest)
    by false rest = rest

-- some thread is listed where some number is positive
some_positive : (es : List (ℕ × ℕ)) (t n : ℕ) → find nat_cmp t es ≡ Some n → 0 < n → list_any (λ k. nat_lt 0 k) (map (λ (e : ℕ × ℕ). e.1) es) ≡ true
some_positive [] t n e h = cc
some_positive (x ∷ es) t n e h = by (is_eq (nat_cmp t x.0)) e (some_positive es t n)
  where
    by : (b : Bool) → cond b (Some x.1) (find nat_cmp t es) ≡ Some n → (find nat_cmp t es ≡ Some n → 0 < n → list_any (λ k. nat_lt 0 k) (map (λ (e : ℕ × ℕ). e.1) es) ≡ true) → (nat_lt 0 x.1 || list_any (λ k. nat_lt 0 k) (map (λ (e : ℕ × ℕ). e.1) es)) ≡ true
    by true f rest = let same : x.1 ≡ n = ap (λ (o : Option ℕ). unwrap_or o x.1) f in let p : nat_lt 0 x.1 ≡ true = grind (arith, nat_tests, same, h) in ap (λ b. b || list_any (λ k. nat_lt 0 k) (map (λ (e : ℕ × ℕ). e.1) es)) p
    by false f rest = ap (λ b. nat_lt 0 x.1 || b) (rest f h) ∙ or_true (nat_lt 0 x.1)
      where
        or_true : (b : Bool) → (b || true) ≡ true
        or_true true = refl
        or_true false = refl

pub held_listed : (xs : List (ℕ × ℕ)) → ArePositive xs → not (length xs == 0) ≡ is_held_by (from_entries {R = nat_cmp} xs)
held_listed [] a = sym (nothing (entries (from_entries {R = nat_cmp} [])) (sym (len-entries (from_entries {R = nat_cmp} [])) ∙ len-empty nat_cmp ℕ))
  where
    nothing : (es : List (ℕ × ℕ)) → length es ≡ 0 → list_any (λ k. nat_lt 0 k) (map (λ (e : ℕ × ℕ). e.1) es) ≡ false
    nothing [] h = refl
    nothing (e ∷ es) h = absurd (omega (arith, h))
held_listed (x ∷ xs) a =
    let m = from_entries {R = nat_cmp} (x ∷ xs) in
    let here : find nat_cmp x.0 (x ∷ xs) ≡ Some x.1 = ap (λ b. cond b (Some x.1) (find nat_cmp x.0 xs)) (tied x.0 x.0 ∙ itself x.0) in
    let got : find nat_cmp x.0 (entries m) ≡ Some x.1 = sym (get-entries m x.0) ∙ get-from_entries nat_cmp_total (x ∷ xs) x.0 ∙ here in
    more (length xs) ∙ sym (some_positive (entries m) x.0 x.1 got a.0)
  where
    itself : (n : ℕ) → (n == n) ≡ true
    itself n = grind (arith, nat_tests)

    more : (n : ℕ) → not (suc n == 0) ≡ true
    more n = grind (arith, nat_tests, common_steps)
