-- The first block of a list that passes a test
use Rattle.std.proofs.Common.{◌≡◌, ℕ, ◌+◌, ◌≤◌, Bool, true, false, List, [], ◌∷◌, refl, sym, ap, ◌∙◌, arith, length, slice_get, Some, None, take, drop, zero, suc, add-one, find}
use Rattle.std.specs.Option.{option_map_or}
use Rattle.az_base.specs.declared.block_id.BlockId.{BlockId}

-- none so far, and none here
none_one : (p : BlockId → Bool) (xs : List BlockId) (n : ℕ) → find p (take n xs) ≡ None → option_map_or p (slice_get xs n) false ≡ false → find p (take (suc n) xs) ≡ None
none_one p [] n h k = refl
none_one p (x ∷ xs) zero h k = rw k refl
none_one p (x ∷ xs) (suc n) h k = go (p x) refl (none_one p xs n)
  where
    go : (t : Bool) → p x ≡ t → (find p (take n xs) ≡ None → option_map_or p (slice_get xs n) false ≡ false → find p (take (suc n) xs) ≡ None) → find p (take (suc (suc n)) (x ∷ xs)) ≡ None
    go true e r = (let i = rw e at h in cc)
    go false e r = rw e (r (rw e at h) k)

pub none_next : (p : BlockId → Bool) (xs : List BlockId) (n : ℕ) → find p (take n xs) ≡ None → option_map_or p (slice_get xs n) false ≡ false → find p (take (n + 1) xs) ≡ None
none_next p xs n h k = rw add-one (none_one p xs n h k)

-- a block that doesn't pass is skipped
skip_one : (p : BlockId → Bool) (xs : List BlockId) (n : ℕ) → option_map_or p (slice_get xs n) false ≡ false → find p (drop n xs) ≡ find p (drop (suc n) xs)
skip_one p [] zero k = refl
skip_one p [] (suc n) k = refl
skip_one p (x ∷ xs) zero k = rw k refl
skip_one p (x ∷ xs) (suc n) k = skip_one p xs n k

pub skip_next : (p : BlockId → Bool) (xs : List BlockId) (n : ℕ) → option_map_or p (slice_get xs n) false ≡ false → find p (drop n xs) ≡ find p (drop (n + 1) xs)
skip_next p xs n k = rw add-one (skip_one p xs n k)

-- one that passes is found
pub record Here (p : BlockId → Bool) (xs : List BlockId) (n : ℕ) : Type 0 where
  pub id : BlockId
  pub is : slice_get xs n ≡ Some id
  pub found : find p (drop n xs) ≡ Some id

pub stop_here : (p : BlockId → Bool) (xs : List BlockId) (n : ℕ) → option_map_or p (slice_get xs n) false ≡ true → Here p xs n
stop_here p [] n k = cc
stop_here p (x ∷ xs) zero k = record { id = x; is = refl; found = rw k refl }
stop_here p (x ∷ xs) (suc n) k = let h = stop_here p xs n k in record { id = h.id; is = h.is; found = h.found }

-- past the end there is none
pub none_past : (p : BlockId → Bool) (xs : List BlockId) (n : ℕ) → length xs ≤ n → find p (drop n xs) ≡ None
none_past p [] zero l = refl
none_past p [] (suc n) l = refl
none_past p (x ∷ xs) zero l = absurd (omega (arith, l))
none_past p (x ∷ xs) (suc n) l = none_past p xs n (omega (arith, l))

-- where none of the first n passes, the first of the rest is the first of all
pub find_rest : (p : BlockId → Bool) (xs : List BlockId) (n : ℕ) → find p (take n xs) ≡ None → find p (drop n xs) ≡ find p xs
find_rest p [] zero h = refl
find_rest p [] (suc n) h = refl
find_rest p (x ∷ xs) zero h = refl
find_rest p (x ∷ xs) (suc n) h = go (p x) refl (find_rest p xs n)
  where
    go : (t : Bool) → p x ≡ t → (find p (take n xs) ≡ None → find p (drop n xs) ≡ find p xs) → find p (drop n xs) ≡ find p (x ∷ xs)
    go true e r = (let i = rw e at h in cc)
    go false e r = rw e (r (rw e at h))

-- a test that passes less finds none either
pub none_less : (p q : BlockId → Bool) (xs : List BlockId) → ((b : BlockId) → q b ≡ true → p b ≡ true) → find p xs ≡ None → find q xs ≡ None
none_less p q [] l h = refl
none_less p q (x ∷ xs) l h = go (p x) (q x) refl refl (none_less p q xs l)
  where
    go : (s t : Bool) → p x ≡ s → q x ≡ t → (find p xs ≡ None → find q xs ≡ None) → find q (x ∷ xs) ≡ None
    go true t e f r = (let i = rw e at h in cc)
    go false true e f r = (let i = l x f in cc)
    go false false e f r = rw f (r (rw e at h))

-- what was found passes
pub found_passes : (p : BlockId → Bool) (xs : List BlockId) (b : BlockId) → find p xs ≡ Some b → p b ≡ true
found_passes p [] b h = cc
found_passes p (x ∷ xs) b h = go (p x) refl (found_passes p xs b)
  where
    go : (t : Bool) → p x ≡ t → (find p xs ≡ Some b → p b ≡ true) → p b ≡ true
    go true e r = (let i = rw e at h in let same : x ≡ b = cc in ap p (sym same) ∙ e)
    go false e r = r (rw e at h)
