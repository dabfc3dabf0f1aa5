-- A strictly ascending list within another list is no longer than it
use Rattle.std.proofs.Common.{◌≡◌, ◌≤◌, ◌||◌, suc, Bool, true, false, cond, List, [], ◌∷◌, length, IsTrue, Less, refl, sym, ap, ◌∙◌, arith}
use Rattle.std.specs.List.{AllByRecursion}
use Rattle.std.specs.List.Sorted.{IsStrictlySortedBy}
use Rattle.az_base.specs.declared.block_id.BlockId.{BlockId}
use Rattle.az_base.specs.Ids.{id_cmp, same_id, among}
use Rattle.az_base.proofs.Ids.{same_is, same_self}

-- what comes before all of a list isn't in it
not_behind : (x : BlockId) (ks : List BlockId) → AllByRecursion (λ k. id_cmp x k ≡ Less) ks → among ks x ≡ false
not_behind x [] h = refl
not_behind x (k ∷ ks) h = rw (h.0) (not_behind x ks h.1)

-- the list without the first such block
abbrev removed : BlockId → List BlockId → List BlockId
removed id [] = []
removed id (x ∷ xs) = cond (same_id id x) xs (x ∷ removed id xs)

or_second : (a b : Bool) → b ≡ true → (a || b) ≡ true
or_second true b h = refl
or_second false b h = h

removed_length : (id : BlockId) (s : List BlockId) → among s id ≡ true → length s ≡ suc (length (removed id s))
removed_length id [] h = cc (h)
removed_length id (x ∷ xs) h = by (same_id id x) h (removed_length id xs)
  where
    by : (t : Bool) → (t || among xs id) ≡ true → (among xs id ≡ true → length xs ≡ suc (length (removed id xs))) → suc (length xs) ≡ suc (length (cond t xs (x ∷ removed id xs)))
    by true h rest = refl
    by false h rest = ap suc (rest h)

removed_other : (id q : BlockId) (s : List BlockId) → same_id q id ≡ false → among s q ≡ true → among (removed id s) q ≡ true
removed_other id q [] apart h = h
removed_other id q (x ∷ xs) apart h = by (same_id id x) refl (same_id q x) refl h (removed_other id q xs apart)
  where
    by : (t : Bool) → same_id id x ≡ t → (u : Bool) → same_id q x ≡ u → (u || among xs q) ≡ true → (among xs q ≡ true → among (removed id xs) q ≡ true) → among (cond t xs (x ∷ removed id xs)) q ≡ true
    by true e true f h rest = let no : true ≡ false = sym f ∙ ap (same_id q) (sym (same_is id x e)) ∙ apart in cc (no)
    by true e false f h rest = h
    by false e true f h rest = ap (λ b. b || among (removed id xs) q) f
    by false e false f h rest = ap (λ b. b || among (removed id xs) q) f ∙ rest h

pub no_longer : (r s : List BlockId) → IsStrictlySortedBy id_cmp r → ((b : BlockId) → IsTrue (among r b) → IsTrue (among s b)) → length r ≤ length s
unfolding IsStrictlySortedBy
no_longer [] s ascending within = omega arith
no_longer (id ∷ r) s ascending within =
    let less : length s ≡ suc (length (removed id s)) = removed_length id s (within id (ap (λ b. b || among r id) (same_self id))) in
    let rest : length r ≤ length (removed id s) = no_longer r (removed id s) ascending.1 (λ q h. removed_other id q s (apart q h (same_id q id) refl) (within q (or_second (same_id q id) (among r q) h))) in
    omega (arith, less, rest)
  where
    apart : (q : BlockId) → among r q ≡ true → (b : Bool) → same_id q id ≡ b → same_id q id ≡ false
    apart q h true e = let no : false ≡ true = sym (not_behind id r ascending.0) ∙ ap (among r) (sym (same_is q id e)) ∙ h in cc (no)
    apart q h false e = e
