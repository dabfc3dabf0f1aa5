-- Ids that are one, and lists of ids with one more at the end
use Rattle.std.proofs.Common.{◌≡◌, ℕ, ◌==◌, Bool, true, false, ◌||◌, List, [], ◌∷◌, ◌++◌, refl, sym, ap, ◌∙◌, ◌⊎◌, inl, inr}
use Rattle.std.specs.declared.cmp.Ordering.{Ordering}
use Rattle.std.specs.declared.cmp.Ordering.TheVariants.{Less, Equal, Greater}
use Rattle.std.specs.Ordering.{is_eq, nat_cmp}
use Rattle.std.specs.Cmp.{both_tied, eq_by_cmp_equiv, tied_itself, unsigned_tied}
use Rattle.az_base.specs.declared.block_id.BlockId.{BlockId}
use Rattle.az_base.specs.Ids.{same_id, id_eq, among, ids_total, exact_ids}

pub equal : (r : Ordering) → is_eq r ≡ true → r ≡ Equal
equal Less e = cc
equal Equal e = refl
equal Greater e = cc

pub nat_eq_cmp : (x y : ℕ) → (x == y) ≡ is_eq (nat_cmp x y)
nat_eq_cmp x y = sym (unsigned_tied x y)

-- both tests of ids agree
pub eq_ids : (a b : BlockId) → id_eq a b ≡ same_id a b
eq_ids a b = both_tied _ _ _ _ (nat_eq_cmp a.thread b.thread) (nat_eq_cmp a.serial b.serial)

pub same_is : (a b : BlockId) → same_id a b ≡ true → a ≡ b
same_is a b h = exact_ids a b (equal _ h)

pub same_self : (a : BlockId) → same_id a a ≡ true
same_self a = ap is_eq (tied_itself ids_total a)

pub same_turned : (a b : BlockId) → same_id a b ≡ same_id b a
same_turned a b = (eq_by_cmp_equiv ids_total).symm a b

pub eq_is : (a b : BlockId) → id_eq a b ≡ true → a ≡ b
eq_is a b h = same_is a b (sym (eq_ids a b) ∙ h)

pub eq_self : (a : BlockId) → id_eq a a ≡ true
eq_self a = eq_ids a a ∙ same_self a

-- one more id at the end
pub among_more : (ids : List BlockId) (id q : BlockId) → among (ids ++ id ∷ []) q ≡ (among ids q || same_id q id)
among_more [] id q = or_false (same_id q id)
  where
    or_false : (b : Bool) → (b || false) ≡ b
    or_false true = refl
    or_false false = refl
among_more (x ∷ ids) id q = ap (λ b. same_id q x || b) (among_more ids id q) ∙ grouped (same_id q x) (among ids q) (same_id q id)
  where
    grouped : (a b c : Bool) → (a || (b || c)) ≡ ((a || b) || c)
    grouped true b c = refl
    grouped false b c = refl

pub among_cases : (ids : List BlockId) (id q : BlockId) → among (ids ++ id ∷ []) q ≡ true → (among ids q ≡ true) ⊎ (q ≡ id)
among_cases ids id q h = go (among ids q) refl (sym (among_more ids id q) ∙ h)
  where
    go : (b : Bool) → among ids q ≡ b → (b || same_id q id) ≡ true → (among ids q ≡ true) ⊎ (q ≡ id)
    go true e h = inl e
    go false e h = inr (same_is q id h)

pub among_kept : (ids : List BlockId) (id q : BlockId) → among ids q ≡ true → among (ids ++ id ∷ []) q ≡ true
among_kept ids id q h = among_more ids id q ∙ ap (λ b. b || same_id q id) h

pub among_last : (ids : List BlockId) (id : BlockId) → among (ids ++ id ∷ []) id ≡ true
among_last ids id = among_more ids id id ∙ ap (λ b. among ids id || b) (same_self id) ∙ or_true (among ids id)
  where
    or_true : (b : Bool) → (b || true) ≡ true
    or_true true = refl
    or_true false = refl
