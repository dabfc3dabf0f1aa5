-- The serials of a thread's blocks, and its registers as it begins
use Rattle.std.proofs.Common.{◌≡◌, ◌≤◌, ◌+◌, ◌==◌, ℕ, ap, None, Some, true, false, cond, nat_lt, sym, arith, refl, replicate, zero, suc}
use Rattle.local_set.specs.LocalSets.{held_in}
use Rattle.std.proofs.lemmas.Bool.Decides.{nat_tests}
use Rattle.az_base.specs.declared.block_id.BlockId.{BlockId}
use Rattle.az_base.specs.Ids.{id_of}

-- the next id has the thread's next serial
pub next_is : (serials most t : ℕ) (id : BlockId) → cond (serials == most) None (Some (id_of t serials)) ≡ Some id → ((serials == most) ≡ false) × (id ≡ id_of t serials)
next_is serials most t id h = go (serials == most) refl h
  where
    some_id : (a b : BlockId) → Some a ≡ Some b → a ≡ b
    some_id a b e = cc

    go : (b : _) → (serials == most) ≡ b → cond b None (Some (id_of t serials)) ≡ Some id → ((serials == most) ≡ false) × (id ≡ id_of t serials)
    go true e h = cc (h)
    go false e h = (e, sym (some_id (id_of t serials) id h))

pub one_more : (a b : ℕ) → (a == b) ≡ false → a ≤ b → a + 1 ≤ b
one_more a b e h = grind (arith, nat_tests)

-- a later serial is another id
pub other_serial : (t s n : ℕ) → n + 1 ≤ s → id_of t s ≡ id_of t n → ⊥
other_serial t s n h e = let same : s ≡ n = ap (λ (i : BlockId). i.serial) e in absurd (omega arith)

pub fits_local : (own more most : ℕ) → nat_lt most (own + more) ≡ false → own + more ≤ most
fits_local own more most h = grind (arith, nat_tests)

pub null_register : (n r : ℕ) → held_in (replicate n None) r ≡ None
null_register zero r = refl
null_register (suc n) zero = refl
null_register (suc n) (suc r) = null_register n r
