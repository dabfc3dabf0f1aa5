-- The tests of locations, as the code makes them
use Rattle.std.proofs.Common.{◌≡◌, ℕ, ◌==◌, ◌&&◌, Bool, true, false, refl, subst}
use Rattle.az_base.specs.declared.block_id.BlockId.{BlockId}
use Rattle.az_base.specs.declared.numbers.WeakNo.{WeakNo}
use Rattle.az_base.specs.declared.weak_loc.WeakLoc.{WeakLoc}
use Rattle.az_base.specs.declared.weak_loc.WeakLoc.TheVariants as loc
use Rattle.az_base.specs.Ids.{id_eq}
use Rattle.az_base.specs.Places.{loc_eq}

pub false_of : (b : Bool) → (b ≡ true → ⊥) → b ≡ false
false_of true f = absurd (f refl)
false_of false f = refl

-- what is said with the derived test of locations holds with the plain one
pub to_locs : {eq : WeakLoc → WeakLoc → Bool} (P : (WeakLoc → WeakLoc → Bool) → Type 0) → P eq
    → ((v w : WeakNo) → eq (loc.Root v) (loc.Root w) ≡ (v.0 == w.0)) → ((v : WeakNo) (c : BlockId) (j : ℕ) → eq (loc.Root v) (loc.Word c j) ≡ false)
    → ((b : BlockId) (i : ℕ) (w : WeakNo) → eq (loc.Word b i) (loc.Root w) ≡ false) → ((b : BlockId) (i : ℕ) (c : BlockId) (j : ℕ) → eq (loc.Word b i) (loc.Word c j) ≡ (id_eq b c && (i == j)))
    → P loc_eq
to_locs {eq = eq} P h rr rb br bb = subst P (λ k a b. derived a b k) h
  where
    derived : (a b : WeakLoc) → eq a b ≡ loc_eq a b
    derived (loc.Root v) (loc.Root w) = rr v w
    derived (loc.Root v) (loc.Word c j) = rb v c j
    derived (loc.Word b i) (loc.Root w) = br b i w
    derived (loc.Word b i) (loc.Word c j) = bb b i c j
