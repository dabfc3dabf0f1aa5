-- Weak locations that are one
use Rattle.std.proofs.Common.{◌≡◌, true, refl, sym, ap, ◌∙◌}
use Rattle.std.specs.Ordering.{is_eq}
use Rattle.std.specs.Cmp.{both_tied, tied_itself}
use Rattle.az_base.specs.declared.weak_loc.WeakLoc.{WeakLoc}
use Rattle.az_base.specs.declared.weak_loc.WeakLoc.TheVariants as loc
use Rattle.az_base.specs.Places.{loc_cmp, loc_eq, locs_total, exact_locs}
use Rattle.az_base.proofs.Ids.{equal, eq_ids, nat_eq_cmp}

-- both tests of weak locations agree
pub eq_locs : (a b : WeakLoc) → loc_eq a b ≡ is_eq (loc_cmp a b)
eq_locs (loc.Root v) (loc.Root w) = nat_eq_cmp v.0 w.0
eq_locs (loc.Root v) (loc.Word c j) = refl
eq_locs (loc.Word b i) (loc.Root w) = refl
eq_locs (loc.Word b i) (loc.Word c j) = both_tied _ _ _ _ (eq_ids b c) (nat_eq_cmp i j)

pub loc_is : (a b : WeakLoc) → loc_eq a b ≡ true → a ≡ b
loc_is a b h = exact_locs a b (equal _ (sym (eq_locs a b) ∙ h))

pub loc_self : (a : WeakLoc) → loc_eq a a ≡ true
loc_self a = eq_locs a a ∙ ap is_eq (tied_itself locs_total a)
