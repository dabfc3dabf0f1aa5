use Rattle.std.proofs.Common.{◌≡◌, refl, cond, Some, is_some, ap, sym}
use Rattle.std.specs.Map.{lookup}
use Rattle.az_base.specs.declared.weak_loc.WeakLoc.{WeakLoc}
use Rattle.weak_table.proofs.SameKeys.{to_locs}
use Rattle.weak_table.proofs.place.change_place.Goals as goal

pub returns-clause-puts : goal.returns-clause-puts
returns-clause-puts c =
    to_locs (λ e. (q : WeakLoc) → lookup (e q) (c.get_mut.follows.lender c.args.place).entries ≡ cond (e c.args.loc q) (Some c.args.place) (lookup (e q) c.args.places.now.entries))
    ((c.get_mut.follows.holds c.args.place).3 (ap is_some (sym c.in-Some.ensures.value))).0 (λ v w. refl) (λ v d j. refl) (λ b i w. refl) (λ b i d j. refl)
