use Rattle.std.proofs.Common.{◌≡◌, refl, cond, Some}
use Rattle.std.specs.Map.{lookup}
use Rattle.az_base.specs.declared.weak_loc.WeakLoc.{WeakLoc}
use Rattle.weak_table.proofs.SameKeys.{to_locs}
use Rattle.weak_table.proofs.place.put_place.Goals as goal

pub returns : goal.returns
returns c =
    to_locs (λ e. (q : WeakLoc) → lookup (e q) c.insert.new.self.entries ≡ cond (e c.args.loc q) (Some c.args.place) (lookup (e q) c.args.places.now.entries))
    c.in-Ok.ensures.updates.0 (λ v w. refl) (λ v d j. refl) (λ b i w. refl) (λ b i d j. refl)
