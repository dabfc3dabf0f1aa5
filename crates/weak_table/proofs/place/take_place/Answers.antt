use Rattle.std.proofs.Common.{◌≡◌, refl, cond, None}
use Rattle.std.specs.Map.{lookup}
use Rattle.az_base.specs.declared.weak_loc.WeakLoc.{WeakLoc}
use Rattle.weak_table.proofs.SameKeys.{to_locs}
use Rattle.weak_table.proofs.place.take_place.Goals as goal

pub returns-clause-puts : goal.returns-clause-puts
returns-clause-puts c =
    to_locs (λ e. (q : WeakLoc) → lookup (e q) c.swap_remove.new.self.entries ≡ cond (e c.args.loc q) None (lookup (e q) c.args.places.now.entries))
    c.swap_remove.ensures.updates.0 (λ v w. refl) (λ v d j. refl) (λ b i w. refl) (λ b i d j. refl)
