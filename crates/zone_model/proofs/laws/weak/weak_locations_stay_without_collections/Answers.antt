use Rattle.zone_model.proofs.WeakLaws.{shown_without_collections}
use Rattle.zone_model.proofs.laws.weak.weak_locations_stay_without_collections.Goals as goal

pub returns : goal.returns
returns c = λ o history z l v. shown_without_collections o history z l v
