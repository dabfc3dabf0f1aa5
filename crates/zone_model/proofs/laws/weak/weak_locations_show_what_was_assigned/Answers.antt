use Rattle.zone_model.proofs.WeakLaws.{shown_where_there}
use Rattle.zone_model.proofs.laws.weak.weak_locations_show_what_was_assigned.Goals as goal

pub returns : goal.returns
returns c = λ o history z l v. shown_where_there o history z l v
