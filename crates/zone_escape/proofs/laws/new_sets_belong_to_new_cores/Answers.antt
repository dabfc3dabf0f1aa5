use Rattle.zone_escape.proofs.Belonging.{new_belongs}
use Rattle.zone_escape.proofs.laws.new_sets_belong_to_new_cores.Goals as goal

pub returns : goal.returns
returns c = new_belongs
