use Rattle.gen_marker.proofs.Stores.{store_shut}
use Rattle.gen_marker.proofs.laws.enlivened_stores_keep_the_tricolour_fact.Goals as goal

pub returns : goal.returns
returns c = store_shut
