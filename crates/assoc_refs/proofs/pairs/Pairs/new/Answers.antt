use Rattle.assoc_refs.proofs.Places.{map-none}
use Rattle.assoc_refs.proofs.pairs.Pairs.new.Goals as goal

pub returns : goal.returns
returns c = map-none c.new.result.items c.new.ensures.items
