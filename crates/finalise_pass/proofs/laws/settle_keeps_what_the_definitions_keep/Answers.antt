use Rattle.finalise_pass.proofs.Keeping.{kept_alike}
use Rattle.finalise_pass.proofs.laws.settle_keeps_what_the_definitions_keep.Goals as goal

pub returns : goal.returns
returns c = λ z s r shows b t. kept_alike z s r shows b t
