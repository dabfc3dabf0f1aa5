use Rattle.std.proofs.Common.{List, IsTrue, subst}
use Rattle.az_base.specs.declared.block_id.BlockId.{BlockId}
use Rattle.az_base.specs.Ids.{among}
use Rattle.zone_model.specs.Collection.{Lists}
use Rattle.finalise_pass.specs.Kept.{IsKeptIn}
use Rattle.finalise_pass.proofs.Keeping.{all_inside, kept_lists_alike, gone_lists_alike}
use Rattle.finalise_pass.proofs.laws.settled_lists_are_those_of_the_definitions.Goals as goal

pub returns : goal.returns
returns c = λ z s r kept gone shows k g.
    let same = all_inside s r shows.within in (
      kept_lists_alike z s r shows kept (subst (λ (xs : List BlockId). Lists kept (λ b. IsTrue (among xs b) × IsKeptIn s xs b)) same k),
      gone_lists_alike z s r shows gone (subst (λ (xs : List BlockId). Lists gone (λ b. IsTrue (among xs b) × (¬ IsKeptIn s xs b))) same g),
    )
