use Rattle.zone_model.proofs.PartSteps.{parts_law}
use Rattle.zone_model.proofs.SoundLaws.{own_part, others_parts}
use Rattle.zone_model.proofs.laws.parts.parts_are_told_by_entries.Goals as goal

pub returns-clause-history : goal.returns-clause-history
returns-clause-history c = parts_law

pub returns-clause-own : goal.returns-clause-own
returns-clause-own c = own_part

pub returns-clause-others : goal.returns-clause-others
returns-clause-others c = others_parts
