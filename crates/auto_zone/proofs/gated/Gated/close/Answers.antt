use Rattle.local_set.specs.LocalSets.{part_in}
use Rattle.auto_zone.proofs.Closing.{closing_shared}
use Rattle.auto_zone.proofs.CoreStates.{is_core_of}
use Rattle.auto_zone.proofs.gated.Gated.close.Goals as goal

pub step-requires-clause-shared : goal.step-requires-clause-shared
step-requires-clause-shared c = closing_shared c.args.call.now (part_in c.args.local.now) c.requires.kind

pub returns-clause-left : goal.returns-clause-left
returns-clause-left c = λ z ends. c.to_finalise-left.ensures.left z (is_core_of c.step.new.core c.to_finalise-left.ensures.state z ends)
