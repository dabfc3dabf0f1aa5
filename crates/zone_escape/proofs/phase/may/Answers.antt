use Rattle.std.proofs.Common.{◌↔◌, IsTrue, Bool, subst, sym}
use Rattle.zone_model.specs.Phases.{May}
use Rattle.zone_escape.proofs.Phased.{may_right}
use Rattle.zone_escape.proofs.phase.may.Goals as goal

pub returns : goal.returns
returns c = λ z is.
    subst (λ (b : Bool). IsTrue b ↔ May z c.args.local.now.thread c.args.call.now) (sym c.may.ensures) (may_right z c.args.local.now.thread c.phase_of.result c.args.call.now (c.phase_of.ensures z is))
