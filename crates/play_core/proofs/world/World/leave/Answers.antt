use Rattle.std.proofs.Common.{refl, sym, ◌∙◌}
use Rattle.zone_model.specs.declared.call.Call.TheVariants as call
use Rattle.play_core.proofs.Cycles.{quiet_free, quiet_still, plain_leaves}
use Rattle.play_core.proofs.Ending.{leave_turns}
use Rattle.play_core.proofs.world.World.leave.Goals as goal

pub step-requires-clause-may : goal.step-requires-clause-may
step-requires-clause-may c = quiet_free c.args.self.now c.args.thread c.requires.quiet

pub returns-in_ok-step-clause-quiet : goal.returns-in_ok-step-clause-quiet
returns-in_ok-step-clause-quiet c = quiet_still c.args.self.now c.step.new.self (c.in_ok-step.ensures.cycle (plain_leaves call.Leave c.in_ok-step.field-0 refl)) c.requires.quiet

pub returns-in_ok-step-clause-ok : goal.returns-in_ok-step-clause-ok
returns-in_ok-step-clause-ok c =
    leave_turns c.args.self.now c.step.new.self c.args.thread c.in_ok-step.field-0 (sym c.is_running.ensures ∙ c.if-is_running.true) c.in_ok-step.ensures.told c.in_ok-step.ensures.ok
