use Rattle.std.proofs.Common.{sym, ◌∙◌}
use Rattle.play_core.proofs.Stepping.{may_of}
use Rattle.play_core.proofs.world.World.may.Goals as goal

pub returns-then-not-has_ended : goal.returns-then-not-has_ended
returns-then-not-has_ended c =
    may_of c.args.self.now c.self.inside.core c.self.inside.locals.items c.self.view_is c.options-options.ensures.state c.args.thread c.in-Some.local.now c.in-Some.ensures (sym c.has_ended.ensures ∙ c.if-not-has_ended.true) c.args.call.now c.may.result c.may.ensures
