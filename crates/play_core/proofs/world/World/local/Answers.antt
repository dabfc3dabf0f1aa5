use Rattle.std.proofs.Common.{sym, ap, ◌∙◌, position}
use Rattle.play_core.proofs.Sets.{is_of, not_placed}
use Rattle.play_core.proofs.Stepping.{at_call}
use Rattle.play_core.proofs.world.World.local.Goals as goal

pub returns-in_err-at : goal.returns-in_err-at
returns-in_err-at c = rw (c.from_residual.ensures, ← c.self.view_is) (not_placed c.args.thread c.self.inside.locals.items (ap (position (is_of c.args.thread)) (sym c.deref.ensures.value) ∙ sym c.place_of.ensures ∙ c.in_err-at.was))

pub returns : goal.returns
returns c =
    rw (← c.self.view_is) (at_call c.self.inside.core c.self.inside.locals.items c.deref.result.now c.args.thread c.in_ok-at.at c.index.result.now c.place_of.result c.deref.ensures.value c.place_of.ensures c.in_ok-at.was c.index.ensures).found
