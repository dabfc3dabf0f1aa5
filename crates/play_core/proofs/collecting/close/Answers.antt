use Rattle.play_core.proofs.Collections.{closed}
use Rattle.play_core.proofs.collecting.close.Goals as goal

pub returns : goal.returns
returns c = (c.in-Ok.field-0, closed c.args.world.now c.step.new.self c.args.thread c.args.call.now c.in-Ok.field-0 c.requires.closing c.requires.out c.in-Ok.ensures.ok c.in-Ok.ensures.threads)
