use Rattle.run_zone.proofs.Working.{lines_local}
use Rattle.run_zone.proofs.lines.locally.Goals as goal

pub returns-clause-ok : goal.returns-clause-ok
returns-clause-ok c = lines_local c.args.session.now.seat c.local.new.self.seat c.args.session.now.local c.local.new.self.local c.args.call.now c.in_ok-local.field-0 c.local.ensures.seat c.in_ok-local.ensures.answers
