use Rattle.run_zone.specs.Works.{acts_of}
use Rattle.run_zone.proofs.Working.{left_or_stopped}
use Rattle.run_zone.proofs.lines.work.Goals as goal

pub returns-in-Ok : goal.returns-in-Ok
returns-in-Ok g c = left_or_stopped c.leave.result c.args.session.seat c.do_lines.new.session.seat c.args.session.local c.do_lines.new.session.local (acts_of c.args.lines.now) c.in-Ok.ensures.ok c.leave.ensures
