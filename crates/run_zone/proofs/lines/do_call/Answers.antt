use Rattle.run_zone.proofs.Working.{stopped_local}
use Rattle.run_zone.proofs.lines.do_call.Goals as goal

pub returns-in-NoMemory-clause-err : goal.returns-in-NoMemory-clause-err
returns-in-NoMemory-clause-err g c = stopped_local c.args.session.now.seat c.locally.new.session.seat c.args.session.now.local c.locally.new.session.local c.args.call.now c.in-Err.refusal c.in-Err.ensures.err
