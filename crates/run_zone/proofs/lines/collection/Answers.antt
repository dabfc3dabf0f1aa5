use Rattle.run_zone.proofs.Working.{on_err, stopped_off}
use Rattle.run_zone.proofs.Collecting.{lines_collected}
use Rattle.run_zone.proofs.lines.collection.Goals as goal

pub returns-in_err-collect-clause-err : goal.returns-in_err-collect-clause-err
returns-in_err-collect-clause-err g c = on_err c.from_residual.result (stopped_off c.args.session.now.seat c.collect.new.self.seat c.args.session.now.local c.collect.new.self.local c.collect.ensures.place c.in_err-collect.ensures.err)

pub returns-clause-ok : goal.returns-clause-ok
returns-clause-ok g c = lines_collected c.args.session.now.seat c.collect.new.self.seat c.args.session.now.local c.collect.new.self.local c.args.mode 256 c.in_ok-collect.field-0 c.collect.ensures.place c.in_ok-collect.ensures.ok
