use Rattle.run_zone.proofs.Working.{on_err, lines_called, stopped_off}
use Rattle.run_zone.proofs.Dealt.{named_plain, named_stays}
use Rattle.run_zone.proofs.lines.shared.Goals as goal

pub returns-in_err-call-clause-err : goal.returns-in_err-call-clause-err
returns-in_err-call-clause-err g c = on_err c.from_residual.result (stopped_off c.args.session.now.seat c.call.new.self.seat c.args.session.now.local c.call.new.self.local c.call.ensures.place c.in_err-call.ensures.err)

pub returns-clause-ok : goal.returns-clause-ok
returns-clause-ok g c = lines_called c.args.session.now.seat c.call.new.self.seat c.args.session.now.local c.call.new.self.local c.args.call.now c.in_ok-call.field-0 c.call.ensures.place c.requires.shared c.in_ok-call.ensures.ok

pub call-requires-clause-kind : goal.call-requires-clause-kind
call-requires-clause-kind g c = named_plain c.args.call.now c.requires.named

pub call-requires-clause-stays : goal.call-requires-clause-stays
call-requires-clause-stays g c = named_stays c.args.call.now c.requires.named
