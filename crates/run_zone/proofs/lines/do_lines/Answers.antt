use Rattle.std.proofs.Common.{[], ◌∷◌, subst, take, drop}
use Rattle.run_zone.specs.Works.{acts_of, Lines}
use Rattle.run_zone.proofs.Working.{on_err, lines_on, stopped_on, acts_one, acts_split}
use Rattle.run_zone.proofs.lines.do_lines.Goals as goal

pub returns-in_err-do_line-clause-err : goal.returns-in_err-do_line-clause-err
returns-in_err-do_line-clause-err g c = on_err c.from_residual.result
    (stopped_on c.args.session.now.seat c.loop-line.session.seat c.do_line.new.session.seat c.args.session.now.local c.loop-line.session.local c.do_line.new.session.local (acts_of (take c.loop-line.line-index c.args.lines.now)) (acts_of (drop c.loop-line.line-index c.args.lines.now)) (acts_of c.args.lines.now)
    c.loop-line.invariant c.in_err-do_line.ensures.err (acts_split c.args.lines.now c.loop-line.line-index))

pub loop-line-preserved : goal.loop-line-preserved
loop-line-preserved g c =
    subst (Lines c.args.session.now.seat c.do_line.new.session.seat c.args.session.now.local c.do_line.new.session.local) (acts_one c.args.lines.now c.loop-line.line-index c.line-item.result c.loop-line-test.true c.line-item.is)
    (lines_on c.args.session.now.seat c.loop-line.session.seat c.do_line.new.session.seat c.args.session.now.local c.loop-line.session.local c.do_line.new.session.local (acts_of (take c.loop-line.line-index c.args.lines.now)) (c.line-item.result.act ∷ [])
    c.loop-line.invariant c.in_ok-do_line.ensures.ok)
