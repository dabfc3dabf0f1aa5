use Rattle.std.proofs.Common.{take}
use Rattle.run_zone.specs.Works.{acts_of, Lines}
use Rattle.run_zone.proofs.lines.do_lines.Given as goal

abbrev pub invariant-loop-line : goal.invariant-loop-line
invariant-loop-line g l = Lines l.initial.session.seat l.session.seat l.initial.session.local l.session.local (acts_of (take l.line-index l.lines))
