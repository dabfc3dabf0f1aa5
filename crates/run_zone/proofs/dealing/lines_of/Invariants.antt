use Rattle.std.proofs.Common.{◌≡◌, ◌==◌, filter, take}
use Rattle.run_zone.proofs.dealing.lines_of.Given as goal

abbrev pub invariant-loop-line : goal.invariant-loop-line
invariant-loop-line l = l.own.items ≡ filter (λ line. line.thread == l.thread) (take l.line-index l.lines)
