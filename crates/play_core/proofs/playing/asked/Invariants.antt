use Rattle.std.proofs.Common.{take}
use Rattle.play_core.specs.Playing.{AreAsked}
use Rattle.play_core.proofs.playing.asked.Given as goal

abbrev pub invariant-loop-line : goal.invariant-loop-line
invariant-loop-line l = AreAsked (take l.line-index l.lines) l.asked
