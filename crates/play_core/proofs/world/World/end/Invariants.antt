use Rattle.play_core.specs.Worlds.{IsQuiet}
use Rattle.play_core.proofs.Ending.{SoEnded}
use Rattle.play_core.proofs.world.World.end.Given as goal

abbrev pub invariant-loop-at : goal.invariant-loop-at
invariant-loop-at l = record {
  ended : SoEnded l.fn.self l.at l.self;
  quiet : IsQuiet l.self;
}
