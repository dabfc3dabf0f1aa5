use Rattle.std.proofs.Common.{◌≡◌, All, take}
use Rattle.play_order.specs.Play.{IsProper}
use Rattle.play_order.specs.Playing.{SoFar}
use Rattle.play_core.specs.Playing.{CanPlay, requests}
use Rattle.play_core.specs.Worlds.{seen}
use Rattle.play_core.proofs.playing.play_lines.Given as goal

abbrev pub invariant-loop-line : goal.invariant-loop-line
invariant-loop-line l = record {
  so_far : SoFar (requests (take l.line-index l.lines)) (seen l.world);
  proper : All IsProper (requests (take l.line-index l.lines));
  running : CanPlay l.world (requests l.lines);
  options : l.world.options ≡ l.fn.world.options;
}
