use Rattle.std.proofs.Common.{◌≡◌, ◌-◌, filter}
use Rattle.std.specs.List.{range_with_len}
use Rattle.zone_history.specs.Histories.{is_asked}
use Rattle.play_core.specs.Playing.{requests}
use Rattle.play_core.proofs.playing.threads_of.Given as goal

abbrev pub invariant-loop-n : goal.invariant-loop-n
invariant-loop-n l = l.threads.items ≡ filter (is_asked (requests l.lines)) (range_with_len 1 (l.n - 1))
