use Rattle.std.proofs.Common.{◌≡◌, ◌<◌, ◌≤◌, take, All}
use Rattle.zone_gate.specs.Owning.{most_threads}
use Rattle.zone_gate.proofs.gather.copied.Given as goal

abbrev pub invariant-loop-thread : goal.invariant-loop-thread
invariant-loop-thread l = (l.copy.items ≡ take l.thread-index l.threads) × All (λ t. (0 < t) × (t ≤ most_threads)) l.copy.items
