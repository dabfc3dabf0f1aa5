use Rattle.std.proofs.Common.{◌≡◌}
use Rattle.std.specs.FinMap.{get, len}
use Rattle.weak_table.specs.Shows.{shows}
use Rattle.weak_table.proofs.Showing.{Dropped}
use Rattle.weak_table.proofs.weak.Weak.turn_null.Given as goal

abbrev pub invariant-loop-loc : goal.invariant-loop-loc
invariant-loop-loc l = record {
  dropped : Dropped (λ q. shows l.id (get l.fn.self.shown q)) l.fn.self.shown l.self.shown;
  ready : l.self.ready ≡ l.fn.self.ready;
}

abbrev pub decreases-loop-loc : goal.decreases-loop-loc
decreases-loop-loc l = len l.self.shown
