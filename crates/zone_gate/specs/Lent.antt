-- What a `Held` is once its value was lent
use Rattle.std.specs.Borrow.{Lends, Fml, RattleType, MutBor}
use Rattle.zone_gate.specs.Shown.{HeldShown}
use Rattle.zone_gate.specs.declared.kept.Kept.{Ghosts}
use Rattle.zone_gate.specs.contracts.held.Held.{the_row}

-- once the borrow r ends, the held value is the last one behind r
abbrev pub lends_value : (V : RattleType) → Ghosts V.Denot → MutBor (HeldShown V.Denot) → MutBor V.Denot → Fml
lends_value V kept h r = Lends (the_row V kept) V h r (λ w. record h.now { value = w })
