use Rattle.std.proofs.Common.{◌≡◌, take, not}
use Rattle.std.specs.FinMap.{get, retain_keys}
use Rattle.weak_table.specs.Shows.{shows_one}
use Rattle.weak_table.proofs.weak.Weak.condemn.Given as goal

abbrev pub invariant-loop-id : goal.invariant-loop-id
invariant-loop-id l = l.self.shown ≡ retain_keys l.fn.self.shown (λ q. not (shows_one (take l.id-index l.ids) (get l.fn.self.shown q)))
