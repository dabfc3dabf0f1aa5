use Rattle.std.proofs.lemmas.Result.{IfOk-weaker}
use Rattle.local_set.specs.contracts.local.Local.{the_view}
use Rattle.local_set.proofs.Collecting.{dead_listed}
use Rattle.local_set.proofs.local.Local.dead.Goals as goal

pub returns : goal.returns
returns c = rw (← c.self.view_is) (IfOk-weaker c.ids_but.result _ _ (λ ids lists. dead_listed (the_view c.self.inside) c.in_ok-found.found.keys ids.list c.in_ok-found.ensures lists) c.ids_but.ensures)
