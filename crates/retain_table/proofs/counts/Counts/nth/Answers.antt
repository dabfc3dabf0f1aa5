use Rattle.std.proofs.Common.{ap, ◌∙◌, slice_get}
use Rattle.retain_table.specs.Counted.{Counted}
use Rattle.retain_table.proofs.Counting.{none_there}
use Rattle.retain_table.proofs.counts.Counts.nth.Goals as goal

pub returns-in-None : goal.returns-in-None
returns-in-None c = none_there c.self.inside.counts.entries c.args.n c.in-None.ensures.entry ∙ ap (λ (v : Counted). slice_get v.order c.args.n) c.self.view_is
