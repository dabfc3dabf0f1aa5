use Rattle.std.proofs.Common.{subst, ap, ◌∙◌}
use Rattle.std.specs.FinMap.{len}
use Rattle.retain_table.specs.Counted.{Counted, IsOrder}
use Rattle.retain_table.proofs.Counting.{counted-order, counted-len}
use Rattle.retain_table.proofs.counts.Counts.len.Goals as goal

pub returns-clause-order : goal.returns-clause-order
returns-clause-order c = subst (λ (v : Counted). IsOrder v.counts v.order) c.self.view_is (counted-order c.self.inside.counts.entries c.len.ensures.unique)

pub returns-clause-value : goal.returns-clause-value
returns-clause-value c = c.len.ensures.len ∙ counted-len c.self.inside.counts.entries c.len.ensures.unique ∙ ap (λ (v : Counted). len v.counts) c.self.view_is
