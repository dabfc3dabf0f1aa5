use Rattle.std.proofs.Common.{ap, ◌∙◌, sym, subst, arith}
use Rattle.std.specs.FinMap as map
use Rattle.retain_table.specs.Counted.{Counted, IsPositive}
use Rattle.retain_table.proofs.Counting.{counted-remove, positive-remove}
use Rattle.retain_table.proofs.counts.Counts.lower.Goals as goal

pub returns-then-count-eq1-clause-counts : goal.returns-then-count-eq1-clause-counts
returns-then-count-eq1-clause-counts c =
    counted-remove c.self.inside.counts.entries c.swap_remove.new.self.entries c.args.id c.swap_remove.ensures.updates.0
    ∙ ap (λ (v : Counted). map.remove v.counts c.args.id) c.self.view_is

pub invariant_of-self : goal.invariant_of-self
invariant_of-self c = (
  subst IsPositive (sym (counted-remove c.self.inside.counts.entries c.swap_remove.new.self.entries c.args.id c.swap_remove.ensures.updates.0))
      (positive-remove _ c.args.id c.self.invariant.0),
  let room = c.swap_remove.ensures.room.0 in let was = c.self.invariant.1 in omega (arith, room, was),
)
