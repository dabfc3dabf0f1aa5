use Rattle.std.proofs.Common.{ap, ◌∙◌, sym, subst, arith}
use Rattle.retain_table.specs.Counted.{Counted, with_count, IsPositive}
use Rattle.retain_table.proofs.Counting.{counted-insert, positive-insert}
use Rattle.retain_table.proofs.counts.Counts.enter.Goals as goal

pub returns-clause-counts : goal.returns-clause-counts
returns-clause-counts c =
    counted-insert c.self.inside.counts.entries c.insert.new.self.entries c.args.id 1 c.in_ok-insert.ensures.updates.0
    ∙ ap (λ (v : Counted). with_count v.counts c.args.id 1) c.self.view_is

pub invariant_of-self-2 : goal.invariant_of-self-2
invariant_of-self-2 c = (
  subst IsPositive (sym (counted-insert c.self.inside.counts.entries c.insert.new.self.entries c.args.id 1 c.in_ok-insert.ensures.updates.0))
      (positive-insert _ c.args.id 1 (omega arith) c.self.invariant.0),
  let room = c.insert.ensures.spare in let was = c.self.invariant.1 in let left = c.saturating_sub-self-inside.ensures in omega (arith, room, was, left),
)
