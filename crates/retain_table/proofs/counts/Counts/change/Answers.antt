use Rattle.std.proofs.Common.{ap, ◌∙◌, sym, subst, is_some, arith}
use Rattle.retain_table.specs.Counted.{Counted, with_count, IsPositive}
use Rattle.retain_table.proofs.Counting.{counted-insert, positive-insert, never_absent, with_positive}
use Rattle.retain_table.proofs.counts.Counts.change.Goals as goal

pub unreachable-requires : goal.unreachable-requires
unreachable-requires c = never_absent c.self.inside.counts.entries c.args.id c.args.self.now.counts (ap (λ (v : Counted). v.counts) c.self.view_is) c.requires.counted (sym c.in_default.ensures.value)

pub returns-clause-counts : goal.returns-clause-counts
returns-clause-counts c =
    counted-insert c.self.inside.counts.entries _ c.args.id c.args.count ((c.get_mut.follows.holds _).3 (ap is_some (sym c.in-Some.ensures.value))).0
    ∙ with_positive _ c.args.id c.args.count c.requires.positive
    ∙ ap (λ (v : Counted). with_count v.counts c.args.id c.args.count) c.self.view_is

pub invariant_of-self : goal.invariant_of-self
invariant_of-self c = (
  subst IsPositive (sym (counted-insert c.self.inside.counts.entries _ c.args.id c.args.count ((c.get_mut.follows.holds _).3 (ap is_some (sym c.in-Some.ensures.value))).0))
      (positive-insert _ c.args.id c.args.count c.requires.positive c.self.invariant.0),
  let same = (c.get_mut.follows.holds c.args.count).6 in let was = c.self.invariant.1 in omega (arith, same, was),
)
