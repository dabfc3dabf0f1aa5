use Rattle.std.proofs.Common.{Some, ap, ◌+◌, ◌∙◌, arith}
use Rattle.retain_table.specs.Counted.{count_of}
use Rattle.zone_model.specs.Holds.{one_if}
use Rattle.local_set.proofs.Counting.{count_fallen, count_bounded}
use Rattle.local_set.proofs.references.References.lower.Goals as goal

pub returns-clause-counts : goal.returns-clause-counts
returns-clause-counts c = λ q. rw (c.in-Some.is) (ap (λ m. count_of m q + one_if q (Some c.in-Some.id)) c.in-Ok.ensures.counts ∙ count_fallen c.args.self.now.counts.counts c.in-Some.id _ q c.in-Ok.ensures.answer)

pub returns-clause-bounded : goal.returns-clause-bounded
returns-clause-bounded c = λ q. rw (c.in-Ok.ensures.counts) (count_bounded c.args.self.now.counts.counts c.in-Some.id _ 131073 (let b = c.requires.bounded c.in-Some.id in omega (arith, b, c.in-Ok.ensures.answer)) c.requires.bounded q)
