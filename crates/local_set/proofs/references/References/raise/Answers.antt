use Rattle.std.proofs.Common.{ap, ◌∙◌}
use Rattle.retain_table.specs.Counted.{count_of}
use Rattle.local_set.proofs.Counting.{count_risen, count_bounded}
use Rattle.local_set.proofs.references.References.raise.Goals as goal

pub returns-in-Ok-clause-ok : goal.returns-in-Ok-clause-ok
returns-in-Ok-clause-ok c = λ q. rw (c.in-Some.is) (ap (λ m. count_of m q) c.in-Ok.ensures.counts ∙ count_risen c.args.self.now.counts.counts c.in-Some.id _ q c.in-Ok.ensures.answer.0)

pub returns-in-Ok-clause-bounded : goal.returns-in-Ok-clause-bounded
returns-in-Ok-clause-bounded c = λ q. rw (c.in-Ok.ensures.counts) (count_bounded c.args.self.now.counts.counts c.in-Some.id _ 131073 c.in-Ok.ensures.answer.1 c.requires q)
