use Rattle.std.proofs.Common.{ap, sym, ◌∙◌}
use Rattle.std.specs.Option.{unwrap_or}
use Rattle.retain_table.specs.Counted.{count_of}
use Rattle.retain_table.proofs.Counting.{counted-get}
use Rattle.retain_table.proofs.counts.Counts.count.Goals as goal

pub returns-clause-value : goal.returns-clause-value
returns-clause-value c =
    c.unwrap_or.ensures ∙ ap (λ o. unwrap_or o 0) (c.copied.ensures ∙ c.get.ensures.value ∙ sym (counted-get c.self.inside.counts.entries c.args.id))
    ∙ ap (λ v. count_of v.counts c.args.id) c.self.view_is
