use Rattle.std.proofs.Common.{ap, sym, ◌∙◌}
use Rattle.local_set.specs.LocalSets.{Table}
use Rattle.local_set.proofs.Sorting.{key_there, no_first_key}
use Rattle.local_set.proofs.blocks.Blocks.clear.Goals as goal

pub take-requires : goal.take-requires
take-requires c = key_there c.loop-id.self.list 0 c.in-Some.id (sym c.nth.ensures ∙ c.in-Some.is)

pub returns-clause-list : goal.returns-clause-list
returns-clause-list c = ap (λ (t : Table). t.list) c.self.view_is ∙ no_first_key c.loop-id.self.list (sym c.nth.ensures ∙ c.in_default.is)
