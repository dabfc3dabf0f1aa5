use Rattle.std.proofs.Common.{◌∙◌, List, Option, None, ap, get_or}
use Rattle.block_layouts.specs.declared.layout.Layout.{Layout}
use Rattle.quantum_space.proofs.Placing.{region_none, no_layouts}
use Rattle.quantum_space.proofs.region.Region.new.Goals as goal

pub invariant_of-result : goal.invariant_of-result
invariant_of-result c = rw (c.new-2.ensures.items, c.new-3.ensures.items, c.new-4.ensures.items) (region_none c.new.result c.args.size c.args.width c.requires.large c.requires.wide c.new.ensures.size c.new.ensures.subzones c.new.ensures.bytes)

pub returns-clause-none : goal.returns-clause-none
returns-clause-none c = λ at. ap (λ (xs : List (Option Layout)). get_or xs at None) c.new-3.ensures.items ∙ no_layouts at
