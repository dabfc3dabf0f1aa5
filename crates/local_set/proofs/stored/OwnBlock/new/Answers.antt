use Rattle.std.proofs.Common.{◌∙◌, sym, ap}
use Rattle.block_layouts.proofs.Fitting.{first_fits}
use Rattle.local_set.specs.WordReferences.{references_in}
use Rattle.local_set.proofs.Quantities.{first_references}
use Rattle.local_set.proofs.stored.OwnBlock.new.Goals as goal

pub invariant_of-result : goal.invariant_of-result
invariant_of-result c = (
  rw (c.in_ok-words.ensures, c.in_ok-layout.ensures) (first_fits c.args.layout.now),
  sym (ap references_in c.in_ok-words.ensures ∙ first_references c.args.layout.now),
)
