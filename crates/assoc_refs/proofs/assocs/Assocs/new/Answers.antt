use Rattle.std.proofs.Common.{ap, ◌∙◌, sym}
use Rattle.std.specs.FinMap.{len, len-empty}
use Rattle.az_base.specs.declared.block_id.BlockId.{BlockId}
use Rattle.az_base.specs.Places.{pair_cmp}
use Rattle.assoc_refs.proofs.Flat.{no-pairs}
use Rattle.assoc_refs.proofs.assocs.Assocs.new.Goals as goal

pub invariant_of-result : goal.invariant_of-result
invariant_of-result c = record {
  once = c.new.ensures.unique;
  total = sym (ap len (no-pairs c.new.result.entries c.new.ensures.empty) ∙ len-empty pair_cmp BlockId);
  blank = c.new-2.ensures;
  room = λ object e. cc;
  met = λ object v e. c.new-3.ensures object;
}
