use Rattle.std.proofs.Common.{◌≡◌, take}
use Rattle.std.specs.Map.{keys_of, values_of}
use Rattle.escape_plan.proofs.preparing.Lengths.of.Given as goal

abbrev pub invariant-loop-block : goal.invariant-loop-block
invariant-loop-block l = record {
  ids : l.ids.items ≡ keys_of (take l.block-index l.blocks);
  lengths : l.lengths.items ≡ values_of (take l.block-index l.blocks);
}
