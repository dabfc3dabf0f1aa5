use Rattle.std.proofs.Common.{◌≡◌, ◌≤◌, not, take}
use Rattle.std.specs.FinMap.{retain_keys}
use Rattle.az_base.specs.Ids.{among}
use Rattle.local_set.specs.LocalSets.{blocks_of}
use Rattle.local_set.proofs.Quantities.{quanta_in}
use Rattle.local_set.proofs.blocks.Blocks.remove_all.Given as goal

abbrev pub invariant-loop-id : goal.invariant-loop-id
invariant-loop-id l = record {
  blocks : blocks_of l.self.list ≡ retain_keys (blocks_of l.fn.self.list) (λ q. not (among (take l.id-index l.gone) q));
  less : quanta_in (blocks_of l.self.list) ≤ quanta_in (blocks_of l.fn.self.list);
  changed : l.self.changed ≡ l.fn.self.changed;
}
