use Rattle.std.proofs.Common.{◌≡◌, not, take}
use Rattle.std.specs.FinMap.{retain_keys}
use Rattle.az_base.specs.Ids.{among}
use Rattle.heap_cycle.proofs.reclaiming.take_out.Given as goal

abbrev pub invariant-loop-id : goal.invariant-loop-id
invariant-loop-id l = record {
  pairs : l.tables.assocs.pairs ≡ retain_keys l.fn.tables.assocs.pairs (λ p. not (among (take l.id-index l.gone) p.0));
  others : l.tables ≡ record l.fn.tables { assocs = l.tables.assocs };
}
