use Rattle.std.proofs.Common.{◌≡◌, count_by, take}
use Rattle.heap_cycle.specs.Waiting.{awaits_in}
use Rattle.heap_cycle.proofs.condemning.waiting_among.Given as goal

abbrev pub invariant-loop-id : goal.invariant-loop-id
invariant-loop-id l = l.waiting ≡ count_by (awaits_in l.tables.blocks.blocks) (take l.id-index l.ids)
