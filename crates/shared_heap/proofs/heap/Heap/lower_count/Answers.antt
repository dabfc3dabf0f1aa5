use Rattle.std.proofs.Common.{refl}
use Rattle.heap_cycle.proofs.Alike.{alike_collects}
use Rattle.shared_heap.proofs.Retained.{below_lowered}
use Rattle.shared_heap.proofs.heap.Heap.lower_count.Goals as goal

pub invariant_of-self : goal.invariant_of-self
invariant_of-self c = let i = c.self.invariant in record {
  fits = i.fits;
  unfinalised = i.unfinalised;
  some_wait = i.some_wait;
  collects = alike_collects c.self.inside.tables _ c.self.inside.open_cycle refl refl refl i.collects;
  counts = below_lowered c.lower.result c.self.inside.tables.counts c.lower.new.self c.in-Some.id c.self.inside.options.counts c.lower.ensures.answer c.lower.ensures.counts c.lower.ensures.err i.counts;
}
