use Rattle.std.proofs.Common.{refl}
use Rattle.heap_cycle.proofs.Alike.{alike_collects}
use Rattle.shared_heap.proofs.Retained.{below_raised}
use Rattle.shared_heap.proofs.heap.Heap.raise_count.Goals as goal

pub invariant_of-self : goal.invariant_of-self
invariant_of-self c = let i = c.self.invariant in record {
  fits = i.fits;
  unfinalised = i.unfinalised;
  some_wait = i.some_wait;
  collects = alike_collects c.self.inside.tables _ c.self.inside.open_cycle refl refl refl i.collects;
  counts = below_raised c.raise.result c.self.inside.tables.counts c.raise.new.self c.in-Some.id c.self.inside.options.counts c.raise.ensures.answer c.raise.ensures.counts c.raise.ensures.err i.counts;
}
