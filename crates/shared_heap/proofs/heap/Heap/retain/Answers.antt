use Rattle.shared_heap.proofs.Results.{both_ok}
use Rattle.shared_heap.proofs.Retained.{retain_any}
use Rattle.shared_heap.proofs.heap.Heap.retain.Goals as goal

pub returns-clause-step : goal.returns-clause-step
returns-clause-step c = both_ok c.raise_count.result (λ r says is z reg runs sound holds.
    retain_any c.args.self.now c.raise_count.new.self z c.args.t reg runs sound c.raise_count.ensures.fits c.args.id c.raise_count.new.self.ready.counts r c.requires.given holds says is) c.raise_count.ensures.reply c.raise_count.ensures.value
