use Rattle.shared_heap.proofs.Retained.{release_any}
use Rattle.shared_heap.proofs.heap.Heap.release.Goals as goal

pub returns-clause-step : goal.returns-clause-step
returns-clause-step c = λ z reg runs holds.
    release_any c.args.self.now c.lower_count.new.self z c.args.t reg runs c.args.id c.lower_count.result holds c.lower_count.ensures.reply c.lower_count.ensures.value
