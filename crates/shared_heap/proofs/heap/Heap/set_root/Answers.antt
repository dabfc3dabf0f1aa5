use Rattle.std.proofs.Common.{◌∙◌, ap, sym, subst, arith, List, Option, [], slice_set}
use Rattle.az_base.specs.declared.block_id.BlockId.{BlockId}
use Rattle.heap_cycle.specs.Livening.{Livens, of_option}
use Rattle.shared_heap.specs.Shared.{Shared}
use Rattle.shared_heap.specs.contracts.heap.Heap.{the_view}
use Rattle.shared_heap.proofs.Collecting.{with_own_gc}
use Rattle.shared_heap.proofs.Stepping.{set_root_step}
use Rattle.shared_heap.proofs.heap.Heap.set_root.Goals as goal

pub returns-clause-step : goal.returns-clause-step
returns-clause-step c = λ z from runs sound holds.
    set_root_step c.args.self.now _ z c.args.t from c.args.root.0 c.args.value runs sound c.requires.escaped c.tell.ensures.fits (rw (← c.self.view_is) c.as_slice-roots.ensures.count) (omega arith) holds
    (with_own_gc _ _
    (ap (λ (roots : List (Option BlockId)). let h : Shared = record (the_view c.self-2.inside) { roots = roots } in h) c.set.ensures.value
    ∙ ap (λ (k : Shared). let h : Shared = record k { roots = slice_set k.roots c.args.root.0 c.args.value } in h) (c.self-2.view_is ∙ c.tell.ensures.value)))
    (subst (λ g. Livens c.args.self.now.gc g (of_option c.args.value) []) (sym (ap (λ (k : Shared). k.gc) c.self-2.view_is)) c.tell.ensures.livens)
