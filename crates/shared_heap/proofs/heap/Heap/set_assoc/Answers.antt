use Rattle.std.proofs.Common.{◌≡◌, ◌∙◌, ap, sym, subst, Some, IfSome, IsSome}
use Rattle.std.specs.FinMap.{FinMap, get}
use Rattle.az_base.specs.declared.block_id.BlockId.{BlockId}
use Rattle.az_base.specs.Places.{pair_cmp}
use Rattle.quantum_space.specs.Shapes.{Has}
use Rattle.heap_tables.specs.declared.tables.Tables.{Tables}
use Rattle.heap_cycle.specs.Collects.{collector_of}
use Rattle.heap_cycle.specs.Livening.{Livens, of_option}
use Rattle.shared_heap.specs.Assocs.{associated}
use Rattle.shared_heap.specs.Shared.{Shared, with_gc}
use Rattle.shared_heap.specs.contracts.heap.Heap.{the_view}
use Rattle.shared_heap.proofs.Assocs.{set_null, set_step}
use Rattle.shared_heap.proofs.Collecting.{with_own_gc}
use Rattle.shared_heap.proofs.Told.{associated_heap, associated_shown, just_told}
use Rattle.shared_heap.proofs.heap.Heap.set_assoc.Goals as goal

pub invariant_of-self-2 : goal.invariant_of-self-2
invariant_of-self-2 c =
    let t = c.self.inside.tables in
    let u = c.tell_store.new.tables in
    let o = c.tell_store.new.cycle in
    let same = c.tell_store.ensures.same in
    let there : IsSome (get t.blocks.blocks c.in-Some.object) = subst (λ v. IfSome v (λ b. IsSome (get t.blocks.blocks b))) c.in-Some.is (rw (← c.self.view_is) at c.requires.given) in
    let listed : Has u.blocks.order c.in-Some.object = subst (λ l. Has l c.in-Some.object) (sym (ap (λ (x : Tables). x.blocks.order) same)) ((c.are_tables.ensures.blocks.order c.in-Some.object).1 there) in
    associated_heap c.self.inside u o c.set.new.self c.in-Some.object c.args.key.0 c.args.value c.in-Ok.ensures.pairs c.self.invariant (ap (λ (x : Tables). x.blocks.blocks) same) (ap (λ (x : Tables). x.counts.counts) same) c.tell_store.ensures.collects listed
    (just_told u o c.in-Some.object c.args.value c.tell_store.ensures.live c.tell_store.ensures.watched)

pub returns-in_default-clause-step : goal.returns-in_default-clause-step
returns-in_default-clause-step c = λ z reg from runs sound holds has_value.
    set_null c.args.self.now z c.args.t reg from c.args.key c.args.object c.args.value runs sound c.requires.given c.requires.escaped holds has_value c.in_default.is

pub returns-clause-step : goal.returns-clause-step
returns-clause-step c = λ z reg from runs sound holds has_value.
    let h = c.self.inside in
    let u = c.tell_store.new.tables in
    let o = c.tell_store.new.cycle in
    let same = c.tell_store.ensures.same in
    let gc = collector_of (record u { assocs = c.set.new.self }) o in
    let pairs : u.assocs.pairs ≡ h.tables.assocs.pairs = ap (λ (x : Tables). x.assocs.pairs) same ∙ c.reserve_value.ensures.pairs in
    set_step c.args.self.now z c.args.t reg from c.args.key c.args.object c.args.value runs sound c.requires.given c.requires.escaped holds has_value _ c.in-Some.object c.in-Ok.before
    (rw (← c.self.view_is) c.self.invariant.fits)
    c.in-Some.is
    (c.in-Ok.ensures.before ∙ ap (λ (m : FinMap pair_cmp BlockId). get m (c.in-Some.object, c.args.key.0)) pairs ∙ ap (λ (h : Shared). get h.assocs (c.in-Some.object, c.args.key.0)) c.self.view_is)
    (with_own_gc _ _
    (associated_shown h u o c.set.new.self c.in-Some.object c.args.key.0 c.args.value c.in-Ok.ensures.pairs h.options h.weak.shown h.weak.ready h.tables gc (the_view h).gc c.in-Ok.ensures.ready (ap (λ (x : Tables). let y : Tables = record x { blocks = u.blocks; cards = u.cards; assocs = u.assocs } in y) same) (ap (λ (x : Tables). x.blocks) same) pairs
    ∙ ap (λ (k : Shared). with_gc (associated k (Some c.in-Some.object) c.args.key.0 c.args.value) gc) c.self.view_is))
    (subst (λ (k : Shared). Livens k.gc gc (of_option c.args.value) (of_option c.args.object)) c.self.view_is
    (subst (λ a. Livens (the_view h).gc gc (of_option c.args.value) (of_option a)) (sym c.in-Some.is) c.tell_store.ensures.livens))
