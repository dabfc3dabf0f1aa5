use Rattle.std.proofs.Common.{◌≡◌, ◌∙◌, ap, refl, sym, subst, Some, IfSome, IsSome}
use Rattle.std.specs.FinMap.{get}
use Rattle.az_base.specs.declared.block_id.BlockId.{BlockId}
use Rattle.az_base.specs.declared.word.Word.{Word}
use Rattle.block_table.specs.Places.{in_word}
use Rattle.quantum_space.specs.Shapes.{Has}
use Rattle.zone_model.specs.State.{reference}
use Rattle.zone_model.specs.declared.entry.Reply.TheVariants as reply
use Rattle.heap_tables.specs.declared.tables.Tables.{Tables}
use Rattle.heap_cycle.specs.Barriers.{IsLive, IsWatched}
use Rattle.heap_cycle.specs.Collects.{collector_of}
use Rattle.heap_cycle.specs.Livening.{Livens, of_option}
use Rattle.shared_heap.specs.Shared.{Shared, with_gc, written}
use Rattle.shared_heap.specs.Words.{reply_or}
use Rattle.shared_heap.specs.contracts.heap.Heap.{the_view}
use Rattle.shared_heap.proofs.Collecting.{with_own_gc}
use Rattle.shared_heap.proofs.Stepping.{store_any}
use Rattle.shared_heap.proofs.Told.{value_told, written_gc, written_heap, written_shown}
use Rattle.shared_heap.proofs.heap.Heap.store.Goals as goal

pub tell_store-requires-clause-there : goal.tell_store-requires-clause-there
tell_store-requires-clause-there c =
    let t = c.self.inside.tables in
    (c.are_tables.ensures.blocks.order c.in-Ok.id).1 (subst (λ v. IfSome v (λ b. IsSome (get t.blocks.blocks b))) c.in-Ok.ensures.0 (rw (← c.self.view_is) at c.requires.given))

pub invariant_of-self : goal.invariant_of-self
invariant_of-self c =
    let t = c.self.inside.tables in
    let u = c.tell_store.new.tables in
    let o = c.tell_store.new.cycle in
    let same = c.tell_store.ensures.same in
    let there : IsSome (get t.blocks.blocks c.in-Ok.id) = subst (λ v. IfSome v (λ b. IsSome (get t.blocks.blocks b))) c.in-Ok.ensures.0 (rw (← c.self.view_is) at c.requires.given) in
    let listed : Has u.blocks.order c.in-Ok.id = subst (λ l. Has l c.in-Ok.id) (sym (ap (λ (x : Tables). x.blocks.order) same)) ((c.are_tables.ensures.blocks.order c.in-Ok.id).1 there) in
    written_heap c.self.inside u o c.set_word.new.self c.in-Ok.id c.args.at c.reference.result c.set_word.ensures c.self.invariant (ap (λ (x : Tables). x.blocks.blocks) same) (ap (λ (x : Tables). x.counts.counts) same) c.tell_store.ensures.collects listed
    (subst (λ w. (b : BlockId) → in_word w ≡ Some b → IsLive u o b × IsWatched u o c.in-Ok.id b) (sym c.reference.ensures) (value_told u o c.in-Ok.id c.args.value c.tell_store.ensures.live c.tell_store.ensures.watched))

pub returns-in-Err-clause-step : goal.returns-in-Err-clause-step
returns-in-Err-clause-step c = λ z reg from runs sound holds has_value.
    store_any c.args.self.now c.args.self.now z c.args.t reg from c.args.at c.args.into c.args.value runs sound c.requires.given c.requires.escaped (rw (← c.self.view_is) c.self.invariant.fits) holds has_value (reply.Misuse c.in-Err.misuse) (ap (λ m. reply_or m reply.Done) (sym c.in-Err.ensures)) refl refl

pub returns-in-Ok-clause-step : goal.returns-in-Ok-clause-step
returns-in-Ok-clause-step c = λ z reg from runs sound holds has_value.
    let h = c.self.inside in
    let w = c.reference.result in
    let u = c.tell_store.new.tables in
    let o = c.tell_store.new.cycle in
    let gc = collector_of (record u { blocks = c.set_word.new.self }) o in
    store_any c.args.self.now _ z c.args.t reg from c.args.at c.args.into c.args.value runs sound c.requires.given c.requires.escaped (rw (← c.self.view_is) c.self.invariant.fits) holds has_value reply.Done (ap (λ m. reply_or m reply.Done) (sym c.in-Ok.ensures.2))
    (with_own_gc _ _
    (written_shown h u o c.set_word.new.self c.in-Ok.id c.args.at w c.set_word.ensures h.options h.weak.shown h.weak.ready h.tables gc (the_view h).gc c.tell_store.ensures.same
    ∙ ap (λ (x : Word). with_gc (written (the_view h) (Some c.in-Ok.id) c.args.at x) gc) c.reference.ensures
    ∙ ap (λ a. with_gc (written (the_view h) a c.args.at (reference c.args.value)) gc) (sym c.in-Ok.ensures.0)
    ∙ ap (λ k. with_gc (written k c.args.into c.args.at (reference c.args.value)) gc) c.self.view_is))
    (subst (λ (k : Shared). Livens k.gc gc (of_option c.args.value) (of_option c.args.into)) c.self.view_is
    (subst (λ g. Livens (the_view h).gc g (of_option c.args.value) (of_option c.args.into)) (sym (written_gc h u o c.set_word.new.self c.in-Ok.id c.args.at w c.set_word.ensures))
    (subst (λ a. Livens (the_view h).gc (collector_of u o) (of_option c.args.value) (of_option a)) (sym c.in-Ok.ensures.0) c.tell_store.ensures.livens)))
