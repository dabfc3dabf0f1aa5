use Rattle.std.proofs.Common.{◌∙◌, ap, refl, sym, subst, Some, IfSome, IsSome}
use Rattle.std.specs.FinMap.{get}
use Rattle.az_base.specs.declared.word.Word.TheVariants as word
use Rattle.quantum_space.specs.Shapes.{Has}
use Rattle.zone_model.specs.declared.entry.Reply.TheVariants as reply
use Rattle.shared_heap.specs.Shared.{with_gc, written}
use Rattle.shared_heap.specs.Words.{reply_or}
use Rattle.shared_heap.specs.contracts.heap.Heap.{the_view}
use Rattle.shared_heap.proofs.Stepping.{put_any}
use Rattle.shared_heap.proofs.Told.{number_tells, written_gc, written_heap, written_shown}
use Rattle.shared_heap.proofs.heap.Heap.put.Goals as goal

pub invariant_of-self : goal.invariant_of-self
invariant_of-self c =
    let t = c.self.inside.tables in
    let there : IsSome (get t.blocks.blocks c.in-Ok.id) = subst (λ v. IfSome v (λ b. IsSome (get t.blocks.blocks b))) c.in-Ok.ensures.0 (rw (← c.self.view_is) at c.requires.given) in
    let listed : Has t.blocks.order c.in-Ok.id = (c.are_tables.ensures.blocks.order c.in-Ok.id).1 there in
    written_heap c.self.inside t c.self.inside.open_cycle c.set_word.new.self c.in-Ok.id c.args.at (word.Number c.args.number) c.set_word.ensures c.self.invariant refl refl c.self.invariant.collects listed (λ b e. number_tells _ c.args.number b e)

pub returns-in-Err-clause-step : goal.returns-in-Err-clause-step
returns-in-Err-clause-step c = λ z reg runs holds.
    put_any c.args.self.now c.args.self.now z c.args.t reg c.args.at c.args.into runs c.requires.given holds c.args.number (reply.Misuse c.in-Err.misuse) (ap (λ m. reply_or m reply.Done) (sym c.in-Err.ensures)) refl

pub returns-in-Ok-clause-step : goal.returns-in-Ok-clause-step
returns-in-Ok-clause-step c = λ z reg runs holds.
    let h = c.self.inside in
    let w = word.Number c.args.number in
    put_any c.args.self.now _ z c.args.t reg c.args.at c.args.into runs c.requires.given holds c.args.number reply.Done (ap (λ m. reply_or m reply.Done) (sym c.in-Ok.ensures.2))
    (written_shown h h.tables h.open_cycle c.set_word.new.self c.in-Ok.id c.args.at w c.set_word.ensures h.options h.weak.shown h.weak.ready h.tables _ (the_view h).gc refl
    ∙ ap (with_gc (written (the_view h) (Some c.in-Ok.id) c.args.at w)) (written_gc h h.tables h.open_cycle c.set_word.new.self c.in-Ok.id c.args.at w c.set_word.ensures)
    ∙ ap (λ a. written (the_view h) a c.args.at w) (sym c.in-Ok.ensures.0)
    ∙ ap (λ k. written k c.args.into c.args.at w) c.self.view_is)
