use Rattle.std.proofs.Common.{◌≡◌, ◌+◌, ◌≤◌, ◌<◌, ◌∙◌, ap, refl, sym, subst, arith, cond, ℕ, Bool, true, false, List, Some, None, map, [], ◌∷◌, length}
use Rattle.std.specs.FinMap.{get}
use Rattle.az_base.specs.declared.action.Action.{Action}
use Rattle.az_base.specs.declared.word.Word.{Word}
use Rattle.block_layouts.specs.declared.layout.Layout.{Layout}
use Rattle.block_layouts.specs.Layouts.{first_words, quanta, len_of}
use Rattle.zone_model.specs.State.{is_nil}
use Rattle.block_table.specs.Holds.{held_once}
use Rattle.block_table.specs.Stored.{newly}
use Rattle.block_table.specs.Table.{Table, used_by}
use Rattle.heap_cycle.specs.Waiting.{unfinalised_by, waits}
use Rattle.shared_heap.specs.Shared.{Shared, with_gc}
use Rattle.shared_heap.specs.contracts.heap.Heap.{the_view}
use Rattle.shared_heap.proofs.Sums.{used_more, unfinalised_more, waits_once, one_quantum}
use Rattle.quantum_space.specs.Shapes.{Has}
use Rattle.block_table.specs.Places.{in_word, somes}
use Rattle.heap_cycle.specs.Collects.{collector_of}
use Rattle.shared_heap.proofs.Told.{added_gc, added_keeps, added_shown, first_live, with_kept}
use Rattle.shared_heap.proofs.heap.Heap.add_born.Goals as goal

at_most : (b : Bool) → cond {A = ℕ} b 0 1 ≤ 1
at_most true = omega arith
at_most false = omega arith

-- the heap with room for the block
readied : (c : goal.After-self-1) → the_view c.self.inside ≡ record c.args.self.now { room = c.len.result ∷ [] }
readied c = c.self.view_is ∙ c.in_ok-reserve_admit.ensures.ok

none_there : (c : goal.After-self-1) → get c.self.inside.tables.blocks.blocks c.args.id ≡ None
none_there c = ap (λ (h : Shared). get h.blocks c.args.id) (readied c) ∙ c.requires.absent

pub invariant_of-self : goal.invariant_of-self
invariant_of-self c =
    let i = c.self.invariant in
    let t = c.self.inside.tables in
    let old = t.blocks.blocks in
    let own = c.in_ok-own.own in
    let words = c.in_ok-words.words.items in
    let kept = newly own words c.in_ok-actions.actions.items in
    let none = none_there c in
    let room : used_by old + quanta (len_of c.args.layout.now) ≤ c.self.inside.options.heap_quanta = subst (λ (h : Shared). used_by h.blocks + quanta (len_of c.args.layout.now) ≤ h.options.heap_quanta) (sym (readied c)) c.requires.fits in
    let first : 0 < length t.blocks.room = subst (λ (l : List ℕ). 0 < length l) (sym (ap (λ (h : Shared). h.room) (readied c))) (omega arith) in
    let used_now : used_by c.insert.new.self.blocks ≡ used_by old + quanta (len_of c.args.layout.now) = ap (λ (t : Table). used_by t.blocks) c.insert.ensures ∙ used_more old c.args.id kept none ∙ ap (λ (l : Layout). used_by old + quanta (len_of l)) c.in_ok-own.ensures in
    let waiting_now : unfinalised_by c.insert.new.self.blocks ≡ unfinalised_by old + c.waiting-waiting.result =
    ap (λ (t : Table). unfinalised_by t.blocks) c.insert.ensures ∙ unfinalised_more old c.args.id kept none
    ∙ ap (λ (actions : List Action). unfinalised_by old + cond {A = ℕ} (waits (newly own words actions)) 1 0) c.in_ok-actions.ensures.items ∙ ap (λ n. unfinalised_by old + n) (waits_once own words c.args.actions.now ∙ sym c.waiting-waiting.ensures) in
    record {
      fits = omega (arith, used_now, room);
      unfinalised = omega (arith, i.unfinalised, waiting_now);
      some_wait = omega (arith, i.some_wait, used_now, c.waiting-waiting.ensures, at_most (is_nil c.args.actions.now), one_quantum (len_of c.args.layout.now));
      collects = added_keeps t c.insert.new.self c.args.id kept (held_once (Some c.args.t)) c.insert.ensures c.self.inside.open_cycle c.are_tables.ensures.blocks none refl first
          (λ b h. first_live t c.self.inside.open_cycle c.args.layout.now b (subst (λ (ws : List Word). Has (somes (map in_word ws)) b) c.in_ok-words.ensures h)) i.collects;
      counts = i.counts;
    }

pub returns-clause-ok : goal.returns-clause-ok
returns-clause-ok c =
    let h = c.self.inside in
    let t = h.tables in
    let o = h.open_cycle in
    let b = c.insert.new.self in
    let kept = newly c.in_ok-own.own c.in_ok-words.words.items c.in_ok-actions.actions.items in
    let m = held_once (Some c.args.t) in
    added_shown t b c.args.id kept m c.insert.ensures h.options h.weak.shown h.weak.ready t (collector_of (record t { blocks = b }) o) (the_view h).gc refl
    ∙ ap (with_gc (with_kept (the_view h) c.args.id kept m)) (added_gc t b c.args.id kept m c.insert.ensures o c.are_tables.ensures.blocks (none_there c))
    ∙ ap (λ (l : Layout). with_kept (the_view h) c.args.id (newly l c.in_ok-words.words.items c.in_ok-actions.actions.items) m) c.in_ok-own.ensures
    ∙ ap (λ (ws : List Word). with_kept (the_view h) c.args.id (newly c.args.layout.now ws c.in_ok-actions.actions.items) m) c.in_ok-words.ensures
    ∙ ap (λ (actions : List Action). with_kept (the_view h) c.args.id (newly c.args.layout.now (first_words c.args.layout.now) actions) m) c.in_ok-actions.ensures.items
    ∙ ap (λ (k : Shared). with_kept k c.args.id (newly c.args.layout.now (first_words c.args.layout.now) c.args.actions.now) m) (readied c)
    ∙ ap (λ (l : List ℕ). let x : Shared = record (with_kept c.args.self.now c.args.id (newly c.args.layout.now (first_words c.args.layout.now) c.args.actions.now) m) { room = l } in x) (sym c.requires.room)
