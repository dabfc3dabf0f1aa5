use Rattle.std.proofs.Common.{◌≡◌, ◌+◌, ◌≤◌, ◌<◌, ◌∙◌, refl, sym, subst, ap, arith, cond, ℕ, List, None, [], IsTrue, length}
use Rattle.std.specs.FinMap.{empty, get}
use Rattle.az_base.specs.declared.action.Action.{Action}
use Rattle.block_layouts.specs.Layouts.{quanta, len_of}
use Rattle.block_table.specs.Stored.{newly}
use Rattle.block_table.specs.Table.{Table, used_by}
use Rattle.heap_tables.specs.declared.tables.Tables.{Tables}
use Rattle.heap_cycle.specs.Collects.{collector_of}
use Rattle.heap_cycle.specs.Livening.{Livens, blocks_in}
use Rattle.heap_cycle.specs.Waiting.{unfinalised_by, waits}
use Rattle.shared_heap.specs.Holding.{HoldsAdmitted}
use Rattle.shared_heap.specs.Shared.{IsFresh, Shared, admitted, with_gc}
use Rattle.shared_heap.specs.Stands.{Stands}
use Rattle.zone_model.specs.Escape.{with_escaped}
use Rattle.az_base.specs.declared.block_id.BlockId.{BlockId}
use Rattle.az_base.specs.Ids.{among, same_id}
use Rattle.heap_cycle.specs.Barriers.{IsLive}
use Rattle.shared_heap.specs.contracts.heap.Heap.{the_view}
use Rattle.shared_heap.proofs.Escaping.{admit_lives}
use Rattle.shared_heap.proofs.Holding.{held_admitted, fresh_admitted}
use Rattle.shared_heap.proofs.Sums.{used_more, unfinalised_more}
use Rattle.shared_heap.proofs.Told.{added_gc, added_keeps, added_shown, some_first, with_kept, words_live}
use Rattle.shared_heap.proofs.heap.Heap.admit.Goals as goal

nothing_more : (n : ℕ) → n + 0 ≡ n
nothing_more n = omega arith

-- the tables as it was told, and whether the block is there
none_told : (c : goal.After-insert) → get c.enliven_words.new.tables.blocks.blocks c.args.id ≡ None
none_told c = ap (λ (t : Tables). get t.blocks.blocks c.args.id) c.enliven_words.ensures.same ∙ (rw (← c.self.view_is) at c.requires.absent)

shown : (c : goal.After-insert) → the_view (record c.self.inside { tables = record c.enliven_words.new.tables { blocks = c.insert.new.self }; open_cycle = c.enliven_words.new.cycle })
    ≡ with_gc (admitted c.args.self.now c.args.id c.args.layout c.args.words.items) (collector_of (record c.enliven_words.new.tables { blocks = c.insert.new.self }) c.enliven_words.new.cycle)
shown c =
    let h = c.self.inside in
    let u = c.enliven_words.new.tables in
    let gc = collector_of (record u { blocks = c.insert.new.self }) c.enliven_words.new.cycle in
    added_shown u c.insert.new.self c.args.id (newly c.args.layout c.args.words.items c.new-actions.result.items) empty c.insert.ensures h.options h.weak.shown h.weak.ready h.tables gc (the_view h).gc c.enliven_words.ensures.same
    ∙ ap (λ (actions : List Action). with_gc (with_kept (the_view h) c.args.id (newly c.args.layout c.args.words.items actions) empty) gc) c.new-actions.ensures.items
    ∙ ap (λ k. with_gc (admitted k c.args.id c.args.layout c.args.words.items) gc) c.self.view_is

lives : (c : goal.After-insert) → Livens c.args.self.now.gc (collector_of (record c.enliven_words.new.tables { blocks = c.insert.new.self }) c.enliven_words.new.cycle) (blocks_in c.args.words.items) []
lives c =
    let u = c.enliven_words.new.tables in
    let o = c.enliven_words.new.cycle in
    subst (λ (k : Shared). Livens k.gc (collector_of (record u { blocks = c.insert.new.self }) o) (blocks_in c.args.words.items) []) c.self.view_is
    (subst (λ g. Livens (the_view c.self.inside).gc g (blocks_in c.args.words.items) []) (sym (added_gc u c.insert.new.self c.args.id (newly c.args.layout c.args.words.items c.new-actions.result.items) empty c.insert.ensures o c.are_tables.ensures.blocks (none_told c))) (subst (λ ws. Livens (the_view c.self.inside).gc (collector_of u o) (blocks_in ws) []) c.as_slice.ensures.value c.enliven_words.ensures.livens))

pub invariant_of-self : goal.invariant_of-self
invariant_of-self c =
    let i = c.self.invariant in
    let u = c.enliven_words.new.tables in
    let o = c.enliven_words.new.cycle in
    let old = c.self.inside.tables.blocks.blocks in
    let kept = newly c.args.layout c.args.words.items c.new-actions.result.items in
    let none : get old c.args.id ≡ None = rw (← c.self.view_is) at c.requires.absent in
    let fits : used_by old + quanta (len_of c.args.layout) ≤ c.self.inside.options.heap_quanta = rw (← c.self.view_is) at c.requires.fits in
    let same : u.blocks.blocks ≡ old = ap (λ (t : Tables). t.blocks.blocks) c.enliven_words.ensures.same in
    let used_now : used_by c.insert.new.self.blocks ≡ used_by old + quanta (len_of c.args.layout) = ap (λ (t : Table). used_by t.blocks) c.insert.ensures ∙ used_more u.blocks.blocks c.args.id kept (none_told c) ∙ ap (λ m. used_by m + quanta (len_of c.args.layout)) same in
    let waiting_now : unfinalised_by c.insert.new.self.blocks ≡ unfinalised_by old =
    ap (λ (t : Table). unfinalised_by t.blocks) c.insert.ensures ∙ unfinalised_more u.blocks.blocks c.args.id kept (none_told c)
    ∙ ap (λ (actions : List Action). unfinalised_by u.blocks.blocks + cond {A = ℕ} (waits (newly c.args.layout c.args.words.items actions)) 1 0) c.new-actions.ensures.items ∙ nothing_more (unfinalised_by u.blocks.blocks) ∙ ap unfinalised_by same in
    let first = some_first c.self.inside.tables.blocks.room (len_of c.args.layout) (rw (← c.self.view_is) at c.requires.room) in
    record {
      fits = omega (arith, used_now, fits);
      unfinalised = waiting_now ∙ i.unfinalised;
      some_wait = omega (arith, used_now, i.some_wait);
      collects = added_keeps u c.insert.new.self c.args.id kept empty c.insert.ensures o c.are_tables.ensures.blocks (none_told c) refl (subst (λ (l : List ℕ). 0 < length l) (sym (ap (λ (t : Tables). t.blocks.room) c.enliven_words.ensures.same)) first)
          (words_live u o c.args.words.items (subst (λ ws. (b : BlockId) → IsTrue (among (blocks_in ws) b) → IsLive u o b) c.as_slice.ensures.value c.enliven_words.ensures.live)) c.enliven_words.ensures.collects;
      counts = rw (ap (λ (t : Tables). t.counts.counts) c.enliven_words.ensures.same) i.counts;
    }

pub returns-clause-value : goal.returns-clause-value
returns-clause-value c = shown c

pub returns-clause-gc : goal.returns-clause-gc
returns-clause-gc c = lives c

pub returns-clause-held : goal.returns-clause-held
returns-clause-held c = subst (λ k. HoldsAdmitted c.args.self.now k c.args.id) (sym (shown c)) (λ u q. held_admitted c.args.self.now c.args.id c.args.layout c.args.words.items u q)

pub returns-clause-fresh : goal.returns-clause-fresh
returns-clause-fresh c = subst (λ k. IsFresh k c.args.id) (sym (shown c)) (fresh_admitted c.args.self.now c.args.id c.args.layout c.args.words.items)

pub returns-clause-used : goal.returns-clause-used
returns-clause-used c = ap (λ (k : Shared). used_by k.blocks) (shown c) ∙ used_more c.args.self.now.blocks c.args.id (newly c.args.layout c.args.words.items []) c.requires.absent

pub returns-clause-stands : goal.returns-clause-stands
returns-clause-stands c = λ z s reached is.
    subst (λ k. Stands k (with_escaped z (same_id c.args.id))) (sym (shown c)) (admit_lives c.args.self.now z c.args.id c.args.layout c.args.words.items _ (lives c) s reached is)
