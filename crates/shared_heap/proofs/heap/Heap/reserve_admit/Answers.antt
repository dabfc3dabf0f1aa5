use Rattle.std.proofs.Common.{◌≡◌, ◌∙◌, ap, []}
use Rattle.heap_tables.specs.declared.tables.Tables.{Tables}
use Rattle.shared_heap.proofs.Kept.{cards_collect, heap_alike, reserved_blocks, reserved_collect}
use Rattle.shared_heap.proofs.heap.Heap.reserve_admit.Goals as goal

pub invariant_of-self : goal.invariant_of-self
invariant_of-self c =
    let t = c.self.inside.tables in
    let u = c.reserve_cards.new.tables in
    let made = c.reserve_cards.ensures in
    heap_alike c.self.inside u c.self.inside.open_cycle c.self.invariant (ap (λ (x : Tables). x.blocks.blocks) made.same) (ap (λ (x : Tables). x.counts.counts) made.same)
    (cards_collect t u c.self.inside.open_cycle made.same made.list made.more c.self.invariant.collects)

pub invariant_of-self-2 : goal.invariant_of-self-2
invariant_of-self-2 c =
    let t = c.self.inside.tables in
    let u = c.reserve_cards.new.tables in
    let o = c.self.inside.open_cycle in
    let b = c.reserve.new.self in
    let made = c.reserve_cards.ensures in
    let none : t.blocks.room ≡ [] = rw (← c.self.view_is) at c.requires.room in
    let first : u.blocks.room ≡ [] = ap (λ (x : Tables). x.blocks.room) made.same ∙ none in
    let fits = c.in_ok-reserve_cards.ensures.ok in
    heap_alike c.self.inside (record u { blocks = b }) o c.self.invariant (reserved_blocks u o b c.reserve.result _ c.reserve.ensures.ok c.reserve.ensures.err ∙ ap (λ (x : Tables). x.blocks.blocks) made.same) (ap (λ (x : Tables). x.counts.counts) made.same)
    (reserved_collect u o b c.reserve.result _ c.reserve.ensures.ok c.reserve.ensures.err (rw first fits) (cards_collect t u o made.same made.list made.more c.self.invariant.collects))
