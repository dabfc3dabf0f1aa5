-- What a heap's fields keep through a call that isn't of a cycle
use Rattle.std.proofs.Common.{◌≡◌, ◌+◌, ◌≤◌, ℕ, List, Option, Result, Ok, Err, length, refl, sym, ap, subst, ◌∙◌, arith}
use Rattle.std.specs.Result.{OnErr, OnOk}
use Rattle.std.specs.FinMap.{FinMap}
use Rattle.az_base.specs.Ids.{id_cmp}
use Rattle.block_table.specs.Holds.{Holds}
use Rattle.block_table.specs.Stored.{HeapBlock}
use Rattle.block_table.specs.Table.{Table, used_by}
use Rattle.heap_tables.specs.declared.tables.Tables.{Tables}
use Rattle.heap_cycle.specs.Collects.{Collects}
use Rattle.heap_cycle.specs.Waiting.{unfinalised_by}
use Rattle.heap_cycle.specs.declared.open_cycle.OpenCycle.{OpenCycle}
use Rattle.heap_cycle.proofs.Alike.{anchored_collects}
use Rattle.shared_heap.specs.Inside.{IsHeap}
use Rattle.shared_heap.specs.declared.heap.Heap.TheInside.{Inside}

-- numbers that speak of blocks and counts alone
pub heap_alike : (h : Inside) (u : Tables) (o : Option OpenCycle) → IsHeap h → u.blocks.blocks ≡ h.tables.blocks.blocks → u.counts.counts ≡ h.tables.counts.counts → Collects u o → IsHeap (record h { tables = u; open_cycle = o })
heap_alike h u o i blocks counts k = record {
  fits = subst (λ (m : FinMap id_cmp HeapBlock). used_by m ≤ h.options.heap_quanta) (sym blocks) i.fits;
  unfinalised = ap unfinalised_by blocks ∙ i.unfinalised;
  some_wait = subst (λ (m : FinMap id_cmp HeapBlock). h.unfinalised ≤ used_by m) (sym blocks) i.some_wait;
  collects = k;
  counts = rw counts i.counts;
}

-- other cards with as much room, which remember the same
pub cards_collect : (t u : Tables) (o : Option OpenCycle) → u ≡ record t { cards = u.cards } → u.cards.list ≡ t.cards.list → t.cards.spare ≤ u.cards.spare → Collects t o → Collects u o
cards_collect t u o same list more k =
    subst (λ x. Collects x o) (sym same) (anchored_collects t (record t { cards = u.cards }) o refl refl list (let room = k.cards.room in let long = ap (λ l. length l) list in omega (arith, room, long, more)) k)

module _ (t : Tables) (o : Option OpenCycle) (b : Table) where
  -- other holds
  holds_collect : (m : FinMap id_cmp Holds) → b ≡ record t.blocks { holds = m } → Collects t o → Collects (record t { blocks = b }) o
  holds_collect m e k = subst (λ x. Collects (record t { blocks = x }) o) (sym e) (anchored_collects t (record t { blocks = record t.blocks { holds = m } }) o refl refl refl k.cards.room k)

  pub times_collect : {A E : Type 0} (r : Result A E) (m : FinMap id_cmp Holds) → OnOk r (b ≡ record t.blocks { holds = m }) → OnErr r (b ≡ t.blocks) → Collects t o → Collects (record t { blocks = b }) o
  times_collect (Ok a) m is err k = holds_collect m is k
  times_collect (Err e) m is err k = subst (λ x. Collects (record t { blocks = x }) o) (sym err) k

  pub times_blocks : {A E : Type 0} (r : Result A E) (m : FinMap id_cmp Holds) → OnOk r (b ≡ record t.blocks { holds = m }) → OnErr r (b ≡ t.blocks) → b.blocks ≡ t.blocks.blocks
  times_blocks (Ok a) m is err = ap (λ (x : Table). x.blocks) is
  times_blocks (Err e) m is err = ap (λ (x : Table). x.blocks) err

  -- room for other blocks, where there is a card for each
  pub room_collect : (room : List ℕ) → b ≡ record t.blocks { room = room } → length t.blocks.order + length room ≤ length t.cards.list + t.cards.spare → Collects t o → Collects (record t { blocks = b }) o
  room_collect room e fits k = subst (λ x. Collects (record t { blocks = x }) o) (sym e) (anchored_collects t (record t { blocks = record t.blocks { room = room } }) o refl refl refl fits k)

  pub reserved_collect : {A E : Type 0} (r : Result A E) (room : List ℕ) → OnOk r (b ≡ record t.blocks { room = room }) → OnErr r (b ≡ t.blocks) → length t.blocks.order + length room ≤ length t.cards.list + t.cards.spare → Collects t o → Collects (record t { blocks = b }) o
  reserved_collect (Ok a) room is err fits k = room_collect room is fits k
  reserved_collect (Err e) room is err fits k = subst (λ x. Collects (record t { blocks = x }) o) (sym err) k

  pub reserved_blocks : {A E : Type 0} (r : Result A E) (room : List ℕ) → OnOk r (b ≡ record t.blocks { room = room }) → OnErr r (b ≡ t.blocks) → b.blocks ≡ t.blocks.blocks
  reserved_blocks (Ok a) room is err = ap (λ (x : Table). x.blocks) is
  reserved_blocks (Err e) room is err = ap (λ (x : Table). x.blocks) err
