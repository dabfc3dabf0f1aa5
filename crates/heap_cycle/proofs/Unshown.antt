-- A block that comes in isn't shown by the collections
use Rattle.std.proofs.Common.{◌≡◌, ◌≤◌, Bool, true, false, cond, List, Option, Some, None, length, take, refl, sym, ap, ◌∙◌}
use Rattle.std.specs.FinMap.{FinMap, get, get-insert, get-retain_keys, insert, retain_keys, same_map}
use Rattle.az_base.specs.declared.block_id.BlockId.{BlockId}
use Rattle.az_base.specs.Ids.{among, exact_ids, id_cmp, ids_total, same_id}
use Rattle.block_table.specs.Holds.{Holds}
use Rattle.block_table.specs.Stored.{HeapBlock}
use Rattle.block_table.specs.Table.{Table, with_block}
use Rattle.quantum_space.specs.declared.shade.Shade.TheVariants as shade
use Rattle.quantum_space.specs.Shapes.{Has}
use Rattle.quantum_space.proofs.Lists.{not_among, same_is}
use Rattle.heap_tables.specs.declared.tables.Tables.{Tables}
use Rattle.heap_tables.proofs.Changing.{added_changed}
use Rattle.heap_cycle.specs.Collector.{Collecting, Collector}
use Rattle.heap_cycle.specs.Collects.{collecting, collector_of, condemned_at, shades_at, start_of}
use Rattle.heap_cycle.specs.declared.open_cycle.OpenCycle.{OpenCycle}
use Rattle.heap_cycle.specs.declared.open_cycle.Phase.{Phase}
use Rattle.heap_cycle.specs.declared.open_cycle.Phase.TheVariants as phase
use Rattle.heap_cycle.proofs.Joined.{front_has}

-- what is kept at the ids of a list is the same where another id got a value
kept_apart : {X : Type 0} (m : FinMap id_cmp X) (ids : List BlockId) (id : BlockId) (x : X) → ¬ Has ids id → retain_keys (insert m id x) (among ids) ≡ retain_keys m (among ids)
kept_apart {X} m ids id x out = same_map ids_total exact_ids _ _ (λ q. at (insert m id x) q ∙ by q (same_id q id) refl ∙ sym (at m q))
  where
    at : (n : FinMap id_cmp X) (q : BlockId) → get (retain_keys n (among ids)) q ≡ cond (among ids q) (get n q) None
    at n q = get-retain_keys n (among ids) q (λ k e. ap (among ids) (sym (exact_ids q k e)))

    by : (q : BlockId) (u : Bool) → same_id q id ≡ u → cond (among ids q) (get (insert m id x) q) None ≡ cond (among ids q) (get m q) None
    by q false e = ap (λ v. cond (among ids q) v None) (get-insert ids_total m id x q ∙ ap (λ u. cond u (Some x) (get m q)) e)
    by q true e =
        let none : among ids q ≡ false = ap (among ids) (same_is q id e) ∙ not_among ids id out in
        ap (λ t. cond t (get (insert m id x) q) None) none ∙ sym (ap (λ t. cond t (get m q) None) none)

module _ (t u : Tables) (id : BlockId) (k : HeapBlock) (m : Holds) (blocks : u.blocks ≡ with_block t.blocks id k m) (absent : ¬ Has t.blocks.order id) (began : t.blocks.began ≤ length t.blocks.order) where
  same_start : start_of u ≡ start_of t
  same_start = ap (λ (b : Table). take b.began b.order) blocks ∙ (added_changed t id k m absent began).blocks

  same_shades : (p : Phase) → shades_at u p ≡ shades_at t p
  same_shades (phase.Marking marker reply kept) =
      ap (λ (b : Table). retain_keys b.shades (among (start_of u))) blocks
      ∙ ap (λ l. retain_keys (insert t.blocks.shades id shade.Black) (among l)) same_start
      ∙ kept_apart t.blocks.shades (start_of t) id shade.Black (λ h. absent (front_has t.blocks.began t.blocks.order id h))
  same_shades (phase.Settling pass) = refl

  pub added_unshown : (o : Option OpenCycle) → u.cards ≡ t.cards → collector_of u o ≡ collector_of t o
  added_unshown o cards = by o
    where
      with_cards : (c : Option Collecting) → (let g : Collector = record { cards = u.cards.list; cycle = c } in g) ≡ record { cards = t.cards.list; cycle = c }
      with_cards c = ap (λ l. let g : Collector = record { cards = l.list; cycle = c } in g) cards

      same_cycle : (c : OpenCycle) → collecting u c ≡ collecting t c
      same_cycle c =
          ap (λ l. let g : Collecting = record { owner = c.owner; mode = c.mode; start = l; shades = shades_at u c.phase; condemned = condemned_at c.phase; left = c.left; rooms = length c.lent.items } in g) same_start
          ∙ ap (λ s. let g : Collecting = record { owner = c.owner; mode = c.mode; start = start_of t; shades = s; condemned = condemned_at c.phase; left = c.left; rooms = length c.lent.items } in g) (same_shades c.phase)

      by : (o : Option OpenCycle) → collector_of u o ≡ collector_of t o
      by None = with_cards None
      by (Some c) = with_cards (Some (collecting u c)) ∙ ap (λ x. let g : Collector = record { cards = t.cards.list; cycle = Some x } in g) (same_cycle c)
