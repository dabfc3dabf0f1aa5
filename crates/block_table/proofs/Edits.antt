-- How the table changes where one entry does
use Rattle.std.proofs.Common.{◌≡◌, ℕ, ◌+◌, cond, List, Some, length, ap, ◌∙◌, arith}
use Rattle.std.specs.Map.{lookup, keys_of}
use Rattle.std.specs.FinMap.{FinMap, get, insert}
use Rattle.az_base.specs.declared.block_id.BlockId.{BlockId}
use Rattle.az_base.specs.Ids.{id_cmp, id_eq, ids_total, exact_ids}
use Rattle.az_base.proofs.Ids.{eq_ids}
use Rattle.block_layouts.specs.Layouts.{quanta, len_of}
use Rattle.zone_model.specs.Maps.{total}
use Rattle.zone_model.proofs.MapLaws.{total-insert, at_value}
use Rattle.zone_model.specs.State.{with_edit}
use Rattle.block_table.specs.Holds.{Holds}
use Rattle.block_table.specs.Stored.{HeapBlock, Row}
use Rattle.block_table.specs.Table.{Table, IsKept, each_of, table_of, used_by}
use Rattle.block_table.proofs.Tables.{each_edit, each_kept, each_insert, each_there}

module _ (es fs : List (BlockId × Row)) (id : BlockId) (was now : Row) (here : Some was ≡ lookup (id_eq id) es)
    (edited : (q : BlockId) → lookup (id_eq q) fs ≡ cond (id_eq id q) (Some now) (lookup (id_eq q) es)) (keys : keys_of fs ≡ keys_of es) where
  kept_by : {X : Type 0} (f : Row → X) → f now ≡ f was → each_of f fs ≡ each_of f es
  kept_by f same = each_kept f id_eq eq_ids es fs id was now here same edited

  module _ {t : Table} {b : ℕ} {room : List ℕ} (is : table_of es b room ≡ t) where
    pub blocks_edited : (g : HeapBlock → HeapBlock) → now ≡ record was { kept = g was.kept } → table_of fs b room ≡ record t { blocks = with_edit t.blocks id g }
    blocks_edited g e =
        (λ i. record {
          blocks = each_edit (λ (r : Row). r.kept) id_eq eq_ids es fs id was now g here (ap (λ (r : Row). r.kept) e) edited i;
          holds = kept_by (λ (r : Row). r.holds) (ap (λ (r : Row). r.holds) e) i;
          shades = kept_by (λ (r : Row). r.shade) (ap (λ (r : Row). r.shade) e) i;
          order = keys i;
          began = b;
          room = room;
        })
        ∙ ap (λ (x : Table). let y : Table = record x { blocks = with_edit x.blocks id g } in y) is

    pub holds_edited : (g : Holds → Holds) → now ≡ record was { holds = g was.holds } → table_of fs b room ≡ record t { holds = with_edit t.holds id g }
    holds_edited g e =
        (λ i. record {
          blocks = kept_by (λ (r : Row). r.kept) (ap (λ (r : Row). r.kept) e) i;
          holds = each_edit (λ (r : Row). r.holds) id_eq eq_ids es fs id was now g here (ap (λ (r : Row). r.holds) e) edited i;
          shades = kept_by (λ (r : Row). r.shade) (ap (λ (r : Row). r.shade) e) i;
          order = keys i;
          began = b;
          room = room;
        })
        ∙ ap (λ (x : Table). let y : Table = record x { holds = with_edit x.holds id g } in y) is

    pub nothing_edited : now ≡ was → table_of fs b room ≡ t
    nothing_edited e =
        (λ i. record {
          blocks = kept_by (λ (r : Row). r.kept) (ap (λ (r : Row). r.kept) e) i;
          holds = kept_by (λ (r : Row). r.holds) (ap (λ (r : Row). r.holds) e) i;
          shades = kept_by (λ (r : Row). r.shade) (ap (λ (r : Row). r.shade) e) i;
          order = keys i;
          began = b;
          room = room;
        })
        ∙ is

  -- what the fields keep
  pub still_kept : {b u n m : ℕ} {room : List ℕ} → now.kept.layout ≡ was.kept.layout → length fs ≡ length es → m ≡ n → IsKept es b u room n → IsKept fs b u room m
  still_kept {b} {u} {n} {m} {room} layout long spare k = record {
    used = sum ∙ k.used;
    began = (let h = k.began in omega (arith, h, long));
    room = (let h = k.room in omega (arith, h, spare));
    few = (let h = k.few in omega (arith, h, long));
    sum = k.sum;
  }
    where
      size : BlockId → HeapBlock → ℕ
      size q k = quanta (len_of k.layout)

      old : FinMap id_cmp HeapBlock
      old = each_of (λ (r : Row). r.kept) es

      sum : used_by (each_of (λ (r : Row). r.kept) fs) ≡ used_by old
      sum = ap used_by (each_insert (λ (r : Row). r.kept) id_eq eq_ids es fs id now edited) ∙ replaced
        where
          replaced : total size (insert old id now.kept) ≡ total size old
          replaced =
              let more : total size (insert old id now.kept) + at_value (size id) (get old id) ≡ total size old + size id now.kept = total-insert ids_total exact_ids size old id now.kept in
              let there : at_value (size id) (get old id) ≡ size id was.kept = ap (at_value (size id)) (each_there (λ (r : Row). r.kept) id_eq eq_ids es id was here) in
              let same : size id now.kept ≡ size id was.kept = ap (λ l. quanta (len_of l)) layout in
              omega (arith, more, there, same)
