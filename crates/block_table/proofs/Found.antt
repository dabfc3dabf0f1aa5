-- What the table has of one block, told by the entries
use Rattle.std.proofs.Common.{◌≡◌, ℕ, List, Option, Some, None, is_some, refl, sym, ap, ◌∙◌}
use Rattle.std.specs.Option.{option_map, option_map_or}
use Rattle.std.specs.Map.{lookup}
use Rattle.std.specs.FinMap.{FinMap, get, insert}
use Rattle.az_base.specs.declared.block_id.BlockId.{BlockId}
use Rattle.az_base.specs.Ids.{id_cmp, id_eq}
use Rattle.az_base.proofs.Ids.{eq_ids}
use Rattle.zone_model.specs.State.{with_edit}
use Rattle.block_table.specs.Holds.{Holds}
use Rattle.block_table.specs.Stored.{HeapBlock, Row}
use Rattle.block_table.specs.Table.{Table, table_of}
use Rattle.block_table.proofs.Tables.{each_get}

module _ (t : Table) (es : List (BlockId × Row)) (b : ℕ) (room : List ℕ) (is : table_of es b room ≡ t) (id : BlockId) (o : Option Row) (found : o ≡ lookup (id_eq id) es) where
  pub at_kept : get t.blocks id ≡ option_map (λ (r : Row). r.kept) o
  at_kept = ap (λ (x : Table). get x.blocks id) (sym is) ∙ each_get (λ (r : Row). r.kept) id_eq eq_ids es id ∙ ap (option_map (λ (r : Row). r.kept)) (sym found)

  pub at_holds : get t.holds id ≡ option_map (λ (r : Row). r.holds) o
  at_holds = ap (λ (x : Table). get x.holds id) (sym is) ∙ each_get (λ (r : Row). r.holds) id_eq eq_ids es id ∙ ap (option_map (λ (r : Row). r.holds)) (sym found)

  pub at_shade : get t.shades id ≡ option_map (λ (r : Row). r.shade) o
  at_shade = ap (λ (x : Table). get x.shades id) (sym is) ∙ each_get (λ (r : Row). r.shade) id_eq eq_ids es id ∙ ap (option_map (λ (r : Row). r.shade)) (sym found)

  pub there_alike : is_some o ≡ is_some (get t.blocks id)
  there_alike = mapped o ∙ sym (ap is_some at_kept)
    where
      mapped : (o : Option Row) → is_some o ≡ is_some (option_map (λ (r : Row). r.kept) o)
      mapped None = refl
      mapped (Some x) = refl

-- an edit of what isn't there
pub no_block_edited : (t : Table) (id : BlockId) (g : HeapBlock → HeapBlock) → get t.blocks id ≡ None → t ≡ record t { blocks = with_edit t.blocks id g }
no_block_edited t id g none = ap (λ (m : FinMap id_cmp HeapBlock). let y : Table = record t { blocks = m } in y) (sym (ap (λ (o : Option HeapBlock). option_map_or (λ x. insert t.blocks id (g x)) o t.blocks) none))

pub no_holds_edited : (t : Table) (id : BlockId) (g : Holds → Holds) → get t.holds id ≡ None → t ≡ record t { holds = with_edit t.holds id g }
no_holds_edited t id g none = ap (λ (m : FinMap id_cmp Holds). let y : Table = record t { holds = m } in y) (sym (ap (λ (o : Option Holds). option_map_or (λ x. insert t.holds id (g x)) o t.holds) none))
