-- The table after one Reclaim more
use Rattle.std.proofs.Common.{◌≡◌, ℕ, suc, Bool, true, false, cond, List, [], ◌∷◌, Option, Some, None, length, map, refl, sym, ap, ◌∙◌, arith}
use Rattle.std.specs.Option.{option_map}
use Rattle.std.specs.Map.{lookup, keys_of}
use Rattle.std.specs.FinMap.{FinMap, from_entries, get, same_map}
use Rattle.az_base.specs.declared.block_id.BlockId.{BlockId}
use Rattle.az_base.specs.Ids.{id_cmp, id_eq, ids_total, exact_ids}
use Rattle.az_base.proofs.Ids.{eq_ids}
use Rattle.block_layouts.specs.Layouts.{quanta, len_of}
use Rattle.zone_model.specs.Maps.{map_values}
use Rattle.zone_model.proofs.MapLaws.{get-map_values}
use Rattle.zone_model.proofs.Sums.{total_each}
use Rattle.block_table.specs.Stored.{HeapBlock, Row, older, older_row}
use Rattle.block_table.specs.Table.{Table, IsKept, aged, each_of, table_of, used_by}
use Rattle.block_table.proofs.Tables.{each_get}

-- the same keys, and as many
pub aged_keys : (es : List (BlockId × Row)) → keys_of (aged es) ≡ keys_of es
aged_keys [] = refl
aged_keys (x ∷ es) = ap (λ l. x.0 ∷ l) (aged_keys es)

pub aged_long : (es : List (BlockId × Row)) → length (aged es) ≡ length es
aged_long [] = refl
aged_long (x ∷ es) = ap suc (aged_long es)

-- what ages change, and what not
found_aged : (q : BlockId) (es : List (BlockId × Row)) → lookup (id_eq q) (aged es) ≡ option_map older_row (lookup (id_eq q) es)
found_aged q [] = refl
found_aged q (x ∷ es) = by (id_eq q x.0) _ _ (found_aged q es)
  where
    by : (t : Bool) (o p : Option Row) → o ≡ option_map older_row p → cond t (Some (older_row x.1)) o ≡ option_map older_row (cond t (Some x.1) p)
    by true o p h = refl
    by false o p h = h

pub older_each : (es : List (BlockId × Row)) (q : BlockId) → get (each_of (λ (r : Row). r.kept) (aged es)) q ≡ option_map older (get (each_of (λ (r : Row). r.kept) es) q)
older_each es q =
    each_get (λ (r : Row). r.kept) id_eq eq_ids (aged es) q ∙ ap (option_map (λ (r : Row). r.kept)) (found_aged q es) ∙ by (lookup (id_eq q) es)
    ∙ sym (ap (option_map older) (each_get (λ (r : Row). r.kept) id_eq eq_ids es q))
  where
    by : (o : Option Row) → option_map (λ (r : Row). r.kept) (option_map older_row o) ≡ option_map older (option_map (λ (r : Row). r.kept) o)
    by None = refl
    by (Some r) = refl

pub others_stay : {X : Type 0} (f : Row → X) → ((r : Row) → f (older_row r) ≡ f r) → (es : List (BlockId × Row)) → each_of f (aged es) ≡ each_of f es
others_stay {X} f same es = ap (λ l. from_entries l) (go es)
  where
    go : (es : List (BlockId × Row)) → map (λ (e : BlockId × Row). let r : BlockId × X = (e.0, f e.1) in r) (aged es) ≡ map (λ (e : BlockId × Row). let r : BlockId × X = (e.0, f e.1) in r) es
    go [] = refl
    go (x ∷ es) = (λ i. (x.0, same x.1 i) ∷ go es i)

pub aged_table : (t : Table) (es : List (BlockId × Row)) (b : ℕ) (room : List ℕ) → table_of es b room ≡ t → table_of (aged es) b room ≡ record t { blocks = each_of (λ (r : Row). r.kept) (aged es) }
aged_table t es b room is =
    (λ i. record {
      blocks = each_of (λ (r : Row). r.kept) (aged es);
      holds = others_stay (λ (r : Row). r.holds) (λ r. refl) es i;
      shades = others_stay (λ (r : Row). r.shade) (λ r. refl) es i;
      order = aged_keys es i;
      began = b;
      room = room;
    })
    ∙ ap (λ (x : Table). let y : Table = record x { blocks = each_of (λ (r : Row). r.kept) (aged es) } in y) is

used_older : (m n : FinMap id_cmp HeapBlock) → ((q : BlockId) → get n q ≡ option_map older (get m q)) → used_by n ≡ used_by m
used_older m n is =
    ap used_by (same_map ids_total exact_ids n (map_values id_cmp (λ id (k : HeapBlock). older k) m) (λ q. is q ∙ sym (get-map_values id_cmp (λ id (k : HeapBlock). older k) exact_ids m q)))
    ∙ total_each ids_total exact_ids (λ id (k : HeapBlock). quanta (len_of k.layout)) (λ id (k : HeapBlock). older k) m

pub aged_kept : (es : List (BlockId × Row)) (b u n m : ℕ) (room : List ℕ) → m ≡ n → IsKept es b u room n → IsKept (aged es) b u room m
aged_kept es b u n m room spare k = record {
  used = used_older (each_of (λ (r : Row). r.kept) es) (each_of (λ (r : Row). r.kept) (aged es)) (older_each es) ∙ k.used;
  began = (let h = k.began in let l = aged_long es in omega (arith, h, l));
  room = (let h = k.room in omega (arith, h, spare));
  few = (let h = k.few in let l = aged_long es in omega (arith, h, l));
  sum = k.sum;
}
