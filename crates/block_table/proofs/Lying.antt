-- Rows of blocks in a space
use Rattle.std.proofs.Common.{◌≡◌, ℕ, zero, suc, ◌+◌, ◌<◌, ◌≤◌, ◌++◌, nat_lt, Bool, true, false, cond, List, [], ◌∷◌, Option, Some, None, length, map, take, slice_get, refl, sym, ap, ◌∙◌, arith}
use Rattle.std.specs.Option.{option_map, option_map_or, unwrap_or}
use Rattle.std.specs.Map.{keys_of, lookup}
use Rattle.std.specs.FinMap.{from_entries}
use Rattle.az_base.specs.declared.action.Mode.TheVariants as mode
use Rattle.az_base.specs.declared.block_id.BlockId.{BlockId}
use Rattle.az_base.specs.declared.word.Word.{Word}
use Rattle.az_base.specs.declared.word.Word.TheVariants as word
use Rattle.az_base.specs.Ids.{id_eq}
use Rattle.az_base.proofs.Ids.{eq_is}
use Rattle.quantum_space.specs.declared.shade.Shade.TheVariants as shade
use Rattle.quantum_space.specs.declared.spot.Spot.{Spot}
use Rattle.quantum_space.specs.PlacedWords.{word_of}
use Rattle.quantum_space.specs.Shapes.{edges}
use Rattle.block_space.specs.Spaces.{Space'}
use Rattle.block_space.specs.Marking.{byte_in, ends_from, ends_in, len_in, shade_told, takes_byte, unmarked, word_in}
use Rattle.block_space.proofs.Unmarked.{len_unmarked, word_unmarked}
use Rattle.space_graph.specs.Graphs.{Graph', is_young_of, rest_of, shades_of, shape_of, spot_for}
use Rattle.space_graph.proofs.Steps.{edges_all, edges_none}
use Rattle.block_table.specs.Places.{somes, in_word}
use Rattle.block_table.specs.Stored.{HeapBlock, Row}
use Rattle.block_table.specs.Lying.{Kept', entries_of, kept_for, lying_table, nothing_kept, row_in, rows_in, words_at, words_from}
use Rattle.block_table.specs.Marking.{graph_in, marks_in}
use Rattle.block_table.specs.Table.{Table, each_of, is_young_at, refs_in, table_of}
use Rattle.block_table.proofs.Found.{at_kept, at_shade}

-- keys and lengths
pub keys_rows : (u s : Space') (ks : List (BlockId × Kept')) (rs : List (BlockId × Spot)) → keys_of (rows_in u s ks rs) ≡ keys_of rs
keys_rows u s ks [] = refl
keys_rows u s ks (e ∷ rs) = ap (λ l. e.0 ∷ l) (keys_rows u s ks rs)

pub long_rows : (u s : Space') (ks : List (BlockId × Kept')) (rs : List (BlockId × Spot)) → length (rows_in u s ks rs) ≡ length rs
long_rows u s ks [] = refl
long_rows u s ks (e ∷ rs) = ap suc (long_rows u s ks rs)

-- the row of a block
pub row_for : (u s : Space') (ks : List (BlockId × Kept')) (rs : List (BlockId × Spot)) (q : BlockId) → lookup (id_eq q) (rows_in u s ks rs) ≡ option_map (λ x. row_in u s x (kept_for ks q)) (spot_for rs q)
row_for u s ks [] q = refl
row_for u s ks (e ∷ rs) q = go (id_eq q e.0) refl (row_for u s ks rs q)
  where
    go : (b : Bool) → id_eq q e.0 ≡ b → lookup (id_eq q) (rows_in u s ks rs) ≡ option_map (λ x. row_in u s x (kept_for ks q)) (spot_for rs q)
        → cond b (Some (row_in u s e.1 (kept_for ks e.0))) (lookup (id_eq q) (rows_in u s ks rs)) ≡ option_map (λ x. row_in u s x (kept_for ks q)) (cond b (Some e.1) (spot_for rs q))
    go true f rest = ap (λ i. Some (row_in u s e.1 (kept_for ks i))) (sym (eq_is q e.0 f))
    go false f rest = rest

-- what is known of a block that is there, and of one that isn't
pub row_there : (g : Graph') (ks : List (BlockId × Kept')) (q : BlockId) (x : Spot) → spot_for g.rows q ≡ Some x → Some (row_in (unmarked g.space) g.space x (kept_for ks q)) ≡ lookup (id_eq q) (entries_of g ks)
row_there g ks q x e = sym (row_for (unmarked g.space) g.space ks g.rows q ∙ ap (option_map (λ x. row_in (unmarked g.space) g.space x (kept_for ks q))) e)

pub row_none : (g : Graph') (ks : List (BlockId × Kept')) (q : BlockId) → spot_for g.rows q ≡ None → None ≡ lookup (id_eq q) (entries_of g ks)
row_none g ks q e = sym (row_for (unmarked g.space) g.space ks g.rows q ∙ ap (option_map (λ x. row_in (unmarked g.space) g.space x (kept_for ks q))) e)

pub kept_found : (ks : List (BlockId × Kept')) (q : BlockId) (k : Kept') → Some k ≡ lookup (id_eq q) ks → kept_for ks q ≡ k
kept_found ks q k e = ap (λ o. unwrap_or o nothing_kept) (sym e)

-- what marking leaves
pub words_unmarked : (s : Space') (x : Spot) (i n : ℕ) → words_from (unmarked s) x i n ≡ words_from s x i n
words_unmarked s x i zero = refl
words_unmarked s x i (suc n) = ap (λ w. w ∷ words_from (unmarked s) x (suc i) n) (word_unmarked s x i) ∙ ap (λ l. word_of (word_in s x i) ∷ l) (words_unmarked s x (suc i) n)

pub all_unmarked : (s : Space') (x : Spot) → words_at (unmarked s) x ≡ words_at s x
all_unmarked s x = words_unmarked s x 0 (len_in (unmarked s) x) ∙ ap (words_from s x 0) (len_unmarked s x)

-- words by their places
pub word_from : (s : Space') (x : Spot) (i n k : ℕ) → k < n → slice_get (words_from s x i n) k ≡ Some (word_of (word_in s x (i + k)))
word_from s x i zero k l = absurd (omega (arith, l))
word_from s x i (suc n) zero l = (let e : i ≡ i + 0 = omega arith in ap (λ j. Some (word_of (word_in s x j))) e)
word_from s x i (suc n) (suc k) l = (let e : suc i + k ≡ i + suc k = omega arith in word_from s x (suc i) n k (omega (arith, l)) ∙ ap (λ j. Some (word_of (word_in s x j))) e)

pub long_words : (s : Space') (x : Spot) (i n : ℕ) → length (words_from s x i n) ≡ n
long_words s x i zero = refl
long_words s x i (suc n) = ap suc (long_words s x (suc i) n)

pub word_past : (s : Space') (x : Spot) (i n k : ℕ) → n ≤ k → slice_get (words_from s x i n) k ≡ None
word_past s x i zero k l = refl
word_past s x i (suc n) zero l = absurd (omega (arith, l))
word_past s x i (suc n) (suc k) l = word_past s x (suc i) n k (omega (arith, l))

-- the ends of edges
ends_word : (v : Word) (l : List (Option BlockId)) → somes (in_word v ∷ l) ≡ ends_in v ++ somes l
ends_word word.Null l = refl
ends_word (word.Block id) l = refl
ends_word (word.Number n) l = refl

pub ends_words : (s : Space') (x : Spot) (i n : ℕ) → somes (map in_word (words_from s x i n)) ≡ ends_from s x i n
ends_words s x i zero = refl
ends_words s x i (suc n) = ends_word (word_of (word_in s x i)) (map in_word (words_from s x (suc i) n)) ∙ ap (λ l. ends_in (word_of (word_in s x i)) ++ l) (ends_words s x (suc i) n)

-- the table as a graph is the graph
module _ (g : Graph') (ks : List (BlockId × Kept')) where
  abbrev t : Table
  t = lying_table g ks

  pub same_blocks : (shape_of g).blocks ≡ (graph_in t).blocks
  same_blocks = ap (take g.began) (sym (keys_rows (unmarked g.space) g.space ks g.rows))

  young_by : (q : BlockId) (o : Option Spot) → spot_for g.rows q ≡ o → is_young_of (rest_of g) q ≡ is_young_at t.blocks q
  young_by q None e =
      ap (λ o. option_map_or (λ x. takes_byte mode.Young (byte_in (unmarked g.space) x)) o false) e
      ∙ sym (ap (λ o. option_map_or (λ (k : HeapBlock). nat_lt k.age 3) o false) (at_kept t (entries_of g ks) g.began g.space.spare refl q None (row_none g ks q e)))
  young_by q (Some x) e =
      ap (λ o. option_map_or (λ x. takes_byte mode.Young (byte_in (unmarked g.space) x)) o false) e
      ∙ sym (ap (λ o. option_map_or (λ (k : HeapBlock). nat_lt k.age 3) o false) (at_kept t (entries_of g ks) g.began g.space.spare refl q (Some (row_in (unmarked g.space) g.space x (kept_for ks q))) (row_there g ks q x e)))

  pub same_young : (shape_of g).young ≡ (graph_in t).young
  same_young = λ i q. young_by q (spot_for g.rows q) refl i

  shade_by : (q : BlockId) (o : Option Spot) → spot_for g.rows q ≡ o → shades_of g q ≡ marks_in t q
  shade_by q None e =
      ap (λ o. option_map_or (λ x. shade_told (byte_in g.space x)) o shade.White) e
      ∙ sym (ap (λ o. unwrap_or o shade.White) (at_shade t (entries_of g ks) g.began g.space.spare refl q None (row_none g ks q e)))
  shade_by q (Some x) e =
      ap (λ o. option_map_or (λ x. shade_told (byte_in g.space x)) o shade.White) e
      ∙ sym (ap (λ o. unwrap_or o shade.White) (at_shade t (entries_of g ks) g.began g.space.spare refl q (Some (row_in (unmarked g.space) g.space x (kept_for ks q))) (row_there g ks q x e)))

  pub same_marks : shades_of g ≡ marks_in t
  same_marks = λ i q. shade_by q (spot_for g.rows q) refl i

  edges_by : (q : BlockId) (o : Option Spot) → spot_for g.rows q ≡ o → edges (shape_of g) q ≡ refs_in t.blocks q
  edges_by q None e = edges_none g q 0 e ∙ sym (ap (λ o. somes (map in_word (option_map_or (λ (k : HeapBlock). k.words) o []))) (at_kept t (entries_of g ks) g.began g.space.spare refl q None (row_none g ks q e)))
  edges_by q (Some x) e =
      edges_all g q x e ∙ ap (ends_from (unmarked g.space) x 0) (sym (len_unmarked g.space x)) ∙ sym (ends_words (unmarked g.space) x 0 (len_in (unmarked g.space) x))
      ∙ sym (ap (λ o. somes (map in_word (option_map_or (λ (k : HeapBlock). k.words) o []))) (at_kept t (entries_of g ks) g.began g.space.spare refl q (Some (row_in (unmarked g.space) g.space x (kept_for ks q))) (row_there g ks q x e)))

  pub same_edges : (q : BlockId) → edges (shape_of g) q ≡ refs_in t.blocks q
  same_edges q = edges_by q (spot_for g.rows q) refl

-- what marking changes: shades alone
map_kept : {X : Type 0} (f : Row → X) (u s z : Space') (ks : List (BlockId × Kept')) → ((x : Spot) (k : Kept') → f (row_in u s x k) ≡ f (row_in u z x k)) → (rs : List (BlockId × Spot))
    → map (λ (e : BlockId × Row). let r : BlockId × X = (e.0, f e.1) in r) (rows_in u s ks rs) ≡ map (λ (e : BlockId × Row). let r : BlockId × X = (e.0, f e.1) in r) (rows_in u z ks rs)
map_kept f u s z ks same [] = refl
map_kept {X} f u s z ks same (e ∷ rs) =
    ap (λ (y : X). let r : BlockId × X = (e.0, y) in r ∷ map (λ (e : BlockId × Row). let r : BlockId × X = (e.0, f e.1) in r) (rows_in u s ks rs)) (same e.1 (kept_for ks e.0))
    ∙ ap (λ l. let r : BlockId × X = (e.0, f (row_in u z e.1 (kept_for ks e.0))) in r ∷ l) (map_kept f u s z ks same rs)

kept_same : {X : Type 0} (f : Row → X) (u s z : Space') (ks : List (BlockId × Kept')) → ((x : Spot) (k : Kept') → f (row_in u s x k) ≡ f (row_in u z x k)) → (rs : List (BlockId × Spot)) → each_of f (rows_in u s ks rs) ≡ each_of f (rows_in u z ks rs)
kept_same f u s z ks same rs = ap from_entries (map_kept f u s z ks same rs)

pub marked_table : (g new : Graph') (ks : List (BlockId × Kept')) → rest_of new ≡ rest_of g → lying_table new ks ≡ (let y : Table = record (lying_table g ks) { shades = (lying_table new ks).shades } in y)
marked_table g new ks rest =
    moved ∙ (λ i. record {
      blocks = kept_same (λ (r : Row). r.kept) (unmarked g.space) new.space g.space ks (λ x k. refl) g.rows i;
      holds = kept_same (λ (r : Row). r.holds) (unmarked g.space) new.space g.space ks (λ x k. refl) g.rows i;
      shades = each_of (λ (r : Row). r.shade) (rows_in (unmarked g.space) new.space ks g.rows);
      order = (keys_rows (unmarked g.space) new.space ks g.rows ∙ sym (keys_rows (unmarked g.space) g.space ks g.rows)) i;
      began = g.began;
      room = g.space.spare;
    }) ∙ ap (λ m. let y : Table = record (lying_table g ks) { shades = m } in y) (sym (ap (λ (t : Table). t.shades) moved))
  where
    moved : lying_table new ks ≡ table_of (rows_in (unmarked g.space) new.space ks g.rows) g.began g.space.spare
    moved = ap (λ (r : Graph'). table_of (rows_in r.space new.space ks r.rows) r.began r.space.spare) rest
