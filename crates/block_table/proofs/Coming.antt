-- A block comes into the table over a space
use Rattle.std.proofs.Common.{◌≡◌, ◌≢◌, ◌⊎◌, inl, inr, ℕ, suc, ◌+◌, ◌/◌, ◌%◌, ◌<◌, ◌≤◌, ◌++◌, Bool, true, false, cond, List, [], ◌∷◌, Option, Some, None, drop, length, slice_get, is_some, refl, sym, ap, ◌∙◌, subst, arith}
use Rattle.std.specs.Option.{option_map, option_map_or, unwrap_or}
use Rattle.std.specs.Map.{keys_of, lookup}
use Rattle.std.specs.FinMap.{get}
use Rattle.az_base.specs.declared.block_id.BlockId.{BlockId}
use Rattle.az_base.specs.declared.word.Word.{Word}
use Rattle.az_base.specs.Ids.{id_eq}
use Rattle.az_base.proofs.Ids.{eq_is, eq_self}
use Rattle.block_layouts.specs.declared.layout.Layout.{Layout}
use Rattle.block_layouts.specs.declared.layout.Shape.TheVariants as layout
use Rattle.block_layouts.specs.Fitting.{Fits}
use Rattle.block_layouts.specs.Layouts.{len_of, quanta}
use Rattle.quantum_space.specs.declared.shade.Shade.TheVariants as shade
use Rattle.quantum_space.specs.declared.spot.Spot.{Spot}
use Rattle.quantum_space.specs.PlacedWords.{unplaced, word_of}
use Rattle.quantum_space.proofs.Runs.{below_or}
use Rattle.block_space.specs.Spaces.{region}
use Rattle.block_space.specs.Maps.{IsSound}
use Rattle.block_space.specs.Marking.{layout_in, len_in, shade_told, unmarked, unshaded, with_word_in, word_in}
use Rattle.block_space.proofs.Keeping.{stored_block}
use Rattle.block_space.proofs.Unmarked.{byte_unmarked}
use Rattle.block_space.proofs.Written.{word_beside, word_set, word_still}
use Rattle.space_graph.specs.Graphs.{Graph', IsAdded, IsGraph, spot_for, with_space}
use Rattle.space_graph.proofs.Comings.{spare_word}
use Rattle.space_graph.proofs.Positions.{found_back, found_last, found_still, keys_more, rows_longer}
use Rattle.space_graph.proofs.Steps.{word_byte, word_layout}
use Rattle.block_table.specs.Lying.{AreLying, IsPutWith, IsSameSpot, IsWrittenTo, Kept', block_in, entries_of, kept_for, lying_table, nothing_kept, row_in, words_at, words_from}
use Rattle.block_table.specs.Stored.{IsWhole, Row, newly}
use Rattle.block_table.specs.Table.{IsKept, Table, table_of, with_block}
use Rattle.block_table.proofs.Alike.{same_row, same_words}
use Rattle.block_table.proofs.Comings.{come_kept, come_table}
use Rattle.block_table.proofs.Lying.{all_unmarked, keys_rows, long_rows, long_words, row_for, word_from}
use Rattle.block_table.proofs.Rewritten.{word_again}
use Rattle.block_table.proofs.Told.{layout_same}

-- one word more
pub written_none : (g : Graph') (x : Spot) (ws : List Word) → IsWrittenTo g x ws 0 g
written_none g x ws = record {
  rows = refl;
  began = refl;
  spare = refl;
  layouts = λ y. refl;
  bytes = λ y. refl;
  others = λ y o j d e l. refl;
  words = λ j l. absurd (omega (arith, l));
}

pub written_more : (g cur new : Graph') (x : Spot) (ws : List Word) (n : ℕ) (v : Word) → IsSound cur.space → n < len_in g.space x → slice_get ws n ≡ Some v → new ≡ with_space cur (with_word_in cur.space x n (unplaced v)) → IsWrittenTo g x ws n cur → IsWrittenTo g x ws (n + 1) new
written_more g cur new x ws n v sound lt at e w = subst (λ (y : Graph'). IsWrittenTo g x ws (n + 1) y) (sym e) (record {
  rows = w.rows;
  began = w.began;
  spare = spare_word cur.space x n (unplaced v) ∙ w.spare;
  layouts = λ y. word_layout cur.space x n (unplaced v) y ∙ w.layouts y;
  bytes = λ y. word_byte cur.space x n (unplaced v) y ∙ w.bytes y;
  others = λ y o j d h m. word_still cur.space x y l.0 o n j (unplaced v) sound d (w.layouts x ∙ l.1) (w.layouts y ∙ h) (omega (arith, lt, long)) m ∙ w.others y o j d h m;
  words = words;
})
  where
    l : (l : Layout) × (layout_in g.space x ≡ Some l)
    l = there (layout_in g.space x) refl lt
      where
        there : (o : Option Layout) → layout_in g.space x ≡ o → n < option_map_or len_of o 0 → (l : Layout) × (layout_in g.space x ≡ Some l)
        there None e h = absurd (omega (arith, h))
        there (Some l) e h = (l, e)

    long : len_in g.space x ≡ len_of l.0
    long = ap (λ o. option_map_or len_of o 0) l.1

    words : (j : ℕ) → j < n + 1 → Some (word_of (word_in (with_word_in cur.space x n (unplaced v)) x j)) ≡ slice_get ws j
    words j m = elim (below_or j n) [
      | inl b ↦ ap (λ w. Some (word_of w)) (word_beside cur.space x n j (unplaced v) (λ f. omega (arith, f, b))) ∙ w.words j b
      | inr b ↦ (let same : n ≡ j = omega (arith, m, b) in
          subst (λ k. Some (word_of (word_in (with_word_in cur.space x n (unplaced v)) x k)) ≡ slice_get ws k) same
          (ap (λ w. Some (word_of w)) (word_set cur.space x l.0 n (unplaced v) sound (w.layouts x ∙ l.1) (omega (arith, lt, long))) ∙ ap (λ v. Some v) (word_again v) ∙ sym at))
    ]

-- all words
same_list : (xs ys : List Word) → length xs ≡ length ys → ((k : ℕ) → k < length ys → slice_get xs k ≡ slice_get ys k) → xs ≡ ys
same_list [] [] e f = refl
same_list [] (y ∷ ys) e f = absurd (omega (arith, e))
same_list (x ∷ xs) [] e f = absurd (omega (arith, e))
same_list (x ∷ xs) (y ∷ ys) e f =
    let head : x ≡ y = ap (λ (o : Option Word). elim o [ None ↦ x | Some z ↦ z ]) (f 0 (omega arith)) in
    ap (λ z. z ∷ xs) head ∙ ap (λ l. y ∷ l) (same_list xs ys (omega (arith, e)) (λ k l. f (suc k) (omega (arith, l))))

pub put_with : (g mid new : Graph') (id : BlockId) (l : Layout) (ws : List Word) (x : Spot) → Fits l ws → IsAdded g mid id l x → IsWrittenTo mid x ws (length ws) new → IsPutWith g id l ws new
put_with g mid new id l ws x fits added w = record {
  spot = x;
  rows = w.rows ∙ added.rows;
  began = w.began ∙ ap (λ (y : Graph'). y.began) added.rest;
  spare = w.spare ∙ added.put.spare;
  layout = here;
  byte = w.bytes x ∙ added.put.byte;
  words = same_list (words_at new.space x) ws (long_words new.space x 0 (len_in new.space x) ∙ long ∙ sym fits.all) (λ k lt.
      word_from new.space x 0 (len_in new.space x) k (omega (arith, lt, long, fits.all)) ∙ (let z : 0 + k ≡ k = omega arith in ap (λ j. Some (word_of (word_in new.space x j))) z) ∙ w.words k lt);
  others = λ y o e. (let same = added.put.others y o e in
      let apart : y ≢ x = λ f. (let n : None ≡ Some o = sym added.put.fresh ∙ ap (layout_in g.space) (sym f) ∙ e in cc) in
      let layouts : layout_in new.space y ≡ Some o = w.layouts y ∙ same.layout in
      let lens : len_in new.space y ≡ len_of o = ap (λ o. option_map_or len_of o 0) layouts in
      let was : len_in g.space y ≡ len_of o = ap (λ o. option_map_or len_of o 0) e in
      record {
        layout = layouts ∙ sym e;
        byte = w.bytes y ∙ same.byte;
        words = ap (words_from new.space y 0) (lens ∙ sym was) ∙ same_words g.space new.space y 0 (len_in g.space y) (λ j a b. w.others y o j apart same.layout (omega (arith, b, was)) ∙ same.words j (omega (arith, b, was)));
      });
}
  where
    here : layout_in new.space x ≡ Some l
    here = w.layouts x ∙ added.put.layout

    long : len_in new.space x ≡ len_of l
    long = ap (λ o. option_map_or len_of o 0) here

-- the table has a block more
module _ (t : Table) (g : Graph') (ks ls : List (BlockId × Kept')) (is : lying_table g ks ≡ t) (inv : IsGraph g) (id : BlockId) (l : Layout) (ws : List Word) (new : Graph') (k : Kept') (none : spot_for g.rows id ≡ None) (put : IsPutWith g id l ws new)
    (kept : (q : BlockId) → lookup (id_eq q) ls ≡ cond (id_eq id q) (Some k) (lookup (id_eq q) ks)) where
  abbrev x : Spot
  x = put.spot

  abbrev pub come_row : Row
  come_row = record { kept = newly l ws k.actions; holds = k.holds; shade = shade.Black }

  kept_at : (q : BlockId) (b : Bool) → id_eq id q ≡ b → kept_for ls q ≡ cond b k (kept_for ks q)
  kept_at q true e = ap (λ o. unwrap_or o nothing_kept) (kept q ∙ ap (λ b. cond b (Some k) (lookup (id_eq q) ks)) e)
  kept_at q false e = ap (λ o. unwrap_or o nothing_kept) (kept q ∙ ap (λ b. cond b (Some k) (lookup (id_eq q) ks)) e)

  -- the new block's row
  pub row_new : k.finalised ≡ false → row_in (unmarked new.space) new.space x k ≡ come_row
  row_new fin = λ i. record {
    kept = record {
      layout = (layout_same new.space x ∙ ap (λ o. unwrap_or o (layout.Scanned 0)) put.layout) i;
      words = (all_unmarked new.space x ∙ put.words) i;
      actions = k.actions;
      finalised = fin i;
      age = ap (λ n. (n / 4) % 8) (byte_unmarked new.space x ∙ ap unshaded put.byte) i;
    };
    holds = k.holds;
    shade = ap shade_told put.byte i;
  }

  at_last : spot_for new.rows id ≡ Some x
  at_last = ap (λ rs. spot_for rs id) put.rows ∙ found_last g.rows id x none

  at_still : (q : BlockId) (y : Spot) → spot_for g.rows q ≡ Some y → spot_for new.rows q ≡ Some y
  at_still q y e = ap (λ rs. spot_for rs q) put.rows ∙ found_still g.rows id q x y e

  at_back : (q : BlockId) (y : Spot) → spot_for new.rows q ≡ Some y → (spot_for g.rows q ≡ Some y) ⊎ ((q ≡ id) × (x ≡ y))
  at_back q y e = found_back g.rows id q x y (ap (λ rs. spot_for rs q) (sym put.rows) ∙ e)

  at_none : (q : BlockId) → id_eq id q ≡ false → spot_for g.rows q ≡ None → spot_for new.rows q ≡ None
  at_none q f e = go (spot_for new.rows q) refl
    where
      go : (o : Option Spot) → spot_for new.rows q ≡ o → spot_for new.rows q ≡ None
      go None h = h
      go (Some y) h = elim (at_back q y h) [
        | inl a ↦ (let no : None ≡ Some y = sym e ∙ a in cc)
        | inr a ↦ (let yes : id_eq id q ≡ true = ap (λ i. id_eq id i) a.0 ∙ eq_self id in let no : true ≡ false = sym yes ∙ f in cc)
      ]

  same_there : (q : BlockId) (y : Spot) → spot_for g.rows q ≡ Some y → IsSameSpot g.space new.space y
  same_there q y e = (let st = stored_block (region g.space y.kind) y.at (inv.there q y e).0 in put.others y st.0 st.1)

  pub row_come : k.finalised ≡ false → (q : BlockId) → lookup (id_eq q) (entries_of new ls) ≡ cond (id_eq id q) (Some come_row) (lookup (id_eq q) (entries_of g ks))
  row_come fin q = row_for (unmarked new.space) new.space ls new.rows q ∙ go (id_eq id q) refl (spot_for g.rows q) refl
    where
      go : (b : Bool) → id_eq id q ≡ b → (o : Option Spot) → spot_for g.rows q ≡ o → option_map (λ y. row_in (unmarked new.space) new.space y (kept_for ls q)) (spot_for new.rows q) ≡ cond b (Some come_row) (lookup (id_eq q) (entries_of g ks))
      go true e o f =
          ap (λ k. option_map (λ y. row_in (unmarked new.space) new.space y k) (spot_for new.rows q)) (kept_at q true e)
          ∙ ap (option_map (λ y. row_in (unmarked new.space) new.space y k)) (ap (spot_for new.rows) (sym (eq_is id q e)) ∙ at_last) ∙ ap (λ r. Some r) (row_new fin)
      go false e None f =
          ap (option_map (λ y. row_in (unmarked new.space) new.space y (kept_for ls q))) (at_none q e f)
          ∙ sym (row_for (unmarked g.space) g.space ks g.rows q ∙ ap (option_map (λ y. row_in (unmarked g.space) g.space y (kept_for ks q))) f)
      go false e (Some y) f =
          ap (option_map (λ y. row_in (unmarked new.space) new.space y (kept_for ls q))) (at_still q y f)
          ∙ ap (λ k. Some (row_in (unmarked new.space) new.space y k)) (kept_at q false e) ∙ ap (λ r. Some r) (same_row g.space new.space y (kept_for ks q) (same_there q y f))
          ∙ sym (row_for (unmarked g.space) g.space ks g.rows q ∙ ap (option_map (λ y. row_in (unmarked g.space) g.space y (kept_for ks q))) f)

  pub keys_come : keys_of (entries_of new ls) ≡ keys_of (entries_of g ks) ++ id ∷ []
  keys_come = keys_rows (unmarked new.space) new.space ls new.rows ∙ ap keys_of put.rows ∙ keys_more g.rows id x ∙ ap (λ l. l ++ id ∷ []) (sym (keys_rows (unmarked g.space) g.space ks g.rows))

  pub long_come : length (entries_of new ls) ≡ length (entries_of g ks) + 1
  long_come = long_rows (unmarked new.space) new.space ls new.rows ∙ ap length put.rows ∙ rows_longer g.rows id x ∙ ap (λ n. n + 1) (sym (long_rows (unmarked g.space) g.space ks g.rows))

  pub table_come : k.finalised ≡ false → lying_table new ls ≡ with_block t id (newly l ws k.actions) k.holds
  table_come fin =
      ap (λ n. table_of (entries_of new ls) n new.space.spare) put.began ∙ ap (λ ns. table_of (entries_of new ls) g.began ns) put.spare
      ∙ come_table (entries_of g ks) (entries_of new ls) id come_row (row_come fin) t g.began g.space.spare is keys_come

  pub lying_come : k.finalised ≡ false → length k.actions ≤ 8 → Fits l ws → (used more room now : ℕ) → more ≡ used + quanta (len_of l) → quanta (len_of l) ≤ 2048 → room ≤ now + 1 → length (drop 1 g.space.spare) + 1 ≡ length g.space.spare → get t.blocks id ≡ None
      → AreLying g ks used room → AreLying new ls more now
  lying_come fin few fits used more room now sum size spare left absent lying = record {
    same = λ q. same q (id_eq id q) refl;
    whole = whole;
    kept = subst (λ n. IsKept (entries_of new ls) n more new.space.spare now) (sym put.began) (subst (λ ns. IsKept (entries_of new ls) g.began more ns now) (sym put.spare)
        (come_kept (entries_of g ks) (entries_of new ls) id come_row (row_come fin) g.began used more room now g.space.spare (drop 1 g.space.spare) (sym (ap (λ (t : Table). get t.blocks id) is ∙ absent)) long_come spare left sum size lying.kept));
  }
    where
      same : (q : BlockId) (b : Bool) → id_eq id q ≡ b → is_some (lookup (id_eq q) ls) ≡ is_some (spot_for new.rows q)
      same q true e = ap is_some (kept q ∙ ap (λ b. cond b (Some k) (lookup (id_eq q) ks)) e) ∙ sym (ap is_some (ap (spot_for new.rows) (sym (eq_is id q e)) ∙ at_last))
      same q false e = ap is_some (kept q ∙ ap (λ b. cond b (Some k) (lookup (id_eq q) ks)) e) ∙ lying.same q ∙ go (spot_for g.rows q) refl
        where
          go : (o : Option Spot) → spot_for g.rows q ≡ o → is_some (spot_for g.rows q) ≡ is_some (spot_for new.rows q)
          go None f = ap is_some f ∙ sym (ap is_some (at_none q e f))
          go (Some y) f = ap is_some f ∙ sym (ap is_some (at_still q y f))

      whole : (q : BlockId) (y : Spot) → spot_for new.rows q ≡ Some y → IsWhole (block_in (unmarked new.space) y (kept_for ls q))
      whole q y e = by (id_eq id q) refl
        where
          here : IsWhole (block_in (unmarked new.space) x k)
          here = subst (λ (r : Row). IsWhole r.kept) (sym (row_new fin)) (record { words = fits; actions = few; age = omega arith })

          by : (b : Bool) → id_eq id q ≡ b → IsWhole (block_in (unmarked new.space) y (kept_for ls q))
          by true f =
              let spots : x ≡ y = (let h : Some x ≡ Some y = sym at_last ∙ ap (spot_for new.rows) (eq_is id q f) ∙ e in cc) in
              subst (λ (k : Kept'). IsWhole (block_in (unmarked new.space) y k)) (sym (kept_at q true f)) (subst (λ (y : Spot). IsWhole (block_in (unmarked new.space) y k)) spots here)
          by false f = elim (at_back q y e) [
            | inl a ↦ subst (λ (k : Kept'). IsWhole (block_in (unmarked new.space) y k)) (sym (kept_at q false f)) (subst (λ (r : Row). IsWhole r.kept) (sym (same_row g.space new.space y (kept_for ks q) (same_there q y a))) (lying.whole q y a))
            | inr a ↦ absurd (let yes : id_eq id q ≡ true = ap (λ i. id_eq id i) a.0 ∙ eq_self id in let no : true ≡ false = sym yes ∙ f in cc)
          ]
