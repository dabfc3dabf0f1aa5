-- A word of a block in a space is written
use Rattle.std.proofs.Common.{◌≡◌, ◌≢◌, ℕ, zero, suc, ◌+◌, ◌<◌, ◌/◌, ◌%◌, Bool, true, false, cond, List, ◌∷◌, Option, Some, None, MatchOption, slice_set, refl, sym, ap, ◌∙◌, subst, arith}
use Rattle.std.specs.Option.{option_map, option_map_or, unwrap_or}
use Rattle.std.specs.Map.{keys_of, lookup}
use Rattle.az_base.specs.declared.block_id.BlockId.{BlockId}
use Rattle.az_base.specs.declared.word.Word.{Word}
use Rattle.az_base.specs.declared.word.Word.TheVariants as word
use Rattle.az_base.specs.Ids.{id_eq}
use Rattle.az_base.proofs.Ids.{eq_is, eq_self}
use Rattle.block_layouts.specs.declared.layout.Layout.{Layout}
use Rattle.block_layouts.specs.declared.layout.Shape.TheVariants as layout
use Rattle.block_layouts.specs.Fitting.{FitsAt, Suits}
use Rattle.az_base.specs.declared.word.Class.{Class}
use Rattle.std.proofs.lemmas.Bool.Decides.{nat_tests}
use Rattle.zone_model.specs.State.{with_edit}
use Rattle.block_layouts.specs.Layouts.{class_at, len_of}
use Rattle.block_layouts.proofs.Fitting.{class_within, set_fits}
use Rattle.quantum_space.specs.declared.spot.Spot.{Spot}
use Rattle.quantum_space.specs.PlacedWords.{unplaced, word_of}
use Rattle.block_space.specs.Spaces.{Space', region}
use Rattle.block_space.specs.Maps.{IsSound}
use Rattle.block_space.specs.Marking.{HasBlockIn, id_in, layout_in, len_in, shade_told, unmarked, unshaded, with_word_in, word_in}
use Rattle.block_space.proofs.Keeping.{stored_block}
use Rattle.block_space.proofs.Unmarked.{byte_unmarked}
use Rattle.block_space.proofs.Written.{word_beside, word_set, word_still}
use Rattle.space_graph.specs.Graphs.{Graph', IsGraph, spot_for, with_space}
use Rattle.space_graph.proofs.Comings.{spare_word}
use Rattle.space_graph.proofs.Steps.{word_byte, word_layout}
use Rattle.block_table.specs.Lying.{AreLying, IsSameSpot, Kept', block_in, entries_of, kept_for, layout_at, lying_table, row_in, words_at, words_from}
use Rattle.block_table.specs.Stored.{HeapBlock, IsWhole, Row}
use Rattle.block_table.specs.Table.{IsKept, Table, table_of}
use Rattle.block_table.proofs.Alike.{same_row, same_words}
use Rattle.block_table.proofs.Edits.{blocks_edited, still_kept}
use Rattle.block_table.proofs.Lying.{all_unmarked, keys_rows, long_rows, row_for, row_there}
use Rattle.block_table.proofs.Told.{layout_same}

pub word_again : (v : Word) → word_of (unplaced v) ≡ v
word_again word.Null = refl
word_again (word.Block id) = refl
word_again (word.Number n) = refl

-- the list of words with one set
pub words_set : (s z : Space') (x : Spot) (at : ℕ) (v : Word) → word_of (word_in z x at) ≡ v → ((k : ℕ) → k ≢ at → word_in z x k ≡ word_in s x k) → (i n d : ℕ) → at ≡ i + d → d < n → words_from z x i n ≡ slice_set (words_from s x i n) d v
words_set s z x at v here same i zero d e l = absurd (omega (arith, l))
words_set s z x at v here same i (suc n) zero e l =
    let at_i : at ≡ i = omega (arith, e) in
    ap (λ w. w ∷ words_from z x (suc i) n) (ap (λ j. word_of (word_in z x j)) (sym at_i) ∙ here)
    ∙ ap (λ l. v ∷ l) (same_words s z x (suc i) n (λ k a b. same k (λ f. omega (arith, a, f, at_i))))
words_set s z x at v here same i (suc n) (suc d) e l =
    ap (λ w. word_of w ∷ words_from z x (suc i) n) (same i (λ f. omega (arith, e, f)))
    ∙ ap (λ l. word_of (word_in s x i) ∷ l) (words_set s z x at v here same (suc i) n d (omega (arith, e)) (omega (arith, l)))

module _ (g : Graph') (inv : IsGraph g) (sound : IsSound g.space) (ks : List (BlockId × Kept')) (id : BlockId) (x : Spot) (at : spot_for g.rows id ≡ Some x) (l : Layout) (stored : layout_in g.space x ≡ Some l) (i : ℕ) (lt : i < len_of l) (v : Word) where
  abbrev z : Space'
  z = with_word_in g.space x i (unplaced v)

  abbrev k : Kept'
  k = kept_for ks id

  pub others_same : (q : BlockId) (y : Spot) → spot_for g.rows q ≡ Some y → id_eq id q ≡ false → IsSameSpot g.space z y
  others_same q y e f =
      let t = inv.there q y e in
      let st = stored_block (region g.space y.kind) y.at t.0 in
      let apart : y ≢ x = λ s. (let same : id ≡ q = sym (inv.there id x at).1 ∙ ap (id_in g.space) (sym s) ∙ t.1 in let yes : id_eq id q ≡ true = subst (λ w. id_eq id w ≡ true) same (eq_self id) in let no : true ≡ false = sym yes ∙ f in cc) in
      let layouts : layout_in z y ≡ layout_in g.space y = word_layout g.space x i (unplaced v) y in
      let lens : len_in z y ≡ len_in g.space y = ap (λ o. option_map_or len_of o 0) layouts in
      let long : len_in g.space y ≡ len_of st.0 = ap (λ o. option_map_or len_of o 0) st.1 in
      record {
        layout = layouts;
        byte = word_byte g.space x i (unplaced v) y;
        words = ap (words_from z y 0) lens ∙ same_words g.space z y 0 (len_in g.space y) (λ j a b. word_still g.space x y l st.0 i j (unplaced v) sound apart stored st.1 lt (omega (arith, b, long)));
      }

  -- its own row
  abbrev was_row : Row
  was_row = row_in (unmarked g.space) g.space x k

  abbrev now_row : Row
  now_row = row_in (unmarked z) z x k

  layouts_here : layout_in z x ≡ layout_in g.space x
  layouts_here = word_layout g.space x i (unplaced v) x

  words_here : words_at z x ≡ slice_set (words_at g.space x) i v
  words_here =
      let lens : len_in z x ≡ len_in g.space x = ap (λ o. option_map_or len_of o 0) layouts_here in
      let long : len_in g.space x ≡ len_of l = ap (λ o. option_map_or len_of o 0) stored in
      ap (words_from z x 0) lens ∙ words_set g.space z x i v (ap word_of (word_set g.space x l i (unplaced v) sound stored lt) ∙ word_again v)
      (λ j d. word_beside g.space x i j (unplaced v) d) 0 (len_in g.space x) i (omega arith) (omega (arith, lt, long))

  pub block_here : block_in (unmarked z) x k ≡ (let r : HeapBlock = record (block_in (unmarked g.space) x k) { words = slice_set (words_at (unmarked g.space) x) i v } in r)
  block_here = λ j. record {
    layout = (layout_same z x ∙ ap (λ o. unwrap_or o (layout.Scanned 0)) layouts_here ∙ sym (layout_same g.space x)) j;
    words = (all_unmarked z x ∙ words_here ∙ ap (λ ws. slice_set ws i v) (sym (all_unmarked g.space x))) j;
    actions = k.actions;
    finalised = k.finalised;
    age = ap (λ b. (b / 4) % 8) (byte_unmarked z x ∙ ap unshaded (word_byte g.space x i (unplaced v) x) ∙ sym (byte_unmarked g.space x)) j;
  }

  pub row_here : now_row ≡ (let r : Row = record was_row { kept = let b : HeapBlock = record was_row.kept { words = slice_set was_row.kept.words i v } in b } in r)
  row_here = λ j. record {
    kept = block_here j;
    holds = k.holds;
    shade = ap shade_told (word_byte g.space x i (unplaced v) x) j;
  }

  pub was_here : Some was_row ≡ lookup (id_eq id) (entries_of g ks)
  was_here = row_there g ks id x at

  pub row_set : (q : BlockId) → lookup (id_eq q) (entries_of (with_space g z) ks) ≡ cond (id_eq id q) (Some now_row) (lookup (id_eq q) (entries_of g ks))
  row_set q = row_for (unmarked z) z ks g.rows q ∙ go (id_eq id q) refl (spot_for g.rows q) refl
    where
      go : (b : Bool) → id_eq id q ≡ b → (o : Option Spot) → spot_for g.rows q ≡ o → option_map (λ y. row_in (unmarked z) z y (kept_for ks q)) (spot_for g.rows q) ≡ cond b (Some now_row) (lookup (id_eq q) (entries_of g ks))
      go true e o f = ap (λ w. option_map (λ y. row_in (unmarked z) z y (kept_for ks w)) (spot_for g.rows w)) (sym (eq_is id q e)) ∙ ap (option_map (λ y. row_in (unmarked z) z y k)) at
      go false e None f = ap (option_map (λ y. row_in (unmarked z) z y (kept_for ks q))) f ∙ sym (row_for (unmarked g.space) g.space ks g.rows q ∙ ap (option_map (λ y. row_in (unmarked g.space) g.space y (kept_for ks q))) f)
      go false e (Some y) f =
          ap (option_map (λ y. row_in (unmarked z) z y (kept_for ks q))) f ∙ ap (λ r. Some r) (same_row g.space z y (kept_for ks q) (others_same q y f e))
          ∙ sym (row_for (unmarked g.space) g.space ks g.rows q ∙ ap (option_map (λ y. row_in (unmarked g.space) g.space y (kept_for ks q))) f)

  pub keys_set : keys_of (entries_of (with_space g z) ks) ≡ keys_of (entries_of g ks)
  keys_set = keys_rows (unmarked z) z ks g.rows ∙ sym (keys_rows (unmarked g.space) g.space ks g.rows)

  pub set_lying : (used room : ℕ) → FitsAt (layout_at (unmarked g.space) x) i v → AreLying g ks used room → AreLying (with_space g z) ks used room
  set_lying used room fits lying = record {
    same = lying.same;
    whole = λ q y e. by q y e (id_eq id q) refl;
    kept = subst (λ (ns : List ℕ). IsKept (entries_of (with_space g z) ks) g.began used ns room) (sym (spare_word g.space x i (unplaced v)))
        (still_kept (entries_of g ks) (entries_of (with_space g z) ks) id was_row now_row was_here row_set keys_set (ap (λ (b : HeapBlock). b.layout) block_here) (long_rows (unmarked z) z ks g.rows ∙ sym (long_rows (unmarked g.space) g.space ks g.rows)) refl lying.kept);
  }
    where
      by : (q : BlockId) (y : Spot) → spot_for g.rows q ≡ Some y → (b : Bool) → id_eq id q ≡ b → IsWhole (block_in (unmarked z) y (kept_for ks q))
      by q y e true f =
          let same : id ≡ q = eq_is id q f in
          let spots : x ≡ y = (let h : Some x ≡ Some y = sym at ∙ ap (spot_for g.rows) same ∙ e in cc) in
          let w = lying.whole id x at in
          let here : IsWhole (block_in (unmarked z) x k) = subst IsWhole (sym block_here) (record { words = set_fits (layout_at (unmarked g.space) x) (words_at (unmarked g.space) x) i v w.words fits; actions = w.actions; age = w.age }) in
          subst (λ (y : Spot). IsWhole (block_in (unmarked z) y (kept_for ks q))) spots (subst (λ w. IsWhole (block_in (unmarked z) x (kept_for ks w))) same here)
      by q y e false f = subst (λ (r : Row). IsWhole r.kept) (sym (same_row g.space z y (kept_for ks q) (others_same q y e f))) (lying.whole q y e)

-- one block edited in the table
module _ (t : Table) (g : Graph') (ks : List (BlockId × Kept')) (is : lying_table g ks ≡ t) (inv : IsGraph g) (sound : IsSound g.space) (id : BlockId) (x : Spot) (at : spot_for g.rows id ≡ Some x) (has : HasBlockIn g.space x) (i : ℕ) (v : Word)
    (fits : FitsAt (layout_at (unmarked g.space) x) i v) (used room : ℕ) (lying : AreLying g ks used room) where
  pub stored : (l : Layout) × (layout_in g.space x ≡ Some l)
  stored = stored_block (region g.space x.kind) x.at has

  its_layout : layout_at (unmarked g.space) x ≡ stored.0
  its_layout = layout_same g.space x ∙ ap (λ o. unwrap_or o (layout.Scanned 0)) stored.1

  pub within : i < len_of stored.0
  within = by (class_at stored.0 i) refl (subst (λ l. FitsAt l i v) its_layout fits)
    where
      by : (o : Option Class) → class_at stored.0 i ≡ o → MatchOption o ⊥ (λ c. Suits c v) → i < len_of stored.0
      by None e f = absurd f
      by (Some c) e f = (let w = class_within stored.0 i c e in grind (arith, nat_tests))

  pub set_within : i < len_in g.space x
  set_within = (let long : len_in g.space x ≡ len_of stored.0 = ap (λ o. option_map_or len_of o 0) stored.1 in omega (arith, long, within))

  pub word_table : lying_table (with_space g (with_word_in g.space x i (unplaced v))) ks ≡ (let y : Table = record t { blocks = with_edit t.blocks id (λ (k : HeapBlock). let r : HeapBlock = record k { words = slice_set k.words i v } in r) } in y)
  word_table =
      ap (λ ns. table_of (entries_of (with_space g (with_word_in g.space x i (unplaced v))) ks) g.began ns) (spare_word g.space x i (unplaced v))
      ∙ blocks_edited (entries_of g ks) (entries_of (with_space g (with_word_in g.space x i (unplaced v))) ks) id _ _ (was_here g inv sound ks id x at stored.0 stored.1 i within v) (row_set g inv sound ks id x at stored.0 stored.1 i within v) (keys_set g inv sound ks id x at stored.0 stored.1 i within v)
      is (λ (k : HeapBlock). let r : HeapBlock = record k { words = slice_set k.words i v } in r) (row_here g inv sound ks id x at stored.0 stored.1 i within v)

  pub word_lying : AreLying (with_space g (with_word_in g.space x i (unplaced v))) ks used room
  word_lying = set_lying g inv sound ks id x at stored.0 stored.1 i within v used room fits lying
