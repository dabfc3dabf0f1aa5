-- Blocks go from the table over a space
use Rattle.std.proofs.Common.{◌≡◌, ◌≢◌, ℕ, zero, suc, ◌+◌, ◌-◌, ◌<◌, ◌≤◌, Bool, true, false, cond, List, [], ◌∷◌, Option, Some, None, IsTrue, map, take, slice_get, is_some, refl, sym, ap, ◌∙◌, subst, arith, inl, inr}
use Rattle.std.specs.Option.{option_map, option_map_or, unwrap_or}
use Rattle.std.specs.Map.{lookup}
use Rattle.az_base.specs.declared.block_id.BlockId.{BlockId}
use Rattle.az_base.specs.declared.word.Word.{Word}
use Rattle.az_base.specs.declared.word.Word.TheVariants as word
use Rattle.az_base.specs.Ids.{among, id_eq}
use Rattle.az_base.proofs.Ids.{eq_is, eq_self}
use Rattle.block_layouts.specs.Layouts.{len_of, quanta}
use Rattle.quantum_space.specs.declared.placed.PlacedWord.{PlacedWord}
use Rattle.quantum_space.specs.declared.placed.PlacedWord.TheVariants as placed
use Rattle.quantum_space.specs.declared.spot.Spot.{Spot}
use Rattle.quantum_space.specs.PlacedWords.{word_of}
use Rattle.quantum_space.specs.Shapes.{Has}
use Rattle.quantum_space.proofs.Lists.{has_among, has_at}
use Rattle.block_space.specs.Spaces.{region}
use Rattle.block_space.specs.Marking.{id_in, layout_in, len_in, unmarked, word_in}
use Rattle.block_space.proofs.Keeping.{stored_block}
use Rattle.space_graph.specs.Graphs.{Graph', IsForgotten, IsGraph, IsTakenOut, KnowsLess, KnowsNothing, known_id, spot_for}
use Rattle.space_graph.proofs.Steps.{layout_rest}
use Rattle.block_table.specs.Lying.{AreLying, HasLess, HasOneLess, IsSameSpot, Kept', block_in, entries_of, kept_for, layout_at, lying_table, nothing_kept, row_in, rows_in, words_at, words_from}
use Rattle.block_table.specs.Places.{in_word, somes}
use Rattle.block_table.specs.Stored.{IsWhole, Row}
use Rattle.block_table.specs.Table.{AreApart, IsKept, Table}
use Rattle.block_table.proofs.Alike.{same_row, same_rows, same_words}
use Rattle.block_table.proofs.Comings.{gone_kept, gone_table, next_without, without_none}
use Rattle.block_table.proofs.Lying.{all_unmarked, long_rows, row_for, word_from}
use Rattle.block_table.proofs.Told.{layout_same, words_there}

-- the same blocks, where words know less
pub less_spots : (g new : Graph') → KnowsLess g new → (x : Spot) → IsSameSpot g.space new.space x
less_spots g new k x = record {
  layout = layout_rest new g x k.rest;
  byte = k.bytes x;
  words = sym (all_unmarked new.space x) ∙ ap (λ (r : Graph'). words_at r.space x) k.rest ∙ all_unmarked g.space x;
}

pub less_entries : (g new : Graph') (ks : List (BlockId × Kept')) → KnowsLess g new → entries_of new ks ≡ entries_of g ks
less_entries g new ks k = ap (λ (r : Graph'). rows_in (unmarked new.space) new.space ks r.rows) k.rest ∙ same_rows g.space new.space ks (less_spots g new k) g.rows

-- a block less
module _ (g new : Graph') (inv : IsGraph g) (ks ls : List (BlockId × Kept')) (id : BlockId) (out : IsTakenOut g id new) (kept : (q : BlockId) → lookup (id_eq q) ls ≡ cond (id_eq id q) None (lookup (id_eq q) ks)) where
  same_there : (q : BlockId) (y : Spot) → id_eq id q ≡ false → spot_for g.rows q ≡ Some y → IsSameSpot g.space new.space y
  same_there q y f e =
      let t = inv.there q y e in
      let st = stored_block (region g.space y.kind) y.at t.0 in
      let other : spot_for g.rows id ≢ Some y = λ h. (let same : id ≡ q = sym (inv.there id y h).1 ∙ t.1 in let yes : id_eq id q ≡ true = subst (λ w. id_eq id w ≡ true) same (eq_self id) in let no : true ≡ false = sym yes ∙ f in cc) in
      let o = out.others y st.0 other st.1 in
      let lens : len_in new.space y ≡ len_of st.0 = ap (λ o. option_map_or len_of o 0) o.layout in
      let was : len_in g.space y ≡ len_of st.0 = ap (λ o. option_map_or len_of o 0) st.1 in
      record {
        layout = o.layout ∙ sym st.1;
        byte = o.byte;
        words = ap (words_from new.space y 0) (lens ∙ sym was) ∙ same_words g.space new.space y 0 (len_in g.space y) (λ j a b. o.words j (omega (arith, b, was)));
      }

  kept_still : (q : BlockId) → id_eq id q ≡ false → kept_for ls q ≡ kept_for ks q
  kept_still q e = ap (λ o. unwrap_or o nothing_kept) (kept q ∙ ap (λ b. cond b None (lookup (id_eq q) ks)) e)

  spot_out : (q : BlockId) (b : Bool) → id_eq id q ≡ b → spot_for new.rows q ≡ cond b None (spot_for g.rows q)
  spot_out q b e = out.rows q ∙ ap (λ b. cond b None (spot_for g.rows q)) e

  pub row_gone : (q : BlockId) → lookup (id_eq q) (entries_of new ls) ≡ cond (id_eq id q) None (lookup (id_eq q) (entries_of g ks))
  row_gone q = row_for (unmarked new.space) new.space ls new.rows q ∙ go (id_eq id q) refl (spot_for g.rows q) refl
    where
      go : (b : Bool) → id_eq id q ≡ b → (o : Option Spot) → spot_for g.rows q ≡ o → option_map (λ y. row_in (unmarked new.space) new.space y (kept_for ls q)) (spot_for new.rows q) ≡ cond b None (lookup (id_eq q) (entries_of g ks))
      go true e o f = ap (option_map (λ y. row_in (unmarked new.space) new.space y (kept_for ls q))) (spot_out q true e)
      go false e None f =
          ap (option_map (λ y. row_in (unmarked new.space) new.space y (kept_for ls q))) (spot_out q false e ∙ f)
          ∙ sym (row_for (unmarked g.space) g.space ks g.rows q ∙ ap (option_map (λ y. row_in (unmarked g.space) g.space y (kept_for ks q))) f)
      go false e (Some y) f =
          ap (option_map (λ y. row_in (unmarked new.space) new.space y (kept_for ls q))) (spot_out q false e ∙ f)
          ∙ ap (λ k. Some (row_in (unmarked new.space) new.space y k)) (kept_still q e) ∙ ap (λ r. Some r) (same_row g.space new.space y (kept_for ks q) (same_there q y e f))
          ∙ sym (row_for (unmarked g.space) g.space ks g.rows q ∙ ap (option_map (λ y. row_in (unmarked g.space) g.space y (kept_for ks q))) f)

  pub one_less : HasOneLess (lying_table g ks) id (lying_table new ls)
  one_less = (let gone = gone_table (entries_of g ks) (entries_of new ls) id row_gone (lying_table g ks) g.began g.space.spare refl in
      record { blocks = gone.blocks; holds = gone.holds; shades = gone.shades; room = out.spare })

  pub lying_gone : (used n room more : ℕ) → n ≡ option_map_or (λ (r : Row). quanta (len_of r.kept.layout)) (lookup (id_eq id) (entries_of g ks)) 0 → room ≤ more → AreLying g ks used room → AreLying new ls (used - n) more
  lying_gone used n room more sum spare lying = record {
    same = λ q. same q (id_eq id q) refl;
    whole = λ q y e. whole q y e (id_eq id q) refl;
    kept = begun (subst (λ ns. IsKept (entries_of new ls) 0 (used - n) ns more) (sym out.spare)
        (gone_kept (entries_of g ks) (entries_of new ls) id used n room more g.space.spare row_gone sum (let f = out.fewer in let a = long_rows (unmarked new.space) new.space ls new.rows in let b = long_rows (unmarked g.space) g.space ks g.rows in omega (arith, f, a, b)) spare 0 refl (start lying.kept)));
  }
    where
      start : IsKept (entries_of g ks) g.began used g.space.spare room → IsKept (entries_of g ks) 0 used g.space.spare room
      start k = record { used = k.used; began = omega arith; room = k.room; few = k.few; sum = k.sum }

      begun : IsKept (entries_of new ls) 0 (used - n) new.space.spare more → IsKept (entries_of new ls) new.began (used - n) new.space.spare more
      begun k = record { used = k.used; began = (let f = out.began in let a = long_rows (unmarked new.space) new.space ls new.rows in omega (arith, f, a)); room = k.room; few = k.few; sum = k.sum }

      same : (q : BlockId) (b : Bool) → id_eq id q ≡ b → is_some (lookup (id_eq q) ls) ≡ is_some (spot_for new.rows q)
      same q true e = ap is_some (kept q ∙ ap (λ b. cond b None (lookup (id_eq q) ks)) e) ∙ sym (ap is_some (spot_out q true e))
      same q false e = ap is_some (kept q ∙ ap (λ b. cond b None (lookup (id_eq q) ks)) e) ∙ lying.same q ∙ sym (ap is_some (spot_out q false e))

      whole : (q : BlockId) (y : Spot) → spot_for new.rows q ≡ Some y → (b : Bool) → id_eq id q ≡ b → IsWhole (block_in (unmarked new.space) y (kept_for ls q))
      whole q y e true f = (let no : None ≡ Some y = sym (spot_out q true f) ∙ e in cc)
      whole q y e false f =
          let was : spot_for g.rows q ≡ Some y = sym (spot_out q false f) ∙ e in
          subst (λ (k : Kept'). IsWhole (block_in (unmarked new.space) y k)) (sym (kept_still q f)) (subst (λ (r : Row). IsWhole r.kept) (sym (same_row g.space new.space y (kept_for ks q) (same_there q y f was))) (lying.whole q y was))

  -- what is forgotten stays so
  pub still_forgotten : (b : BlockId) → IsForgotten g b → IsForgotten new b
  still_forgotten b f y o i e l h =
      let was = out.only y o e in
      let other : spot_for g.rows id ≢ Some y = λ k. (let no : None ≡ Some o = sym (out.gone y k) ∙ e in cc) in
      f y o i was l (ap known_id (sym ((out.others y o other was).words i l)) ∙ h)

-- the quanta of a block that is there
pub its_quanta : (g : Graph') (ks : List (BlockId × Kept')) (id : BlockId) (x : Spot) (n : ℕ) → spot_for g.rows id ≡ Some x → n ≡ quanta (len_of (layout_at g.space x)) → n ≡ option_map_or (λ (r : Row). quanta (len_of r.kept.layout)) (lookup (id_eq id) (entries_of g ks)) 0
its_quanta g ks id x n e is =
    is ∙ ap (λ l. quanta (len_of l)) (sym (layout_same g.space x))
    ∙ sym (ap (λ o. option_map_or (λ (r : Row). quanta (len_of r.kept.layout)) o 0) (row_for (unmarked g.space) g.space ks g.rows id ∙ ap (option_map (λ y. row_in (unmarked g.space) g.space y (kept_for ks id))) e))

-- nothing goes where nothing is
pub none_less : (t : Table) (g : Graph') (ks : List (BlockId × Kept')) (id : BlockId) → lying_table g ks ≡ t → spot_for g.rows id ≡ None → HasOneLess (lying_table g ks) id (lying_table g ks)
none_less t g ks id is e =
    (let gone = gone_table (entries_of g ks) (entries_of g ks) id (λ q. go q (id_eq id q) refl) (lying_table g ks) g.began g.space.spare refl in
    record { blocks = gone.blocks; holds = gone.holds; shades = gone.shades; room = refl })
  where
    none : lookup (id_eq id) (entries_of g ks) ≡ None
    none = row_for (unmarked g.space) g.space ks g.rows id ∙ ap (option_map (λ y. row_in (unmarked g.space) g.space y (kept_for ks id))) e

    go : (q : BlockId) (b : Bool) → id_eq id q ≡ b → lookup (id_eq q) (entries_of g ks) ≡ cond b None (lookup (id_eq q) (entries_of g ks))
    go q true f = ap (λ i. lookup (id_eq i) (entries_of g ks)) (sym (eq_is id q f)) ∙ none
    go q false f = refl

-- one after another
pub less_first : (t : Table) → HasLess t [] t
less_first t = record {
  blocks = sym (without_none t.blocks);
  holds = sym (without_none t.holds);
  shades = sym (without_none t.shades);
  room = refl;
}

pub less_next : (t cur new : Table) (ids : List BlockId) (n : ℕ) (id : BlockId) → slice_get ids n ≡ Some id → HasLess t (take n ids) cur → HasOneLess cur id new → HasLess t (take (n + 1) ids) new
less_next t cur new ids n id at is one = record {
  blocks = next_without t.blocks cur.blocks new.blocks ids n id at is.blocks one.blocks;
  holds = next_without t.holds cur.holds new.holds ids n id at is.holds one.holds;
  shades = next_without t.shades cur.shades new.shades ids n id at is.shades one.shades;
  room = one.room ∙ is.room;
}

-- what is known refers
known_refers : (w : PlacedWord) (b : BlockId) → known_id w ≡ Some b → word_of w ≡ word.Block b
known_refers placed.Null b e = cc
known_refers (placed.Block id) b e = cc
known_refers (placed.InSmall id at) b e = ap (λ (o : Option BlockId). elim o [ None ↦ word.Block id | Some z ↦ word.Block z ]) e
known_refers (placed.InMedium id at) b e = ap (λ (o : Option BlockId). elim o [ None ↦ word.Block id | Some z ↦ word.Block z ]) e
known_refers (placed.Number n) b e = cc

refers_in : (ws : List Word) (b : BlockId) (i : ℕ) → slice_get ws i ≡ Some (word.Block b) → Has (somes (map in_word ws)) b
refers_in [] b i e = cc
refers_in (word.Null ∷ ws) b zero e = cc
refers_in (word.Number n ∷ ws) b zero e = cc
refers_in (word.Block x ∷ ws) b zero e = let same : x ≡ b = cc in inl same
refers_in (word.Null ∷ ws) b (suc i) e = refers_in ws b i e
refers_in (word.Number n ∷ ws) b (suc i) e = refers_in ws b i e
refers_in (word.Block x ∷ ws) b (suc i) e = inr (refers_in ws b i e)

-- blocks to which none refers that stays are forgotten
pub all_forgotten : (t : Table) (g new : Graph') (ks : List (BlockId × Kept')) (ids : List BlockId) → IsGraph g → lying_table g ks ≡ t → AreApart t.blocks ids → KnowsLess g new
    → ((a : BlockId) (x : Spot) → IsTrue (among ids a) → spot_for g.rows a ≡ Some x → KnowsNothing new.space x (len_in g.space x)) → (b : BlockId) → IsTrue (among ids b) → IsForgotten new b
all_forgotten t g new ks ids inv is apart less none b in_it y o i e l h = go (among ids (id_in g.space y)) refl
  where
    was : layout_in g.space y ≡ Some o
    was = sym (layout_rest new g y less.rest) ∙ e

    at : spot_for g.rows (id_in g.space y) ≡ Some y
    at = inv.back y o was

    within : i < len_in g.space y
    within = (let n : len_in g.space y ≡ len_of o = ap (λ o. option_map_or len_of o 0) was in omega (arith, n, l))

    go : (k : Bool) → among ids (id_in g.space y) ≡ k → ⊥
    go true f = (let n = none (id_in g.space y) y f at i within in let no : None ≡ Some b = sym n ∙ h in cc)
    go false f =
        let refers : word_of (word_in g.space y i) ≡ word.Block b = known_refers (word_in g.space y i) b (less.less y i b h) in
        let zero_on : 0 + i ≡ i = omega arith in
        let here : slice_get (words_at g.space y) i ≡ Some (word.Block b) = word_from g.space y 0 (len_in g.space y) i within ∙ ap (λ j. Some (word_of (word_in g.space y j))) zero_on ∙ ap (λ w. Some w) refers in
        apart (id_in g.space y) b f in_it (subst (λ ws. Has (somes (map in_word ws)) b) (sym (words_there t g ks is (id_in g.space y) y (sym at))) (refers_in (words_at g.space y) b i here))

pub there_among : (ids : List BlockId) (n : ℕ) (id : BlockId) → slice_get ids n ≡ Some id → IsTrue (among ids id)
there_among ids n id e = has_among ids id (has_at ids n id e)
