-- How the graph changes where a word is written, and where a block is added
use Rattle.std.proofs.Common.{◌≡◌, ℕ, zero, suc, ◌≤◌, ◌++◌, nat_lt, Bool, true, false, cond, List, [], ◌∷◌, Option, Some, None, map, option_map, slice_get, slice_set, take, length, refl, sym, ap, ◌∙◌, subst, ◌⊎◌, inl, inr, arith}
use Rattle.std.specs.Option.{option_map_or, option_to_list}
use Rattle.std.specs.FinMap.{get, get-insert}
use Rattle.az_base.specs.declared.block_id.BlockId.{BlockId}
use Rattle.az_base.specs.declared.word.Word.{Word}
use Rattle.az_base.specs.declared.word.Word.TheVariants as word
use Rattle.az_base.specs.Ids.{same_id, ids_total}
use Rattle.assoc_refs.specs.Table.{pairs_of}
use Rattle.quantum_space.specs.Shapes.{Has, edges}
use Rattle.quantum_space.proofs.Lists.{same_is}
use Rattle.zone_model.specs.State.{with_edit}
use Rattle.block_table.specs.Stored.{HeapBlock}
use Rattle.heap_tables.proofs.Edited.{edit_get}
use Rattle.gen_marker.specs.Tight.{Changed}
use Rattle.block_table.specs.Places.{somes, in_word}
use Rattle.block_table.specs.Holds.{Holds}
use Rattle.block_table.specs.Table.{words_in, is_young_at, with_block}
use Rattle.heap_tables.specs.declared.tables.Tables.{Tables}
use Rattle.heap_tables.specs.Graphs.{graph_of, value_of}
use Rattle.std.specs.FinMap.{get-remove}
use Rattle.std.specs.Ordering.{is_eq}
use Rattle.az_base.specs.Places.{pair_cmp, pairs_total}
use Rattle.az_base.specs.WithValue.{with_value}
use Rattle.heap_tables.proofs.Showing.{value_edge, edge_value}
use Rattle.heap_tables.proofs.Places.{in_either, in_first, in_second, word_in, in_words}

written_or_was : (ws : List Word) (at i : ℕ) (w x : Word) → slice_get (slice_set ws at w) i ≡ Some x → (w ≡ x) ⊎ (slice_get ws i ≡ Some x)
written_or_was [] at i w x e = inr e
written_or_was (y ∷ ws) zero zero w x e = let same : w ≡ x = ap (λ (o : Option Word). elim o [ None ↦ w | Some k ↦ k ]) e in inl same
written_or_was (y ∷ ws) zero (suc i) w x e = inr e
written_or_was (y ∷ ws) (suc at) zero w x e = inr e
written_or_was (y ∷ ws) (suc at) (suc i) w x e = written_or_was ws at i w x e

held_now : (w : Word) (y : BlockId) → w ≡ word.Block y → Has (option_to_list (in_word w)) y
held_now word.Null y e = cc
held_now (word.Number n) y e = cc
held_now (word.Block b) y e = let same : b ≡ y = cc in inl same

module _ (t : Tables) (id : BlockId) (at : ℕ) (w : Word) where
  abbrev change : HeapBlock → HeapBlock
  change k = record k { words = slice_set k.words at w }

  abbrev pub written : Tables
  written = record t { blocks = record t.blocks { blocks = with_edit t.blocks.blocks id change } }

  word_was : (x y : BlockId) (i : ℕ) → slice_get (words_in written.blocks.blocks x) i ≡ Some (word.Block y) → (slice_get (words_in t.blocks.blocks x) i ≡ Some (word.Block y)) ⊎ (w ≡ word.Block y)
  word_was x y i e = by (same_id x id) (get t.blocks.blocks x) refl (sym (ap (λ (o : Option HeapBlock). slice_get (option_map_or (λ (k : HeapBlock). k.words) o []) i) (edit_get t.blocks.blocks id change x)) ∙ e)
    where
      by : (u : Bool) (o : Option HeapBlock) → get t.blocks.blocks x ≡ o → slice_get (option_map_or (λ (k : HeapBlock). k.words) (cond u (option_map change o) o) []) i ≡ Some (word.Block y)
          → (slice_get (option_map_or (λ (k : HeapBlock). k.words) (get t.blocks.blocks x) []) i ≡ Some (word.Block y)) ⊎ (w ≡ word.Block y)
      by false o k f = inl (ap (λ (o : Option HeapBlock). slice_get (option_map_or (λ (k : HeapBlock). k.words) o []) i) k ∙ f)
      by true None k f = cc
      by true (Some was) k f = elim (written_or_was was.words at i w (word.Block y) f) [ inl e ↦ inr e | inr e ↦ inl (ap (λ (o : Option HeapBlock). slice_get (option_map_or (λ (k : HeapBlock). k.words) o []) i) k ∙ e) ]

  same_age : (x : BlockId) → is_young_at written.blocks.blocks x ≡ is_young_at t.blocks.blocks x
  same_age x = ap (λ (o : Option HeapBlock). option_map_or (λ (k : HeapBlock). nat_lt k.age 3) o false) (edit_get t.blocks.blocks id change x) ∙ by (same_id x id) (get t.blocks.blocks x)
    where
      by : (u : Bool) (o : Option HeapBlock) → option_map_or (λ (k : HeapBlock). nat_lt k.age 3) (cond u (option_map change o) o) false ≡ option_map_or (λ (k : HeapBlock). nat_lt k.age 3) o false
      by false o = refl
      by true None = refl
      by true (Some k) = refl

  pub written_changed : Changed (graph_of t) (graph_of written) (option_to_list (in_word w))
  written_changed = record { blocks = refl; young = λ x h. same_age x; edge = edge }
    where
      edge : (x y : BlockId) → Has (edges (graph_of written) x) y → Has (edges (graph_of t) x) y ⊎ Has (option_to_list (in_word w)) y
      edge x y e = elim (in_either (map in_word (words_in written.blocks.blocks x)) (map value_of (pairs_of t.assocs.pairs x)) y e) [
        | inr v ↦ inl (in_second (map in_word (words_in t.blocks.blocks x)) (map value_of (pairs_of t.assocs.pairs x)) y v)
        | inl k ↦ (let i = word_in (words_in written.blocks.blocks x) y k in elim (word_was x y i.0 i.1) [
          | inl was ↦ inl (in_first (map in_word (words_in t.blocks.blocks x)) (map value_of (pairs_of t.assocs.pairs x)) y (in_words (words_in t.blocks.blocks x) y i.0 was))
          | inr is ↦ inr (held_now w y is)
        ])
      ]

front_same : (xs ys : List BlockId) (n : ℕ) → n ≤ length xs → take n (xs ++ ys) ≡ take n xs
front_same [] [] zero h = refl
front_same [] (y ∷ ys) zero h = refl
front_same [] ys (suc n) h = absurd (omega (arith, h))
front_same (x ∷ xs) ys zero h = refl
front_same (x ∷ xs) ys (suc n) h = ap (λ l. x ∷ l) (front_same xs ys n (omega (arith, h)))

front_in : (xs : List BlockId) (m : ℕ) (b : BlockId) → Has (take m xs) b → Has xs b
front_in [] zero b h = h
front_in [] (suc m) b h = h
front_in (x ∷ xs) zero b h = absurd h
front_in (x ∷ xs) (suc m) b (inl e) = inl e
front_in (x ∷ xs) (suc m) b (inr h) = inr (front_in xs m b h)

-- a new block comes to the end
module _ (t : Tables) (id : BlockId) (k : HeapBlock) (m : Holds) (absent : ¬ Has t.blocks.order id) (began : t.blocks.began ≤ length t.blocks.order) where
  abbrev pub added : Tables
  added = record t { blocks = with_block t.blocks id k m }

  found : (x : BlockId) → get added.blocks.blocks x ≡ cond (same_id x id) (Some k) (get t.blocks.blocks x)
  found x = get-insert ids_total t.blocks.blocks id k x

  pub added_changed : Changed (graph_of t) (graph_of added) (somes (map in_word k.words))
  added_changed = record { blocks = front_same t.blocks.order (id ∷ []) t.blocks.began began; young = young; edge = edge }
    where
      young : (x : BlockId) → Has (take t.blocks.began t.blocks.order) x → is_young_at added.blocks.blocks x ≡ is_young_at t.blocks.blocks x
      young x h = ap (λ (o : Option HeapBlock). option_map_or (λ (k : HeapBlock). nat_lt k.age 3) o false) (found x) ∙ by (same_id x id) refl
        where
          by : (u : Bool) → same_id x id ≡ u → option_map_or (λ (k : HeapBlock). nat_lt k.age 3) (cond u (Some k) (get t.blocks.blocks x)) false ≡ is_young_at t.blocks.blocks x
          by false e = refl
          by true e = absurd (absent (subst (Has t.blocks.order) (same_is x id e) (front_in t.blocks.order t.blocks.began x h)))

      edge : (x y : BlockId) → Has (edges (graph_of added) x) y → Has (edges (graph_of t) x) y ⊎ Has (somes (map in_word k.words)) y
      edge x y e = elim (in_either (map in_word (words_in added.blocks.blocks x)) (map value_of (pairs_of t.assocs.pairs x)) y e) [
        | inr v ↦ inl (in_second (map in_word (words_in t.blocks.blocks x)) (map value_of (pairs_of t.assocs.pairs x)) y v)
        | inl h ↦ by (same_id x id) (subst (λ (o : Option HeapBlock). Has (somes (map in_word (option_map_or (λ (k : HeapBlock). k.words) o []))) y) (found x) h)
      ]
        where
          by : (u : Bool) → Has (somes (map in_word (option_map_or (λ (k : HeapBlock). k.words) (cond u (Some k) (get t.blocks.blocks x)) []))) y → Has (edges (graph_of t) x) y ⊎ Has (somes (map in_word k.words)) y
          by true h = inr h
          by false h = inl (in_first (map in_word (words_in t.blocks.blocks x)) (map value_of (pairs_of t.assocs.pairs x)) y h)

-- an association is set, or goes
module _ (t : Tables) (a : BlockId) (key : ℕ) (v : Option BlockId) where
  abbrev pub associated : Tables
  associated = record t { assocs = record t.assocs { pairs = with_value t.assocs.pairs (a, key) v } }

  value_was : (x y : BlockId) (k : ℕ) → get (with_value t.assocs.pairs (a, key) v) (x, k) ≡ Some y → (get t.assocs.pairs (x, k) ≡ Some y) ⊎ Has (option_to_list v) y
  value_was x y k = by v
    where
      by : (v : Option BlockId) → get (with_value t.assocs.pairs (a, key) v) (x, k) ≡ Some y → (get t.assocs.pairs (x, k) ≡ Some y) ⊎ Has (option_to_list v) y
      by None e = inl (gone (is_eq (pair_cmp (x, k) (a, key))) (sym (get-remove pairs_total t.assocs.pairs (a, key) (x, k)) ∙ e))
        where
          gone : (u : Bool) → cond u None (get t.assocs.pairs (x, k)) ≡ Some y → get t.assocs.pairs (x, k) ≡ Some y
          gone true f = cc
          gone false f = f
      by (Some w) e = put (is_eq (pair_cmp (x, k) (a, key))) (sym (get-insert pairs_total t.assocs.pairs (a, key) w (x, k)) ∙ e)
        where
          put : (u : Bool) → cond u (Some w) (get t.assocs.pairs (x, k)) ≡ Some y → (get t.assocs.pairs (x, k) ≡ Some y) ⊎ Has (option_to_list (Some w)) y
          put true f = let same : w ≡ y = cc in inr (inl same)
          put false f = inl f

  pub associated_changed : Changed (graph_of t) (graph_of associated) (option_to_list v)
  associated_changed = record { blocks = refl; young = λ x h. refl; edge = edge }
    where
      edge : (x y : BlockId) → Has (edges (graph_of associated) x) y → Has (edges (graph_of t) x) y ⊎ Has (option_to_list v) y
      edge x y e = elim (in_either (map in_word (words_in t.blocks.blocks x)) (map value_of (pairs_of associated.assocs.pairs x)) y e) [
        | inl w ↦ inl (in_first (map in_word (words_in t.blocks.blocks x)) (map value_of (pairs_of t.assocs.pairs x)) y w)
        | inr h ↦ (let k = value_edge associated.assocs.pairs x y h in elim (value_was x y k.0 k.1) [
          | inl was ↦ inl (in_second (map in_word (words_in t.blocks.blocks x)) (map value_of (pairs_of t.assocs.pairs x)) y (edge_value t.assocs.pairs x k.0 y was))
          | inr n ↦ inr n
        ])
      ]
