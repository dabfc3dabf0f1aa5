-- A word that was told may be written
use Rattle.std.proofs.Common.{◌≡◌, ◌&&◌, ◌++◌, ℕ, nat_lt, Bool, true, false, not, cond, List, [], Option, Some, None, map, option_map, slice_set, refl, sym, ap, subst, ◌∙◌, ◌⊎◌, inl, inr}
use Rattle.std.specs.Option.{option_map_or, option_to_list}
use Rattle.std.specs.FinMap.{get}
use Rattle.az_base.specs.declared.action.Action.{Action}
use Rattle.az_base.specs.declared.block_id.BlockId.{BlockId}
use Rattle.az_base.specs.declared.word.Word.{Word}
use Rattle.az_base.specs.Ids.{same_id}
use Rattle.assoc_refs.specs.Table.{pairs_of}
use Rattle.block_table.specs.Places.{in_word, somes}
use Rattle.block_table.specs.Stored.{HeapBlock}
use Rattle.quantum_space.specs.Shapes.{Has, edges}
use Rattle.quantum_space.proofs.Lists.{same_is}
use Rattle.zone_model.specs.State.{is_nil}
use Rattle.heap_tables.specs.Graphs.{graph_of, value_of}
use Rattle.heap_tables.specs.declared.tables.Tables.{Tables}
use Rattle.heap_tables.proofs.Changing.{written_changed}
use Rattle.heap_tables.proofs.Edited.{edit_get}
use Rattle.heap_cycle.specs.Barriers.{IsLive, IsWatched}
use Rattle.heap_cycle.specs.Changes.{written}
use Rattle.heap_cycle.specs.Collects.{Collects, is_old_at}
use Rattle.heap_cycle.specs.Waiting.{waits}
use Rattle.heap_cycle.specs.declared.open_cycle.OpenCycle.{OpenCycle}
use Rattle.heap_cycle.proofs.Extending.{Extends, Told, extended_collects, watched_later}

-- a block is the only one in a list of at most one
pub referred : (v : Option BlockId) (b : BlockId) → Has (option_to_list v) b → v ≡ Some b
referred None b h = absurd h
referred (Some x) b (inl e) = ap Some e
referred (Some x) b (inr h) = absurd h

module _ (t : Tables) (o : Option OpenCycle) (id : BlockId) (at : ℕ) (w : Word) where
  abbrev change : HeapBlock → HeapBlock
  change k = record k { words = slice_set k.words at w }

  abbrev after : Tables
  after = written t id at w

  -- what doesn't speak of words is the same of each block
  same_of : {X : Type 0} (f : HeapBlock → X) (none : X) → ((k : HeapBlock) → f (change k) ≡ f k) → (b : BlockId) → option_map_or f (get after.blocks.blocks b) none ≡ option_map_or f (get t.blocks.blocks b) none
  same_of {X} f none same b = ap (λ (v : Option HeapBlock). option_map_or f v none) (edit_get t.blocks.blocks id change b) ∙ by (same_id b id) (get t.blocks.blocks b)
    where
      by : (u : Bool) (v : Option HeapBlock) → option_map_or f (cond u (option_map change v) v) none ≡ option_map_or f v none
      by false v = refl
      by true None = refl
      by true (Some k) = same k

  old_same : (b : BlockId) → is_old_at after.blocks.blocks b ≡ is_old_at t.blocks.blocks b
  old_same = same_of (λ (k : HeapBlock). not (nat_lt k.age 3)) false (λ k. refl)

  -- of other blocks the edges are the same
  others : (a b : BlockId) → same_id a id ≡ false → Has (edges (graph_of after) a) b → Has (edges (graph_of t) a) b
  others a b other e = subst (λ (v : Option HeapBlock). Has (somes (map in_word (option_map_or (λ (k : HeapBlock). k.words) v []) ++ map value_of (pairs_of t.assocs.pairs a))) b) (edit_get t.blocks.blocks id change a ∙ ap (λ u. cond u (option_map change (get t.blocks.blocks a)) (get t.blocks.blocks a)) other) e

  module _ (k : Collects t o) (there : Has t.blocks.order id) (told : (b : BlockId) → in_word w ≡ Some b → IsLive t o b × IsWatched t o id b) where
    new_edge : (a b : BlockId) → Has (edges (graph_of after) a) b → Has (edges (graph_of t) a) b ⊎ Told t after o a b
    new_edge a b e = by (same_id a id) refl
      where
        by : (u : Bool) → same_id a id ≡ u → Has (edges (graph_of t) a) b ⊎ Told t after o a b
        by false other = inl (others a b other e)
        by true same = elim ((written_changed t id at w).edge a b e) [
          | inl was ↦ inl was
          | inr h ↦
              let given = told b (referred (in_word w) b h) in
              let at_id : id ≡ a = sym (same_is a id same) in
              inr (record { live = given.0; watched = subst (λ x. IsWatched after o x b) at_id (watched_later t after o id b old_same refl (λ h. h) given.1); there = subst (Has t.blocks.order) at_id there })
        ]

    pub written_extends : Extends t after o
    written_extends = record {
      start = refl;
      order = λ a h. h;
      later = λ a h. h;
      cards = refl;
      shades = λ b h. refl;
      young = λ b h. same_of (λ (k : HeapBlock). nat_lt k.age 3) false (λ k. refl) b;
      old = old_same;
      waits = λ b h. same_of waits false (λ k. refl) b;
      finals = λ b h. ap (λ (l : List Action). not (is_nil l) && not (option_map_or (λ (k : HeapBlock). k.finalised) (get after.blocks.blocks b) false)) (same_of (λ (k : HeapBlock). k.actions) [] (λ k. refl) b)
          ∙ ap (λ d. not (is_nil (option_map_or (λ (k : HeapBlock). k.actions) (get t.blocks.blocks b) [])) && not d) (same_of (λ (k : HeapBlock). k.finalised) false (λ k. refl) b);
      room = k.cards.room;
      edge = new_edge;
    }

    -- so tables and cycle keep what they have to
    pub written_collects : Collects after o
    written_collects = extended_collects t after o written_extends k
