-- A block that nothing refers to yet may come in, where what its words refer to was enlivened
use Rattle.std.proofs.Common.{◌≡◌, ◌<◌, ◌≤◌, ◌+◌, ◌++◌, ◌&&◌, ℕ, nat_lt, Bool, true, false, not, cond, List, [], ◌∷◌, Option, Some, None, length, map, drop, unwrap_or, refl, sym, ap, subst, ◌∙◌, ◌⊎◌, inl, inr, arith}
use Rattle.std.specs.Option.{option_map_or}
use Rattle.std.specs.FinMap.{get, get-insert}
use Rattle.az_base.specs.declared.block_id.BlockId.{BlockId}
use Rattle.az_base.specs.Ids.{ids_total, same_id}
use Rattle.assoc_refs.specs.Table.{pairs_of}
use Rattle.block_table.specs.Holds.{Holds}
use Rattle.block_table.specs.Places.{in_word, somes}
use Rattle.block_table.specs.Stored.{HeapBlock}
use Rattle.block_table.specs.Table.{with_block}
use Rattle.block_table.proofs.Somes.{both_lengths as list_long}
use Rattle.quantum_space.specs.declared.shade.Shade.{Shade}
use Rattle.quantum_space.specs.declared.shade.Shade.TheVariants as shade
use Rattle.quantum_space.specs.Shapes.{Has, edges}
use Rattle.quantum_space.proofs.Lists.{at_end, in_front, itself, same_is}
use Rattle.zone_model.specs.State.{is_nil}
use Rattle.heap_tables.specs.Graphs.{graph_of, value_of}
use Rattle.heap_tables.specs.declared.tables.Tables.{Tables}
use Rattle.heap_tables.proofs.Changing.{added_changed}
use Rattle.heap_cycle.specs.Barriers.{IsLive}
use Rattle.heap_cycle.specs.Collects.{Collects, is_old_at, start_of}
use Rattle.heap_cycle.specs.Waiting.{waits}
use Rattle.heap_cycle.specs.declared.open_cycle.OpenCycle.{OpenCycle}
use Rattle.heap_cycle.proofs.Alike.{alike_collects}
use Rattle.heap_cycle.proofs.Extending.{Extends, Told, extended_collects}
use Rattle.heap_cycle.proofs.Joined.{at_back, behind_last, behind_more, front_has, in_both}

one_fewer : (xs : List ℕ) → 0 < length xs → length (drop 1 xs) + 1 ≡ length xs
one_fewer [] h = absurd (omega (arith, h))
one_fewer (x ∷ xs) h = omega arith

module _ (t : Tables) (o : Option OpenCycle) (id : BlockId) (k : HeapBlock) (m : Holds) (absent : ¬ Has t.blocks.order id) (began : t.blocks.began ≤ length t.blocks.order) where
  abbrev added : Tables
  added = record t { blocks = with_block t.blocks id k m }

  -- the block isn't another that is there
  other : (b : BlockId) → Has t.blocks.order b → same_id b id ≡ false
  other b h = by (same_id b id) refl
    where
      by : (u : Bool) → same_id b id ≡ u → u ≡ false
      by false e = refl
      by true e = absurd (absent (subst (Has t.blocks.order) (same_is b id e) h))

  at_start : (b : BlockId) → Has (start_of t) b → same_id b id ≡ false
  at_start b h = other b (front_has t.blocks.began t.blocks.order b h)

  found : (b : BlockId) → get added.blocks.blocks b ≡ cond (same_id b id) (Some k) (get t.blocks.blocks b)
  found b = get-insert ids_total t.blocks.blocks id k b

  -- of other blocks all is the same
  same_of : (b : BlockId) → same_id b id ≡ false → get added.blocks.blocks b ≡ get t.blocks.blocks b
  same_of b e = found b ∙ ap (λ u. cond u (Some k) (get t.blocks.blocks b)) e

  others : (a b : BlockId) → same_id a id ≡ false → Has (edges (graph_of added) a) b → Has (edges (graph_of t) a) b
  others a b e h = subst (λ (v : Option HeapBlock). Has (somes (map in_word (option_map_or (λ (k : HeapBlock). k.words) v []) ++ map value_of (pairs_of t.assocs.pairs a))) b) (same_of a e) h

  -- it isn't old
  young_here : k.age ≡ 0 → is_old_at added.blocks.blocks id ≡ false
  young_here age = ap (λ (v : Option HeapBlock). option_map_or (λ (k : HeapBlock). not (nat_lt k.age 3)) v false) (found id ∙ ap (λ u. cond u (Some k) (get t.blocks.blocks id)) (itself id)) ∙ ap (λ n. not (nat_lt n 3)) age

  module _ (c : Collects t o) (gone : get t.blocks.blocks id ≡ None) (age : k.age ≡ 0) (room : 0 < length t.blocks.room) (live : (b : BlockId) → Has (somes (map in_word k.words)) b → IsLive t o b) where
    old_same : (b : BlockId) → is_old_at added.blocks.blocks b ≡ is_old_at t.blocks.blocks b
    old_same b = by (same_id b id) refl
      where
        by : (u : Bool) → same_id b id ≡ u → is_old_at added.blocks.blocks b ≡ is_old_at t.blocks.blocks b
        by false e = ap (λ (v : Option HeapBlock). option_map_or (λ (k : HeapBlock). not (nat_lt k.age 3)) v false) (same_of b e)
        by true e = subst (λ x. is_old_at added.blocks.blocks x ≡ is_old_at t.blocks.blocks x) (sym (same_is b id e)) (young_here age ∙ sym (ap (λ (v : Option HeapBlock). option_map_or (λ (k : HeapBlock). not (nat_lt k.age 3)) v false) gone))

    none_some : {X Q : Type 0} (x : X) → None ≡ Some x → Q
    none_some x e = cc

    new_edge : (a b : BlockId) → Has (edges (graph_of added) a) b → Has (edges (graph_of t) a) b ⊎ Told t added o a b
    new_edge a b e = by (same_id a id) refl
      where
        told : Has (somes (map in_word k.words)) b → Told t added o id b
        told h = record {
          live = live b h;
          watched = record {
            covered = λ old young. let no : false ≡ true = sym (young_here age) ∙ old in cc (no);
            condemned = λ c r is at out i. at_back t.cards.list (drop t.blocks.began (t.blocks.order ++ id ∷ [])) id (behind_last t.blocks.began t.blocks.order id began);
          };
          there = at_end t.blocks.order id;
        }

        by : (u : Bool) → same_id a id ≡ u → Has (edges (graph_of t) a) b ⊎ Told t added o a b
        by false other = inl (others a b other e)
        by true same = elim ((added_changed t id k m absent began).edge a b e) [
          | inl was ↦ inl was
          | inr h ↦ inr (subst (λ x. Told t added o x b) (sym (same_is a id same)) (told h))
        ]

    extends : Extends t added o
    extends = record {
      start = (added_changed t id k m absent began).blocks;
      order = λ a h. in_front t.blocks.order (id ∷ []) a h;
      later = λ a h. in_both t.cards.list (drop t.blocks.began t.blocks.order) (drop t.blocks.began (t.blocks.order ++ id ∷ [])) a (behind_more t.blocks.began t.blocks.order id a) h;
      cards = refl;
      shades = λ b h. ap (λ (s : Option Shade). unwrap_or s shade.White) (get-insert ids_total t.blocks.shades id shade.Black b ∙ ap (λ u. cond u (Some shade.Black) (get t.blocks.shades b)) (at_start b h));
      young = (added_changed t id k m absent began).young;
      old = old_same;
      waits = λ b h. ap (λ (v : Option HeapBlock). option_map_or waits v false) (same_of b (at_start b h));
      finals = λ b h. ap (λ (v : Option HeapBlock). not (is_nil (option_map_or (λ (k : HeapBlock). k.actions) v [])) && not (option_map_or (λ (k : HeapBlock). k.finalised) v false)) (same_of b (at_start b h));
      room =
          let long : length (t.blocks.order ++ id ∷ []) ≡ length t.blocks.order + length (id ∷ []) = list_long t.blocks.order (id ∷ []) in
          let fewer = one_fewer t.blocks.room room in
          let had = c.cards.room in
          omega (arith, long, fewer, had);
      edge = new_edge;
    }

    -- so tables and cycle keep what they have to
    pub added_collects : (u : Tables) → u.blocks ≡ with_block t.blocks id k m → u.cards ≡ t.cards → u.assocs.pairs ≡ t.assocs.pairs → Collects u o
    added_collects u blocks cards pairs = alike_collects added u o blocks pairs cards (extended_collects t added o extends c)
