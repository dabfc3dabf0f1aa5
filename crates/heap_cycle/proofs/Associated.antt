-- An association that was told may be made, and any may go
use Rattle.std.proofs.Common.{◌≡◌, ℕ, Bool, true, false, cond, Option, Some, None, map, refl, sym, ap, subst, ◌∙◌, ◌⊎◌, inl, inr}
use Rattle.std.specs.FinMap.{FinMap, get, get-insert, get-remove}
use Rattle.std.specs.declared.cmp.Ordering.{Ordering}
use Rattle.std.specs.declared.cmp.Ordering.TheVariants.{Less, Equal, Greater}
use Rattle.std.specs.Ordering.{is_eq, nat_cmp, ordering_then}
use Rattle.assoc_refs.specs.Table.{pairs_of}
use Rattle.az_base.specs.declared.block_id.BlockId.{BlockId}
use Rattle.az_base.specs.Ids.{id_cmp, same_id}
use Rattle.az_base.specs.Places.{pair_cmp, pairs_total}
use Rattle.az_base.specs.WithValue.{with_value}
use Rattle.block_table.specs.Places.{in_word}
use Rattle.block_table.specs.Table.{words_in}
use Rattle.quantum_space.specs.Shapes.{Has, edges}
use Rattle.quantum_space.proofs.Lists.{same_is}
use Rattle.heap_tables.specs.Graphs.{graph_of, value_of}
use Rattle.heap_tables.specs.declared.tables.Tables.{Tables}
use Rattle.heap_tables.proofs.Changing.{associated_changed}
use Rattle.heap_tables.proofs.Places.{in_either, in_first, in_second}
use Rattle.heap_tables.proofs.Showing.{edge_value, value_edge}
use Rattle.heap_cycle.specs.Barriers.{IsLive, IsWatched}
use Rattle.heap_cycle.specs.Collects.{Collects}
use Rattle.heap_cycle.specs.declared.open_cycle.OpenCycle.{OpenCycle}
use Rattle.heap_cycle.proofs.Alike.{alike_collects}
use Rattle.heap_cycle.proofs.Extending.{Extends, Told, extended_collects, watched_later}
use Rattle.heap_cycle.proofs.Written.{referred}

-- keys of two objects differ
keys_apart : (x a : BlockId) (k key : ℕ) → same_id x a ≡ false → is_eq (pair_cmp (x, k) (a, key)) ≡ false
keys_apart x a k key other = by (id_cmp x a) other
  where
    by : (r : Ordering) → is_eq r ≡ false → is_eq (ordering_then r (nat_cmp k key)) ≡ false
    by Less e = refl
    by Equal e = cc (e)
    by Greater e = refl

-- the associations of other objects stay
other_value : (pairs : FinMap pair_cmp BlockId) (a : BlockId) (key : ℕ) (v : Option BlockId) (x : BlockId) (k : ℕ) → same_id x a ≡ false → get (with_value pairs (a, key) v) (x, k) ≡ get pairs (x, k)
other_value pairs a key None x k other = get-remove pairs_total pairs (a, key) (x, k) ∙ ap (λ u. cond u None (get pairs (x, k))) (keys_apart x a k key other)
other_value pairs a key (Some b) x k other = get-insert pairs_total pairs (a, key) b (x, k) ∙ ap (λ u. cond u (Some b) (get pairs (x, k))) (keys_apart x a k key other)

module _ (t : Tables) (o : Option OpenCycle) (a : BlockId) (key : ℕ) (v : Option BlockId) where
  abbrev associated : Tables
  associated = record t { assocs = record t.assocs { pairs = with_value t.assocs.pairs (a, key) v } }

  others : (x b : BlockId) → same_id x a ≡ false → Has (edges (graph_of associated) x) b → Has (edges (graph_of t) x) b
  others x b other e = elim (in_either (map in_word (words_in t.blocks.blocks x)) (map value_of (pairs_of associated.assocs.pairs x)) b e) [
    | inl w ↦ in_first (map in_word (words_in t.blocks.blocks x)) (map value_of (pairs_of t.assocs.pairs x)) b w
    | inr h ↦
        let k = value_edge associated.assocs.pairs x b h in
        in_second (map in_word (words_in t.blocks.blocks x)) (map value_of (pairs_of t.assocs.pairs x)) b (edge_value t.assocs.pairs x k.0 b (sym (other_value t.assocs.pairs a key v x k.0 other) ∙ k.1))
  ]

  module _ (k : Collects t o) (there : Has t.blocks.order a) (told : (b : BlockId) → v ≡ Some b → IsLive t o b × IsWatched t o a b) where
    new_edge : (x b : BlockId) → Has (edges (graph_of associated) x) b → Has (edges (graph_of t) x) b ⊎ Told t associated o x b
    new_edge x b e = by (same_id x a) refl
      where
        by : (u : Bool) → same_id x a ≡ u → Has (edges (graph_of t) x) b ⊎ Told t associated o x b
        by false other = inl (others x b other e)
        by true same = elim ((associated_changed t a key v).edge x b e) [
          | inl was ↦ inl was
          | inr h ↦
              let given = told b (referred v b h) in
              let at : a ≡ x = sym (same_is x a same) in
              inr (record { live = given.0; watched = subst (λ y. IsWatched associated o y b) at (watched_later t associated o a b (λ y. refl) refl (λ h. h) given.1); there = subst (Has t.blocks.order) at there })
        ]

    extends : Extends t associated o
    extends = record {
      start = refl;
      order = λ x h. h;
      later = λ x h. h;
      cards = refl;
      shades = λ b h. refl;
      young = λ b h. refl;
      old = λ b. refl;
      waits = λ b h. refl;
      finals = λ b h. refl;
      room = k.cards.room;
      edge = new_edge;
    }

    -- so tables and cycle keep what they have to
    pub associated_collects : (u : Tables) → u.blocks ≡ t.blocks → u.cards ≡ t.cards → u.assocs.pairs ≡ with_value t.assocs.pairs (a, key) v → Collects u o
    associated_collects u blocks cards pairs = alike_collects associated u o blocks pairs cards (extended_collects t associated o extends k)
