-- What tables and an open cycle keep speaks neither of roots, counts and holds, nor of the room for more
use Rattle.std.proofs.Common.{◌≡◌, ◌≤◌, ◌+◌, List, [], Option, Some, None, length, map, refl, sym, ap, subst, ◌∙◌, inl, inr, arith}
use Rattle.std.specs.FinMap.{FinMap, empty, get-empty}
use Rattle.std.specs.Option.{option_map_or}
use Rattle.assoc_refs.specs.Table.{pairs_of}
use Rattle.az_base.specs.Ids.{id_cmp}
use Rattle.block_table.specs.Places.{in_word, somes}
use Rattle.block_table.specs.Stored.{HeapBlock}
use Rattle.quantum_space.specs.Shapes.{Has, edges}
use Rattle.heap_tables.specs.Graphs.{graph_of, value_of}
use Rattle.heap_tables.proofs.Places.{in_either}
use Rattle.heap_tables.proofs.Showing.{value_edge}
use Rattle.az_base.specs.declared.block_id.BlockId.{BlockId}
use Rattle.az_base.specs.Places.{pair_cmp}
use Rattle.block_table.specs.Table.{Table, no_blocks, words_in}
use Rattle.heap_tables.specs.declared.tables.Tables.{Tables}
use Rattle.heap_cycle.specs.Collects.{Collects}
use Rattle.heap_cycle.specs.declared.open_cycle.OpenCycle.{OpenCycle}
use Rattle.heap_cycle.proofs.Extending.{Extends, extended_collects}

-- these tables with those blocks, associations and remembered blocks
abbrev with_parts : Tables → Table → FinMap pair_cmp BlockId → List BlockId → Tables
with_parts u b pairs list = record u { blocks = b; assocs = record u.assocs { pairs = pairs }; cards = record u.cards { list = list } }

-- tables whose holds and room alone are those of others, beside what isn't spoken of
pub anchored_collects : (t u : Tables) (o : Option OpenCycle) → u.blocks ≡ record t.blocks { holds = u.blocks.holds; room = u.blocks.room } → u.assocs.pairs ≡ t.assocs.pairs → u.cards.list ≡ t.cards.list
    → length t.blocks.order + length u.blocks.room ≤ length u.cards.list + u.cards.spare → Collects t o → Collects u o
anchored_collects t u o blocks pairs list room k =
    subst (λ b. Collects (with_parts u b u.assocs.pairs u.cards.list) o) (sym blocks)
    (subst (λ p. Collects (with_parts u like p u.cards.list) o) (sym pairs)
    (subst (λ l. Collects (with_parts u like t.assocs.pairs l) o) (sym list) (extended_collects t between o extends k)))
  where
    like : Table
    like = record t.blocks { holds = u.blocks.holds; room = u.blocks.room }

    between : Tables
    between = with_parts u like t.assocs.pairs t.cards.list

    extends : Extends t between o
    extends = record {
      start = refl;
      order = λ a h. h;
      later = λ a h. h;
      cards = refl;
      shades = λ b h. refl;
      young = λ b h. refl;
      old = λ b. refl;
      waits = λ b h. refl;
      finals = λ b h. refl;
      room = subst (λ l. length t.blocks.order + length u.blocks.room ≤ length l + u.cards.spare) list room;
      edge = λ a b e. inl e;
    }

-- tables that are alike in blocks, associations and cards
pub alike_collects : (t u : Tables) (o : Option OpenCycle) → u.blocks ≡ t.blocks → u.assocs.pairs ≡ t.assocs.pairs → u.cards ≡ t.cards → Collects t o → Collects u o
alike_collects t u o blocks pairs cards k =
    anchored_collects t u o (blocks ∙ ap (λ (b : Table). let x : Table = record t.blocks { holds = b.holds; room = b.room } in x) (sym blocks)) pairs (ap (λ c. c.list) cards)
    (subst (λ c. length t.blocks.order + length u.blocks.room ≤ length c.list + c.spare) (sym cards) (subst (λ (b : Table). length t.blocks.order + length b.room ≤ length t.cards.list + t.cards.spare) (sym blocks) k.cards.room)) k

-- empty tables
pub empty_collects : (t : Tables) → t.blocks ≡ no_blocks → t.assocs.pairs ≡ empty → t.cards.list ≡ [] → Collects t None
empty_collects t blocks pairs list =
    subst (λ b. Collects (with_parts t b t.assocs.pairs t.cards.list) None) (sym blocks)
    (subst (λ p. Collects (with_parts t no_blocks p t.cards.list) None) (sym pairs)
    (subst (λ l. Collects (with_parts t no_blocks empty l) None) (sym list) none))
  where
    none_some : {Q : Type 0} (c : OpenCycle) → None ≡ Some c → Q
    none_some c e = cc

    bare : Tables
    bare = with_parts t no_blocks empty []

    words_none : (a : BlockId) → words_in bare.blocks.blocks a ≡ []
    words_none a = ap (λ (v : Option HeapBlock). option_map_or (λ (k : HeapBlock). k.words) v []) (get-empty id_cmp a)

    no_edge : (a b : BlockId) → ¬ Has (edges (graph_of bare) a) b
    no_edge a b e = elim (in_either (map in_word (words_in bare.blocks.blocks a)) (map value_of (pairs_of bare.assocs.pairs a)) b e) [
      | inl h ↦ subst (λ ws. Has (somes (map in_word ws)) b) (words_none a) h
      | inr h ↦ let v = value_edge bare.assocs.pairs a b h in let e : None ≡ Some b = sym (get-empty pair_cmp (a, v.0)) ∙ v.1 in cc (e)
    ]

    none : Collects bare None
    none = record {
      cards = record { rooted = λ a b e. absurd (no_edge a b e); covered = λ a b old e young. absurd (no_edge a b e); there = λ a i. cc (i); room = omega arith };
      old = λ n a i. cc (i);
      open_cycle = λ c e. none_some c e;
      lent = λ c n room e. none_some c e;
    }
