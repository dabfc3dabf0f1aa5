-- What a Begin over the tables makes
use Rattle.std.proofs.Common.{◌≡◌, nat_lt, false, not, Option, Some, None, IsSome, IsTrue, IsFalse, length, take, drop, refl, sym, ap, subst, ◌∙◌}
use Rattle.std.proofs.Math.Seq.{take-length}
use Rattle.std.specs.Option.{option_map_or}
use Rattle.std.specs.FinMap.{get}
use Rattle.az_base.specs.declared.action.Mode.{Mode}
use Rattle.az_base.specs.declared.action.Mode.TheVariants as mode
use Rattle.az_base.specs.declared.block_id.BlockId.{BlockId}
use Rattle.quantum_space.specs.Shapes.{Has, Shades}
use Rattle.quantum_space.proofs.Lists.{among_has, in_front}
use Rattle.gen_marker.specs.Marking.{Begun}
use Rattle.gen_marker.specs.Tight.{Covered, NoneNewer, Tight}
use Rattle.gen_marker.proofs.Tight.{tight_begun}
use Rattle.block_table.specs.Stored.{HeapBlock}
use Rattle.block_table.specs.Table.{IsTable, is_young_at}
use Rattle.heap_tables.specs.Graphs.{graph_of}
use Rattle.heap_tables.specs.declared.tables.Tables.{Tables}
use Rattle.heap_cycle.specs.Collects.{KeepsCards, is_old_at, start_of}

module _ (t : Tables) (table : IsTable t.blocks) (keeps : KeepsCards t) (all : t.blocks.began ≡ length t.blocks.order) where
  -- the start is all blocks
  pub start_all : start_of t ≡ t.blocks.order
  start_all = ap (λ n. take n t.blocks.order) all ∙ take-length t.blocks.order

  none_newer : NoneNewer (graph_of t)
  none_newer a b out e = out (subst (λ l. Has l a) (sym start_all) (keeps.rooted a b e))

  -- a block that isn't young is old
  old_here : (a : BlockId) → IsSome (get t.blocks.blocks a) → IsFalse (is_young_at t.blocks.blocks a) → IsTrue (is_old_at t.blocks.blocks a)
  old_here a there o = by (get t.blocks.blocks a) there o
    where
      by : (v : Option HeapBlock) → IsSome v → IsFalse (option_map_or (λ (k : HeapBlock). nat_lt k.age 3) v false) → IsTrue (option_map_or (λ (k : HeapBlock). not (nat_lt k.age 3)) v false)
      by None i o = cc (i)
      by (Some k) i o = ap not o

  -- and a young one isn't
  young_here : (b : BlockId) → IsTrue (is_young_at t.blocks.blocks b) → IsFalse (is_old_at t.blocks.blocks b)
  young_here b y = by (get t.blocks.blocks b) y
    where
      by : (v : Option HeapBlock) → IsTrue (option_map_or (λ (k : HeapBlock). nat_lt k.age 3) v false) → IsFalse (option_map_or (λ (k : HeapBlock). not (nat_lt k.age 3)) v false)
      by None i = refl
      by (Some k) i = ap not i

  covered : (m : Mode) → Covered m (graph_of t)
  covered mode.Full a b h o e hb sb = cc (o)
  covered mode.Young a b h o e hb sb =
      in_front t.cards.list (drop t.blocks.began t.blocks.order) a
      (among_has t.cards.list a (keeps.covered a b (old_here a ((table.order a).0 (subst (λ l. Has l a) start_all h)) o) e (young_here b sb)))

  -- so the graph is tight after it
  pub tight_at_begin : (m : Mode) (old new : Shades) → Begun m (graph_of t) old new → Tight m (graph_of t) new
  tight_at_begin m old new begun = tight_begun m (graph_of t) old new none_newer (covered m) begun
