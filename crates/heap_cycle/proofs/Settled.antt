-- What settling asks for, and which blocks it takes
use Rattle.std.proofs.Common.{◌≡◌, true, false, List, IsSome, IsTrue, map, sym, ap, subst, ◌∙◌, inl, inr}
use Rattle.std.specs.FinMap.{FinMap, get}
use Rattle.az_base.specs.declared.block_id.BlockId.{BlockId}
use Rattle.az_base.specs.Ids.{among, id_cmp}
use Rattle.assoc_refs.specs.Table.{pairs_of}
use Rattle.block_table.specs.Places.{in_word}
use Rattle.block_table.specs.Stored.{HeapBlock}
use Rattle.block_table.specs.Table.{AreApart, IsTable, refs_in, words_in}
use Rattle.finalise_pass.specs.Kept.{IsWatched, inside}
use Rattle.finalise_pass.specs.Passing.{Passing}
use Rattle.finalise_pass.proofs.Keeping.{all_inside, edge_kept, inside_within, outside_kept, true_or_not}
use Rattle.quantum_space.specs.Shapes.{Has, edges}
use Rattle.heap_tables.specs.Graphs.{graph_of, value_of}
use Rattle.heap_tables.specs.declared.tables.Tables.{Tables}
use Rattle.heap_tables.proofs.Fronts.{in_whole}
use Rattle.heap_tables.proofs.Places.{in_first}
use Rattle.heap_cycle.specs.Collects.{Settles}
use Rattle.heap_cycle.specs.Phases.{HasSettled}
use Rattle.heap_cycle.specs.declared.open_cycle.OpenCycle.{OpenCycle}

-- what leads into the condemned blocks is watched
pub watched : (t : Tables) (o : OpenCycle) (p : Passing) → Settles t o p → IsWatched (graph_of t) (inside (graph_of t) p.condemned)
watched t o p k = subst (IsWatched (graph_of t)) (sym (all_inside (graph_of t) p.condemned k.within)) (record { edge = λ a b out i e. inl (k.watched a b out i e) })

-- a cycle has settled over the tables
module _ (old mid : Tables) (before : OpenCycle) (kept gone : List BlockId) (is : HasSettled old mid before kept gone) where
  abbrev condemned : List BlockId
  condemned = inside (graph_of old) is.condemned

  same_blocks : mid.blocks.blocks ≡ old.blocks.blocks
  same_blocks = ap (λ (t : Tables). t.blocks.blocks) is.tables

  -- the reclaimed blocks are there
  pub gone_there : IsTable old.blocks → (b : BlockId) → IsTrue (among gone b) → IsSome (get mid.blocks.blocks b)
  gone_there table b i =
      subst (λ m. IsSome (get m b)) (sym same_blocks)
      ((table.order b).0 (in_whole old.blocks.order old.blocks.began b (inside_within (graph_of old) is.condemned b ((is.gone_is.1 b).0 i).0)))

  -- no other block refers to one of them
  pub gone_apart : AreApart mid.blocks.blocks gone
  gone_apart a b out i e =
      let end = (is.gone_is.1 b).0 i in
      let edge : Has (edges (graph_of old) a) b =
      in_first (map in_word (words_in old.blocks.blocks a)) (map value_of (pairs_of old.assocs.pairs a)) b (subst (λ (m : FinMap id_cmp HeapBlock). Has (refs_in m a) b) same_blocks e) in
      elim (true_or_not (among condemned a)) [
        | inr outside ↦ end.1 (edge_kept (graph_of old) condemned a b (outside_kept (graph_of old) condemned a outside) edge)
        | inl here ↦ (let also : true ≡ false = sym ((is.gone_is.1 a).1 (here, λ k. end.1 (edge_kept (graph_of old) condemned a b k edge))) ∙ out in cc (also))
      ]
