-- Marking over blocks in a space is marking over the table
use Rattle.std.proofs.Common.{◌≡◌, ℕ, ◌≤◌, ◌&&◌, Bool, List, Option, Some, None, MatchOption, filter, length, slice_get, is_some, sym, ap, ◌∙◌, subst, arith}
use Rattle.std.specs.Option.{option_to_list}
use Rattle.az_base.specs.declared.action.Mode.{Mode}
use Rattle.az_base.specs.declared.block_id.BlockId.{BlockId}
use Rattle.quantum_space.specs.declared.shade.Shade.{Shade}
use Rattle.quantum_space.specs.declared.shade.Shade.TheVariants as shade
use Rattle.quantum_space.specs.Shapes.{Has, ScansOnto, Shades, Stack, Visits, VisitsAll, WithShade, edges, is_left_white, is_unmarked}
use Rattle.block_space.specs.Marking.{unmarked}
use Rattle.space_graph.specs.Graphs.{Graph', rest_of, shades_of, shape_of, spot_for}
use Rattle.block_table.specs.Lying.{AreLying, Kept', block_in, entries_of, kept_for, lying_table}
use Rattle.block_table.specs.Marking.{graph_in, marks_in}
use Rattle.block_table.specs.Stored.{IsWhole, Row}
use Rattle.block_table.specs.Table.{IsKept, Table, each_of, refs_in, used_by}
use Rattle.block_table.proofs.Lying.{long_rows, marked_table, same_blocks, same_edges, same_marks, same_young}
use Rattle.block_table.proofs.Visits.{all_alike, taken_alike, visits_alike}

-- what the fields keep, where the blocks are the same
pub kept_like : (es fs : List (BlockId × Row)) (b c u n m : ℕ) (room left : List ℕ) → each_of (λ (r : Row). r.kept) fs ≡ each_of (λ (r : Row). r.kept) es → length fs ≡ length es → c ≡ b → left ≡ room → n ≤ m → IsKept es b u room n → IsKept fs c u left m
kept_like es fs b c u n m room left same long begun lengths more k =
    let l : length left ≡ length room = ap length lengths in
    record {
      used = ap used_by same ∙ k.used;
      began = (let h = k.began in omega (arith, h, long, begun));
      room = (let h = k.room in omega (arith, h, l, more));
      few = (let h = k.few in omega (arith, h, l, long));
      sum = (let h = k.sum in omega (arith, h, l));
    }

pub marked_lying : (g new : Graph') (ks : List (BlockId × Kept')) (used room : ℕ) → rest_of new ≡ rest_of g → AreLying g ks used room → AreLying new ks used room
marked_lying g new ks used room rest inv = record {
  same = λ q. inv.same q ∙ ap (λ (r : Graph'). is_some (spot_for r.rows q)) (sym rest);
  whole = λ q x e. subst (λ (r : Graph'). IsWhole (block_in r.space x (kept_for ks q))) (sym rest) (inv.whole q x (ap (λ (r : Graph'). spot_for r.rows q) (sym rest) ∙ e));
  kept = kept_like (entries_of g ks) (entries_of new ks) g.began new.began used room room g.space.spare new.space.spare (ap (λ (t : Table). t.blocks) (marked_table g new ks rest))
      (long_rows (unmarked new.space) new.space ks new.rows ∙ ap (λ (r : Graph'). length r.rows) rest ∙ sym (long_rows (unmarked g.space) g.space ks g.rows)) (ap (λ (r : Graph'). r.began) rest) (ap (λ (r : Graph'). r.space.spare) rest) (omega arith) inv.kept;
}

module _ (t : Table) (g : Graph') (ks : List (BlockId × Kept')) (is : lying_table g ks ≡ t) where
  pub blocks_are : (shape_of g).blocks ≡ (graph_in t).blocks
  blocks_are = same_blocks g ks ∙ ap (λ (y : Table). (graph_in y).blocks) is

  pub young_are : (shape_of g).young ≡ (graph_in t).young
  young_are = same_young g ks ∙ ap (λ (y : Table). (graph_in y).young) is

  pub marks_are : shades_of g ≡ marks_in t
  marks_are = same_marks g ks ∙ ap marks_in is

  pub begun_has : (id : BlockId) → Has (graph_in t).blocks id → Has (shape_of g).blocks id
  begun_has id h = subst (λ (l : List BlockId). Has l id) (sym blocks_are) h

  pub left_is : (m : Mode) (n : ℕ) (o : Option BlockId) → option_to_list o ≡ filter (is_left_white m (shape_of g) (shades_of g)) (option_to_list (slice_get (shape_of g).blocks n))
      → option_to_list o ≡ filter (is_left_white m (graph_in t) (marks_in t)) (option_to_list (slice_get (graph_in t).blocks n))
  left_is m n o e =
      e ∙ ap (λ (l : List BlockId). filter (is_left_white m (shape_of g) (shades_of g)) (option_to_list (slice_get l n))) blocks_are
      ∙ ap (λ (p : BlockId → Bool). filter p (option_to_list (slice_get (graph_in t).blocks n))) (λ i b. is_unmarked (marks_are i b) && taken_alike m (shape_of g) (graph_in t) b young_are i)

  module _ (new : Graph') (rest : rest_of new ≡ rest_of g) where
    pub rest_is : lying_table new ks ≡ (let y : Table = record t { shades = (lying_table new ks).shades } in y)
    rest_is = marked_table g new ks rest ∙ ap (λ (x : Table). let y : Table = record x { shades = (lying_table new ks).shades } in y) is

    pub shade_is : (id : BlockId) (c : Shade) → WithShade (shades_of g) id c (shades_of new) → WithShade (marks_in t) id c (marks_in (lying_table new ks))
    shade_is id c h = subst (λ (f : Shades). WithShade f id c (marks_in (lying_table new ks))) marks_are (subst (λ (f : Shades). WithShade (shades_of g) id c f) (same_marks new ks) h)

    pub visits_are : (m : Mode) (id : BlockId) (is_new : Bool) → Visits m (shape_of g) id is_new (shades_of g) (shades_of new) → Visits m (graph_in t) id is_new (marks_in t) (marks_in (lying_table new ks))
    visits_are m id is_new v =
        subst (λ (f : Shades). Visits m (graph_in t) id is_new f (marks_in (lying_table new ks))) marks_are
        (subst (λ (f : Shades). Visits m (graph_in t) id is_new (shades_of g) f) (same_marks new ks)
        (visits_alike m (shape_of g) (graph_in t) id is_new (shades_of g) (shades_of new) blocks_are young_are v))

    pub scans_are : (m : Mode) (id : BlockId) (s onto : Stack) → ScansOnto m (shape_of g) id (shades_of g) s (shades_of new) onto → ScansOnto m (graph_in t) id (marks_in t) s (marks_in (lying_table new ks)) onto
    scans_are m id s onto v =
        let ends : edges (shape_of g) id ≡ refs_in t.blocks id = same_edges g ks id ∙ ap (λ (y : Table). refs_in y.blocks id) is in
        record {
          mid = v.mid;
          black = subst (λ (f : Shades). WithShade f id shade.Black v.mid) marks_are v.black;
          visits = subst (λ (f : Shades). VisitsAll m (graph_in t) (refs_in t.blocks id) v.mid s f onto) (same_marks new ks)
              (subst (λ (l : List BlockId). VisitsAll m (graph_in t) l v.mid s (shades_of new) onto) ends
              (all_alike m (shape_of g) (graph_in t) (edges (shape_of g) id) v.mid s (shades_of new) onto blocks_are young_are v.visits));
        }

    pub each_is : (c : Shade) → ((b : BlockId) → Has (shape_of g).blocks b → shades_of new b ≡ c) → (b : BlockId) → Has (graph_in t).blocks b → marks_in (lying_table new ks) b ≡ c
    each_is c h b there = sym (ap (λ (f : Shades). f b) (same_marks new ks)) ∙ h b (begun_has b there)

    pub outside_is : ((b : BlockId) → ¬ Has (shape_of g).blocks b → shades_of new b ≡ shades_of g b) → (b : BlockId) → ¬ Has (graph_in t).blocks b → marks_in (lying_table new ks) b ≡ marks_in t b
    outside_is h b absent = sym (ap (λ (f : Shades). f b) (same_marks new ks)) ∙ h b (λ k. absent (subst (λ (l : List BlockId). Has l b) blocks_are k)) ∙ ap (λ (f : Shades). f b) marks_are

    pub nth_is : (n : ℕ) (c : Shade) → MatchOption (slice_get (shape_of g).blocks n) (new ≡ g) (λ id. WithShade (shades_of g) id c (shades_of new))
        → MatchOption (slice_get (graph_in t).blocks n) (lying_table new ks ≡ t) (λ id. WithShade (marks_in t) id c (marks_in (lying_table new ks)))
    nth_is n c h = subst (λ (l : List BlockId). MatchOption (slice_get l n) (lying_table new ks ≡ t) (λ id. WithShade (marks_in t) id c (marks_in (lying_table new ks)))) blocks_are (go (slice_get (shape_of g).blocks n) h)
      where
        go : (o : Option BlockId) → MatchOption o (new ≡ g) (λ id. WithShade (shades_of g) id c (shades_of new)) → MatchOption o (lying_table new ks ≡ t) (λ id. WithShade (marks_in t) id c (marks_in (lying_table new ks)))
        go None e = ap (λ (y : Graph'). lying_table y ks) e ∙ is
        go (Some id) h = shade_is id c h
