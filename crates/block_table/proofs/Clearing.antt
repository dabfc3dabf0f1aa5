-- Blocks are forgotten before they go
use Rattle.std.proofs.Common.{◌≡◌, ℕ, List, [], Some, IsTrue, length, refl, sym, ap, ◌∙◌, subst, arith}
use Rattle.az_base.specs.declared.block_id.BlockId.{BlockId}
use Rattle.az_base.specs.Ids.{among}
use Rattle.quantum_space.specs.declared.spot.Spot.{Spot}
use Rattle.block_space.specs.Spaces.{with_spare}
use Rattle.block_space.specs.Marking.{len_in, unmarked}
use Rattle.space_graph.specs.Graphs.{Graph', IsForgotten, IsGraph, KnowsLess, KnowsNothing, spot_for, with_space}
use Rattle.space_graph.proofs.Comings.{spare_alike}
use Rattle.space_graph.proofs.Positions.{key_count}
use Rattle.block_table.specs.Lying.{AreLying, HasLess, Kept', entries_of, lying_table}
use Rattle.block_table.specs.Stored.{Row}
use Rattle.block_table.specs.Table.{AreApart, AreRemoved, Table, each_of, without}
use Rattle.block_table.proofs.Alike.{alike_entries, alike_lying}
use Rattle.block_table.proofs.Begun.{begun_lying}
use Rattle.block_table.proofs.Going.{all_forgotten, less_entries}
use Rattle.block_table.proofs.Lying.{keys_rows, long_rows}
use Rattle.block_table.proofs.Marked.{marked_lying}

abbrev begun : Graph' → Graph'
begun g = record { rows = g.rows; space = g.space; began = length g.rows; anchors = g.anchors; remembered = g.remembered }

module _ (g a b c : Graph') (ids : List BlockId) (spared : a ≡ with_space g (with_spare g.space [])) (begins : b ≡ begun a) (inv : IsGraph b) (less : KnowsLess b c)
    (none : (i : BlockId) (x : Spot) → IsTrue (among ids i) → spot_for b.rows i ≡ Some x → KnowsNothing c.space x (len_in b.space x)) where
  first : (ks : List (BlockId × Kept')) → entries_of b ks ≡ entries_of g ks
  first ks = ap (λ (y : Graph'). entries_of y ks) begins ∙ ap (λ (y : Graph'). entries_of y ks) spared ∙ alike_entries g (with_spare g.space []) ks (spare_alike g.space [])

  pub cleared_entries : (ks : List (BlockId × Kept')) → entries_of c ks ≡ entries_of g ks
  cleared_entries ks = less_entries b c ks less ∙ first ks

  pub cleared_forgotten : (ks : List (BlockId × Kept')) → AreApart (lying_table g ks).blocks ids → (q : BlockId) → IsTrue (among ids q) → IsForgotten c q
  cleared_forgotten ks apart q h = all_forgotten (lying_table b ks) b c ks ids inv refl (subst (λ es. AreApart (each_of (λ (r : Row). r.kept) es) ids) (sym (first ks)) apart) less none q h

  pub cleared_began : c.began ≡ length c.rows
  cleared_began = ap (λ (y : Graph'). y.began) less.rest ∙ ap (λ (y : Graph'). y.began) begins ∙ ap (λ (y : Graph'). length y.rows) (sym begins) ∙ ap (λ (y : Graph'). length y.rows) (sym less.rest)

  pub cleared_spare : c.space.spare ≡ []
  cleared_spare = ap (λ (y : Graph'). y.space.spare) less.rest ∙ ap (λ (y : Graph'). y.space.spare) begins ∙ ap (λ (y : Graph'). y.space.spare) spared

  pub cleared_lying : (ks : List (BlockId × Kept')) (used room : ℕ) → AreLying g ks used room → AreLying c ks used room
  cleared_lying ks used room lying =
      let fits : AreLying (with_space g (with_spare g.space [])) ks used room = alike_lying g (with_spare g.space []) ks used room room (spare_alike g.space []) (omega arith)
      (let f = lying.kept.few in let l = long_rows (unmarked g.space) g.space ks g.rows in omega (arith, f, l)) (let h = lying.kept.sum in omega (arith, h)) lying in
      let second : AreLying a ks used room = subst (λ (y : Graph'). AreLying y ks used room) (sym spared) fits in
      let third : AreLying b ks used room = subst (λ (y : Graph'). AreLying y ks used room) (sym begins) (begun_lying a ks used room second) in
      marked_lying b c ks used room less.rest third

-- what has gone from the table
pub removed_are : (t : Table) (g c new : Graph') (ks ls : List (BlockId × Kept')) (ids : List BlockId) → lying_table g ks ≡ t → entries_of c ks ≡ entries_of g ks → c.space.spare ≡ [] → HasLess (lying_table c ks) ids (lying_table new ls) → new.began ≡ length new.rows → AreRemoved t ids (lying_table new ls)
removed_are t g c new ks ls ids is same spare less all = record {
  blocks = less.blocks ∙ ap (λ es. without (each_of (λ (r : Row). r.kept) es) ids) same ∙ ap (λ (y : Table). without y.blocks ids) is;
  holds = less.holds ∙ ap (λ es. without (each_of (λ (r : Row). r.holds) es) ids) same ∙ ap (λ (y : Table). without y.holds ids) is;
  shades = less.shades ∙ ap (λ es. without (each_of (λ (r : Row). r.shade) es) ids) same ∙ ap (λ (y : Table). without y.shades ids) is;
  began = all ∙ sym (key_count new.rows) ∙ ap length (sym (keys_rows (unmarked new.space) new.space ls new.rows));
  room = less.room ∙ spare;
}
