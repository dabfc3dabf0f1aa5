-- What the table tells of blocks in a space
use Rattle.std.proofs.Common.{◌≡◌, ℕ, true, false, List, [], Option, Some, None, is_some, refl, sym, ap, ◌∙◌, subst}
use Rattle.std.specs.Option.{option_map_or, unwrap_or}
use Rattle.std.specs.Map.{keys_of, lookup}
use Rattle.std.specs.FinMap.{get}
use Rattle.az_base.specs.declared.block_id.BlockId.{BlockId}
use Rattle.az_base.specs.Ids.{id_eq}
use Rattle.block_layouts.specs.Fitting.{Fits}
use Rattle.block_layouts.specs.declared.layout.Shape.TheVariants as layout
use Rattle.quantum_space.specs.declared.spot.Spot.{Spot}
use Rattle.block_space.specs.Spaces.{Space'}
use Rattle.block_space.specs.Marking.{unmarked}
use Rattle.block_space.proofs.Unmarked.{layout_unmarked}
use Rattle.space_graph.specs.Graphs.{Graph', spot_for}
use Rattle.block_table.specs.Stored.{HeapBlock, IsWhole}
use Rattle.block_table.specs.Lying.{AreLying, Kept', block_in, entries_of, kept_for, layout_at, lying_table, row_in, words_at}
use Rattle.block_table.specs.Table.{Table, words_in}
use Rattle.block_table.proofs.Found.{at_holds, at_kept}
use Rattle.block_table.proofs.Lying.{all_unmarked, kept_found, keys_rows, row_none, row_there}

some_of : {X : Type 0} (o : Option X) → is_some o ≡ true → (x : X) × (o ≡ Some x)
some_of None e = cc
some_of (Some x) e = (x, refl)

none_of : {X : Type 0} (o : Option X) → is_some o ≡ false → o ≡ None
none_of None e = refl
none_of (Some x) e = cc

pub layout_same : (s : Space') (x : Spot) → layout_at (unmarked s) x ≡ layout_at s x
layout_same s x = ap (λ o. unwrap_or o (layout.Scanned 0)) (layout_unmarked s x)

module _ (t : Table) (g : Graph') (ks : List (BlockId × Kept')) (is : lying_table g ks ≡ t) where
  pub order_is : t.order ≡ keys_of g.rows
  order_is = ap (λ (x : Table). x.order) (sym is) ∙ keys_rows (unmarked g.space) g.space ks g.rows

  pub block_there : (q : BlockId) (x : Spot) → Some x ≡ spot_for g.rows q → get t.blocks q ≡ Some (block_in (unmarked g.space) x (kept_for ks q))
  block_there q x e = at_kept t (entries_of g ks) g.began g.space.spare is q (Some (row_in (unmarked g.space) g.space x (kept_for ks q))) (row_there g ks q x (sym e))

  pub holds_there : (q : BlockId) (x : Spot) → Some x ≡ spot_for g.rows q → get t.holds q ≡ Some (kept_for ks q).holds
  holds_there q x e = at_holds t (entries_of g ks) g.began g.space.spare is q (Some (row_in (unmarked g.space) g.space x (kept_for ks q))) (row_there g ks q x (sym e))

  pub block_none : (q : BlockId) → None ≡ spot_for g.rows q → get t.blocks q ≡ None
  block_none q e = at_kept t (entries_of g ks) g.began g.space.spare is q None (row_none g ks q (sym e))

  pub holds_none : (q : BlockId) → None ≡ spot_for g.rows q → get t.holds q ≡ None
  holds_none q e = at_holds t (entries_of g ks) g.began g.space.spare is q None (row_none g ks q (sym e))

  pub there_is : (q : BlockId) → is_some (spot_for g.rows q) ≡ is_some (get t.blocks q)
  there_is q = go (spot_for g.rows q) refl
    where
      go : (o : Option Spot) → spot_for g.rows q ≡ o → is_some (spot_for g.rows q) ≡ is_some (get t.blocks q)
      go None e = ap is_some e ∙ sym (ap is_some (block_none q (sym e)))
      go (Some x) e = ap is_some e ∙ sym (ap is_some (block_there q x (sym e)))

  -- the words of a block that is there
  pub words_there : (q : BlockId) (x : Spot) → Some x ≡ spot_for g.rows q → words_in t.blocks q ≡ words_at g.space x
  words_there q x e = ap (λ o. option_map_or (λ (k : HeapBlock). k.words) o []) (block_there q x e) ∙ all_unmarked g.space x

  pub words_none : (q : BlockId) → None ≡ spot_for g.rows q → words_in t.blocks q ≡ []
  words_none q e = ap (λ o. option_map_or (λ (k : HeapBlock). k.words) o []) (block_none q e)

  module _ (used room : ℕ) (inv : AreLying g ks used room) where
    pub whole_there : (q : BlockId) (x : Spot) → Some x ≡ spot_for g.rows q → IsWhole (block_in (unmarked g.space) x (kept_for ks q))
    whole_there q x e = inv.whole q x (sym e)

    pub fits_there : (q : BlockId) (x : Spot) → Some x ≡ spot_for g.rows q → Fits (layout_at g.space x) (words_at g.space x)
    fits_there q x e =
        subst (λ l. Fits l (words_at g.space x)) (layout_same g.space x)
        (subst (λ ws. Fits (layout_at (unmarked g.space) x) ws) (all_unmarked g.space x) (inv.whole q x (sym e)).words)

    -- by what is kept of it
    pub spot_kept : (q : BlockId) (k : Kept') → Some k ≡ lookup (id_eq q) ks → (x : Spot) × (Some x ≡ spot_for g.rows q) × (kept_for ks q ≡ k)
    spot_kept q k e = (let s = some_of (spot_for g.rows q) (sym (inv.same q) ∙ ap is_some (sym e)) in (s.0, sym s.1, kept_found ks q k e))

    pub no_spot : (q : BlockId) → None ≡ lookup (id_eq q) ks → None ≡ spot_for g.rows q
    no_spot q e = sym (none_of (spot_for g.rows q) (sym (inv.same q) ∙ ap is_some (sym e)))

    pub kept_there : (q : BlockId) (k : Kept') → Some k ≡ lookup (id_eq q) ks → (x : Spot) × (get t.blocks q ≡ Some (block_in (unmarked g.space) x k))
    kept_there q k e = (let s = spot_kept q k e in (s.0, block_there q s.0 s.1 ∙ ap (λ (k : Kept'). Some (block_in (unmarked g.space) s.0 k)) s.2))

    pub held_there : (q : BlockId) (k : Kept') → Some k ≡ lookup (id_eq q) ks → get t.holds q ≡ Some k.holds
    held_there q k e = (let s = spot_kept q k e in holds_there q s.0 s.1 ∙ ap (λ (k : Kept'). Some k.holds) s.2)

-- a block that the table doesn't have begins nowhere
pub absent_spot : (t : Table) (g : Graph') (ks : List (BlockId × Kept')) → lying_table g ks ≡ t → (q : BlockId) → get t.blocks q ≡ None → spot_for g.rows q ≡ None
absent_spot t g ks is q none = go (spot_for g.rows q) refl
  where
    go : (o : Option Spot) → spot_for g.rows q ≡ o → spot_for g.rows q ≡ None
    go None e = e
    go (Some x) e = (let there = block_there t g ks is q x (sym e) in let no : None ≡ Some (block_in (unmarked g.space) x (kept_for ks q)) = sym none ∙ there in cc)
