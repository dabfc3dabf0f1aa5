-- All blocks of the graph turn white
use Rattle.std.proofs.Common.{◌≡◌, ◌≤◌, Option, Some, None, MatchOption, length, refl, sym, ◌∙◌, subst, arith}
use Rattle.std.specs.Bool.{⊤}
use Rattle.std.specs.Option.{option_map_or}
use Rattle.std.specs.Map.{keys_of}
use Rattle.az_base.specs.declared.block_id.BlockId.{BlockId}
use Rattle.block_layouts.specs.declared.layout.Layout.{Layout}
use Rattle.quantum_space.specs.declared.shade.Shade.TheVariants as shade
use Rattle.quantum_space.specs.declared.spot.Spot.{Spot}
use Rattle.quantum_space.specs.Shapes.{Has}
use Rattle.block_space.specs.Spaces.{Space'}
use Rattle.block_space.specs.Marking.{AreWhite, byte_in, id_in, layout_in, shade_told}
use Rattle.space_graph.specs.Graphs.{Graph', IsGraph, begun, rest_of, shades_of, spot_for, with_space}
use Rattle.space_graph.proofs.Positions.{all_first, found_has, key_count}
use Rattle.space_graph.proofs.Steps.{rest_same}

pub record Whitened (v g : Graph') (new : Space') : Type 0 where
  pub graph : IsGraph (with_space v new)
  pub each : (b : BlockId) → Has (begun g) b → shades_of (with_space v new) b ≡ shade.White
  pub outside : (b : BlockId) → ¬ Has (begun g) b → shades_of (with_space v new) b ≡ shades_of g b
  pub rest : rest_of (with_space v new) ≡ rest_of g

module _ (v : Graph') (inv : IsGraph v) (new : Space') (w : AreWhite v.space new) (all : length v.rows ≤ v.began) where
  -- each block that is there was there as the cycle began
  begun_found : (id : BlockId) (x : Spot) → spot_for v.rows id ≡ Some x → Has (begun v) id
  begun_found id x e = all_first (keys_of v.rows) v.began id (omega (arith, all, key_count v.rows)) (found_has v.rows id x e)

  has_by : (o p : Option Layout) → p ≡ o → MatchOption o ⊥ (λ l. ⊤) → MatchOption p ⊥ (λ l. ⊤)
  has_by o p e h = subst (λ (q : Option Layout). MatchOption q ⊥ (λ l. ⊤)) (sym e) h

  graph_white : IsGraph (with_space v new)
  graph_white = record {
    once = inv.once;
    few = inv.few;
    began = inv.began;
    there = λ id x e. (let h = inv.there id x e in (has_by (layout_in v.space x) (layout_in new x) (w.layouts x) h.0, w.ids x ∙ h.1));
    back = λ x l e. subst (λ (q : BlockId). spot_for v.rows q ≡ Some x) (sym (w.ids x)) (inv.back x l (sym (w.layouts x) ∙ e));
    used = λ x l e. w.used x (inv.used x l (sym (w.layouts x) ∙ e));
    white = λ x l e m. subst (Has (begun v)) (sym (w.ids x)) (begun_found (id_in v.space x) x (inv.back x l (sym (w.layouts x) ∙ e)));
  }

  -- the layout of a block that is there
  some_layout : (o : Option Layout) → MatchOption o ⊥ (λ l. ⊤) → (l : Layout) × (o ≡ Some l)
  some_layout None h = absurd h
  some_layout (Some l) h = (l, refl)

  white_by : (id : BlockId) (o : Option Spot) → spot_for v.rows id ≡ o → option_map_or (λ x. shade_told (byte_in new x)) o shade.White ≡ shade.White
  white_by id None e = refl
  white_by id (Some x) e = let l = some_layout (layout_in v.space x) (inv.there id x e).0 in w.white x l.0 l.1

  each_white : (id : BlockId) → shades_of (with_space v new) id ≡ shade.White
  each_white id = white_by id (spot_for v.rows id) refl

  outside_white : (id : BlockId) (o : Option Spot) → spot_for v.rows id ≡ o → ¬ Has (begun v) id → option_map_or (λ x. shade_told (byte_in v.space x)) o shade.White ≡ shade.White
  outside_white id None e h = refl
  outside_white id (Some x) e h = absurd (h (begun_found id x e))

  pub white_here : Whitened v v new
  white_here = record {
    graph = graph_white;
    each = λ id h. each_white id;
    outside = λ id h. each_white id ∙ sym (outside_white id (spot_for v.rows id) refl h);
    rest = rest_same v new w.rest;
  }

pub white_step : (v g : Graph') → v ≡ g → IsGraph v → (new : Space') → AreWhite v.space new → length g.rows ≤ g.began → Whitened v g new
white_step v g is inv new w all = subst (λ (y : Graph'). Whitened v y new) is (white_here v inv new w (subst (λ (y : Graph'). length y.rows ≤ y.began) (sym is) all))
