-- What a new block adds to the sums over the blocks
use Rattle.std.proofs.Common.{◌≡◌, ℕ, ◌+◌, ◌≤◌, true, false, cond, ◌&&◌, List, Some, None, refl, ap, ◌∙◌, arith, eq-eqb, is_some, is_none}
use Rattle.std.specs.declared.cmp.Ordering.TheVariants.{Less, Equal, Greater}
use Rattle.std.specs.Ordering.{is_eq}
use Rattle.std.specs.FinMap.{get}
use Rattle.az_base.specs.declared.action.Action.{Action}
use Rattle.az_base.specs.declared.block_id.BlockId.{BlockId}
use Rattle.az_base.specs.Ids.{id_cmp, id_of, same_id, ids_total, exact_ids}
use Rattle.block_layouts.specs.declared.layout.Layout.{Layout}
use Rattle.block_layouts.specs.Layouts.{quanta, len_of}
use Rattle.zone_model.specs.State.{State}
use Rattle.zone_model.specs.Quanta.{used_quanta, own_quanta, is_born_escaped}
use Rattle.zone_model.specs.Stats.{stats_of}
use Rattle.zone_model.specs.Effect.{new_block, with_new}
use Rattle.zone_model.proofs.Totals.{total_added}

-- a later serial is another id
pub other_serial : (t s n : ℕ) → s + 1 ≤ n → same_id (id_of t n) (id_of t s) ≡ false
other_serial t s n h =
    elim (id_cmp (id_of t n) (id_of t s)) as (λ r. id_cmp (id_of t n) (id_of t s) ≡ r → is_eq r ≡ false) [
      | Less ↦ λ e. refl
      | Equal ↦ λ e. let same : n ≡ s = ap (λ (i : BlockId). i.serial) (exact_ids (id_of t n) (id_of t s) e) in absurd (omega arith)
      | Greater ↦ λ e. refl
    ] refl

module _ (z : State) (t to : ℕ) (layout : Layout) (actions : List Action) (none : get z.blocks (id_of t (z.serials t)) ≡ None) where
  pub used_added : used_quanta (with_new z t to layout actions) ≡ used_quanta z + cond (is_born_escaped z t layout actions) (quanta (len_of layout)) 0
  used_added =
      total_added ids_total exact_ids _ z.blocks (id_of t (z.serials t)) (new_block z t layout actions) none
      ∙ elim (is_born_escaped z t layout actions) as (λ e. used_quanta z + cond (is_some (cond e (Some z.reclaims) None)) (quanta (len_of layout)) 0 ≡ used_quanta z + cond e (quanta (len_of layout)) 0) [ true ↦ refl | false ↦ refl ]

  pub escaped_added : (stats_of (with_new z t to layout actions)).blocks ≡ (stats_of z).blocks + cond (is_born_escaped z t layout actions) 1 0
  escaped_added =
      total_added ids_total exact_ids _ z.blocks (id_of t (z.serials t)) (new_block z t layout actions) none
      ∙ elim (is_born_escaped z t layout actions) as (λ e. (stats_of z).blocks + cond (is_some (cond e (Some z.reclaims) None)) 1 0 ≡ (stats_of z).blocks + cond e 1 0) [ true ↦ refl | false ↦ refl ]

  pub own_added : own_quanta (with_new z t to layout actions) t ≡ own_quanta z t + cond (is_born_escaped z t layout actions) 0 (quanta (len_of layout))
  own_added =
      total_added ids_total exact_ids _ z.blocks (id_of t (z.serials t)) (new_block z t layout actions) none
      ∙ ap (λ b. own_quanta z t + cond (b && is_none (new_block z t layout actions).since) (quanta (len_of layout)) 0) (eq-eqb t t refl)
      ∙ elim (is_born_escaped z t layout actions) as (λ e. own_quanta z t + cond (is_none (cond e (Some z.reclaims) None)) (quanta (len_of layout)) 0 ≡ own_quanta z t + cond e 0 (quanta (len_of layout))) [ true ↦ refl | false ↦ refl ]
