-- The history that assigns a block to a weak root, and then null
use Rattle.std.proofs.Common.{◌≡◌, ◌+◌, nat_lt, false, cond, [], Option, Some, None, MatchOption, refl, sym, ap, ◌∙◌, subst, IsTrue, is_none, inl, inr}
use Rattle.std.specs.Option.{option_map_or}
use Rattle.std.specs.declared.cmp.Ordering.TheVariants.{Less, Equal, Greater}
use Rattle.std.specs.Ordering.{is_eq}
use Rattle.std.specs.FinMap.{empty, insert}
use Rattle.az_base.specs.declared.block_id.BlockId.{BlockId}
use Rattle.az_base.specs.declared.misuse.Misuse.{Misuse}
use Rattle.az_base.specs.declared.misuse.Misuse.TheVariants as misuse
use Rattle.az_base.specs.declared.weak_loc.WeakLoc.TheVariants as weak
use Rattle.az_base.specs.Ids.{id_cmp, same_id, ids_total, exact_ids}
use Rattle.az_base.specs.OptionRanges.{usual_options}
use Rattle.block_layouts.specs.declared.layout.Layout.{Layout}
use Rattle.block_layouts.specs.declared.layout.Shape.TheVariants as shape
use Rattle.zone_model.specs.declared.entry.Reply.TheVariants as reply
use Rattle.zone_model.specs.State.{State, Block, is_unescaped, with_weak}
use Rattle.zone_model.specs.Escape.{Need, Tells, with_escaped}
use Rattle.zone_model.specs.Quanta.{quanta_needed}
use Rattle.zone_model.specs.Misuses.{misuse_of}
use Rattle.zone_model.specs.Step.{Step, Happens}
use Rattle.zone_model.specs.History.{Ends}
use Rattle.zone_model.specs.Part.{own_block}
use Rattle.zone_model.specs.WeakShows.{WeakShows}
use Rattle.zone_model.specs.Worked.{first_block, first_weak, assign_entry, assigned_history, cleared_history}
use Rattle.zone_model.proofs.Ones.{get-one, total-one, map_values-one}
use Rattle.zone_model.proofs.Steps.{step_plain}
use Rattle.zone_model.proofs.FirstHistory.{first_zone, new_step}
use Rattle.zone_model.proofs.WeakSteps.{assigned_here}
use Rattle.zone_model.proofs.WeakLaws.{shown_where_there}

abbrev small : Layout
small = shape.Scanned 2

-- the zone once its block has escaped
abbrev escaped_zone : State
escaped_zone = record (first_zone small) { blocks = insert empty first_block (record (own_block small) { since = Some 0 }) }

abbrev assigned : State
assigned = with_weak escaped_zone (weak.Root first_weak) (Some first_block)

abbrev pub cleared : State
cleared = with_weak assigned (weak.Root first_weak) None

-- the one block is the one that hasn't escaped
one_unescaped : (q : BlockId) → is_unescaped (first_zone small) q ≡ same_id q first_block
one_unescaped q =
    ap (λ o. option_map_or (λ (b : Block). is_none b.since) o false) (get-one ids_total exact_ids first_block (own_block small) q)
    ∙ elim (id_cmp q first_block) as (λ r. option_map_or (λ (b : Block). is_none b.since) (cond (is_eq r) (Some (own_block small)) None) false ≡ is_eq r) [ Less ↦ refl | Equal ↦ refl | Greater ↦ refl ]

same_block : (q : BlockId) → IsTrue (same_id q first_block) → first_block ≡ q
same_block q h = elim (id_cmp q first_block) as (λ r. id_cmp q first_block ≡ r → IsTrue (is_eq r) → first_block ≡ q) [ Less ↦ λ e f. cc (f) | Equal ↦ λ e f. sym (exact_ids q first_block e) | Greater ↦ λ e f. cc (f) ] refl h

escapes : Tells (λ q. same_id q first_block) (Need (first_zone small) 1 (assign_entry 0 (Some first_block)).call)
escapes q = (
  (λ h. inl (one_unescaped q ∙ h, ([], same_block q h))),
  (λ need. elim need [ inl e ↦ sym (one_unescaped q) ∙ e.0 | inr e ↦ absurd e ]),
)

assign_right : misuse_of (first_zone small) 1 (assign_entry 0 (Some first_block)).call (λ q. same_id q first_block) ≡ None
assign_right =
    ap (λ u. cond (nat_lt 1048576 (u + quanta_needed (first_zone small) (λ q. same_id q first_block))) (Some misuse.ZoneFull) None) (total-one ids_total exact_ids _ first_block (own_block small))
    ∙ ap (λ n. cond (nat_lt 1048576 (0 + n)) (Some misuse.ZoneFull) None) (total-one ids_total exact_ids _ first_block (own_block small))

assign_step : Step (first_zone small) (assign_entry 0 (Some first_block)) assigned
assign_step = record {
  running = refl;
  need = λ q. same_id q first_block;
  needed = escapes;
  does = subst (λ (m : Option Misuse). MatchOption m (Happens (with_escaped (first_zone small) (λ q. same_id q first_block)) 1 (assign_entry 0 (Some first_block)).call (assign_entry 0 (Some first_block)).reply assigned) (λ m. ((assign_entry 0 (Some first_block)).reply ≡ reply.Misuse m) × (assigned ≡ first_zone small))) (sym assign_right)
      (assigned, (refl, ap (λ m. record assigned { blocks = m }) (sym (map_values-one ids_total exact_ids _ first_block (own_block small)))), refl);
}

clear_right : misuse_of assigned 1 (assign_entry 1 None).call (λ _. false) ≡ None
clear_right =
    ap (λ u. cond (nat_lt 1048576 (u + quanta_needed assigned (λ _. false))) (Some misuse.ZoneFull) None) (total-one ids_total exact_ids _ first_block _)
    ∙ ap (λ n. cond (nat_lt 1048576 (1 + n)) (Some misuse.ZoneFull) None) (total-one ids_total exact_ids _ first_block _)

clear_step : Step assigned (assign_entry 1 None) cleared
clear_step = step_plain assigned (assign_entry 1 None) cleared refl (λ id n. elim n [ inl e ↦ e | inr e ↦ e ]) clear_right (cleared, (refl, refl), refl)

assigned_ends : Ends usual_options assigned_history assigned
assigned_ends = (first_zone small, new_step small refl, (assigned, assign_step, refl))

pub cleared_ends : Ends usual_options cleared_history cleared
cleared_ends = (first_zone small, new_step small refl, (assigned, assign_step, (cleared, clear_step, refl)))

pub shows_block : WeakShows usual_options assigned_history (weak.Root first_weak) (Some first_block)
shows_block = (shown_where_there usual_options assigned_history assigned (weak.Root first_weak) (Some first_block) assigned_ends refl).1 (sym (assigned_here escaped_zone (weak.Root first_weak) (Some first_block)))

pub shows_null : WeakShows usual_options cleared_history (weak.Root first_weak) None
shows_null = (shown_where_there usual_options cleared_history cleared (weak.Root first_weak) None cleared_ends refl).1 (sym (assigned_here assigned (weak.Root first_weak) None))

pub shows_block_no_longer : WeakShows usual_options cleared_history (weak.Root first_weak) (Some first_block) → ⊥
shows_block_no_longer shows =
    let both : Some first_block ≡ None = (shown_where_there usual_options cleared_history cleared (weak.Root first_weak) (Some first_block) cleared_ends refl).0 shows ∙ assigned_here assigned (weak.Root first_weak) None in
    cc (both)
