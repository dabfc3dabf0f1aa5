-- A second cycle while one is open
use Rattle.std.proofs.Common.{◌≡◌, [], ◌∷◌, refl, sym, ap, ◌∙◌, IsTrue, is_some, false, true, option_and_then}
use Rattle.std.specs.FinMap.{get-empty}
use Rattle.az_base.specs.declared.action.Mode.TheVariants as mode
use Rattle.az_base.specs.declared.block_id.BlockId.{BlockId}
use Rattle.az_base.specs.Ids.{id_cmp}
use Rattle.az_base.specs.OptionRanges.{usual_options}
use Rattle.zone_model.specs.declared.call.Call.TheVariants as call
use Rattle.zone_model.specs.declared.entry.Reply.TheVariants as reply
use Rattle.zone_model.specs.Replies.{replied}
use Rattle.zone_model.specs.State.{State, opening, is_escaped}
use Rattle.zone_model.specs.Step.{Step}
use Rattle.zone_model.specs.History.{Legal}
use Rattle.zone_model.specs.Reach.{AnchoredFor}
use Rattle.zone_model.specs.WorkedCollections.{begun, busy_history, two_cycles}
use Rattle.zone_model.proofs.Steps.{step_plain, plain_happens}
use Rattle.zone_model.proofs.WorkedZones.{illegal}
use Rattle.zone_model.proofs.WorkedCycles.{opened, begin_step, rest_run}

abbrev first : State
first = opening usual_options

none_escaped : (b : BlockId) → IsTrue (is_escaped first b) → AnchoredFor mode.Full first b
none_escaped b h = let f : false ≡ true = sym (ap (λ o. is_some (option_and_then (λ b. b.since) o)) (get-empty id_cmp b)) ∙ h in cc (f)

busy : Step (opened first mode.Full) (replied 2 (call.Begin mode.Full) reply.Busy) (opened first mode.Full)
busy = step_plain _ _ _ refl (λ id n. n) refl ((_, refl, λ e. cc (e)), refl)

pub busy_is_legal : Legal usual_options busy_history
busy_is_legal = (_, (opened first mode.Full, begin_step first refl mode.Full, (opened first mode.Full, busy, rest_run first refl none_escaped)))

pub two_are_illegal : Legal usual_options two_cycles → ⊥
two_are_illegal = illegal usual_options (begun mode.Full ∷ []) _ (opened first mode.Full) (opened first mode.Full, begin_step first refl mode.Full, refl)
    (λ after step. let happens = plain_happens _ _ after step (λ id n. n) refl in let f = happens.1.0 in cc (f))
