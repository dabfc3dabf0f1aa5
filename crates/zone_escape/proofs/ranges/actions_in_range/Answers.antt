use Rattle.std.proofs.Common.{List, subst, ◌∙◌}
use Rattle.std.proofs.lemmas.List.{take_all}
use Rattle.std.proofs.lemmas.List.Elements.{All-more, recursion_from_All}
use Rattle.std.specs.List.{AllByRecursion}
use Rattle.az_base.specs.declared.action.Action.{Action}
use Rattle.zone_model.specs.InRange.{ActionInRange}
use Rattle.zone_escape.proofs.ranges.actions_in_range.Goals as goal

pub loop-action-preserved : goal.loop-action-preserved
loop-action-preserved c = All-more ActionInRange c.as_slice-action-items.result.now c.loop-action.action-index _ c.loop-action-test.true c.loop-action.invariant c.action_in_range.ensures

pub returns : goal.returns
returns c =
    let all = take_all c.loop-action.action-index c.as_slice-action-items.result.now c.loop-action-test.false in
    subst (λ (xs : List Action). AllByRecursion ActionInRange xs) (all ∙ c.as_slice-action-items.ensures.actions) (recursion_from_All ActionInRange _ c.loop-action.invariant)
