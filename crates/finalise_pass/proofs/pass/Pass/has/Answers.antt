use Rattle.std.proofs.Common.{◌∙◌, sym, ap, subst, List}
use Rattle.std.specs.List.Sorted.{IsStrictlySortedBy}
use Rattle.az_base.specs.declared.block_id.BlockId.{BlockId}
use Rattle.az_base.specs.Ids.{id_cmp, among}
use Rattle.finalise_pass.specs.Passing.{Passing}
use Rattle.finalise_pass.proofs.Lookup.{found_there, missed_nowhere}
use Rattle.finalise_pass.proofs.pass.Pass.has.Goals as goal

pub returns-in-Ok : goal.returns-in-Ok
returns-in-Ok c =
    sym (found_there c.args.id c.as_slice.result.now c.in-Ok.field-0 c.in-Ok.ensures.bound c.in-Ok.ensures.ok)
    ∙ ap (λ (xs : List BlockId). among xs c.args.id) (c.as_slice.ensures ∙ ap (λ (p : Passing). p.condemned) c.self.view_is)

pub returns-in-Err : goal.returns-in-Err
returns-in-Err c =
    sym (missed_nowhere c.args.id c.as_slice.result.now c.in-Err.field-0 (subst (IsStrictlySortedBy id_cmp) (sym c.as_slice.ensures) c.self.invariant.0) c.in-Err.ensures.position)
    ∙ ap (λ (xs : List BlockId). among xs c.args.id) (c.as_slice.ensures ∙ ap (λ (p : Passing). p.condemned) c.self.view_is)
