use Rattle.std.proofs.Common.{◌≡◌, ◌≤◌, ◌∙◌, sym, ap, subst, arith, fold, length, take, slice_get, List}
use Rattle.std.specs.Option.{option_to_list}
use Rattle.az_base.specs.declared.action.Action.{Action}
use Rattle.finalise_pass.specs.Finalisers.{Finalisers, with_action}
use Rattle.finalise_pass.proofs.Runs.{runs_keep, run_next, take_whole}
use Rattle.finalise_pass.proofs.running.run_all.Goals as goal

pub loop-n-preserved : goal.loop-n-preserved
loop-n-preserved g c =
    let i = c.loop-n.invariant in
    let e = c.run_nth.ensures in
    let first : Finalisers = g.F.Finals.finals c.args.finals.now in
    let mid : Finalisers = g.F.Finals.finals c.loop-n.finals in
    let new : Finalisers = g.F.Finals.finals c.run_nth.new.finals in
    let actions : List Action = first.actions c.args.id in
    let same : mid.actions c.args.id ≡ actions = ap (λ (f : Finalisers). f.actions c.args.id) i.applied ∙ ap (λ a. a c.args.id) (runs_keep c.args.id first (take c.loop-n.n actions)).0 in
    let one : new ≡ fold (with_action c.args.id) mid (option_to_list (slice_get actions c.loop-n.n)) = subst (λ xs. new ≡ fold (with_action c.args.id) mid (option_to_list (slice_get xs c.loop-n.n))) same e.applied in
    let two : new ≡ fold (with_action c.args.id) (fold (with_action c.args.id) first (take c.loop-n.n actions)) (option_to_list (slice_get actions c.loop-n.n)) = subst (λ f. new ≡ fold (with_action c.args.id) f (option_to_list (slice_get actions c.loop-n.n))) i.applied one in
    record {
      applied = two ∙ sym (run_next c.args.id first actions c.loop-n.n);
      few = λ _. subst (λ (xs : List Action). length xs ≤ 8) same e.few;
      rest = e.rest ∙ i.rest;
    }

pub returns-clause-applied : goal.returns-clause-applied
returns-clause-applied g c =
    let i = c.loop-n.invariant in
    let first : Finalisers = g.F.Finals.finals c.args.finals.now in
    let few : length (first.actions c.args.id) ≤ 8 = i.few (omega (arith, c.loop-n-test.false)) in
    let long : length (first.actions c.args.id) ≤ c.loop-n.n = omega (arith, few, c.loop-n-test.false) in
    i.applied ∙ ap (λ xs. fold (with_action c.args.id) first xs) (take_whole (first.actions c.args.id) c.loop-n.n long)
