use Rattle.std.proofs.Common.{◌≡◌, ◌∙◌, sym, ap, subst, find, take, drop, None, List, Option, MatchOption}
use Rattle.az_base.specs.declared.action.Action.{Action}
use Rattle.az_base.specs.declared.block_id.BlockId.{BlockId}
use Rattle.zone_model.specs.State.{is_nil}
use Rattle.finalise_pass.specs.Finalisers.{Finalisers, awaits, with_done}
use Rattle.finalise_pass.specs.Passing.{Passing, GoesPast}
use Rattle.finalise_pass.proofs.Runs.{runs_keep, run_passed, has_actions}
use Rattle.finalise_pass.proofs.pass.Pass.apply.Goals as goal

pub set_done-requires : goal.set_done-requires
set_done-requires g c =
    let f : Finalisers = g.F.Finals.finals c.args.finals.now in
    let p : Passing = c.args.self.now in
    let same = runs_keep c.args.id f (f.actions c.args.id) in
    ap (λ (x : Finalisers). is_nil (x.actions c.args.id)) c.run_all.ensures.applied ∙ ap (λ (a : BlockId → List Action). is_nil (a c.args.id)) same.0 ∙ has_actions f (drop p.passed p.condemned) c.args.id c.requires

pub returns-clause-past : goal.returns-clause-past
returns-clause-past g c =
    let f : Finalisers = g.F.Finals.finals c.args.finals.now in
    subst (λ (o : Option BlockId). MatchOption o (c.go_past_next.new.self ≡ c.args.self.now) (λ id. GoesPast (awaits f) c.args.self.now id c.go_past_next.new.self.passed)) c.requires c.go_past_next.ensures.past

pub returns-clause-passed : goal.returns-clause-passed
returns-clause-passed g c = λ passed.
    let f : Finalisers = g.F.Finals.finals c.args.finals.now in
    let p : Passing = c.args.self.now in
    let past : GoesPast (awaits f) p c.args.id c.go_past_next.new.self.passed = subst (λ (o : Option BlockId). MatchOption o (c.go_past_next.new.self ≡ p) (λ id. GoesPast (awaits f) p id c.go_past_next.new.self.passed)) c.requires c.go_past_next.ensures.past in
    let none = run_passed c.args.id f p (f.actions c.args.id) c.go_past_next.new.self.passed past passed in
    let after = c.set_done.ensures.done ∙ ap (λ (x : Finalisers). with_done x c.args.id) c.run_all.ensures.applied in
    subst (λ (xs : List BlockId). find (awaits (g.F.Finals.finals c.set_done.new.self)) (take c.go_past_next.new.self.passed xs) ≡ None) (sym c.go_past_next.ensures.condemned)
    (subst (λ (x : Finalisers). find (awaits x) (take c.go_past_next.new.self.passed p.condemned) ≡ None) (sym after) none)
