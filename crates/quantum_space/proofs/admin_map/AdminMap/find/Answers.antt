use Rattle.std.proofs.Common.{subst, sym, arith, ◌≡◌, ◌<◌, ◌∙◌, ap, inl, inr}
use Rattle.quantum_space.specs.AdminMaps.{AdminMap', HasNoHole}
use Rattle.quantum_space.proofs.Runs.{below_or}
use Rattle.quantum_space.proofs.admin_map.AdminMap.find.Goals as goal

pub hole_in-requires-clause-there : goal.hole_in-requires-clause-there
hole_in-requires-clause-there c = subst (λ (v : AdminMap'). c.loop-subzone.subzone < v.subzones) (c.self.view_is ∙ sym c.loop-subzone.invariant.same) c.loop-subzone-test.true

pub loop-subzone-preserved : goal.loop-subzone-preserved
loop-subzone-preserved c = record {
  same = c.hole_in.ensures.same ∙ c.loop-subzone.invariant.same;
  none = λ s l. elim (below_or s c.loop-subzone.subzone) [
    | inl b ↦ c.loop-subzone.invariant.none s b
    | inr b ↦ (let e : c.loop-subzone.subzone ≡ s = omega (arith, b, l) in
        subst (λ t. HasNoHole c.args.self.now c.args.len t) e (subst (λ (v : AdminMap'). HasNoHole v c.args.len c.loop-subzone.subzone) c.loop-subzone.invariant.same c.in_default.ensures.found))
  ];
}

pub pass-requires-clause-none : goal.pass-requires-clause-none
pass-requires-clause-none c = λ s l. subst (λ (v : AdminMap'). HasNoHole v c.args.len s) (sym (c.hole_in.ensures.same ∙ c.loop-subzone.invariant.same)) (c.loop-subzone.invariant.none s l)

pub pass-requires-2-clause-none : goal.pass-requires-2-clause-none
pass-requires-2-clause-none c = λ s l. subst (λ (v : AdminMap'). HasNoHole v c.args.len s) (sym c.loop-subzone.invariant.same) (c.loop-subzone.invariant.none s (omega (arith, l, c.loop-subzone-test.false)))

pub returns : goal.returns
returns c =
    let e : c.self.inside.subzones ≡ c.args.self.now.subzones = ap (λ (v : AdminMap'). v.subzones) c.self.view_is in
    record { found = λ s l. c.loop-subzone.invariant.none s (omega (arith, l, e, c.loop-subzone-test.false)); same = c.pass-2.ensures ∙ c.loop-subzone.invariant.same }
