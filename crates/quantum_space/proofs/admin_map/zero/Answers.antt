use Rattle.std.proofs.Common.{arith, ◌∙◌, ◌≡◌, subst, refl}
use Rattle.std.proofs.Math.ListN.{length-set}
use Rattle.quantum_space.specs.AdminMaps.{AllAre, SameOutside}
use Rattle.quantum_space.proofs.Cursors.{all_more, outside_more}
use Rattle.quantum_space.proofs.admin_map.zero.Goals as goal

pub loop-at-init : goal.loop-at-init
loop-at-init c = record { count = refl; inside = λ k l m. absurd (omega (arith, l, m)); outside = λ k o. refl }

pub loop-at-preserved : goal.loop-at-preserved
loop-at-preserved c = record {
  count = length-set _ _ _ ∙ c.loop-at.invariant.count;
  inside = all_more c.loop-at.bytes.items c.args.from c.loop-at.at 0 (omega arith) c.loop-at.invariant.inside;
  outside = outside_more c.args.bytes.now.items c.loop-at.bytes.items c.args.from c.loop-at.at 0 (omega arith) c.loop-at.invariant.outside;
}

pub returns-clause-inside : goal.returns-clause-inside
returns-clause-inside c = let e : c.loop-at.at ≡ c.args.end = omega arith in subst (λ x. AllAre c.loop-at.bytes.items c.args.from x 0) e c.loop-at.invariant.inside

pub returns-clause-outside : goal.returns-clause-outside
returns-clause-outside c = let e : c.loop-at.at ≡ c.args.end = omega arith in subst (λ x. SameOutside c.args.bytes.now.items c.loop-at.bytes.items c.args.from x) e c.loop-at.invariant.outside
