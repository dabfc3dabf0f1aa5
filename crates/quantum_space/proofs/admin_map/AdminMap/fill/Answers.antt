use Rattle.std.proofs.Common.{arith, ◌∙◌, ◌≡◌, subst, refl}
use Rattle.std.proofs.Math.ListN.{length-set}
use Rattle.quantum_space.specs.AdminMaps.{AllAre, IsChanged}
use Rattle.quantum_space.proofs.Cursors.{all_more, outside_more}
use Rattle.quantum_space.proofs.admin_map.AdminMap.fill.Goals as goal

pub loop-at-init : goal.loop-at-init
loop-at-init c = record { inside = λ k l m. absurd (omega (arith, l, m)); changed = record { size = refl; subzones = refl; count = refl; outside = λ k o. refl } }

pub set-requires-clause-there : goal.set-requires-clause-there
set-requires-clause-there c = omega (arith, c.loop-at.invariant.changed.count)

pub loop-at-preserved : goal.loop-at-preserved
loop-at-preserved c = rw c.set.ensures (record {
  inside = all_more c.loop-at.self.bytes c.args.from c.loop-at.at c.args.byte (omega (arith, c.loop-at.invariant.changed.count)) c.loop-at.invariant.inside;
  changed = record {
    size = c.loop-at.invariant.changed.size;
    subzones = c.loop-at.invariant.changed.subzones;
    count = length-set _ _ _ ∙ c.loop-at.invariant.changed.count;
    outside = outside_more c.args.self.now.bytes c.loop-at.self.bytes c.args.from c.loop-at.at c.args.byte (omega arith) c.loop-at.invariant.changed.outside;
  };
})

pub returns-clause-inside : goal.returns-clause-inside
returns-clause-inside c = let e : c.loop-at.at ≡ c.args.end = omega arith in subst (λ x. AllAre c.loop-at.self.bytes c.args.from x c.args.byte) e c.loop-at.invariant.inside

pub returns-clause-changed : goal.returns-clause-changed
returns-clause-changed c = let e : c.loop-at.at ≡ c.args.end = omega arith in subst (λ x. IsChanged c.args.self.now c.loop-at.self c.args.from x) e c.loop-at.invariant.changed
