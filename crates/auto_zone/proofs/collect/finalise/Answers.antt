use Rattle.std.proofs.Common.{◌≡◌, ◌≤◌, ◌+◌, ℕ, subst, arith}
use Rattle.zone_model.specs.Phases.{Settling}
use Rattle.auto_zone.specs.Sessions.{AlwaysIn}
use Rattle.auto_zone.proofs.Closing.{in_phase}
use Rattle.auto_zone.proofs.Going.{steps_none, finalised_all}
use Rattle.auto_zone.proofs.collect.finalise.Goals as goal

pub loop-left-init : goal.loop-left-init
loop-left-init g c = record { always = c.requires.always; out = c.requires.out; steps = (0, steps_none c.args.seat, zero_first c.args.left) }
  where
    zero_first : (n : ℕ) → 0 + n ≡ n
    zero_first n = omega arith

pub loop-left-preserved : goal.loop-left-preserved
loop-left-preserved g c = record {
  always = in_phase c.closing-after.result.0 c.closing-after.new.local (λ z p. p.1) c.closing-after.ensures.always;
  out = c.closing-after.ensures.called.out;
  steps = finalised_all c.args.seat c.loop-left.seat c.closing-after.result.0 c.loop-left.local c.closing-after.new.local c.args.left c.loop-left.left c.closing-after.result.2 c.closing-after.result.1
      c.loop-left.invariant.steps c.loop-left.invariant.out c.closing-after.ensures.place c.closing-after.ensures.called c.closing-after.ensures.always.phase.0;
}

pub returns-clause-always : goal.returns-clause-always
returns-clause-always g c = subst (λ n. AlwaysIn (Settling n) c.loop-left.seat c.loop-left.local) (none c.loop-left.left c.loop-left-test.false) c.loop-left.invariant.always
  where
    none : (n : ℕ) → n ≤ 0 → n ≡ 0
    none n h = omega (arith, h)
