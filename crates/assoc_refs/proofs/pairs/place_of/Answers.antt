use Rattle.std.proofs.Common.{arith, ◌+◌, ◌-◌, ◌/◌, ◌<◌, ◌≤◌}
use Rattle.std.proofs.lemmas.Grind.{common_steps}
use Rattle.assoc_refs.proofs.Places.{narrow-low, narrow-high, numbered-item, half_within}
use Rattle.assoc_refs.specs.Values.{numbered}
use Rattle.assoc_refs.proofs.pairs.place_of.Goals as goal

pub loop-low-preserved-then-lt : goal.loop-low-preserved-then-lt
loop-low-preserved-then-lt c =
    let m = c.loop-low.low + (c.loop-low.high - c.loop-low.low) / 2 in
    let x = c.index-list-middle.result in
    let in_half : (c.loop-low.low ≤ m) × (m < c.loop-low.high) = half_within c.loop-low.low c.loop-low.high c.loop-low-test.true in
    let before : x.0.0 < c.args.key.0 = grind (arith, common_steps) in
    record {
      within = omega (arith, in_half);
      length = c.loop-low.invariant.length;
      place = narrow-low (numbered c.args.list.now) c.args.key.0 c.loop-low.low c.loop-low.high m (x.0.0, x.1) c.requires
          (numbered-item c.args.list.now m x (omega (arith, in_half, c.loop-low.invariant.length)) c.index-list-middle.is) before c.loop-low.invariant.place;
    }

pub loop-low-preserved : goal.loop-low-preserved
loop-low-preserved c =
    let m = c.loop-low.low + (c.loop-low.high - c.loop-low.low) / 2 in
    let x = c.index-list-middle.result in
    let in_half : (c.loop-low.low ≤ m) × (m < c.loop-low.high) = half_within c.loop-low.low c.loop-low.high c.loop-low-test.true in
    let before : c.args.key.0 ≤ x.0.0 = grind (arith, common_steps) in
    record {
      within = in_half.0;
      length = omega (arith, in_half, c.loop-low.invariant.length);
      place = narrow-high (numbered c.args.list.now) c.args.key.0 c.loop-low.low c.loop-low.high m (x.0.0, x.1) c.requires
          (numbered-item c.args.list.now m x (omega (arith, in_half, c.loop-low.invariant.length)) c.index-list-middle.is) before c.loop-low.invariant.place;
    }
