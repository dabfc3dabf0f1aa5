use Rattle.std.proofs.Common.{arith}
use Rattle.quantum_space.proofs.Placing.{roomier_itself, roomier_more}
use Rattle.quantum_space.proofs.region.Region.reserve.Goals as goal

pub loop-grown-init : goal.loop-grown-init
loop-grown-init c = record { near = omega arith; same = roomier_itself c.args.self.now }

pub loop-grown-preserved : goal.loop-grown-preserved
loop-grown-preserved c = record {
  near = omega (arith, c.loop-grown.invariant.near, c.room.ensures.large, c.in-Ok.ensures.room);
  same = roomier_more _ _ _ c.loop-grown.invariant.same c.grow.ensures.same;
}
