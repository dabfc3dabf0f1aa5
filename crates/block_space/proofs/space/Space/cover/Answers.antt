use Rattle.std.proofs.Common.{arith, refl}
use Rattle.block_space.proofs.Keeping.{roomier_space}
use Rattle.block_space.proofs.space.Space.cover.Goals as goal

pub loop-grown-init : goal.loop-grown-init
loop-grown-init c = record { near = omega arith; same = roomier_space c.args.self.now; spare = refl }
