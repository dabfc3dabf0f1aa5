use Rattle.std.proofs.Common.{subst, sym, length, ◌<◌}
use Rattle.std.proofs.Math.ListN.{length-set}
use Rattle.quantum_space.proofs.Cursors.{cursors_fewer, free_before_set}
use Rattle.quantum_space.proofs.admin_map.AdminMap.set.Goals as goal

pub invariant_of-self : goal.invariant_of-self
invariant_of-self c =
    cursors_fewer _ _ c.self.inside.low.items c.self.inside.first c.self.invariant (length-set _ _ _)
    (free_before_set c.self.inside.bytes.items c.args.at c.args.byte (subst (λ v. c.args.at < length v.bytes) (sym c.self.view_is) c.requires.there) c.requires.used)
