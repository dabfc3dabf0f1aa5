use Rattle.std.proofs.Common.{subst, sym, arith, ◌≤◌}
use Rattle.quantum_space.specs.AdminMaps.{HasNoHole}
use Rattle.quantum_space.proofs.Cursors.{first_set}
use Rattle.quantum_space.proofs.admin_map.AdminMap.pass.Goals as goal

pub invariant_of-self : goal.invariant_of-self
invariant_of-self c =
    first_set _ c.self.inside.low.items c.self.inside.first c.args.len c.args.subzone c.self.invariant (omega (arith, c.self.told, c.requires.length)) (subst (λ v. c.args.subzone ≤ v.subzones) (sym c.self.view_is) c.requires.within)
    (λ s l. subst (λ v. HasNoHole v c.args.len s) (sym c.self.view_is) (c.requires.none s l))
