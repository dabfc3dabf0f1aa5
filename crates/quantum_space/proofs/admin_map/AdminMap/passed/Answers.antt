use Rattle.std.proofs.Common.{subst}
use Rattle.quantum_space.specs.AdminMaps.{HasNoHole}
use Rattle.quantum_space.proofs.admin_map.AdminMap.passed.Goals as goal

pub returns-clause-none : goal.returns-clause-none
returns-clause-none c = λ s l. subst (λ v. HasNoHole v c.args.len s) c.self.view_is (c.self.invariant.before c.args.len s c.requires l)
