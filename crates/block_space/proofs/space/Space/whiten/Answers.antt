use Rattle.std.proofs.Common.{subst}
use Rattle.quantum_space.specs.AdminBytes.{whitened}
use Rattle.block_space.specs.Spaces.{IsRenotedSpace, Space'}
use Rattle.block_space.proofs.Noting.{both_renoted, space_renoted}
use Rattle.block_space.proofs.Right.{whole_renoted}
use Rattle.block_space.proofs.space.Space.whiten.Goals as goal

pub invariant_of-self : goal.invariant_of-self
invariant_of-self c = whole_renoted whitened _ _ _ c.self.invariant c.whiten.ensures c.whiten-2.ensures (space_renoted whitened _ _ _ c.self.invariant.space c.whiten.ensures c.whiten-2.ensures)

pub returns : goal.returns
returns c =
    let i = c.self.inside in
    let s : Space' = record { small = i.small; medium = i.medium; table = i.table; spare = i.spare; used = i.used } in
    subst (λ (v : Space'). IsRenotedSpace whitened v (record { small = c.whiten.new.self; medium = c.whiten-2.new.self; table = i.table; spare = i.spare; used = i.used })) c.self.view_is
    (both_renoted whitened s c.whiten.new.self c.whiten-2.new.self c.whiten.ensures c.whiten-2.ensures)
