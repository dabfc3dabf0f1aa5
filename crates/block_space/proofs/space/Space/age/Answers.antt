use Rattle.std.proofs.Common.{subst}
use Rattle.quantum_space.specs.AdminBytes.{aged}
use Rattle.block_space.specs.Spaces.{IsRenotedSpace, Space'}
use Rattle.block_space.proofs.Noting.{both_renoted, space_renoted}
use Rattle.block_space.proofs.Right.{whole_renoted}
use Rattle.block_space.proofs.space.Space.age.Goals as goal

pub invariant_of-self : goal.invariant_of-self
invariant_of-self c = whole_renoted aged _ _ _ c.self.invariant c.age.ensures c.age-2.ensures (space_renoted aged _ _ _ c.self.invariant.space c.age.ensures c.age-2.ensures)

pub returns : goal.returns
returns c =
    let i = c.self.inside in
    let s : Space' = record { small = i.small; medium = i.medium; table = i.table; spare = i.spare; used = i.used } in
    subst (λ (v : Space'). IsRenotedSpace aged v (record { small = c.age.new.self; medium = c.age-2.new.self; table = i.table; spare = i.spare; used = i.used })) c.self.view_is
    (both_renoted aged s c.age.new.self c.age-2.new.self c.age.ensures c.age-2.ensures)
