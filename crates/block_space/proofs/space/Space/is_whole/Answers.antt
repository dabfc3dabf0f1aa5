use Rattle.std.proofs.Common.{subst}
use Rattle.block_space.specs.Spaces.{IsWhole, Space'}
use Rattle.block_space.proofs.space.Space.is_whole.Goals as goal

pub returns : goal.returns
returns c = subst (λ (v : Space'). IsWhole v) c.self.view_is c.self.invariant
