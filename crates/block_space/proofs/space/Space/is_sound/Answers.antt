use Rattle.std.proofs.Common.{subst}
use Rattle.block_space.specs.Maps.{IsSound}
use Rattle.block_space.specs.Spaces.{Space'}
use Rattle.block_space.proofs.Mapping.{sound_of}
use Rattle.block_space.proofs.space.Space.is_sound.Goals as goal

pub returns : goal.returns
returns c = subst (λ (v : Space'). IsSound v) c.self.view_is (sound_of _ c.self.invariant.space c.len.ensures.whole c.unopened.ensures.whole c.unopened-2.ensures.whole)
