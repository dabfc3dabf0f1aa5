use Rattle.std.proofs.Common.{ap, ◌∙◌}
use Rattle.block_space.specs.Spaces.{Space'}
use Rattle.space_graph.proofs.Comings.{room_same, spare_word}
use Rattle.space_graph.proofs.Steps.{word_step}
use Rattle.space_graph.proofs.graph.SpaceGraph.write.Goals as goal

pub invariant_of-self : goal.invariant_of-self
invariant_of-self c = (
  word_step _ _ c.self.view_is c.self.invariant.0 c.args.spot c.args.i _ c.refer_spot.new.self c.refer_spot.ensures,
  room_same _ _ _ _ (ap (λ (s : Space'). s.spare) c.refer_spot.ensures ∙ spare_word _ c.args.spot c.args.i _) c.self.invariant.1,
)
