use Rattle.std.proofs.Common.{sym, subst}
use Rattle.quantum_space.specs.Shapes.{Shape, Has}
use Rattle.quantum_space.proofs.Lists.{has_among}
use Rattle.finalise_pass.proofs.Outcomes as outcomes
use Rattle.finalise_pass.proofs.settling.set_apart.Goals as goal

pub shade_these-requires : goal.shade_these-requires
shade_these-requires g c = λ b h. subst (λ (x : Shape). Has x.blocks b) (sym c.shade_all.ensures.only.shape) (c.requires b (has_among c.args.condemned.now.list b h))

pub returns-clause-apart : goal.returns-clause-apart
returns-clause-apart g c = outcomes.set_apart (g.G.Graph.shape c.args.graph.now) c.args.condemned.now.list _ _ c.shade_all.ensures.each c.shade_these.ensures.each c.shade_these.ensures.others
