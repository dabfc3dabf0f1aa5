use Rattle.std.proofs.Common.{rules, ◌∙◌, ap}
use Rattle.zone_gate.proofs.Tokens.{token_looks}
use Rattle.zone_gate.proofs.steps.wait_turn.Goals as goal

pub load-serving-requires : goal.load-serving-requires
load-serving-requires g c = (
  search rules,
  search rules,
  token_looks g.V.Kept.list g.V.Kept.chosen _ _ _ _ _ c.args.ticket c.requires.sized.1 (ap (λ m. m.0.ticket) c.loop.invariant.2 ∙ c.requires.waits.0) (ap (λ m. m.0.holds) c.loop.invariant.2 ∙ c.requires.waits.1),
)
