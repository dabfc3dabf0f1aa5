use Rattle.std.proofs.Common.{rules, ap, ◌∙◌}
use Rattle.zone_gate.proofs.Tokens.{token_joins, token_tells}
use Rattle.zone_gate.proofs.steps.unite.Goals as goal

pub join_seat-requires : goal.join_seat-requires
join_seat-requires g c = (search rules, search rules, c.requires.rest.1.slots, search rules, token_joins g.V.Kept.list g.V.Kept.chosen _ _ _ _ _ _ c.requires.rest.0.view c.requires.rest.1.view)

pub load-requires : goal.load-requires
load-requires g c = (search rules, search rules, token_tells g.V.Kept.list g.V.Kept.chosen _ _ _ _ _ c.requires.sized.1 (ap (λ m. m.0.ticket) c.join_seat.ensures.2 ∙ ap (λ v. v.ticket) c.requires.rest.0.view))
