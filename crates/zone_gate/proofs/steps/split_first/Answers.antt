use Rattle.std.proofs.Common.{rules}
use Rattle.zone_gate.proofs.Tokens.{token_deals}
use Rattle.zone_gate.proofs.steps.split_first.Goals as goal

pub split_seat-requires : goal.split_seat-requires
split_seat-requires g c = (search rules, search rules, token_deals g.V.Kept.list g.V.Kept.chosen _ _ _ _ c.requires.rest.view)
