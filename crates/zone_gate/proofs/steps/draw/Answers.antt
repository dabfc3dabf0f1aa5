use Rattle.std.proofs.Common.{rules}
use Rattle.zone_gate.proofs.Tokens.{token_draws}
use Rattle.zone_gate.proofs.steps.draw.Goals as goal

pub fetch_add-requires : goal.fetch_add-requires
fetch_add-requires g c = (search rules, search rules, token_draws g.V.Kept.list g.V.Kept.chosen _ _ _ _ _ c.args.thread c.requires.sized.1 c.requires.rest c.requires.one)
