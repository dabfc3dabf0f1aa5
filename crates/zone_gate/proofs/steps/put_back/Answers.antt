use Rattle.std.proofs.Common.{rules}
use Rattle.zone_gate.proofs.Tokens.{token_gives}
use Rattle.zone_gate.proofs.steps.put_back.Goals as goal

pub fetch_add-served-requires : goal.fetch_add-served-requires
fetch_add-served-requires g c = (
  search rules,
  search rules,
  token_gives g.V.Kept.list g.V.Kept.chosen _ _ _ _ c.args.token.now.me _ c.args.thread c.args.was.now.value c.args.value c.requires.sized.1 c.requires.out c.requires.options c.requires.grew c.exchange-left.ensures.3,
)
