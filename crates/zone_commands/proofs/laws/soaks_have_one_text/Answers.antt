use Rattle.zone_commands.proofs.OneSoak.{one_soak}
use Rattle.zone_commands.proofs.laws.soaks_have_one_text.Goals as goal

pub returns : goal.returns
returns c = one_soak c.soak_scripts_can_be_played.ensures c.requests_are_played_in_one_way.ensures
