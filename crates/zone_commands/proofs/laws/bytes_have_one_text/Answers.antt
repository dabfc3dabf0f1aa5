use Rattle.zone_commands.proofs.OneText.{one_text}
use Rattle.zone_commands.proofs.laws.bytes_have_one_text.Goals as goal

pub returns : goal.returns
returns c = one_text c.scripts_are_read.ensures c.scripts_can_be_played.ensures c.requests_are_played_in_one_way.ensures
