use Rattle.zone_commands.proofs.Spelled.{history_spelled}
use Rattle.zone_commands.proofs.laws.histories_are_spelled.Goals as goal

pub returns : goal.returns
returns c = λ script history stats spelled is. history_spelled script history stats spelled is
