use Rattle.zone_commands.proofs.Asking.{asks_ok, asks_from}
use Rattle.zone_commands.proofs.laws.commands_are_asked.Goals as goal

pub returns : goal.returns
returns c = λ words command. (asks_ok words command, asks_from words command)
