use Rattle.zone_commands.proofs.Answering.{ended_by, not_usage, play_scripts}
use Rattle.zone_commands.proofs.command.play_command.Goals as goal

pub returns-clause-usage : goal.returns-clause-usage
returns-clause-usage g c = not_usage c.play_script-done.result c.tell.result _ _ _ c.tell.ensures

pub returns-clause-ended : goal.returns-clause-ended
returns-clause-ended g c =
    let stopped = c.play_script-done.ensures in
    ended_by _ play_scripts c.scripts_are_read.ensures c.scripts_are_refused.ensures _ _ _ _ _ _ _ _ _ _ _ c.play_script-done.result c.tell.result stopped.done stopped.refused stopped.read stopped.too_long stopped.write stopped.memory c.tell.ensures
