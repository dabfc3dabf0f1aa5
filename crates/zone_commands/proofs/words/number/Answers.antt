use Rattle.std.proofs.Common.{sym}
use Rattle.zone_commands.proofs.Numbers.{number_read, number_refused}
use Rattle.zone_commands.proofs.words.number.Goals as goal

pub returns-in-Ok : goal.returns-in-Ok
returns-in-Ok c = let read = c.in-Ok.ensures.value.0 in sym (number_read c.args.word.now c.in-Ok.number read.0 read.1)

pub returns-in-Err : goal.returns-in-Err
returns-in-Err c = sym (number_refused c.args.word.now c.in-Err.ensures.value.0)
