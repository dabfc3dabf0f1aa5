use Rattle.zone_escape_tests.proofs.Taken.{made, refused_local}
use Rattle.zone_escape_tests.proofs.turns.make_local.Goals as goal

pub returns-in-Ok : goal.returns-in-Ok
returns-in-Ok c = made c.args.local.now c.call.new.self c.args.core.now c.args.call.now c.in-Ok.reply c.requires.state c.requires.belongs c.in-Ok.ensures.answer

pub returns-in-Err : goal.returns-in-Err
returns-in-Err c = refused_local c.args.local.now c.call.new.self c.args.core.now c.args.call.now c.in-Err.field-0 c.requires.state c.requires.belongs c.in-Err.ensures.answer
