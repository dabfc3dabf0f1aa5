use Rattle.zone_escape_tests.proofs.Taken.{stepped, refused}
use Rattle.zone_escape_tests.proofs.turns.make_shared.Goals as goal

pub returns-in-Ok : goal.returns-in-Ok
returns-in-Ok c = stepped c.args.local.now c.step.new.local c.args.core.now c.step.new.core c.args.call.now c.in-Ok.reply c.requires.state c.in-Ok.ensures.state c.in-Ok.ensures.ok

pub returns-in-Err : goal.returns-in-Err
returns-in-Err c = refused c.args.local.now c.step.new.local c.args.core.now c.step.new.core c.requires.state c.in-Err.ensures.state c.requires.belongs c.in-Err.ensures.err
