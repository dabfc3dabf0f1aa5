use Rattle.std.proofs.Common.{Err, subst}
use Rattle.local_set.specs.Calls.{Answers}
use Rattle.play_core.proofs.Keeping.{err_from}
use Rattle.play_core.proofs.turns.turn.Goals as goal

pub returns-in-Err-PendingFull-clause-err : goal.returns-in-Err-PendingFull-clause-err
returns-in-Err-PendingFull-clause-err c =
    let full = subst (λ e. Answers c.args.local.now c.call.new.self c.args.call.now (Err e)) c.in-Err-PendingFull.field-0-is c.in-Err-PendingFull.ensures.answer in
    err_from c.flush_and_wait.result c.args.local.now c.call.new.self c.flush_and_wait.new.local c.args.core.now c.flush_and_wait.new.core full.2 c.flush_and_wait.ensures.err
