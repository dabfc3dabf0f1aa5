use Rattle.std.proofs.Common.{sym, ◌∙◌}
use Rattle.escape_plan.proofs.Telling.{told_block}
use Rattle.escape_plan.proofs.committing.tell_word.Goals as goal

pub returns : goal.returns
returns c = told_block c.args.local.now c.args.heap.now c.hold_count.new.self c.in-Block.id c.args.word c.thread.result c.holds_of-holds.result c.in-Block.is c.thread.ensures c.holds_of-holds.ensures (sym c.if-not-has.ensures.value) c.in-Ok.ensures.held c.in-Ok.ensures.ok c.in-Ok.ensures.stands
