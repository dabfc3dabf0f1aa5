use Rattle.std.proofs.Common.{sym, refl}
use Rattle.az_base.specs.declared.word.Word.TheVariants as word
use Rattle.escape_plan.proofs.Telling.{told_block}
use Rattle.zone_escape.proofs.telling.tell_block.Goals as goal

pub returns : goal.returns
returns c = told_block c.args.local.now c.args.heap.now c.hold_count.new.self c.args.id (word.Block c.args.id) c.thread.result c.holds_of-holds.result refl c.thread.ensures c.holds_of-holds.ensures (sym c.if-not-has.ensures.value) c.in-Ok.ensures.held c.in-Ok.ensures.ok c.in-Ok.ensures.stands
