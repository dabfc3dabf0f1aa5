use Rattle.std.proofs.Common.{sym, refl}
use Rattle.az_base.specs.declared.word.Word.TheVariants as word
use Rattle.escape_plan.proofs.Telling.{told_block}
use Rattle.zone_escape.specs.Telling.{emptied}
use Rattle.zone_escape.proofs.Ended.{none_out}
use Rattle.zone_escape.proofs.leaving.let_go.Goals as goal

pub returns : goal.returns
returns c = told_block (emptied c.args.local.now) c.args.heap.now c.hold_count.new.self c.args.id (word.Block c.args.id) c.thread.result 0 refl c.thread.ensures (sym (none_out c.args.local.now c.args.id)) (sym c.if-not-has.ensures.value) c.in-Ok.ensures.held c.in-Ok.ensures.ok c.in-Ok.ensures.stands
