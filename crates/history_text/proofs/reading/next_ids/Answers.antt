use Rattle.std.proofs.Common.{sym, ◌∙◌}
use Rattle.history_text.specs.Reading.{ids_at}
use Rattle.history_text.proofs.IdWords.{grows, shrinks, fails}
use Rattle.history_text.proofs.reading.next_ids.Goals as goal

pub ids-smaller : goal.ids-smaller
ids-smaller c =
    let some = c.in-Some.ensures.some in
    shrinks c.ids.words some.0 c.next_block.new.words c.in-Some.word.now c.in-Some-next_block.id some.1 c.in-Some-next_block.ensures

pub ids-preserved : goal.ids-preserved
ids-preserved c =
    let some = c.in-Some.ensures.some in
    rw c.in_ok-push.ensures.items
    (grows c.ids.ids.items c.ids.words some.0 c.next_block.new.words c.in-Some.word.now c.in-Some-next_block.id (ids_at c.args.words.now) some.1 (sym c.is_word.ensures ∙ c.if-is_word.false)
    c.in-Some-next_block.ensures c.ids.invariant)

pub returns-in_default-next_block : goal.returns-in_default-next_block
returns-in_default-next_block c =
    let some = c.in-Some.ensures.some in
    fails c.ids.ids.items c.ids.words some.0 c.in-Some.word.now (ids_at c.args.words.now) some.1 (sym c.is_word.ensures ∙ c.if-is_word.false) c.in_default-next_block.ensures c.ids.invariant
