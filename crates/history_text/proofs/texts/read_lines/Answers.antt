use Rattle.std.proofs.Common.{◌≡◌, ◌+◌, length, Some, sym, ap, ◌∙◌, arith}
use Rattle.std.proofs.lemmas.Bool.{eqb-true, eqb-false}
use Rattle.az_words.specs.Parts.{cut_at}
use Rattle.call_words.specs.Ranges.{IsNumber}
use Rattle.history_text.proofs.Standing.{cut_is, wrong_line, wrong_end, wrong_after, whole_text, more_text, left_shorter, empty}
use Rattle.history_text.proofs.texts.read_lines.Goals as goal

pub returns-then-is_empty : goal.returns-then-is_empty
returns-then-is_empty c =
    let i = c.lines.invariant in
    let cut : cut_at 10 c.lines.rest.now ≡ Some (c.in-Some.line.now, c.in-Some.after.now) = c.in-Some.ensures.some in
    let took = rw c.in-Ok-Some.field-0-is at c.in-Ok-Some.ensures in
    let none : length c.in-Some.after.now ≡ 0 = eqb-true (length c.in-Some.after.now) 0 (sym c.is_empty.ensures ∙ c.if-is_empty.true) in
    whole_text c.lines.draft c.take_line.new.self c.in-Some.line.now c.lines.rest.now c.in-Some.after.now c.args.bytes.now c.in-Ok-Some.stats i.draft took.0 took.1 i.text cut (empty c.in-Some.after.now none)

pub returns-else-is_empty : goal.returns-else-is_empty
returns-else-is_empty c =
    let i = c.lines.invariant in
    let cut : cut_at 10 c.lines.rest.now ≡ Some (c.in-Some.line.now, c.in-Some.after.now) = c.in-Some.ensures.some in
    let took = rw c.in-Ok-Some.field-0-is at c.in-Ok-Some.ensures in
    let some : length c.in-Some.after.now ≡ 0 → ⊥ = eqb-false (length c.in-Some.after.now) 0 (sym c.is_empty.ensures ∙ c.if-is_empty.false) in
    wrong_after c.lines_have_one_reading.ensures c.lines.draft c.in-Some.line.now c.lines.rest.now c.in-Some.after.now c.args.bytes.now c.in-Ok-Some.stats (c.lines.number + 1) i.draft took.0
    (omega (arith, i.number)) i.text (cut_is c.lines.rest.now c.in-Some.line.now c.in-Some.after.now cut).0 (λ e. some (ap length e))

pub returns-in-Err-Wrong : goal.returns-in-Err-Wrong
returns-in-Err-Wrong c =
    let i = c.lines.invariant in
    let few : IsNumber (length c.lines.draft.journal.entries) = omega (arith, i.few, c.lines.auto.number-fits) in
    let cut : cut_at 10 c.lines.rest.now ≡ Some (c.in-Some.line.now, c.in-Some.after.now) = c.in-Some.ensures.some in
    let took = rw c.in-Err-Wrong.field-0-is at c.in-Err-Wrong.ensures in
    wrong_line c.lines_have_one_reading.ensures c.lines.draft c.in-Some.line.now c.lines.rest.now c.in-Some.after.now c.args.bytes.now c.lines.number i.draft few i.number i.text cut took

pub lines-smaller : goal.lines-smaller
lines-smaller c =
    let cut : cut_at 10 c.lines.rest.now ≡ Some (c.in-Some.line.now, c.in-Some.after.now) = c.in-Some.ensures.some in
    let p = left_shorter c.lines.rest.now c.in-Some.line.now c.in-Some.after.now cut in
    omega (arith, p)

pub lines-preserved : goal.lines-preserved
lines-preserved c =
    let i = c.lines.invariant in
    let cut : cut_at 10 c.lines.rest.now ≡ Some (c.in-Some.line.now, c.in-Some.after.now) = c.in-Some.ensures.some in
    let took = rw c.in-Ok-None.field-0-is at c.in-Ok-None.ensures in
    let p = left_shorter c.lines.rest.now c.in-Some.line.now c.in-Some.after.now cut in
    let more = more_text c.lines.draft c.take_line.new.self c.in-Some.line.now c.lines.rest.now c.in-Some.after.now c.args.bytes.now c.lines.number i.text i.number cut took in
    record {
      draft = took.draft;
      text = more.0;
      number = more.1;
      short = omega (arith, i.short, p);
      few = omega (arith, i.few, took.entries);
    }

pub returns : goal.returns
returns c =
    let i = c.lines.invariant in
    let few : IsNumber (length c.lines.draft.journal.entries) = omega (arith, i.few, c.lines.auto.number-fits) in
    wrong_end c.lines_have_one_reading.ensures c.lines.draft c.lines.rest.now c.args.bytes.now c.lines.number i.draft few i.number i.text c.in_default.ensures.none
