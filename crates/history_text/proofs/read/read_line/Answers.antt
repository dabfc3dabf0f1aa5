use Rattle.std.proofs.Common.{◌≡◌, ◌++◌, sym, ap, ◌∙◌, true, false}
use Rattle.std.proofs.lemmas.Result.{err_from_is_err_and}
use Rattle.std.proofs.lemmas.Slice.Eq.{bytes_eq-Decides}
use Rattle.history_text.specs.Lines.{line_text}
use Rattle.history_text.specs.Reading.{line_of}
use Rattle.history_text.proofs.LineLaws.{not_line, is_line, other_text}
use Rattle.history_text.proofs.read.read_line.Goals as goal

pub returns-in_err-line : goal.returns-in_err-line
returns-in_err-line c =
    let p = err_from_is_err_and c.from_residual.result c.from_residual.ensures.1 in
    rw (p.1, p.2)
    (not_line c.numbers_are_read.ensures c.arguments_are_read.ensures c.args.bytes.now c.new-words.result c.in_err-line.field-0.0 c.new-words.ensures c.in_err-line.ensures)

pub returns-then-is_word : goal.returns-then-is_word
returns-then-is_word c =
    let line = c.in_ok-line.line in
    let same = (bytes_eq-Decides c.args.bytes.now c.as_bytes.result.now).0 (sym c.is_word.ensures ∙ c.if-is_word.true) in
    is_line c.arguments_are_read.ensures c.args.bytes.now line (sym (ap line_of c.new-words.ensures) ∙ c.in_ok-line.ensures) c.in_ok-push_line.ensures.range
    (same ∙ c.as_bytes.ensures.value ∙ c.in_ok-push_line.ensures.adds ∙ ap (λ t. t ++ line_text line) c.clear.ensures.bytes)

pub returns-else-is_word : goal.returns-else-is_word
returns-else-is_word c =
    let line = c.in_ok-line.line in
    let written = c.as_bytes.ensures.value ∙ c.in_ok-push_line.ensures.adds ∙ ap (λ t. t ++ line_text line) c.clear.ensures.bytes in
    other_text c.numbers_are_read.ensures c.arguments_are_read.ensures c.args.bytes.now line (sym (ap line_of c.new-words.ensures) ∙ c.in_ok-line.ensures)
    (λ same. let wrong : true ≡ false = sym ((bytes_eq-Decides c.args.bytes.now c.as_bytes.result.now).1 (same ∙ sym written)) ∙ sym c.is_word.ensures ∙ c.if-is_word.false in cc)
