use Rattle.std.proofs.Common.{sym, ◌∙◌}
use Rattle.std.proofs.lemmas.Str.{is_utf8-from_IsUtf8}
use Rattle.heap_script.proofs.entries.is_text_line.Goals as goal

pub returns-then-all_text : goal.returns-then-all_text
returns-then-all_text c = c.if-all_text.true ∙ sym (is_utf8-from_IsUtf8 c.args.line.now (c.requires c.if-all_text.true))
