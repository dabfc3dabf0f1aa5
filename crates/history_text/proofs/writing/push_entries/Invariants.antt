use Rattle.std.proofs.Common.{◌≡◌, ◌++◌, All, take, string_bytes}
use Rattle.history_text.specs.Ranges.{IsEntry}
use Rattle.history_text.specs.Texts.{entry_lines, lines_text}
use Rattle.history_text.proofs.writing.push_entries.Given as goal

abbrev pub invariant-loop-entry : goal.invariant-loop-entry
invariant-loop-entry l = record {
  adds : string_bytes l.out ≡ string_bytes l.initial.out ++ lines_text (entry_lines (take l.entry-index l.entries));
  range : All IsEntry (take l.entry-index l.entries);
}
