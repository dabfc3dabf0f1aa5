use Rattle.std.proofs.Common.{◌≡◌, ◌+◌, ◌≤◌, ◌++◌, length}
use Rattle.history_text.specs.Texts.{lines_text}
use Rattle.history_text.specs.Drafts.{IsDraft, lines_so_far}
use Rattle.history_text.proofs.texts.read_lines.Given as goal

-- the lines so far and what is left are the text; each line has a byte at least
abbrev pub invariant-lines : goal.invariant-lines
invariant-lines l = record {
  draft : IsDraft l.draft;
  text : l.bytes ≡ lines_text (lines_so_far l.draft) ++ l.rest;
  number : l.number ≡ length (lines_so_far l.draft) + 1;
  short : l.number + length l.rest ≤ length l.bytes + 1;
  few : length l.draft.journal.entries + 1 ≤ l.number;
}

abbrev pub decreases-lines : goal.decreases-lines
decreases-lines l = length l.rest
