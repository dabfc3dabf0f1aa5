use Rattle.std.proofs.Common.{◌≡◌, ◌+◌, ◌≤◌, true, length}
use Rattle.std.specs.Str.{IsUtf8}
use Rattle.az_words.specs.Lines.{lines_of}
use Rattle.heap_script.specs.Reading.Scripts.{script_of}
use Rattle.heap_script.proofs.Loop.{total}
use Rattle.heap_script.proofs.reading.parse.Given as goal

abbrev pub invariant-lines : goal.invariant-lines
invariant-lines l = record {
  read : total l.options l.lines.items (l.number + 1) (lines_of l.rest) ≡ script_of l.bytes;
  few : l.number ≤ 65536;
  text : l.all_text ≡ true → IsUtf8 l.rest;
}

abbrev pub decreases-lines : goal.decreases-lines
decreases-lines l = length l.rest
