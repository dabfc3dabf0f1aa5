use Rattle.std.proofs.Common.{◌≡◌, ◌++◌, take}
use Rattle.local_set.specs.Counting.{referents}
use Rattle.local_set.proofs.references.References.note_words.Given as goal

abbrev pub invariant-loop-word : goal.invariant-loop-word
invariant-loop-word l = record {
  noted : l.self.changed.items ≡ l.fn.self.changed.items ++ referents (take l.word-index l.words);
  counts : l.self.counts ≡ l.fn.self.counts;
}
