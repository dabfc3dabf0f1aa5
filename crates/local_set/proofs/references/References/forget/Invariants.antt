use Rattle.std.proofs.Common.{◌≡◌, ◌+◌, drop}
use Rattle.az_base.specs.declared.block_id.BlockId.{BlockId}
use Rattle.zone_model.specs.Holds.{words_to}
use Rattle.local_set.specs.Counting.{count_in, IsBounded}
use Rattle.local_set.proofs.references.References.forget.Given as goal

abbrev pub invariant-loop-word : goal.invariant-loop-word
invariant-loop-word l = record {
  counts : (q : BlockId) → count_in l.self q + words_to q l.words ≡ count_in l.fn.self q + words_to q (drop l.word-index l.words);
  bounded : IsBounded l.self;
  changed : l.self.changed ≡ l.fn.self.changed;
}
