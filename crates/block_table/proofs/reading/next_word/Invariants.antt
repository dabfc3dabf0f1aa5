use Rattle.std.proofs.Common.{◌≡◌, drop, map}
use Rattle.block_table.specs.Places.{somes, in_word}
use Rattle.block_table.specs.Lying.{words_at}
use Rattle.block_table.proofs.reading.next_word.Given as goal

abbrev pub invariant-loop-place : goal.invariant-loop-place
invariant-loop-place l = somes (drop l.at (map in_word (words_at l.space l.spot))) ≡ somes (drop l.place (map in_word (words_at l.space l.spot)))
