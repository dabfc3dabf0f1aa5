use Rattle.std.proofs.Common.{◌≡◌, length}
use Rattle.history_text.specs.Reading.{ids_at}
use Rattle.history_text.proofs.IdWords.{with_ids}
use Rattle.history_text.proofs.reading.next_ids.Given as goal

abbrev pub invariant-ids : goal.invariant-ids
invariant-ids l = with_ids l.ids.items (ids_at l.words) ≡ ids_at l.fn.words

abbrev pub decreases-ids : goal.decreases-ids
decreases-ids l = length l.words
