use Rattle.std.proofs.Common.{◌≡◌, ◌++◌, take, string_bytes, map}
use Rattle.az_base.specs.Texts.{id_text}
use Rattle.call_words.specs.Spacing.{spread}
use Rattle.history_text.specs.Ranges.{AreIds}
use Rattle.history_text.proofs.replies.push_more_ids.Given as goal

abbrev pub invariant-loop-id : goal.invariant-loop-id
invariant-loop-id l = record {
  adds : string_bytes l.out ≡ string_bytes l.initial.out ++ spread (map id_text (take l.id-index l.ids));
  range : AreIds (take l.id-index l.ids);
}
