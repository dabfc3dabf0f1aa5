use Rattle.std.proofs.Common.{string_bytes, ap, subst, ◌∙◌, ◌++◌, arith}
use Rattle.std.proofs.lemmas.List.Elements.{All-more}
use Rattle.call_words.specs.Spacing.{spaced}
use Rattle.history_text.specs.Words.{entry_words}
use Rattle.history_text.specs.Ranges.{IsEntry}
use Rattle.history_text.proofs.Written.{entry_more}
use Rattle.history_text.proofs.writing.push_entries.Goals as goal

pub loop-entry-preserved : goal.loop-entry-preserved
loop-entry-preserved c =
    let entries = c.args.entries.now in
    let i = c.loop-entry.entry-index in
    let e = c.entry-item.result in
    let before = string_bytes c.loop-entry.out in
    record {
      adds = entry_more entries i e (string_bytes c.args.out.now) before (string_bytes c.push_entry.new.out) (string_bytes c.push_feed.new.out) (omega arith) c.loop-entry.invariant.adds
          (c.in_ok-push_entry.ensures.adds ∙ ap (λ x. before ++ spaced (entry_words x)) c.entry-item.is) c.in_ok-push_feed.ensures;
      range = All-more IsEntry entries i e (omega arith) c.loop-entry.invariant.range (subst IsEntry c.entry-item.is c.in_ok-push_entry.ensures.range);
    }
