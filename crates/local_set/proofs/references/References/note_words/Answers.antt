use Rattle.std.proofs.Common.{◌++◌, ap, length, refl, ◌∙◌, take}
use Rattle.std.proofs.lemmas.Option.{slice_get_read}
use Rattle.local_set.specs.Counting.{referents, list_of}
use Rattle.local_set.proofs.Referents.{next_referents, joined}
use Rattle.local_set.proofs.references.References.note_words.Goals as goal

pub loop-word-preserved : goal.loop-word-preserved
loop-word-preserved c =
    let ws = c.args.words.now in
    let i = c.loop-word.word-index in
    let w = c.word-item.result in
    record {
      noted = c.in_ok-note_more.ensures.ok ∙ ap (λ l. l ++ list_of c.referent.result) c.loop-word.invariant.noted ∙ ap (λ h. (c.args.self.now.changed.items ++ referents (take i ws)) ++ list_of h) c.referent.ensures
          ∙ joined c.args.self.now.changed.items _ _ ∙ ap (λ l. c.args.self.now.changed.items ++ l) (next_referents ws i w (slice_get_read ws (length ws) i w refl c.loop-word-test.true c.word-item.is));
      counts = c.note_more.ensures.counts ∙ c.loop-word.invariant.counts;
    }
