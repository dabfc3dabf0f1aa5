use Rattle.std.proofs.Common.{◌≡◌, ◌+◌, ◌≤◌, ap, length, Some, refl, ◌∙◌, arith, drop}
use Rattle.std.proofs.lemmas.Option.{slice_get_read}
use Rattle.zone_model.specs.State.{referent}
use Rattle.zone_model.specs.Holds.{one_if, words_to}
use Rattle.local_set.specs.Counting.{count_in}
use Rattle.local_set.proofs.Lists.{next_left, none_left}
use Rattle.local_set.proofs.Counting.{is_counted}
use Rattle.local_set.proofs.references.References.forget.Goals as goal

pub loop-word-init : goal.loop-word-init
loop-word-init c = record { counts = λ q. refl; bounded = c.requires.bounded; changed = refl }

pub lower-requires-clause-counted : goal.lower-requires-clause-counted
lower-requires-clause-counted c =
    let ws = c.args.words.now in
    let i = c.loop-word.word-index in
    let at = slice_get_read ws (length ws) i c.word-item.result refl c.loop-word-test.true c.word-item.is in
    is_counted c.loop-word.self c.referent.result (λ q.
    let kept : count_in c.loop-word.self q + words_to q ws ≡ count_in c.args.self.now q + words_to q (drop i ws) = c.loop-word.invariant.counts q in
    let enough : words_to q ws ≤ count_in c.args.self.now q = c.requires.counted q in
    let next : words_to q (drop i ws) ≡ one_if q (referent (Some c.word-item.result)) + words_to q (drop (i + 1) ws) = ap (words_to q) (next_left ws i c.word-item.result at) in
    let is : one_if q c.referent.result ≡ one_if q (referent (Some c.word-item.result)) = ap (one_if q) c.referent.ensures in
    omega arith)

pub loop-word-preserved : goal.loop-word-preserved
loop-word-preserved c =
    let ws = c.args.words.now in
    let i = c.loop-word.word-index in
    let at = slice_get_read ws (length ws) i c.word-item.result refl c.loop-word-test.true c.word-item.is in
    record {
      counts = λ q.
          let kept : count_in c.loop-word.self q + words_to q ws ≡ count_in c.args.self.now q + words_to q (drop i ws) = c.loop-word.invariant.counts q in
          let less : count_in c.lower.new.self q + one_if q c.referent.result ≡ count_in c.loop-word.self q = c.lower.ensures.counts q in
          let next : words_to q (drop i ws) ≡ one_if q (referent (Some c.word-item.result)) + words_to q (drop (i + 1) ws) = ap (words_to q) (next_left ws i c.word-item.result at) in
          let is : one_if q c.referent.result ≡ one_if q (referent (Some c.word-item.result)) = ap (one_if q) c.referent.ensures in
          omega arith;
      bounded = c.lower.ensures.bounded;
      changed = c.lower.ensures.changed ∙ c.loop-word.invariant.changed;
    }

pub returns-clause-counts : goal.returns-clause-counts
returns-clause-counts c = λ q.
    let kept : count_in c.loop-word.self q + words_to q c.args.words.now ≡ count_in c.args.self.now q + words_to q (drop c.loop-word.word-index c.args.words.now) = c.loop-word.invariant.counts q in
    let none : words_to q (drop c.loop-word.word-index c.args.words.now) ≡ 0 = ap (words_to q) (none_left c.args.words.now c.loop-word.word-index c.loop-word-test.false) in
    omega arith
