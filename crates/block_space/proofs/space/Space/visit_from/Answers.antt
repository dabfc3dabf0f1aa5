use Rattle.std.proofs.Common.{◌≡◌, suc, ◌+◌, ◌∙◌, inl, inr, ap, subst, arith, refl}
use Rattle.quantum_space.specs.declared.placed.PlacedWord.{PlacedWord}
use Rattle.block_space.specs.Marking.{VisitsWord, word_in}
use Rattle.block_space.proofs.Marks.{has_word, same_itself, same_len, same_more, same_word, visited_same}
use Rattle.block_space.proofs.space.Space.visit_from.Goals as goal

pub word_in-word-requires : goal.word_in-word-requires
word_in-word-requires c =
    let s = c.args.self.now in
    let cur = c.loop-i.self in
    let same = c.loop-i.invariant.same in
    has_word cur c.args.spot c.loop-i.i (omega (arith, same_len s cur c.args.spot same, c.words_of-len.ensures.value, c.loop-i-test.true))

pub loop-i-init : goal.loop-i-init
loop-i-init c = record { count = 0; reached = omega arith; within = inl refl; visits = (refl, refl); same = same_itself c.args.self.now }

pub loop-i-preserved : goal.loop-i-preserved
loop-i-preserved c =
    let s = c.args.self.now in
    let cur = c.loop-i.self in
    let i = c.loop-i.invariant in
    let v = c.visit_word.ensures.visits (let f = c.if-not-visit_word.false in cc) in
    let w : c.word_in-word.result ≡ word_in s c.args.spot (c.args.from + i.count) = c.word_in-word.ensures.value ∙ same_word s cur c.args.spot c.loop-i.i i.same ∙ ap (λ n. word_in s c.args.spot n) i.reached in
    record {
      count = suc i.count;
      reached = omega (arith, i.reached);
      within = inr (omega (arith, c.loop-i-test.true));
      visits = (cur, c.loop-i.stack, i.visits, subst (λ (x : PlacedWord). VisitsWord c.args.mode x cur c.loop-i.stack c.visit_word.new.self c.visit_word.new.stack) w v);
      same = same_more s cur c.visit_word.new.self i.same (visited_same c.args.mode c.word_in-word.result cur c.loop-i.stack c.visit_word.new.self c.visit_word.new.stack v);
    }
