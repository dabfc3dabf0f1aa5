use Rattle.std.proofs.Common.{◌≡◌, ◌+◌, ◌≤◌, ap, Some, not, ◌∙◌, arith}
use Rattle.std.specs.FinMap.{retain_keys}
use Rattle.az_base.specs.Ids.{same_id}
use Rattle.block_layouts.specs.declared.layout.Layout.{Layout}
use Rattle.block_layouts.specs.Layouts.{len_of, quanta}
use Rattle.local_set.specs.LocalSets.{blocks_of}
use Rattle.zone_model.specs.Holds.{words_to, word_holds}
use Rattle.local_set.specs.Counting.{count_in}
use Rattle.local_set.proofs.Tables.{missing, there_is, removed}
use Rattle.local_set.proofs.Quantities.{quanta_in, quanta_removed, holds_removed, holds_there}
use Rattle.local_set.proofs.blocks.Blocks.take.Goals as goal

pub unreachable-requires : goal.unreachable-requires
unreachable-requires c = missing c.self.inside.stored.entries c.args.id c.in_default.ensures.value (rw (← c.self.view_is) at c.requires)

pub overflow_sub-self : goal.overflow_sub-self
overflow_sub-self c =
    let m = blocks_of c.self.inside.stored.entries in
    let b = c.in-Some.block in
    let sum : quanta_in m ≡ quanta_in (retain_keys m (λ q. not (same_id c.args.id q))) + quanta (len_of b.layout) = quanta_removed m c.args.id b (there_is c.self.inside.stored.entries c.args.id b c.in-Some.ensures.value) in
    let is : quanta (len_of c.layout.result.now) ≡ quanta (len_of b.layout) = ap (λ (l : Layout). quanta (len_of l)) c.layout.ensures in
    omega (arith, sum, is, c.self.invariant.quanta, c.quanta.ensures.value)

pub forget_words-requires-clause-counted : goal.forget_words-requires-clause-counted
forget_words-requires-clause-counted c = λ q.
    let m = blocks_of c.self.inside.stored.entries in
    let b = c.in-Some.block in
    let holds : words_to q b.words ≤ word_holds m q = holds_there m c.args.id b q (there_is c.self.inside.stored.entries c.args.id b c.in-Some.ensures.value) in
    let counted : count_in c.self.inside.references q ≡ word_holds m q = c.self.invariant.counted q in
    omega (arith, holds, counted)

pub invariant_of-self : goal.invariant_of-self
invariant_of-self c =
    let es = c.self.inside.stored.entries in
    let m = blocks_of es in
    let b = c.in-Some.block in
    let here = there_is es c.args.id b c.in-Some.ensures.value in
    let map = removed es c.swap_remove.new.self.entries c.args.id c.in-Some.ensures.updates.0 in
    let now : quanta_in (blocks_of c.swap_remove.new.self.entries) ≡ quanta_in (retain_keys m (λ q. not (same_id c.args.id q))) = ap quanta_in map in
    let sum : quanta_in m ≡ quanta_in (retain_keys m (λ q. not (same_id c.args.id q))) + quanta (len_of b.layout) = quanta_removed m c.args.id b here in
    let is : quanta (len_of c.layout.result.now) ≡ quanta (len_of b.layout) = ap (λ (l : Layout). quanta (len_of l)) c.layout.ensures in
    record {
      quanta = omega (arith, now, sum, is, c.self.invariant.quanta, c.quanta.ensures.value);
      fits = omega (arith, c.self.invariant.fits);
      counted = λ q.
          let gone : word_holds m q ≡ word_holds (retain_keys m (λ q. not (same_id c.args.id q))) q + words_to q b.words = holds_removed m c.args.id b q here in
          let left : word_holds (blocks_of c.swap_remove.new.self.entries) q ≡ word_holds (retain_keys m (λ q. not (same_id c.args.id q))) q = ap (λ n. word_holds n q) map in
          let counted : count_in c.self.inside.references q ≡ word_holds m q = c.self.invariant.counted q in
          let fallen : count_in c.forget_words.new.references q + words_to q b.words ≡ count_in c.self.inside.references q = c.forget_words.ensures.counts q in
          omega arith;
      bounded = c.forget_words.ensures.bounded;
    }

pub returns-clause-block : goal.returns-clause-block
returns-clause-block c = rw (← c.self.view_is) (there_is c.self.inside.stored.entries c.args.id c.in-Some.block c.in-Some.ensures.value ∙ ap Some c.into_parts.ensures.parts)

pub returns-clause-blocks : goal.returns-clause-blocks
returns-clause-blocks c = rw (← c.self.view_is) (removed c.self.inside.stored.entries c.swap_remove.new.self.entries c.args.id c.in-Some.ensures.updates.0)

pub returns-clause-less : goal.returns-clause-less
returns-clause-less c =
    let es = c.self.inside.stored.entries in
    let m = blocks_of es in
    let b = c.in-Some.block in
    let now : quanta_in (blocks_of c.swap_remove.new.self.entries) ≡ quanta_in (retain_keys m (λ q. not (same_id c.args.id q))) = ap quanta_in (removed es c.swap_remove.new.self.entries c.args.id c.in-Some.ensures.updates.0) in
    let sum : quanta_in m ≡ quanta_in (retain_keys m (λ q. not (same_id c.args.id q))) + quanta (len_of b.layout) = quanta_removed m c.args.id b (there_is es c.args.id b c.in-Some.ensures.value) in
    rw (← c.self.view_is) (omega (arith, now, sum))
