use Rattle.std.proofs.Common.{ap, is_some, sym, subst, ◌∙◌, option_and_then, slice_get, slice_set, MatchOption}
use Rattle.zone_model.specs.State.{Block}
use Rattle.block_layouts.specs.Fitting.{FitsAt}
use Rattle.local_set.proofs.Tables.{got, there_is, edited}
use Rattle.local_set.proofs.blocks.write.Goals as goal

pub unreachable-requires : goal.unreachable-requires
unreachable-requires c = subst (λ o. MatchOption o ⊥ (λ (b : Block). FitsAt b.layout c.args.at c.args.word)) (got c.args.stored.now.entries c.args.id ∙ sym c.in_default.ensures.value) c.requires

pub set_word-requires : goal.set_word-requires
set_word-requires c = subst (λ o. MatchOption o ⊥ (λ (b : Block). FitsAt b.layout c.args.at c.args.word)) (there_is c.args.stored.now.entries c.args.id c.in-Some.block.now c.in-Some.ensures.value) c.requires

pub returns-clause-blocks : goal.returns-clause-blocks
returns-clause-blocks c =
    let change = λ (b : Block). let r : Block = record b { words = slice_set b.words c.args.at c.args.word } in r in
    edited c.args.stored.now.entries _ c.args.id c.in-Some.block.now c.set_word.new.self change c.in-Some.ensures.value c.set_word.ensures.new ((c.get_mut.follows.holds _).3 (ap is_some (sym c.in-Some.ensures.value))).0

pub returns-clause-old : goal.returns-clause-old
returns-clause-old c = ap (option_and_then (λ (b : Block). slice_get b.words c.args.at)) (there_is c.args.stored.now.entries c.args.id c.in-Some.block.now c.in-Some.ensures.value) ∙ c.set_word.ensures.old

pub returns-clause-fit : goal.returns-clause-fit
returns-clause-fit c = subst (λ o. MatchOption o ⊥ (λ (b : Block). FitsAt b.layout c.args.at c.set_word.result)) (sym (there_is c.args.stored.now.entries c.args.id c.in-Some.block.now c.in-Some.ensures.value)) c.set_word.ensures.fit
