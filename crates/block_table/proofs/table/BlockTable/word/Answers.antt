use Rattle.std.proofs.Common.{sym, ap, ◌∙◌, subst, slice_get, option_and_then, IfSome}
use Rattle.block_space.specs.Spaces.{Space'}
use Rattle.block_table.specs.Lying.{words_at}
use Rattle.block_table.specs.Stored.{HeapBlock, IsWhole}
use Rattle.block_table.proofs.Lying.{all_unmarked}
use Rattle.block_table.proofs.Told.{block_none, block_there, whole_there}
use Rattle.block_table.proofs.table.BlockTable.word.Goals as goal

pub returns-in-Some-clause-word : goal.returns-in-Some-clause-word
returns-in-Some-clause-word c =
    let g = c.self.inside.graph in
    let x = c.in-Some.spot in
    c.word_at.ensures ∙ ap (λ (s : Space'). slice_get (words_at s x) c.args.at) c.space.ensures ∙ ap (λ ws. slice_get ws c.args.at) (sym (all_unmarked g.space x))
    ∙ sym (ap (option_and_then (λ (k : HeapBlock). slice_get k.words c.args.at)) (block_there _ g c.self.inside.kept.entries c.self.view_is c.args.id x c.in-Some.ensures.value))

pub returns-in-None-clause-word : goal.returns-in-None-clause-word
returns-in-None-clause-word c = sym (ap (option_and_then (λ (k : HeapBlock). slice_get k.words c.args.at)) (block_none _ c.self.inside.graph c.self.inside.kept.entries c.self.view_is c.args.id c.in-None.ensures.value))

pub returns-in-Some-clause-whole : goal.returns-in-Some-clause-whole
returns-in-Some-clause-whole c = subst (λ o. IfSome o IsWhole) (sym (block_there _ c.self.inside.graph c.self.inside.kept.entries c.self.view_is c.args.id c.in-Some.spot c.in-Some.ensures.value))
    (whole_there _ c.self.inside.graph c.self.inside.kept.entries c.self.view_is _ _ c.self.invariant c.args.id c.in-Some.spot c.in-Some.ensures.value)

pub returns-in-None-clause-whole : goal.returns-in-None-clause-whole
returns-in-None-clause-whole c = subst (λ o. IfSome o IsWhole) (sym (block_none _ c.self.inside.graph c.self.inside.kept.entries c.self.view_is c.args.id c.in-None.ensures.value)) tt
