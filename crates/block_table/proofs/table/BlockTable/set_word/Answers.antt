use Rattle.std.proofs.Common.{Option, MatchOption, sym, ap, ◌∙◌, subst}
use Rattle.block_layouts.specs.Fitting.{FitsAt}
use Rattle.block_space.specs.Maps.{IsSound}
use Rattle.block_space.specs.Marking.{unmarked}
use Rattle.space_graph.specs.Graphs.{Graph'}
use Rattle.block_table.specs.Lying.{layout_at, lying_table}
use Rattle.block_table.specs.Stored.{HeapBlock}
use Rattle.block_table.proofs.Rewritten.{set_within, word_lying, word_table}
use Rattle.block_table.proofs.Told.{block_none, block_there}
use Rattle.block_table.proofs.table.BlockTable.set_word.Goals as goal

pub unreachable-requires : goal.unreachable-requires
unreachable-requires c = subst (λ o. MatchOption o ⊥ (λ (k : HeapBlock). FitsAt k.layout c.args.at c.args.word)) (block_none _ c.self.inside.graph c.self.inside.kept.entries c.self.view_is c.args.id (sym c.in_default.is ∙ c.find_near.ensures.value)) c.requires

pub set_word-requires : goal.set_word-requires
set_word-requires c =
    let g = c.self.inside.graph in
    let fits : FitsAt (layout_at (unmarked g.space) c.in-Some.spot) c.args.at c.args.word = subst (λ (o : Option HeapBlock). MatchOption o ⊥ (λ (k : HeapBlock). FitsAt k.layout c.args.at c.args.word)) (block_there _ g c.self.inside.kept.entries c.self.view_is c.args.id c.in-Some.spot c.in-Some.ensures.value) c.requires in
    set_within _ g c.self.inside.kept.entries c.self.view_is c.is_graph.ensures (subst IsSound c.space.ensures c.is_sound.ensures) c.args.id c.in-Some.spot (sym c.in-Some.ensures.value) c.in-Some.ensures.there c.args.at c.args.word fits _ _ c.self.invariant

pub invariant_of-self : goal.invariant_of-self
invariant_of-self c =
    let g = c.self.inside.graph in
    let fits : FitsAt (layout_at (unmarked g.space) c.in-Some.spot) c.args.at c.args.word = subst (λ (o : Option HeapBlock). MatchOption o ⊥ (λ (k : HeapBlock). FitsAt k.layout c.args.at c.args.word)) (block_there _ g c.self.inside.kept.entries c.self.view_is c.args.id c.in-Some.spot c.in-Some.ensures.value) c.requires in
    rw c.set_word.ensures (word_lying _ g c.self.inside.kept.entries c.self.view_is c.is_graph.ensures (subst IsSound c.space.ensures c.is_sound.ensures) c.args.id c.in-Some.spot (sym c.in-Some.ensures.value) c.in-Some.ensures.there c.args.at c.args.word fits _ _ c.self.invariant)

pub returns : goal.returns
returns c =
    let g = c.self.inside.graph in
    let fits : FitsAt (layout_at (unmarked g.space) c.in-Some.spot) c.args.at c.args.word = subst (λ (o : Option HeapBlock). MatchOption o ⊥ (λ (k : HeapBlock). FitsAt k.layout c.args.at c.args.word)) (block_there _ g c.self.inside.kept.entries c.self.view_is c.args.id c.in-Some.spot c.in-Some.ensures.value) c.requires in
    ap (λ (y : Graph'). lying_table y c.self.inside.kept.entries) c.set_word.ensures
    ∙ word_table _ g c.self.inside.kept.entries c.self.view_is c.is_graph.ensures (subst IsSound c.space.ensures c.is_sound.ensures) c.args.id c.in-Some.spot (sym c.in-Some.ensures.value) c.in-Some.ensures.there c.args.at c.args.word fits _ _ c.self.invariant
