use Rattle.std.proofs.Common.{◌≤◌, length, arith, sym, subst, ap, ◌∙◌, List, map, None}
use Rattle.az_base.specs.declared.word.Word.{Word}
use Rattle.block_space.specs.Spaces.{Space'}
use Rattle.block_table.specs.Places.{NextOf, in_word}
use Rattle.block_table.specs.Lying.{words_at}
use Rattle.block_table.proofs.Somes.{none_in_nothing}
use Rattle.block_table.proofs.Told.{fits_there, words_none, words_there}
use Rattle.block_table.proofs.table.BlockTable.next_word.Goals as goal

pub next_word-requires-clause-block : goal.next_word-requires-clause-block
next_word-requires-clause-block c = rw c.space.ensures c.in-Some.ensures.there

pub next_word-requires-clause-fits : goal.next_word-requires-clause-fits
next_word-requires-clause-fits c = rw c.space.ensures (fits_there _ c.self.inside.graph c.self.inside.kept.entries c.self.view_is _ _ c.self.invariant c.args.id c.in-Some.spot c.in-Some.ensures.value)

pub returns-in-Some-clause-next : goal.returns-in-Some-clause-next
returns-in-Some-clause-next c =
    let words = words_there _ c.self.inside.graph c.self.inside.kept.entries c.self.view_is c.args.id c.in-Some.spot c.in-Some.ensures.value in
    subst (λ (ws : List Word). NextOf (map in_word ws) c.args.at c.next_word.result) (ap (λ (s : Space'). words_at s c.in-Some.spot) c.space.ensures ∙ sym words) c.next_word.ensures.next

pub returns-in-None-clause-next : goal.returns-in-None-clause-next
returns-in-None-clause-next c = subst (λ (ws : List Word). NextOf (map in_word ws) c.args.at None) (sym (words_none _ c.self.inside.graph c.self.inside.kept.entries c.self.view_is c.args.id c.in-None.ensures.value)) (none_in_nothing c.args.at)

pub returns-in-Some-clause-few : goal.returns-in-Some-clause-few
returns-in-Some-clause-few c =
    let words = words_there _ c.self.inside.graph c.self.inside.kept.entries c.self.view_is c.args.id c.in-Some.spot c.in-Some.ensures.value in
    subst (λ (ws : List Word). length ws ≤ 4096) (ap (λ (s : Space'). words_at s c.in-Some.spot) c.space.ensures ∙ sym words) c.next_word.ensures.few

pub returns-in-None-clause-few : goal.returns-in-None-clause-few
returns-in-None-clause-few c = subst (λ (ws : List Word). length ws ≤ 4096) (sym (words_none _ c.self.inside.graph c.self.inside.kept.entries c.self.view_is c.args.id c.in-None.ensures.value)) (omega arith)
