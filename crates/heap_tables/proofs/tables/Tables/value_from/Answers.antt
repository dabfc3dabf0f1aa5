use Rattle.std.proofs.Common.{◌-◌, ◌≡◌, ◌+◌, ◌∙◌, sym, arith, length, map, refl}
use Rattle.assoc_refs.specs.Table.{pairs_of}
use Rattle.block_table.specs.Places.{in_word}
use Rattle.block_table.specs.Table.{words_in}
use Rattle.heap_tables.specs.Graphs.{value_of}
use Rattle.block_table.proofs.Somes.{second_of_two, none_of_two, mapped_at, mapped_past, length_mapped, within_list, none_past, none_in_nothing}
use Rattle.heap_tables.proofs.tables.Tables.value_from.Goals as goal

pub returns-in-Some : goal.returns-in-Some
returns-in-Some c =
    let t = c.args.self.now in
    let words = words_in t.blocks.blocks c.args.id in
    let pairs = pairs_of t.assocs.pairs c.args.id in
    let n = c.saturating_sub-n.result in
    let long : length (map in_word words) ≡ length words = length_mapped in_word words in
    let many : length (map value_of pairs) ≡ length pairs = length_mapped value_of pairs in
    let all : c.from-words.result ≡ length words = c.from-words.ensures ∙ c.words.ensures.value in
    let is : _ = sym c.nth_of.ensures.value ∙ c.in-Some.is in
    let fits = within_list pairs n c.in-Some.found is in
    second_of_two (map in_word words) (map value_of pairs) c.args.place n c.in-Some.found.1 (n + 1) (c.from-words.result + n + 1)
    c.requires (omega (arith, long, all, c.saturating_sub-n.ensures)) (omega (arith, long, all)) (mapped_at value_of pairs n c.in-Some.found c.in-Some.found.1 is refl, omega (arith, many, fits))

pub returns-in-None : goal.returns-in-None
returns-in-None c =
    let t = c.args.self.now in
    let words = words_in t.blocks.blocks c.args.id in
    let pairs = pairs_of t.assocs.pairs c.args.id in
    let n = c.saturating_sub-n.result in
    let long : length (map in_word words) ≡ length words = length_mapped in_word words in
    let all : c.from-words.result ≡ length words = c.from-words.ensures ∙ c.words.ensures.value in
    none_of_two (map in_word words) (map value_of pairs) c.args.place n
    c.requires (omega (arith, long, all, c.saturating_sub-n.ensures)) (mapped_past value_of pairs n (none_past pairs n (sym c.nth_of.ensures.value ∙ c.in-None.is)))

pub returns-then-not-may_have : goal.returns-then-not-may_have
returns-then-not-may_have c =
    let t = c.args.self.now in
    let words = words_in t.blocks.blocks c.args.id in
    let nothing = c.may_have.ensures.none c.if-not-may_have.true in
    none_of_two (map in_word words) (map value_of (pairs_of t.assocs.pairs c.args.id)) c.args.place (c.args.place - length (map in_word words))
    c.requires refl (rw nothing (none_in_nothing (c.args.place - length (map in_word words))))
