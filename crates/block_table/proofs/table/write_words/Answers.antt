use Rattle.std.proofs.Common.{◌≡◌, Option, refl, ap, ◌∙◌, subst, arith}
use Rattle.std.proofs.lemmas.Option.{slice_get_read}
use Rattle.std.specs.Option.{option_map_or}
use Rattle.block_layouts.specs.declared.layout.Layout.{Layout}
use Rattle.block_layouts.specs.Layouts.{len_of}
use Rattle.block_space.specs.Maps.{IsSound}
use Rattle.block_space.specs.Spaces.{Space'}
use Rattle.block_space.specs.Marking.{len_in}
use Rattle.block_table.specs.Lying.{IsWrittenTo}
use Rattle.block_table.proofs.Coming.{written_more, written_none}
use Rattle.block_table.proofs.table.write_words.Goals as goal

pub loop-n-init : goal.loop-n-init
loop-n-init c = written_none c.args.graph.now c.args.spot c.args.words.now

pub loop-n-preserved : goal.loop-n-preserved
loop-n-preserved c =
    let g = c.args.graph.now in
    let len : c.len_in-len.result ≡ len_in g.space c.args.spot = c.len_in-len.ensures.value ∙ ap (λ (s : Space'). len_in s c.args.spot) c.space.ensures in
    written_more g c.loop-n.graph c.set_word.new.self c.args.spot c.args.words.now c.loop-n.n _ (subst IsSound c.space-in-loop-n.ensures c.is_sound.ensures) (omega (arith, len, c.loop-n-test.true))
    (slice_get_read c.args.words.now _ c.loop-n.n _ refl (omega (arith, len, c.loop-n-test.true, c.requires)) c.index-words-n.is) c.set_word.ensures c.loop-n.invariant

pub set_word-requires : goal.set_word-requires
set_word-requires c =
    let g = c.args.graph.now in
    let len : c.len_in-len.result ≡ len_in g.space c.args.spot = c.len_in-len.ensures.value ∙ ap (λ (s : Space'). len_in s c.args.spot) c.space.ensures in
    let same : len_in c.loop-n.graph.space c.args.spot ≡ len_in g.space c.args.spot = ap (λ (o : Option Layout). option_map_or len_of o 0) (c.loop-n.invariant.layouts c.args.spot) in
    omega (arith, len, same, c.loop-n-test.true)

pub returns : goal.returns
returns c =
    let g = c.args.graph.now in
    let len : c.len_in-len.result ≡ len_in g.space c.args.spot = c.len_in-len.ensures.value ∙ ap (λ (s : Space'). len_in s c.args.spot) c.space.ensures in
    subst (λ n. IsWrittenTo g c.args.spot c.args.words.now n c.loop-n.graph) (omega (arith, len, c.requires, c.loop-n-test.false, c.loop-n.auto.n-end)) c.loop-n.invariant
