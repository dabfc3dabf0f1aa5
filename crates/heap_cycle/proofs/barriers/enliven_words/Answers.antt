use Rattle.std.proofs.Common.{[], ◌∷◌, ◌∙◌, ap, subst, sym, take}
use Rattle.std.proofs.lemmas.List.{take_all}
use Rattle.heap_cycle.specs.Collects.{collector_of, start_of}
use Rattle.heap_cycle.specs.Livening.{Livens, blocks_in}
use Rattle.heap_cycle.proofs.Livened.{blocks_next, livens_live, livens_then}
use Rattle.heap_cycle.proofs.barriers.enliven_words.Goals as goal

pub loop-word-preserved : goal.loop-word-preserved
loop-word-preserved c = record {
  collects = c.enliven_word.ensures.collects;
  same = c.enliven_word.ensures.same ∙ c.loop-word.invariant.same;
  livens =
      let so_far = blocks_in (take c.loop-word.word-index c.args.words.now) in
      subst (λ l. Livens (collector_of c.args.tables.now c.args.cycle.now) (collector_of c.enliven_word.new.tables c.enliven_word.new.cycle) l []) (sym (blocks_next c.args.words.now c.loop-word.word-index c.word-item.result c.loop-word-test.true c.word-item.is))
      (livens_then _ _ _ so_far (blocks_in (c.word-item.result ∷ [])) c.loop-word.invariant.livens c.enliven_word.ensures.livens);
}

pub returns-clause-live : goal.returns-clause-live
returns-clause-live c =
    livens_live c.args.tables.now c.loop-word.tables c.args.cycle.now c.loop-word.cycle (blocks_in c.args.words.now) [] (ap start_of c.loop-word.invariant.same)
    (subst (λ ws. Livens (collector_of c.args.tables.now c.args.cycle.now) (collector_of c.loop-word.tables c.loop-word.cycle) (blocks_in ws) []) (take_all c.loop-word.word-index c.args.words.now c.loop-word-test.false) c.loop-word.invariant.livens)
