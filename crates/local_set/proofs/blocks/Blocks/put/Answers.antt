use Rattle.std.proofs.Common.{ap, sym, ◌∙◌, slice_set, refl}
use Rattle.az_base.specs.declared.word.Word.TheVariants as word
use Rattle.local_set.specs.LocalSets.{blocks_of}
use Rattle.zone_model.specs.Holds.{word_holds}
use Rattle.local_set.proofs.Quantities.{quanta_in, quanta_edited}
use Rattle.local_set.proofs.Editing.{number_holds}
use Rattle.local_set.proofs.blocks.Blocks.put.Goals as goal

pub invariant_of-self : goal.invariant_of-self
invariant_of-self c =
    let m = blocks_of c.self.inside.stored.entries in
    let may = rw (← c.self.view_is) at c.requires in
    let map = c.write.ensures.blocks in
    record {
      quanta = ap quanta_in map ∙ quanta_edited m c.args.id (λ b. record b { words = slice_set b.words c.args.at (word.Number c.args.number) }) (λ b. refl) ∙ c.self.invariant.quanta;
      fits = c.self.invariant.fits;
      counted = λ q. c.self.invariant.counted q ∙ sym (ap (λ n. word_holds n q) map ∙ number_holds m c.args.id c.args.at c.write.result c.args.number q c.write.ensures.old c.write.ensures.fit may);
      bounded = c.self.invariant.bounded;
    }

pub returns-clause-holds : goal.returns-clause-holds
returns-clause-holds c = λ q.
    let m = blocks_of c.self.inside.stored.entries in
    let may = rw (← c.self.view_is) at c.requires in
    rw (← c.self.view_is) (ap (λ n. word_holds n q) c.write.ensures.blocks ∙ number_holds m c.args.id c.args.at c.write.result c.args.number q c.write.ensures.old c.write.ensures.fit may)
