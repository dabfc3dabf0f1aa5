use Rattle.std.proofs.Common.{◌≡◌, ◌+◌, Some, ap, sym, ◌∙◌, refl, slice_set, arith, ◌++◌}
use Rattle.az_base.specs.Ids.{among}
use Rattle.az_base.specs.declared.word.Word.{Word}
use Rattle.zone_model.specs.State.{referent}
use Rattle.local_set.specs.LocalSets.{blocks_of}
use Rattle.zone_model.specs.Holds.{one_if, word_holds}
use Rattle.local_set.specs.Counting.{count_in, list_of}
use Rattle.local_set.proofs.Lists.{among_before, among_neither}
use Rattle.local_set.proofs.Counting.{counted_from}
use Rattle.local_set.proofs.Quantities.{quanta_in, quanta_edited}
use Rattle.local_set.proofs.Editing.{written_holds, referred_there, referent_is, not_listed}
use Rattle.local_set.proofs.blocks.Blocks.store.Goals as goal

pub replace-requires-clause-counted : goal.replace-requires-clause-counted
replace-requires-clause-counted c = counted_from c.self.inside.references (blocks_of c.self.inside.stored.entries) c.referent-old.result c.self.invariant.counted (referred_there (blocks_of c.self.inside.stored.entries) c.args.id c.args.at c.read.result c.referent-old.result c.read.ensures.word (sym c.referent-old.ensures))

pub invariant_of-self-2 : goal.invariant_of-self-2
invariant_of-self-2 c =
    let m = blocks_of c.self.inside.stored.entries in
    record {
      quanta = ap quanta_in c.write.ensures.blocks ∙ quanta_edited m c.args.id (λ b. record b { words = slice_set b.words c.args.at c.reference.result }) (λ b. refl) ∙ c.self.invariant.quanta;
      fits = c.self.invariant.fits;
      counted = λ q.
          let counts : count_in c.replace.new.self q + one_if q c.referent-old.result ≡ count_in c.self.inside.references q + one_if q c.args.value = c.in_ok-replace.ensures.ok.counts q in
          let was : count_in c.self.inside.references q ≡ word_holds m q = c.self.invariant.counted q in
          let written = written_holds m c.args.id c.args.at c.read.result c.reference.result q c.read.ensures.word in
          let now : word_holds (blocks_of c.write.new.stored.entries) q ≡ word_holds _ q = ap (λ n. word_holds n q) c.write.ensures.blocks in
          let old : one_if q c.referent-old.result ≡ one_if q (referent (Some c.read.result)) = ap (one_if q) c.referent-old.ensures in
          let new : one_if q (referent (Some c.reference.result)) ≡ one_if q c.args.value = ap (λ (w : Word). one_if q (referent (Some w))) c.reference.ensures ∙ ap (one_if q) (referent_is c.args.value) in
          omega (arith, counts, was, written, now, old, new);
      bounded = c.replace.ensures.bounded;
    }

pub returns-clause-notes : goal.returns-clause-notes
returns-clause-notes c =
    let m = blocks_of c.self.inside.stored.entries in
    let xs = c.self.inside.references.changed.items in
    let is = c.in_ok-replace.ensures.ok.changed in
    rw (← c.self.view_is) record {
      kept = λ q h. ap (λ l. among l q) is ∙ among_before (xs ++ list_of c.referent-old.result) (list_of c.args.value) q (among_before xs (list_of c.referent-old.result) q h);
      others = λ q h.
          let apart = among_neither (xs ++ list_of c.referent-old.result) (list_of c.args.value) q (sym (ap (λ l. among l q) is) ∙ h) in
          let first = among_neither xs (list_of c.referent-old.result) q apart.0 in
          let old_none : one_if q c.referent-old.result ≡ 0 = not_listed q c.referent-old.result first.1 in
          let new_none : one_if q c.args.value ≡ 0 = not_listed q c.args.value apart.1 in
          let written = written_holds m c.args.id c.args.at c.read.result c.reference.result q c.read.ensures.word in
          let now : word_holds (blocks_of c.write.new.stored.entries) q ≡ word_holds _ q = ap (λ n. word_holds n q) c.write.ensures.blocks in
          let old : one_if q c.referent-old.result ≡ one_if q (referent (Some c.read.result)) = ap (one_if q) c.referent-old.ensures in
          let new : one_if q (referent (Some c.reference.result)) ≡ one_if q c.args.value = ap (λ (w : Word). one_if q (referent (Some w))) c.reference.ensures ∙ ap (one_if q) (referent_is c.args.value) in
          omega (arith, old_none, new_none, written, now, old, new);
    }
