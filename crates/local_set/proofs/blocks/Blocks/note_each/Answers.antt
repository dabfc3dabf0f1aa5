use Rattle.std.proofs.Common.{◌++◌, [], length, refl, ap, subst, ◌∙◌, take}
use Rattle.std.proofs.lemmas.Option.{slice_get_read}
use Rattle.std.specs.FinMap.{contains_key}
use Rattle.local_set.specs.LocalSets.{blocks_of}
use Rattle.local_set.specs.Tables.{NotesReferents}
use Rattle.local_set.proofs.Lists.{among_of, next_taken, all_taken}
use Rattle.local_set.proofs.Referents.{none_noted, more_noted, joined, ends_itself}
use Rattle.local_set.proofs.blocks.Blocks.note_each.Goals as goal

pub loop-id-init : goal.loop-id-init
loop-id-init c = record { list = refl; notes = none_noted c.args.self.now; more = ([], ends_itself c.args.self.now.changed) }

pub note_one-requires : goal.note_one-requires
note_one-requires c =
    let gone = c.args.gone.now in
    let at = slice_get_read gone (length gone) c.loop-id.id-index c.id-item.result refl c.loop-id-test.true c.id-item.is in
    ap (λ es. contains_key (blocks_of es) c.id-item.result) c.loop-id.invariant.list ∙ c.requires.there c.id-item.result (among_of gone c.loop-id.id-index c.id-item.result at)

pub loop-id-preserved : goal.loop-id-preserved
loop-id-preserved c =
    let gone = c.args.gone.now in
    let i = c.loop-id.id-index in
    let id = c.id-item.result in
    let at = slice_get_read gone (length gone) i id refl c.loop-id-test.true c.id-item.is in
    let inv = c.loop-id.invariant in
    let more = c.in_ok-note_one.ensures.more in
    record {
      list = c.in_ok-note_one.ensures.list ∙ inv.list;
      notes = subst (NotesReferents c.args.self.now c.note_one.new.self) (next_taken gone i id at) (more_noted c.args.self.now c.loop-id.self c.note_one.new.self (take i gone) id inv.list inv.notes c.in_ok-note_one.ensures.ok);
      more = (inv.more.0 ++ more.0, more.1 ∙ ap (λ l. l ++ more.0) inv.more.1 ∙ joined c.args.self.now.changed inv.more.0 more.0);
    }

pub returns-clause-ok : goal.returns-clause-ok
returns-clause-ok c = subst (NotesReferents c.args.self.now c.loop-id.self) (all_taken c.args.gone.now c.loop-id.id-index c.loop-id-test.false) c.loop-id.invariant.notes
