use Rattle.std.proofs.Common.{◌≡◌, ap, not, sym, ◌∙◌, arith}
use Rattle.std.specs.FinMap.{get, contains_key, retain_keys}
use Rattle.az_base.specs.Ids.{id_of, among}
use Rattle.local_set.specs.LocalSets.{blocks_of}
use Rattle.zone_model.specs.Holds.{word_holds}
use Rattle.local_set.proofs.Tables.{left_absent}
use Rattle.local_set.proofs.Quantities.{quanta_in}
use Rattle.local_set.proofs.Sorting.{listed_distinct}
use Rattle.local_set.proofs.Collecting.{holds_left}
use Rattle.local_set.proofs.local.Local.remove.Goals as goal

pub note_all-requires : goal.note_all-requires
note_all-requires c =
    let lists = rw (← c.self.view_is) at c.requires in
    record { distinct = listed_distinct c.args.gone.now lists.0; there = λ q h. ((lists.1 q).0 h).0 }

pub remove_all-requires : goal.remove_all-requires
remove_all-requires c =
    let lists = rw (← c.self.view_is) at c.requires in
    record { distinct = listed_distinct c.args.gone.now lists.0; there = λ q h. ap (λ es. contains_key (blocks_of es) q) c.in_ok-note_all.ensures.list ∙ ((lists.1 q).0 h).0 }

pub invariant_of-self-2 : goal.invariant_of-self-2
invariant_of-self-2 c =
    let m = blocks_of c.self.inside.blocks.list in
    let same : quanta_in (blocks_of c.note_all.new.self.list) ≡ quanta_in m = ap (λ es. quanta_in (blocks_of es)) c.in_ok-note_all.ensures.list in
    let less = c.remove_all.ensures.less in
    let map = c.remove_all.ensures.blocks ∙ ap (λ es. retain_keys (blocks_of es) (λ q. not (among c.args.gone.now q))) c.in_ok-note_all.ensures.list in
    record {
      fits = omega (arith, same, less, c.self.invariant.fits);
      most = c.self.invariant.most;
      few = c.self.invariant.few;
      range = c.self.invariant.range;
      queue = c.self.invariant.queue;
      fresh = λ s h. ap (λ n. get n (id_of c.self.inside.thread s)) map ∙ left_absent m (among c.args.gone.now) (id_of c.self.inside.thread s) (c.self.invariant.fresh s h);
    }

pub returns-clause-notes : goal.returns-clause-notes
returns-clause-notes c =
    let map = c.remove_all.ensures.blocks ∙ ap (λ es. retain_keys (blocks_of es) (λ q. not (among c.args.gone.now q))) c.in_ok-note_all.ensures.list in
    rw (← c.self.view_is) record {
      kept = λ q h. ap (λ l. among l q) c.remove_all.ensures.changed ∙ c.in_ok-note_all.ensures.ok.kept q h;
      others = λ q h. ap (λ m. word_holds m q) map ∙ holds_left c.self.inside.blocks c.note_all.new.self c.args.gone.now q c.in_ok-note_all.ensures.ok (sym (ap (λ l. among l q) c.remove_all.ensures.changed) ∙ h);
    }
