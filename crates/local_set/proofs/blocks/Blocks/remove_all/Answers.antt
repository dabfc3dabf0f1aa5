use Rattle.az_base.proofs.Ids.{among_more}
use Rattle.std.proofs.Common.{◌+◌, ap, cond, None, is_some, length, not, refl, arith, sym, ◌∙◌, take}
use Rattle.std.proofs.lemmas.Option.{slice_get_read}
use Rattle.std.specs.FinMap.{get, retain_keys, contains_key}
use Rattle.az_base.specs.Ids.{among, same_id}
use Rattle.zone_model.proofs.Blocks.{left_get}
use Rattle.local_set.specs.LocalSets.{blocks_of}
use Rattle.local_set.proofs.Lists.{among_of, next_taken, all_taken, distinct_before}
use Rattle.local_set.proofs.Tables.{left_more, left_none}
use Rattle.local_set.proofs.blocks.Blocks.remove_all.Goals as goal

pub loop-id-init : goal.loop-id-init
loop-id-init c = record { blocks = sym (left_none (blocks_of c.args.self.now.list)); less = omega arith; changed = refl }

pub take-requires : goal.take-requires
take-requires c =
    let gone = c.args.gone.now in
    let i = c.loop-id.id-index in
    let id = c.id-item.result in
    let m = blocks_of c.args.self.now.list in
    let at = slice_get_read gone (length gone) i id refl c.loop-id-test.true c.id-item.is in
    let before = distinct_before gone i id c.requires.distinct at in
    ap (λ n. contains_key n id) c.loop-id.invariant.blocks ∙ ap is_some (left_get m (among (take i gone)) id ∙ ap (λ t. cond t None (get m id)) before) ∙ c.requires.there id (among_of gone i id at)

pub loop-id-preserved : goal.loop-id-preserved
loop-id-preserved c =
    let gone = c.args.gone.now in
    let i = c.loop-id.id-index in
    let id = c.id-item.result in
    let m = blocks_of c.args.self.now.list in
    let at = slice_get_read gone (length gone) i id refl c.loop-id-test.true c.id-item.is in
    record {
      blocks = c.take.ensures.blocks ∙ ap (λ n. retain_keys n (λ q. not (same_id id q))) c.loop-id.invariant.blocks
          ∙ left_more m (among (take i gone)) id (among (take (i + 1) gone)) (λ q. ap (λ l. among l q) (sym (next_taken gone i id at)) ∙ among_more (take i gone) id q);
      less = let now = c.take.ensures.less in let was = c.loop-id.invariant.less in omega (arith, now, was);
      changed = c.take.ensures.changed ∙ c.loop-id.invariant.changed;
    }

pub returns-clause-blocks : goal.returns-clause-blocks
returns-clause-blocks c = c.loop-id.invariant.blocks ∙ ap (λ l. retain_keys (blocks_of c.args.self.now.list) (λ q. not (among l q))) (all_taken c.args.gone.now c.loop-id.id-index c.loop-id-test.false)
