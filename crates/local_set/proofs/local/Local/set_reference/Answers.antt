use Rattle.std.proofs.Common.{◌≡◌, ap, ◌∙◌, refl, slice_set, arith}
use Rattle.std.specs.FinMap.{get}
use Rattle.az_base.specs.Ids.{id_of}
use Rattle.zone_model.specs.State.{Block, reference}
use Rattle.local_set.specs.LocalSets.{blocks_of}
use Rattle.local_set.proofs.Tables.{edit_absent}
use Rattle.local_set.proofs.Quantities.{quanta_in, quanta_edited}
use Rattle.local_set.proofs.local.Local.set_reference.Goals as goal

pub invariant_of-self-2 : goal.invariant_of-self-2
invariant_of-self-2 c =
    let m = blocks_of c.self.inside.blocks.list in
    let change = λ (b : Block). let r : Block = record b { words = slice_set b.words c.args.at (reference c.args.value) } in r in
    let map = c.in_ok-store.ensures.blocks in
    let same : quanta_in (blocks_of c.store.new.self.list) ≡ quanta_in m = ap quanta_in map ∙ quanta_edited m c.args.id change (λ b. refl) in
    record {
      fits = omega (arith, same, c.self.invariant.fits);
      most = c.self.invariant.most;
      few = c.self.invariant.few;
      range = c.self.invariant.range;
      queue = c.self.invariant.queue;
      fresh = λ s h. ap (λ n. get n (id_of c.self.inside.thread s)) map ∙ edit_absent m c.args.id change (id_of c.self.inside.thread s) (c.self.invariant.fresh s h);
    }
