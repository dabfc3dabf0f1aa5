use Rattle.std.proofs.Common.{◌≡◌, ap, ◌∙◌, refl, slice_set, arith}
use Rattle.std.specs.FinMap.{get}
use Rattle.az_base.specs.declared.word.Word.TheVariants as word
use Rattle.az_base.specs.Ids.{id_of}
use Rattle.zone_model.specs.State.{Block}
use Rattle.local_set.specs.LocalSets.{blocks_of}
use Rattle.local_set.proofs.Tables.{edit_absent}
use Rattle.local_set.proofs.Quantities.{quanta_in, quanta_edited}
use Rattle.local_set.proofs.local.Local.set_number.Goals as goal

pub invariant_of-self : goal.invariant_of-self
invariant_of-self c =
    let m = blocks_of c.self.inside.blocks.list in
    let change = λ (b : Block). let r : Block = record b { words = slice_set b.words c.args.at (word.Number c.args.number) } in r in
    let map = c.put.ensures.blocks in
    let same : quanta_in (blocks_of c.put.new.self.list) ≡ quanta_in m = ap quanta_in map ∙ quanta_edited m c.args.id change (λ b. refl) in
    record {
      fits = omega (arith, same, c.self.invariant.fits);
      most = c.self.invariant.most;
      few = c.self.invariant.few;
      range = c.self.invariant.range;
      queue = c.self.invariant.queue;
      fresh = λ s h. ap (λ n. get n (id_of c.self.inside.thread s)) map ∙ edit_absent m c.args.id change (id_of c.self.inside.thread s) (c.self.invariant.fresh s h);
    }
