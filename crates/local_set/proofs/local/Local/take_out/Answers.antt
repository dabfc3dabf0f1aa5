use Rattle.std.proofs.Common.{◌≡◌, ap, ◌∙◌, arith}
use Rattle.std.specs.FinMap.{get}
use Rattle.az_base.specs.Ids.{id_of, same_id}
use Rattle.local_set.specs.LocalSets.{blocks_of}
use Rattle.std.specs.FinMap.{retain_keys}
use Rattle.std.proofs.Common.{not}
use Rattle.local_set.proofs.Tables.{left_absent}
use Rattle.local_set.proofs.Quantities.{quanta_in, quanta_removed}
use Rattle.local_set.proofs.local.Local.take_out.Goals as goal

pub invariant_of-self : goal.invariant_of-self
invariant_of-self c =
    let m = blocks_of c.self.inside.blocks.list in
    let map = c.take.ensures.blocks in
    let now : quanta_in (blocks_of c.take.new.self.list) ≡ quanta_in (retain_keys m (λ q. not (same_id c.args.id q))) = ap quanta_in map in
    let sum = quanta_removed m c.args.id _ c.take.ensures.block in
    record {
      fits = omega (arith, now, sum, c.self.invariant.fits);
      most = c.self.invariant.most;
      few = c.self.invariant.few;
      range = c.self.invariant.range;
      queue = c.self.invariant.queue;
      fresh = λ s h. ap (λ n. get n (id_of c.self.inside.thread s)) map ∙ left_absent m (same_id c.args.id) (id_of c.self.inside.thread s) (c.self.invariant.fresh s h);
    }
