use Rattle.std.proofs.Common.{◌≡◌, ◌+◌, ap, None, cond, sym, ◌∙◌, arith}
use Rattle.std.specs.FinMap.{get, insert}
use Rattle.az_base.specs.Ids.{id_of}
use Rattle.block_layouts.specs.Layouts.{len_of, quanta}
use Rattle.zone_model.specs.Part.{own_block}
use Rattle.local_set.specs.contracts.local.Local.{the_view}
use Rattle.local_set.specs.LocalSets.{blocks_of, part_in}
use Rattle.local_set.proofs.Tables.{insert_absent}
use Rattle.local_set.proofs.Quantities.{quanta_in, quanta_added}
use Rattle.local_set.proofs.Serials.{next_is, one_more, other_serial, fits_local}
use Rattle.local_set.proofs.local.Local.add_block.Goals as goal

pub add-requires-clause-absent : goal.add-requires-clause-absent
add-requires-clause-absent c =
    let l = c.self.inside in
    let next = next_is l.serials l.options.serials l.thread c.args.id (rw (← c.self.view_is) at c.requires.next) in
    ap (get (blocks_of l.blocks.list)) next.1 ∙ c.self.invariant.fresh l.serials (omega arith)

pub add-requires-clause-fits : goal.add-requires-clause-fits
add-requires-clause-fits c =
    let fits = fits_local _ _ _ (rw (← c.self.view_is) at c.requires.fits) in
    let most = c.self.invariant.most in
    omega (arith, fits, most)

pub invariant_of-self-2 : goal.invariant_of-self-2
invariant_of-self-2 c =
    let l = c.self.inside in
    let m = blocks_of l.blocks.list in
    let next = next_is l.serials l.options.serials l.thread c.args.id (rw (← c.self.view_is) at c.requires.next) in
    let here : get m c.args.id ≡ None = ap (get m) next.1 ∙ c.self.invariant.fresh l.serials (omega arith) in
    let map = c.in_ok-add.ensures.blocks in
    let now : quanta_in (blocks_of c.add.new.self.list) ≡ quanta_in (insert m c.args.id (own_block c.args.layout.now)) = ap quanta_in map in
    let sum : quanta_in (insert m c.args.id (own_block c.args.layout.now)) ≡ quanta_in m + quanta (len_of c.args.layout.now) = quanta_added m c.args.id (own_block c.args.layout.now) here in
    let fits = fits_local _ _ _ (rw (← c.self.view_is) at c.requires.fits) in
    record {
      fits = omega (arith, now, sum, fits);
      most = c.self.invariant.most;
      few = one_more l.serials l.options.serials next.0 c.self.invariant.few;
      range = c.self.invariant.range;
      queue = c.self.invariant.queue;
      fresh = λ s h. ap (λ n. get n (id_of l.thread s)) map ∙ insert_absent m c.args.id (own_block c.args.layout.now) (id_of l.thread s) (c.self.invariant.fresh s (omega (arith, h))) (λ e. other_serial l.thread s l.serials h (e ∙ next.1));
    }

pub returns-clause-part : goal.returns-clause-part
returns-clause-part c =
    let l = c.self.inside in
    let fits = rw (← c.self.view_is) at c.requires.fits in
    rw (← c.self.view_is) (ap (λ m. let p = part_in (the_view l) in record p { serials = l.serials + 1; blocks = m }) c.in_ok-add.ensures.blocks
    ∙ ap (λ b. let p = part_in (the_view l) in record p { serials = l.serials + 1; blocks = cond b p.blocks (insert p.blocks c.args.id (own_block c.args.layout.now)) }) (sym fits))
