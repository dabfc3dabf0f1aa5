use Rattle.std.proofs.Common.{refl, subst, arith}
use Rattle.std.proofs.lemmas.Option.{slice_get_read}
use Rattle.space_graph.proofs.Leaving.{take_whole}
use Rattle.block_table.specs.Lying.{HasLess, lying_table}
use Rattle.block_table.proofs.Going.{less_first, less_next, there_among}
use Rattle.block_table.proofs.table.take_out_all.Goals as goal

pub loop-n-init : goal.loop-n-init
loop-n-init c = record { forgotten = c.requires.forgotten; all = c.requires.all; lying = c.requires.lying; less = less_first (lying_table c.args.graph.now c.args.kept.now.entries) }

pub take_out-requires-clause-forgotten : goal.take_out-requires-clause-forgotten
take_out-requires-clause-forgotten c =
    let at = slice_get_read c.args.ids.now _ c.loop-n.n c.index-ids-n.result refl c.loop-n-test.true c.index-ids-n.is in
    c.loop-n.invariant.forgotten c.index-ids-n.result (there_among c.args.ids.now c.loop-n.n c.index-ids-n.result at)

pub loop-n-preserved : goal.loop-n-preserved
loop-n-preserved c =
    let at = slice_get_read c.args.ids.now _ c.loop-n.n c.index-ids-n.result refl c.loop-n-test.true c.index-ids-n.is in
    record {
      forgotten = λ b h. c.take_out.ensures.forgotten b (c.loop-n.invariant.forgotten b h);
      all = c.take_out.ensures.all;
      lying = c.take_out.ensures.lying;
      less = less_next (lying_table c.args.graph.now c.args.kept.now.entries) (lying_table c.loop-n.graph c.loop-n.kept.entries) _ c.args.ids.now c.loop-n.n c.index-ids-n.result at c.loop-n.invariant.less c.take_out.ensures.less;
    }

pub returns-clause-less : goal.returns-clause-less
returns-clause-less c = subst (λ l. HasLess (lying_table c.args.graph.now c.args.kept.now.entries) l (lying_table c.loop-n.graph c.loop-n.kept.entries)) (take_whole c.args.ids.now c.loop-n.n (omega (arith, c.loop-n-test.false))) c.loop-n.invariant.less
