use Rattle.std.proofs.Common.{length, refl}
use Rattle.std.proofs.lemmas.Option.{slice_get_read}
use Rattle.local_set.specs.LocalSets.{blocks_of}
use Rattle.local_set.proofs.Walks.{visited_none, visited_more, visited_all}
use Rattle.local_set.proofs.walk.Trace.begin.Goals as goal

pub loop-held-init : goal.loop-held-init
loop-held-init c = visited_none (blocks_of c.args.blocks.now.list) c.args.self.now.found.keys c.args.registers.now

pub loop-held-preserved : goal.loop-held-preserved
loop-held-preserved c =
    let rs = c.args.registers.now in
    let i = c.loop-held.held-index in
    visited_more (blocks_of c.args.blocks.now.list) c.args.self.now.found.keys _ _ rs i c.held-item.result c.loop-held.invariant (slice_get_read rs (length rs) i c.held-item.result refl c.loop-held-test.true c.held-item.is) c.in_ok-visit.ensures

pub returns : goal.returns
returns c = visited_all (blocks_of c.args.blocks.now.list) c.args.self.now.found.keys _ c.args.registers.now c.loop-held.held-index c.loop-held-test.false c.loop-held.invariant
