use Rattle.std.proofs.Common.{◌<◌, ◌≤◌, List, length, arith, subst}
use Rattle.az_base.specs.declared.block_id.BlockId.{BlockId}
use Rattle.local_set.specs.LocalSets.{blocks_of}
use Rattle.local_set.specs.Walks.{VisitsAll}
use Rattle.local_set.proofs.Lists.{has, within, among_of}
use Rattle.local_set.proofs.Walks.{walked_first, walked_more, done_none, done_more, all_reached, few_found}
use Rattle.local_set.proofs.walk.reached.Goals as goal

pub loop-at-init : goal.loop-at-init
loop-at-init c = record {
  walked = walked_first (blocks_of c.args.blocks.now.list) c.args.registers.now c.begin.new.self.found.keys (subst (λ (l : List BlockId). VisitsAll (blocks_of c.args.blocks.now.list) l c.begin.new.self.found.keys c.args.registers.now) c.new.ensures.empty c.in_ok-begin.ensures);
  done = done_none (blocks_of c.args.blocks.now.list) c.begin.new.self.found.keys;
  before = omega arith;
}

pub follow_found-requires-clause-there : goal.follow_found-requires-clause-there
follow_found-requires-clause-there c = λ q h. c.loop-at.invariant.walked.own q (among_of c.loop-at.walk.found.keys c.loop-at.at q h)

pub loop-at-smaller : goal.loop-at-smaller
loop-at-smaller c =
    let found = c.loop-at.walk.found.keys in
    let few : length found ≤ length c.args.blocks.now.list = few_found c.args.blocks.now.list c.args.registers.now found c.loop-at.invariant.walked in
    let before : c.loop-at.at < length found = omega (arith, c.loop-at-test.true, c.len.ensures.len) in
    omega (arith, few, before)

pub loop-at-preserved : goal.loop-at-preserved
loop-at-preserved c =
    let m = blocks_of c.args.blocks.now.list in
    let found = c.loop-at.walk.found.keys in
    let at = c.loop-at.at in
    let i = c.loop-at.invariant in
    let here = has found at (omega (arith, c.loop-at-test.true, c.len.ensures.len)) in
    let visits = c.in_ok-follow_found.ensures here.0 here.1 in
    record {
      walked = walked_more m c.args.registers.now found _ at here.0 i.walked here.1 visits;
      done = done_more m found _ at here.0 here.1 visits i.done;
      before = let l : at < length _ = within _ at here.0 (visits.kept at here.0 here.1) in omega (arith, l);
    }

pub returns : goal.returns
returns c = all_reached (blocks_of c.args.blocks.now.list) c.args.registers.now c.loop-at.walk.found.keys c.loop-at.at (omega (arith, c.loop-at-test.false, c.len.ensures.len)) c.loop-at.invariant.walked c.loop-at.invariant.done
