use Rattle.std.proofs.Common.{◌≡◌, ◌∙◌, Some, Option, length, ap, refl, arith, option_map}
use Rattle.std.proofs.lemmas.Option.{slice_get_read, slice_get-map}
use Rattle.std.proofs.lemmas.List.{length-map}
use Rattle.az_base.specs.declared.block_id.BlockId.{BlockId}
use Rattle.local_set.specs.LocalSets.{blocks_of}
use Rattle.local_set.proofs.Walks.{visited_none, visited_more, visited_all}
use Rattle.escape_plan.specs.declared.search.Search.{Search}
use Rattle.escape_plan.specs.Searching.{each_of}
use Rattle.escape_plan.proofs.search.Search.begin.Goals as goal

pub loop-id-init : goal.loop-id-init
loop-id-init c = record { rest = refl; visited = visited_none (blocks_of c.args.local.now.blocks) c.args.self.now.found.keys (each_of c.args.first.now) }

pub loop-id-preserved : goal.loop-id-preserved
loop-id-preserved c =
    let ids = c.args.first.now in
    let i = c.loop-id.id-index in
    let id = c.id-item.result in
    let at = slice_get_read ids (length ids) i id refl c.loop-id-test.true c.id-item.is in
    record {
      rest = c.in_ok-visit.ensures.rest ∙ ap (λ (s : Search). record s { found = c.visit.new.self.found }) c.loop-id.invariant.rest;
      visited = visited_more (blocks_of c.args.local.now.blocks) c.args.self.now.found.keys _ _ (each_of ids) i (Some id) c.loop-id.invariant.visited (slice_get-map (λ (b : BlockId). Some b) ids i ∙ ap (option_map (λ (b : BlockId). Some b)) at) c.in_ok-visit.ensures.visits;
    }

pub returns-in_err-visit-clause-rest : goal.returns-in_err-visit-clause-rest
returns-in_err-visit-clause-rest c = c.visit.ensures.rest ∙ ap (λ (s : Search). record s { found = c.visit.new.self.found }) c.loop-id.invariant.rest

pub returns-clause-visits : goal.returns-clause-visits
returns-clause-visits c =
    let same : length (each_of c.args.first.now) ≡ length c.args.first.now = length-map c.args.first.now (λ b. Some b) in
    visited_all (blocks_of c.args.local.now.blocks) c.args.self.now.found.keys _ (each_of c.args.first.now) c.loop-id.id-index (let past = c.loop-id-test.false in omega (arith, same, past)) c.loop-id.invariant.visited
