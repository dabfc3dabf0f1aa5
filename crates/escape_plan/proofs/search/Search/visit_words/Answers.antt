use Rattle.std.proofs.Common.{◌≡◌, ◌∙◌, Some, length, ap, refl, arith}
use Rattle.std.proofs.lemmas.Option.{slice_get_read}
use Rattle.std.proofs.lemmas.List.{length-map}
use Rattle.zone_model.specs.State.{referent}
use Rattle.local_set.specs.LocalSets.{blocks_of}
use Rattle.local_set.specs.Walks.{referents_of}
use Rattle.local_set.proofs.Walks.{visited_none, visited_more, visited_all, next_referent}
use Rattle.escape_plan.specs.declared.search.Search.{Search}
use Rattle.escape_plan.proofs.search.Search.visit_words.Goals as goal

pub loop-word-init : goal.loop-word-init
loop-word-init c = record { rest = refl; visited = visited_none (blocks_of c.args.local.now.blocks) c.args.self.now.found.keys (referents_of c.args.words.now) }

pub loop-word-preserved : goal.loop-word-preserved
loop-word-preserved c =
    let ws = c.args.words.now in
    let i = c.loop-word.word-index in
    let w = c.word-item.result in
    record {
      rest = c.in_ok-visit_word.ensures.rest ∙ ap (λ (s : Search). record s { found = c.visit_word.new.self.found }) c.loop-word.invariant.rest;
      visited = visited_more (blocks_of c.args.local.now.blocks) c.args.self.now.found.keys _ _ (referents_of ws) i (referent (Some w)) c.loop-word.invariant.visited (next_referent ws i w (slice_get_read ws (length ws) i w refl c.loop-word-test.true c.word-item.is)) c.in_ok-visit_word.ensures.visits;
    }

pub returns-in_err-visit_word-clause-rest : goal.returns-in_err-visit_word-clause-rest
returns-in_err-visit_word-clause-rest c = c.visit_word.ensures.rest ∙ ap (λ (s : Search). record s { found = c.visit_word.new.self.found }) c.loop-word.invariant.rest

pub returns-clause-visits : goal.returns-clause-visits
returns-clause-visits c =
    let same : length (referents_of c.args.words.now) ≡ length c.args.words.now = length-map c.args.words.now (λ w. referent (Some w)) in
    visited_all (blocks_of c.args.local.now.blocks) c.args.self.now.found.keys _ (referents_of c.args.words.now) c.loop-word.word-index (let past = c.loop-word-test.false in omega (arith, same, past)) c.loop-word.invariant.visited
