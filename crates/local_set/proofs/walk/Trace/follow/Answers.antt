use Rattle.std.proofs.Common.{Some, length, refl, arith, ◌≡◌}
use Rattle.std.proofs.lemmas.Option.{slice_get_read}
use Rattle.std.proofs.lemmas.List.{length-map}
use Rattle.zone_model.specs.State.{referent}
use Rattle.local_set.specs.LocalSets.{blocks_of}
use Rattle.local_set.specs.Walks.{referents_of}
use Rattle.local_set.proofs.Walks.{visited_none, visited_more, visited_all, word_visits, next_referent}
use Rattle.local_set.proofs.walk.Trace.follow.Goals as goal

pub loop-word-init : goal.loop-word-init
loop-word-init c = visited_none (blocks_of c.args.blocks.now.list) c.args.self.now.found.keys (referents_of c.args.words.now)

pub loop-word-preserved : goal.loop-word-preserved
loop-word-preserved c =
    let ws = c.args.words.now in
    let i = c.loop-word.word-index in
    let w = c.word-item.result in
    visited_more (blocks_of c.args.blocks.now.list) c.args.self.now.found.keys _ _ (referents_of ws) i (referent (Some w)) c.loop-word.invariant (next_referent ws i w (slice_get_read ws (length ws) i w refl c.loop-word-test.true c.word-item.is))
    (word_visits (blocks_of c.args.blocks.now.list) _ _ w c.referent.result c.referent.ensures c.in_ok-visit.ensures)

pub returns : goal.returns
returns c =
    let same : length (referents_of c.args.words.now) ≡ length c.args.words.now = length-map c.args.words.now (λ w. referent (Some w)) in
    visited_all (blocks_of c.args.blocks.now.list) c.args.self.now.found.keys _ (referents_of c.args.words.now) c.loop-word.word-index (let past = c.loop-word-test.false in omega (arith, same, past)) c.loop-word.invariant
