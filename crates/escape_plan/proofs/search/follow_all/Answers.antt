use Rattle.std.proofs.Common.{◌≡◌, ◌<◌, ◌≤◌, ◌+◌, ℕ, [], ◌∷◌, List, Some, length, arith, refl, ap, subst, sym, ◌∙◌}
use Rattle.az_base.specs.declared.block_id.BlockId.{BlockId}
use Rattle.local_set.specs.LocalSets.{part_in, blocks_of}
use Rattle.local_set.specs.Walks.{VisitsAll, referents_of, words_at}
use Rattle.local_set.proofs.Lists.{within, among_of}
use Rattle.local_set.proofs.Walks.{Done, walked_first, walked_more, done_none, done_more, few_found}
use Rattle.escape_plan.specs.declared.search.Search.{Search}
use Rattle.escape_plan.specs.Searching.{each_of, with_length, IsNext}
use Rattle.escape_plan.proofs.Searching.{counts_none, counts_more, length_more, found_all}
use Rattle.escape_plan.proofs.search.follow_all.Goals as goal

pub loop-id-init : goal.loop-id-init
loop-id-init c =
    let m = blocks_of c.args.local.now.blocks in
    let s : Search = c.begin.new.self in
    let none : s.followed.items ≡ [] = ap (λ (x : Search). x.followed.items) c.in_ok-begin.ensures.rest ∙ c.new-search.ensures.followed in
    record {
      counts = counts_none m s none (ap (λ (x : Search). x.quanta) c.in_ok-begin.ensures.rest ∙ c.new-search.ensures.quanta);
      walked = walked_first m (each_of c.args.first.now) s.found.keys (subst (λ (l : List BlockId). VisitsAll m l s.found.keys (each_of c.args.first.now)) c.new-search.ensures.found c.in_ok-begin.ensures.visits);
      done = subst (λ (l : List (BlockId × ℕ)). Done m s.found.keys (length l)) (sym none) (done_none m s.found.keys);
      room = ap (λ (x : Search). x.room) c.in_ok-begin.ensures.rest ∙ c.new-search.ensures.room;
    }

pub follow-requires-clause-own : goal.follow-requires-clause-own
follow-requires-clause-own c =
    let next = subst (IsNext c.loop-id.search) c.in-Some.is c.next.ensures in
    c.loop-id.invariant.walked.own c.in-Some.id (among_of c.loop-id.search.found.keys (length c.loop-id.search.followed.items) c.in-Some.id next.1)

pub loop-id-smaller : goal.loop-id-smaller
loop-id-smaller c =
    let found = c.loop-id.search.found.keys in
    let at = length c.loop-id.search.followed.items in
    let next = subst (IsNext c.loop-id.search) c.in-Some.is c.next.ensures in
    let few : length found ≤ length c.args.local.now.blocks = few_found c.args.local.now.blocks (each_of c.args.first.now) found c.loop-id.invariant.walked in
    let before : at < length found = within found at c.in-Some.id next.1 in
    let more : length c.follow.new.self.followed.items ≡ at + 1 = ap length c.in_ok-follow.ensures.followed ∙ length_more c.loop-id.search.followed.items (with_length (part_in c.args.local.now).blocks c.in-Some.id) in
    omega (arith, few, before, more)

pub loop-id-preserved : goal.loop-id-preserved
loop-id-preserved c =
    let m = blocks_of c.args.local.now.blocks in
    let s : Search = c.loop-id.search in
    let n : Search = c.follow.new.self in
    let id = c.in-Some.id in
    let i = c.loop-id.invariant in
    let next = subst (IsNext s) c.in-Some.is c.next.ensures in
    let visits = c.in_ok-follow.ensures.visits in
    let more : length n.followed.items ≡ length s.followed.items + 1 = ap length c.in_ok-follow.ensures.followed ∙ length_more s.followed.items (with_length m id) in
    record {
      counts = counts_more m s n id i.counts next.1 visits.kept c.in_ok-follow.ensures.followed c.in_ok-follow.ensures.quanta;
      walked = walked_more m (each_of c.args.first.now) s.found.keys n.found.keys (length s.followed.items) id i.walked next.1 visits;
      done = subst (λ (k : ℕ). Done m n.found.keys k) (sym more) (done_more m s.found.keys n.found.keys (length s.followed.items) id next.1 visits i.done);
      room = c.in_ok-follow.ensures.room ∙ i.room;
    }

pub returns : goal.returns
returns c = found_all (part_in c.args.local.now) c.args.first.now c.loop-id.search c.args.room c.loop-id.invariant.room c.loop-id.invariant.counts c.loop-id.invariant.walked c.loop-id.invariant.done (subst (IsNext c.loop-id.search) c.in_default.is c.next.ensures)
