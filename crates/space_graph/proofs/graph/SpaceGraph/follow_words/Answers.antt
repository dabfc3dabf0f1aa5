use Rattle.std.proofs.Common.{Option, Some, None, ◌≡◌, ◌+◌, ◌-◌, ℕ, ◌∙◌, sym, subst, arith}
use Rattle.block_space.specs.Marking.{len_in}
use Rattle.space_graph.specs.Graphs.{Follows, FollowsFrom}
use Rattle.space_graph.proofs.Steps.{follows_on, len_rest}
use Rattle.space_graph.proofs.graph.SpaceGraph.follow_words.Goals as goal

pub loop-at-preserved : goal.loop-at-preserved
loop-at-preserved c =
    let g = c.args.self.now in
    let x = c.args.spot in
    let i = c.loop-at.invariant in
    let cur = c.loop-at.self in
    let j = c.in-Some.at in
    let f : FollowsFrom c.args.mode x c.loop-at.from cur c.loop-at.stack c.follow_known.new.self c.follow_known.new.stack (Some j) = c.in-Some.ensures.follows in
    let until : c.loop-at.from + (j - c.loop-at.from) ≡ j = omega (arith, f.0) in
    let one : Follows c.args.mode x (c.loop-at.from + (j - c.loop-at.from)) 1 c.follow_known.new.self c.follow_known.new.stack c.follow_lost.new.self c.follow_lost.new.stack =
    subst (λ n. Follows c.args.mode x n 1 c.follow_known.new.self c.follow_known.new.stack c.follow_lost.new.self c.follow_lost.new.stack) (sym until) c.follow_lost.ensures.follows in
    let more = follows_on c.args.mode cur c.follow_known.new.self c.follow_lost.new.self x c.loop-at.from (j - c.loop-at.from) 1 c.loop-at.stack c.follow_known.new.stack c.follow_lost.new.stack c.follow_known.ensures.rest f.3 one in
    let zero_on : 0 + c.loop-at.from ≡ c.loop-at.from = omega arith in
    let all = follows_on c.args.mode g cur c.follow_lost.new.self x 0 c.loop-at.from (j - c.loop-at.from + 1) c.args.stack.now c.loop-at.stack c.follow_lost.new.stack i.rest i.follows
    (subst (λ n. Follows c.args.mode x n (j - c.loop-at.from + 1) cur c.loop-at.stack c.follow_lost.new.self c.follow_lost.new.stack) (sym zero_on) more) in
    let sum : c.loop-at.from + (j - c.loop-at.from + 1) ≡ j + 1 = omega (arith, f.0) in
    record {
      follows = subst (λ n. Follows c.args.mode x 0 n g c.args.stack.now c.follow_lost.new.self c.follow_lost.new.stack) sum all;
      rest = c.follow_lost.ensures.rest ∙ c.follow_known.ensures.rest ∙ i.rest;
      within = (let l = len_rest cur g x i.rest in omega (arith, f.1, l));
    }

pub returns-clause-follows : goal.returns-clause-follows
returns-clause-follows c =
    let g = c.args.self.now in
    let x = c.args.spot in
    let i = c.loop-at.invariant in
    let cur = c.loop-at.self in
    let l = len_rest cur g x i.rest in
    let f : FollowsFrom c.args.mode x c.loop-at.from cur c.loop-at.stack c.follow_known.new.self c.follow_known.new.stack None =
    subst (λ (o : Option ℕ). FollowsFrom c.args.mode x c.loop-at.from cur c.loop-at.stack c.follow_known.new.self c.follow_known.new.stack o) c.in_default.is c.follow_known.ensures.follows in
    let zero_on : 0 + c.loop-at.from ≡ c.loop-at.from = omega arith in
    let all = follows_on c.args.mode g cur c.follow_known.new.self x 0 c.loop-at.from (len_in cur.space x - c.loop-at.from) c.args.stack.now c.loop-at.stack c.follow_known.new.stack i.rest i.follows
    (subst (λ n. Follows c.args.mode x n (len_in cur.space x - c.loop-at.from) cur c.loop-at.stack c.follow_known.new.self c.follow_known.new.stack) (sym zero_on) f) in
    let sum : c.loop-at.from + (len_in cur.space x - c.loop-at.from) ≡ len_in g.space x = omega (arith, i.within, l) in
    subst (λ n. Follows c.args.mode x 0 n g c.args.stack.now c.follow_known.new.self c.follow_known.new.stack) sum all
