use Rattle.std.proofs.Common.{sym, ap, subst, ◌∙◌, position}
use Rattle.play_core.specs.Worlds.{seen}
use Rattle.play_order.specs.Playing.{IsTold}
use Rattle.play_core.proofs.Sets.{is_of, threads_set}
use Rattle.play_core.proofs.Keeping.{Moves, moves_of, keeps_on}
use Rattle.play_core.proofs.Cycles.{ok_stays, err_stays}
use Rattle.play_core.proofs.Stepping.{IsAt, at_call, at_running, has_place, options_are, told, step_ok, step_err, world_of, waits_is, may_at}
use Rattle.play_core.proofs.world.World.step.Goals as goal

is_at : (c : goal.After-turn-arg-1) → IsAt c.self.inside.core c.self.inside.locals.items c.args.thread c.in-Some.at c.index_mut.result.now
is_at c = at_call c.self.inside.core c.self.inside.locals.items c.deref.result.now c.args.thread c.in-Some.at c.index_mut.result.now c.place_of.result c.deref.ensures.value c.place_of.ensures c.in-Some.is c.index_mut.ensures.value

was_at : (c : goal.After-self-1) → IsAt c.self.inside.core c.self.inside.locals.items c.args.thread c.in-Some.at c.index_mut.result.now
was_at c = at_call c.self.inside.core c.self.inside.locals.items c.deref.result.now c.args.thread c.in-Some.at c.index_mut.result.now c.place_of.result c.deref.ensures.value c.place_of.ensures c.in-Some.is c.index_mut.ensures.value

moves : (c : goal.After-self-1) → Moves c.index_mut.result.now c.turn.new.local c.self.inside.core c.turn.new.core
moves c =
    let belongs = c.self.invariant.belongs c.in-Some.at c.index_mut.result.now (was_at c).here in
    moves_of c.turn.result c.index_mut.result.now c.turn.new.local c.self.inside.core c.turn.new.core c.args.call.now c.options-options.ensures.state belongs c.turn.ensures.ok c.turn.ensures.err

pub unreachable-requires : goal.unreachable-requires
unreachable-requires c =
    has_place c.self.inside.core c.self.inside.locals.items c.args.thread (rw (← c.self.view_is) at c.requires.running) (ap (position (is_of c.args.thread)) (sym c.deref.ensures.value) ∙ sym c.place_of.ensures ∙ c.in_default.is)

pub turn-requires-clause-belongs : goal.turn-requires-clause-belongs
turn-requires-clause-belongs c = c.self.invariant.belongs c.in-Some.at c.index_mut.result.now (is_at c).here

pub turn-requires-clause-running : goal.turn-requires-clause-running
turn-requires-clause-running c = at_running c.self.inside.core c.self.inside.locals.items c.args.thread c.in-Some.at c.index_mut.result.now (is_at c) (rw (← c.self.view_is) at c.requires.running)

pub turn-requires-clause-pending : goal.turn-requires-clause-pending
turn-requires-clause-pending c =
    let options = options_are c.self.inside.core c.index_mut.result.now c.options-options.ensures.state (c.self.invariant.belongs c.in-Some.at c.index_mut.result.now (is_at c).here) in
    rw (options) c.self.invariant.pending

pub turn-requires-clause-may : goal.turn-requires-clause-may
turn-requires-clause-may c = may_at c.self.inside.core c.self.inside.locals.items c.index_mut.result.now.thread c.args.thread c.args.call.now (is_at c).thread (rw (← c.self.view_is) at c.requires.may)

pub invariant_of-self : goal.invariant_of-self
invariant_of-self c =
    keeps_on c.self.inside.core c.turn.new.core c.self.inside.locals.items c.in-Some.at c.index_mut.result.now c.turn.new.local c.self.invariant (was_at c).here (moves c)

pub returns-clause-told : goal.returns-clause-told
returns-clause-told c =
    let is = was_at c in
    rw (← c.self.view_is) (subst (IsTold (seen (world_of c.self.inside.core c.self.inside.locals.items))) is.thread (told c.self.inside.core c.self.inside.locals.items c.in-Some.at c.index_mut.result.now c.options-options.ensures.state c.self.invariant is.here))

pub returns-clause-ok : goal.returns-clause-ok
returns-clause-ok c =
    let is = was_at c in
    rw (← c.self.view_is) (step_ok c.self.inside.core c.turn.new.core c.self.inside.locals.items c.in-Some.at c.index_mut.result.now c.turn.new.local c.self.invariant is.here (moves c) c.options-options.ensures.state c.args.thread is.thread c.turn.result c.args.call.now c.turn.ensures.ok)

pub returns-clause-err : goal.returns-clause-err
returns-clause-err c =
    let is = was_at c in
    rw (← c.self.view_is) (step_err c.self.inside.core c.turn.new.core c.self.inside.locals.items c.in-Some.at c.index_mut.result.now c.turn.new.local c.self.invariant is.here (moves c) c.options-options.ensures.state c.args.thread is.thread c.turn.result c.turn.ensures.err)

pub returns-clause-sure : goal.returns-clause-sure
returns-clause-sure c =
    let l = c.index_mut.result.now in
    rw (← c.self.view_is) (λ closing out. c.turn.ensures.sure closing (sym (waits_is (world_of c.self.inside.core c.self.inside.locals.items) c.args.thread l (was_at c).found) ∙ out))

pub returns-clause-cycle : goal.returns-clause-cycle
returns-clause-cycle c =
    let belongs = c.self.invariant.belongs c.in-Some.at c.index_mut.result.now (was_at c).here in
    rw (← c.self.view_is) (ok_stays c.index_mut.result.now c.turn.new.local c.self.inside.core c.turn.new.core c.options-options.ensures.state belongs c.turn.result c.args.call.now c.turn.ensures.ok)

pub returns-clause-refused : goal.returns-clause-refused
returns-clause-refused c =
    let belongs = c.self.invariant.belongs c.in-Some.at c.index_mut.result.now (was_at c).here in
    rw (← c.self.view_is) (err_stays c.index_mut.result.now c.turn.new.local c.self.inside.core c.turn.new.core c.options-options.ensures.state belongs c.turn.result c.turn.ensures.err)

pub returns-clause-legal : goal.returns-clause-legal
returns-clause-legal c = let is = c.turn.ensures.state in (is.0, is.1.ends)

pub returns-clause-threads : goal.returns-clause-threads
returns-clause-threads c =
    rw (← c.self.view_is) (threads_set c.self.inside.locals.items c.in-Some.at c.index_mut.result.now c.turn.new.local (was_at c).here (moves c).thread)
