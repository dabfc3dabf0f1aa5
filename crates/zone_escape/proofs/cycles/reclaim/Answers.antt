use Rattle.std.proofs.Common.{◌≡◌, ◌≤◌, ◌-◌, length, not, refl, sym, ap, subst, ◌∙◌, arith}
use Rattle.std.specs.FinMap.{retain_keys}
use Rattle.az_base.specs.Ids.{among}
use Rattle.zone_model.specs.declared.call.Call.TheVariants as call
use Rattle.zone_model.specs.declared.entry.Reply.{Reply}
use Rattle.zone_model.specs.Step.{Step}
use Rattle.shared_heap.specs.Cycles.{IsSettling}
use Rattle.shared_heap.specs.Shared.{Shared}
use Rattle.shared_heap.proofs.Leaving.{reclaimed_holds}
use Rattle.zone_escape.proofs.Advancing.{serves, advanced}
use Rattle.zone_escape.proofs.Closing.{LeavesLess, gone_few, kept_few, reclaim_is, reclaimed_is, reclaimed_less, settling_rooms}
use Rattle.zone_escape.proofs.Lent.{can_lend, cycle_lent, lending, of_cycle, twice_holds, twice_left, twice_settling, twice_stands}
use Rattle.zone_escape.proofs.cycles.reclaim.Goals as goal

pub lend_room-first-requires : goal.lend_room-first-requires
lend_room-first-requires c =
    let h = c.args.heap.now in
    let m = c.requires.goes.0 in
    let rooms : m.0.rooms ≡ 2 = settling_rooms h c.args.local.now.thread m c.requires.lists in
    record { rooms = can_lend h m.0 m.2.0 (omega (arith, rooms)) }

pub lend_room-second-requires : goal.lend_room-second-requires
lend_room-second-requires c =
    let h = c.args.heap.now in
    let g = c.lend_room-first.new.self in
    let m = c.requires.goes.0 in
    let left : m.0.rooms - 1 ≡ 1 = ap (λ n. n - 1) (settling_rooms h c.args.local.now.thread m c.requires.lists) in
    record { rooms = can_lend g (lending m.0) (cycle_lent h g m.0 c.lend_room-first.ensures.value m.2.0) (omega (arith, left)) }

pub reclaim-reply-requires-clause-settling : goal.reclaim-reply-requires-clause-settling
reclaim-reply-requires-clause-settling c =
    let k = c.lend_room-second.new.self in
    subst (IsSettling k) (sym c.thread.ensures) (twice_settling c.args.heap.now c.lend_room-first.new.self k c.args.local.now.thread c.lend_room-first.ensures.value c.lend_room-second.ensures.value c.requires.goes.0)

pub reclaim-reply-requires-clause-finalised : goal.reclaim-reply-requires-clause-finalised
reclaim-reply-requires-clause-finalised c = twice_left c.args.heap.now c.lend_room-first.new.self c.lend_room-second.new.self c.lend_room-first.ensures.value c.lend_room-second.ensures.value ∙ c.requires.goes.1

pub fill-requires-clause-room : goal.fill-requires-clause-room
fill-requires-clause-room c =
    let l = c.args.local.now in
    let h = c.args.heap.now in
    let g = c.lend_room-first.new.self in
    let k = c.lend_room-second.new.self in
    let once = c.lend_room-first.ensures.value in
    let then = c.lend_room-second.ensures.value in
    let m = c.requires.goes.0 in
    let z = c.requires.state.0 in
    let t = c.requires.state.1 in
    let spare = c.lend_room-first.result.spare in
    let served = serves l h call.Reclaim c.requires.can k c.thread.result c.thread.ensures (twice_stands h g k once then) (twice_holds h g k once then) z t c.requires.state.2 in
    let step = reclaim_is c.reclaim-reply.new.self z c.thread.result l.thread c.reclaim-reply.result c.in-Settled.reclaimed c.in-Settled.kept c.thread.ensures c.in-Settled.is (c.reclaim-reply.ensures.step z served) in
    let few = gone_few h z l.thread t.heap.stands t.heap.sound m c.in-Settled.reclaimed c.in-Settled.kept step.0 step.1 in
    let room : length m.0.start ≤ spare = of_cycle h m.0 (λ g. length g.start ≤ spare) m.2.0 c.lend_room-first.ensures.room in
    let same : length c.as_slice.result.now ≡ length c.in-Settled.reclaimed.list = ap (λ ids. length ids) c.as_slice.ensures in
    omega (arith, few, room, same)

pub fill-requires-2-clause-room : goal.fill-requires-2-clause-room
fill-requires-2-clause-room c =
    let l = c.args.local.now in
    let h = c.args.heap.now in
    let g = c.lend_room-first.new.self in
    let k = c.lend_room-second.new.self in
    let once = c.lend_room-first.ensures.value in
    let then = c.lend_room-second.ensures.value in
    let m = c.requires.goes.0 in
    let z = c.requires.state.0 in
    let t = c.requires.state.1 in
    let spare = c.lend_room-second.result.spare in
    let served = serves l h call.Reclaim c.requires.can k c.thread.result c.thread.ensures (twice_stands h g k once then) (twice_holds h g k once then) z t c.requires.state.2 in
    let step = reclaim_is c.reclaim-reply.new.self z c.thread.result l.thread c.reclaim-reply.result c.in-Settled.reclaimed c.in-Settled.kept c.thread.ensures c.in-Settled.is (c.reclaim-reply.ensures.step z served) in
    let few = kept_few h z l.thread t.heap.stands t.heap.sound m c.in-Settled.reclaimed c.in-Settled.kept step.0 step.1 in
    let room : length m.0.start ≤ spare = of_cycle g (lending m.0) (λ g. length g.start ≤ spare) (cycle_lent h g m.0 once m.2.0) c.lend_room-second.ensures.room in
    let same : length c.as_slice-2.result.now ≡ length c.in-Settled.kept.list = ap (λ ids. length ids) c.as_slice-2.ensures in
    omega (arith, few, room, same)

pub returns-clause-makes : goal.returns-clause-makes
returns-clause-makes c =
    let l = c.args.local.now in
    let h = c.args.heap.now in
    let g = c.lend_room-first.new.self in
    let k = c.lend_room-second.new.self in
    let n = c.reclaim-reply.new.self in
    let once = c.lend_room-first.ensures.value in
    let then = c.lend_room-second.ensures.value in
    let r = c.reclaim-reply.result in
    let gone = c.in-Settled.reclaimed in
    let kept = c.in-Settled.kept in
    let done = reclaimed_is k n r gone kept c.in-Settled.is c.reclaim-reply.ensures.after in
    let holds = twice_holds h g k once then in
    advanced l h call.Reclaim c.requires.can n r c.thread.result c.thread.ensures refl done.room (done.others.0 ∙ ap (λ (s : Shared). s.options) then ∙ ap (λ (s : Shared). s.options) once)
    (λ z t range. c.reclaim-reply.ensures.step z (serves l h call.Reclaim c.requires.can k c.thread.result c.thread.ensures (twice_stands h g k once then) holds z t range))
    (λ z a t step. reclaimed_holds h n z a l.thread gone kept t.heap.sound t.heap.holds (done.holds ∙ ap (λ m. retain_keys m (λ b. not (among gone.list b))) holds)
    (subst (λ (x : Reply). Step z (record { thread = l.thread; call = call.Reclaim; reply = x }) a) c.in-Settled.is step))

-- the cycle is closed
less : (c : goal.After-fill-2) → LeavesLess c.args.heap.now c.reclaim-reply.new.self
less c =
    let n = c.reclaim-reply.new.self in
    let done = reclaimed_is c.lend_room-second.new.self n c.reclaim-reply.result c.in-Settled.reclaimed c.in-Settled.kept c.in-Settled.is c.reclaim-reply.ensures.after in
    reclaimed_less c.args.heap.now n c.args.local.now.thread c.requires.goes.0 c.requires.goes.1 done.closed

pub returns-clause-left : goal.returns-clause-left
returns-clause-left c = (less c).left

pub returns-clause-closing : goal.returns-clause-closing
returns-clause-closing c = (less c).closing

pub returns-clause-lists : goal.returns-clause-lists
returns-clause-lists c = (less c).lists
