use Rattle.std.proofs.Common.{◌≡◌, ◌≤◌, length, refl, sym, ap, subst, ◌∙◌, arith}
use Rattle.zone_model.specs.declared.call.Call.TheVariants as call
use Rattle.shared_heap.specs.Cycles.{IsMarking}
use Rattle.shared_heap.specs.Shared.{Shared}
use Rattle.shared_heap.specs.Stands.{Stands}
use Rattle.shared_heap.proofs.Leaving.{leaves_holds}
use Rattle.zone_escape.proofs.Advancing.{serves, advanced}
use Rattle.zone_escape.proofs.Closing.{LeavesLess, condemned_few, condemned_is, condemned_less, marking_rooms}
use Rattle.zone_escape.proofs.Lent.{can_lend, lent_marking, lent_stands, of_cycle}
use Rattle.zone_escape.proofs.cycles.condemn.Goals as goal

pub lend_room-room-requires : goal.lend_room-room-requires
lend_room-room-requires c =
    let h = c.args.heap.now in
    let m = c.requires.goes in
    let rooms : m.0.rooms ≡ 3 = marking_rooms h c.args.local.now.thread m c.requires.lists in
    record { rooms = can_lend h m.0 m.1.0 (omega (arith, rooms)) }

pub condemn-reply-requires : goal.condemn-reply-requires
condemn-reply-requires c =
    let h = c.args.heap.now in
    let g = c.lend_room-room.new.self in
    let t = c.args.local.now.thread in
    record { marking = subst (IsMarking g) (sym c.thread.ensures) (subst (λ (s : Shared). IsMarking s t) (sym c.lend_room-room.ensures.value) (lent_marking h t c.requires.goes)) }

pub fill-requires-clause-room : goal.fill-requires-clause-room
fill-requires-clause-room c =
    let h = c.args.heap.now in
    let m = c.requires.goes in
    let spare = c.lend_room-room.result.spare in
    let few = condemned_few h c.condemn-reply.new.self c.args.local.now.thread m c.requires.lists c.in-Condemned.ids.list (condemned_is h c.lend_room-room.new.self c.condemn-reply.new.self c.condemn-reply.result c.in-Condemned.ids c.lend_room-room.ensures.value c.in-Condemned.is c.condemn-reply.ensures.after) in
    let room : length m.0.start ≤ spare = of_cycle h m.0 (λ g. length g.start ≤ spare) m.1.0 c.lend_room-room.ensures.room in
    let same : length c.as_slice.result.now ≡ length c.in-Condemned.ids.list = ap (λ ids. length ids) c.as_slice.ensures in
    omega (arith, few, room, same)

pub returns-clause-makes : goal.returns-clause-makes
returns-clause-makes c =
    let l = c.args.local.now in
    let h = c.args.heap.now in
    let g = c.lend_room-room.new.self in
    let k = c.condemn-reply.new.self in
    let value = c.lend_room-room.ensures.value in
    let is = (condemned_is h c.lend_room-room.new.self c.condemn-reply.new.self c.condemn-reply.result c.in-Condemned.ids c.lend_room-room.ensures.value c.in-Condemned.is c.condemn-reply.ensures.after).is in
    let can = c.requires.can in
    advanced l h call.Condemn can k c.condemn-reply.result c.thread.result c.thread.ensures refl (ap (λ (s : Shared). s.room) is ∙ can.together.1.room) (ap (λ (s : Shared). s.options) is)
    (λ z t range. c.condemn-reply.ensures.step z (serves l h call.Condemn can g c.thread.result c.thread.ensures (λ y s. subst (λ (x : Shared). Stands x y) (sym value) (lent_stands h y s)) (ap (λ (s : Shared). s.holds) value) z t range))
    (λ z a t step. leaves_holds h k z a l.thread call.Condemn c.condemn-reply.result tt t.heap.sound t.heap.holds (ap (λ (s : Shared). s.holds) is) step)

-- one entry less, at least, is still to come
less : (c : goal.After-fill) → LeavesLess c.args.heap.now c.condemn-reply.new.self
less c = let h = c.args.heap.now in condemned_less h c.condemn-reply.new.self c.args.local.now.thread c.requires.goes c.requires.lists c.in-Condemned.ids.list (condemned_is h c.lend_room-room.new.self c.condemn-reply.new.self c.condemn-reply.result c.in-Condemned.ids c.lend_room-room.ensures.value c.in-Condemned.is c.condemn-reply.ensures.after)

pub returns-clause-left : goal.returns-clause-left
returns-clause-left c = (less c).left

pub returns-clause-closing : goal.returns-clause-closing
returns-clause-closing c = (less c).closing

pub returns-clause-lists : goal.returns-clause-lists
returns-clause-lists c = (less c).lists
