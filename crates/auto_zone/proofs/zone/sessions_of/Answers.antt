use Rattle.std.proofs.Common.{◌≡◌, ◌++◌, map, sym, ap, subst, ◌∙◌, All}
use Rattle.zone_gate.specs.Shown.{SeatShown, new_seat}
use Rattle.auto_zone.specs.Shown.{SessionShown}
use Rattle.zone_escape.specs.Cores.{IsUnused}
use Rattle.auto_zone.proofs.Locally.{new_always}
use Rattle.auto_zone.proofs.Seats.{all_head, all_tail, all_snoc, moved, room_on}
use Rattle.auto_zone.proofs.zone.sessions_of.Goals as goal

pub of-requires : goal.of-requires
of-requires c =
    let seat = all_head (λ (s : SeatShown). s ≡ new_seat s.gate c.args.options s.thread) c.loop-seat.seat-iterator.rest.items c.in-Some.seat c.next.new.self.rest.items c.in-Some.ensures.steps.0 c.loop-seat.invariant.left in
    new_always c.in-Some.seat.gate c.args.options c.in-Some.seat.thread c.in-Some.seat c.new-local.result seat (record { part = c.new-local.ensures.part; out = c.new-local.ensures.waiting; published = c.new-local.ensures.published }) (c.new-local.ensures.thread ∙ c.thread.ensures)

pub loop-seat-preserved : goal.loop-seat-preserved
loop-seat-preserved c =
    let steps = c.in-Some.ensures.steps.0 in
    let more = c.push_reserved.ensures.items in
    record {
      seats = c.loop-seat.invariant.seats ∙ ap (λ xs. map (λ (s : SessionShown). s.seat) c.loop-seat.sessions.items ++ xs) steps
          ∙ moved c.loop-seat.sessions.items c.of.result c.in-Some.seat c.next.new.self.rest.items c.of.ensures.0
          ∙ ap (λ xs. map (λ (s : SessionShown). s.seat) xs ++ c.next.new.self.rest.items) (sym more);
      unused = subst (All (λ (s : SessionShown). IsUnused s.local c.args.options)) (sym more) (all_snoc (λ (s : SessionShown). IsUnused s.local c.args.options) c.loop-seat.sessions.items c.of.result c.loop-seat.invariant.unused
          (subst (λ l. IsUnused l c.args.options) (sym c.of.ensures.1) (record { part = c.new-local.ensures.part; out = c.new-local.ensures.waiting; published = c.new-local.ensures.published })));
      room = room_on c.loop-seat.sessions.items c.of.result c.push_reserved.new.self.items c.loop-seat.seat-iterator.rest.items c.in-Some.seat c.next.new.self.rest.items _ _ more steps c.push_reserved.ensures.capacity c.loop-seat.invariant.room;
      left = all_tail (λ (s : SeatShown). s ≡ new_seat s.gate c.args.options s.thread) c.loop-seat.seat-iterator.rest.items c.in-Some.seat c.next.new.self.rest.items steps c.loop-seat.invariant.left;
    }
