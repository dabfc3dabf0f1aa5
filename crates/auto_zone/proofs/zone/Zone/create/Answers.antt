use Rattle.std.proofs.Common.{◌≡◌, ◌∙◌, sym, ap, subst, All, map}
use Rattle.zone_gate.specs.Shown.{SeatShown, new_seat}
use Rattle.auto_zone.proofs.Seats.{all_new}
use Rattle.auto_zone.proofs.zone.Zone.create.Goals as goal

pub sessions_of-sessions-requires-clause-seats : goal.sessions_of-sessions-requires-clause-seats
sessions_of-sessions-requires-clause-seats c =
    let seats = c.in_ok-gate.ensures.seats ∙ ap (λ o. map (new_seat c.in_ok-gate.gate.id o) c.args.threads.now) (c.in_ok-gate.ensures.gate.0 ∙ c.in_ok-core.ensures.options) in
    subst (All (λ (s : SeatShown). s ≡ new_seat s.gate c.args.options s.thread)) (sym seats) (all_new c.in_ok-gate.gate.id c.args.options c.args.threads.now)
