use Rattle.std.proofs.Common.{◌≡◌, Some, refl, sym, ap, subst, ◌∙◌}
use Rattle.zone_gate.specs.Shown.{IsSeatOf, SeatShown}
use Rattle.auto_zone.specs.Shown.{seat_in}
use Rattle.auto_zone.specs.Sessions.{Always}
use Rattle.auto_zone.proofs.Meeting.{met_first, met_second}
use Rattle.auto_zone.proofs.session.Session.meet.Goals as goal

pub invariant_of-self : goal.invariant_of-self
invariant_of-self c =
    let here : c.self.inside.seat ≡ Some c.in-Some.one = sym c.take.ensures.value ∙ c.in-Some.is in
    let there : c.other.inside.seat ≡ Some c.in-Some-take.two = sym c.take-2.ensures.value ∙ c.in-Some-take.is in
    let one : IsSeatOf c.args.zone.now (seat_in c.self.inside.seat) = rw (← c.self.view_is) at c.requires.one in
    let two : IsSeatOf c.args.zone.now (seat_in c.other.inside.seat) = rw (← c.other.view_is) at c.requires.two in
    let same : (seat_in c.self.inside.seat).options ≡ (seat_in c.other.inside.seat).options = one.1 ∙ sym two.1 in (
      refl,
      met_first c.in-Some.one c.in-Some-take.two c.meet.new.a c.self.inside.local c.other.inside.local
          (subst (λ o. Always (seat_in o) c.self.inside.local) here c.self.invariant.1) (subst (λ o. Always (seat_in o) c.other.inside.local) there c.other.invariant.1)
          (sym (ap (λ o. (seat_in o).options) here) ∙ same ∙ ap (λ o. (seat_in o).options) there)
          c.meet.ensures.a c.meet.ensures.begins.0 c.meet.ensures.own.0,
    )

pub invariant_of-other : goal.invariant_of-other
invariant_of-other c =
    let here : c.self.inside.seat ≡ Some c.in-Some.one = sym c.take.ensures.value ∙ c.in-Some.is in
    let there : c.other.inside.seat ≡ Some c.in-Some-take.two = sym c.take-2.ensures.value ∙ c.in-Some-take.is in
    let one : IsSeatOf c.args.zone.now (seat_in c.self.inside.seat) = rw (← c.self.view_is) at c.requires.one in
    let two : IsSeatOf c.args.zone.now (seat_in c.other.inside.seat) = rw (← c.other.view_is) at c.requires.two in
    let same : (seat_in c.self.inside.seat).options ≡ (seat_in c.other.inside.seat).options = one.1 ∙ sym two.1 in (
      refl,
      met_second c.in-Some.one c.in-Some-take.two c.meet.new.b c.meet.new.a c.self.inside.local c.other.inside.local
          (subst (λ o. Always (seat_in o) c.self.inside.local) here c.self.invariant.1) (subst (λ o. Always (seat_in o) c.other.inside.local) there c.other.invariant.1)
          (sym (ap (λ o. (seat_in o).options) here) ∙ same ∙ ap (λ o. (seat_in o).options) there)
          c.meet.ensures.b (ap (λ (x : SeatShown). x.seen) c.meet.ensures.a) c.meet.ensures.begins.1 c.meet.ensures.own.1,
    )
