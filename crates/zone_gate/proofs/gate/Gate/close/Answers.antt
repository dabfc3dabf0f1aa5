use Rattle.std.proofs.Common.{rules, ◌≡◌, All, Contains, sym, ap, subst, ◌∙◌}
use Rattle.zone_gate.proofs.Ends.{closing, ends_as, ends_full}
use Rattle.zone_gate.proofs.Gathers.{all_front, none_left, seat_view}
use Rattle.zone_gate.proofs.gate.Gate.close.Goals as goal

pub unreachable-requires : goal.unreachable-requires
unreachable-requires g c = none_left c.args.self.threads c.args.seats.items (search rules) (search rules) c.requires.all

pub unite_all-requires-clause-gate : goal.unite_all-requires-clause-gate
unite_all-requires-clause-gate g c k d l = all_front (λ s. s.gate ≡ c.args.self.id) _ _ c.in-Some.first c.in-Some.ensures.items (λ i e m. (c.requires.of i e m).0) k d l ∙ ap (λ s. s.id) (sym c.self.view_is)

pub unreachable-requires-in_default-value : goal.unreachable-requires-in_default-value
unreachable-requires-in_default-value g c =
    let first = seat_view c.first.inside.badge.views _ _ c.first.inside.thread _ c.in-Some.first c.first.invariant c.into_seat-token.ensures.2 (sym c.first.view_is) in
    ends_full g.V.Kept.list g.V.Kept.chosen _ _ _ _ _
    (closing g.V.Kept.list g.V.Kept.chosen _ _ _ _ _ _ _ _ c.in-Some.first _ _ (ap (λ s. s.threads) c.self.view_is) first c.unite_all.ensures.seen c.unite_all.ensures.own c.unite_all.ensures.knows c.in-Some.ensures.items c.unite_all.ensures.same.1.view
    c.requires.all c.close_with-closed.ensures.values.2) c.take-value.ensures.value c.in_default-value.is

pub returns : goal.returns
returns g c =
    let first = seat_view c.first.inside.badge.views _ _ c.first.inside.thread _ c.in-Some.first c.first.invariant c.into_seat-token.ensures.2 (sym c.first.view_is) in
    let known = ends_as g.V.Kept.list g.V.Kept.chosen _ _ _ _ _ _
    (closing g.V.Kept.list g.V.Kept.chosen _ _ _ _ _ _ _ _ c.in-Some.first _ _ (ap (λ s. s.threads) c.self.view_is) first c.unite_all.ensures.seen c.unite_all.ensures.own c.unite_all.ensures.knows c.in-Some.ensures.items c.unite_all.ensures.same.1.view
    c.requires.all c.close_with-closed.ensures.values.2) c.take-value.ensures.value c.in-Some-value.is in
    record {
      begins = known.begins;
      own = known.own;
      others = subst (λ ts. All (λ e. Contains ts e.thread) (g.V.Kept.list c.in-Some-value.value)) (ap (λ s. s.threads) c.self.view_is) known.others;
      options = known.options_are ∙ ap (λ s. s.options) c.self.view_is;
    }
