use Rattle.std.proofs.Common.{ℕ, sym, ap, subst, Contains, map, All}
use Rattle.zone_history.specs.Journals.{Recorded}
use Rattle.zone_gate.specs.Shown.{SeatShown, IsSeatOf}
use Rattle.auto_zone.proofs.Seats.{closed_by}
use Rattle.auto_zone.proofs.zone.Zone.close.Goals as goal

pub close-core-requires-clause-of : goal.close-core-requires-clause-of
close-core-requires-clause-of c = subst (All (λ (s : SeatShown). IsSeatOf c.self.inside.gate s)) (sym c.seats_of.ensures) (rw (← c.self.view_is) at c.requires.of)

pub close-core-requires-clause-all : goal.close-core-requires-clause-all
close-core-requires-clause-all c = subst (λ ss. (t : ℕ) → Contains c.self.inside.gate.threads t → Contains (map (λ (s : SeatShown). s.thread) ss) t) (sym c.seats_of.ensures)
    (rw (← c.self.view_is) at c.requires.all)

pub returns : goal.returns
returns c = closed_by c.args.self.options c.close-core.result.heap.options c.args.self.threads c.args.ended.items c.seats_of.result.items c.ended-journal.result.0.entries c.close-core.result.journal.entries c.ended-journal.result.1
    (rw (← c.self.view_is) c.close-core.ensures.options) c.seats_of.ensures (ap (λ (j : Recorded). j.entries) c.ended-journal.ensures.journal) c.ended-journal.ensures.legal c.close-core.ensures.begins c.close-core.ensures.own (rw (← c.self.view_is) c.close-core.ensures.others) c.ended-journal.ensures.stats
