use Rattle.std.proofs.Common.{subst, sym, ap, ◌≡◌}
use Rattle.shared_heap.specs.Cycles.{IsMarking}
use Rattle.shared_heap.specs.Shared.{Shared, with_gc}
use Rattle.shared_heap.proofs.Collecting.{marking_of}
use Rattle.zone_escape.specs.Cores.{CoreShown, IsCoreOf}
use Rattle.zone_escape.proofs.Cores.{core_legal}
use Rattle.zone_escape.proofs.Marked.{core_serves, marked}
use Rattle.zone_escape.proofs.marking.slice.Goals as goal

pub mark_slice-requires-clause-marking : goal.mark_slice-requires-clause-marking
mark_slice-requires-clause-marking g c =
    let is = c.core.invariant in
    let h = c.core.inside.heap in
    subst (IsMarking h) (sym c.thread.ensures) (marking_of h is.0 c.args.local.now.thread is.1.heap.stands (c.requires.marking is.0 (subst (λ (k : CoreShown). IsCoreOf k is.0) c.core.view_is is.1)))

pub invariant_of-core : goal.invariant_of-core
invariant_of-core g c =
    let is = c.core.invariant in
    let h = c.core.inside.heap in
    let j = c.core.inside.journal in
    let k : CoreShown = record { heap = h; journal = j } in
    let z = is.0 in
    let done = c.mark_slice.ensures in
    let stands = done.stands z (core_serves c.args.local.now k z c.thread.result c.thread.ensures (c.requires.belongs z (subst (λ (k : CoreShown). IsCoreOf k z) c.core.view_is is.1)) c.requires.running is.1) in
    (z, marked h c.mark_slice.new.self j z done.value done.cycle stands is.1)

pub returns-clause-value : goal.returns-clause-value
returns-clause-value g c =
    subst (λ (x : CoreShown). (let n : CoreShown = record { heap = c.mark_slice.new.self; journal = c.core.inside.journal } in n) ≡ record x { heap = with_gc x.heap c.mark_slice.new.self.gc }) c.core.view_is
    (ap (λ (s : Shared). (let n : CoreShown = record { heap = s; journal = c.core.inside.journal } in n)) c.mark_slice.ensures.value)

pub returns-clause-stays : goal.returns-clause-stays
returns-clause-stays g c = λ z is.
    let h = c.core.inside.heap in
    let j = c.core.inside.journal in
    let k : CoreShown = record { heap = h; journal = j } in
    let here = subst (λ (k : CoreShown). IsCoreOf k z) (sym c.core.view_is) is in
    let done = c.mark_slice.ensures in
    marked h c.mark_slice.new.self j z done.value done.cycle (done.stands z (core_serves c.args.local.now k z c.thread.result c.thread.ensures (c.requires.belongs z is) c.requires.running here)) here

pub returns-clause-state : goal.returns-clause-state
returns-clause-state g c = invariant_of-core g c

pub returns-clause-legal : goal.returns-clause-legal
returns-clause-legal g c = core_legal _ (invariant_of-core g c)
