use Rattle.std.proofs.Common.{ap, sym, subst, ◌∙◌, position}
use Rattle.zone_model.specs.Phases.{Marking}
use Rattle.zone_escape.specs.Cores.{CoreShown}
use Rattle.play_core.proofs.Sets.{is_of}
use Rattle.play_core.proofs.Sliced.{keeps_sliced}
use Rattle.play_core.proofs.Stepping.{at_call, at_running, has_place, world_of}
use Rattle.play_core.proofs.world.World.slice.Goals as goal

pub unreachable-requires : goal.unreachable-requires
unreachable-requires g c =
    has_place c.self.inside.core c.self.inside.locals.items c.args.thread (rw (← c.self.view_is) at c.requires.running) (ap (position (is_of c.args.thread)) (sym c.deref.ensures.value) ∙ sym c.place_of.ensures ∙ c.in_default.is)

pub slice-requires-clause-belongs : goal.slice-requires-clause-belongs
slice-requires-clause-belongs g c =
    let is = at_call c.self.inside.core c.self.inside.locals.items c.deref.result.now c.args.thread c.in-Some.at c.index.result.now c.place_of.result c.deref.ensures.value c.place_of.ensures c.in-Some.is c.index.ensures in
    c.self.invariant.belongs c.in-Some.at c.index.result.now is.here

pub slice-requires-clause-running : goal.slice-requires-clause-running
slice-requires-clause-running g c =
    let is = at_call c.self.inside.core c.self.inside.locals.items c.deref.result.now c.args.thread c.in-Some.at c.index.result.now c.place_of.result c.deref.ensures.value c.place_of.ensures c.in-Some.is c.index.ensures in
    at_running c.self.inside.core c.self.inside.locals.items c.args.thread c.in-Some.at c.index.result.now is (rw (← c.self.view_is) at c.requires.running)

pub slice-requires-clause-marking : goal.slice-requires-clause-marking
slice-requires-clause-marking g c = λ z of_core.
    let is = at_call c.self.inside.core c.self.inside.locals.items c.deref.result.now c.args.thread c.in-Some.at c.index.result.now c.place_of.result c.deref.ensures.value c.place_of.ensures c.in-Some.is c.index.ensures in
    let marking = rw (← c.self.view_is) at c.requires.marking in
    subst (λ u. Marking z u) (sym is.thread) (marking z of_core.ends)

pub invariant_of-self : goal.invariant_of-self
invariant_of-self g c = keeps_sliced c.self.inside.core c.slice.new.core c.self.inside.locals.items c.options-options.ensures.state c.slice.ensures.value c.slice.ensures.stays c.self.invariant

pub returns-clause-value : goal.returns-clause-value
returns-clause-value g c = rw (← c.self.view_is) (ap (λ (k : CoreShown). world_of k c.self.inside.locals.items) c.slice.ensures.value)

pub returns-clause-ticks : goal.returns-clause-ticks
returns-clause-ticks g c = rw (← c.self.view_is) c.slice.ensures.ticks
