use Rattle.std.proofs.Common.{◌≡◌, ℕ, [], List, refl, true, false, ap, subst, sym, ◌∙◌}
use Rattle.shared_heap.specs.Ready.{with_room}
use Rattle.shared_heap.specs.Shared.{Shared}
use Rattle.local_set.specs.LocalSets.{part_in}
use Rattle.escape_plan.specs.Planning.{PlanFits, firsts, lengths_of}
use Rattle.escape_plan.proofs.Deciding.{plan_whole, heap_still, did_escape, did_not}
use Rattle.escape_plan.proofs.escaping.escape.Goals as goal

pub returns-then-not-fits-clause-ok : goal.returns-then-not-fits-clause-ok
returns-then-not-fits-clause-ok c =
    let h : Shared = c.args.heap.now in
    let plan = c.in_ok-plan.plan in
    let w = with_room h.ready c.args.object c.args.value in
    did_not c.args.local.now h c.ready.new.self c.abandon.new.heap c.args.object c.args.value plan w h.room c.requires.out c.in_ok-ready.ensures.ok c.in_ok-plan.ensures.plan
    (λ fits. let no : false ≡ true = c.if-not-fits.ensures.1 (subst (PlanFits plan) (sym c.in_ok-plan.ensures.room) fits) in cc (no))
    (c.abandon.ensures ∙ ap (λ (s : Shared). record s { room = [] }) (c.in_ok-plan.ensures.room ∙ ap (λ (s : Shared). record s { room = lengths_of (part_in c.args.local.now).blocks plan.ids }) c.in_ok-ready.ensures.ok))

pub commit-requires-clause-state : goal.commit-requires-clause-state
commit-requires-clause-state c =
    let h : Shared = c.args.heap.now in
    let t = c.requires.together.1 in (
      c.requires.together.0,
      t.local,
      heap_still h c.plan_both.new.heap c.requires.together.0 (with_room h.ready c.args.object c.args.value) _
          (c.in_ok-plan.ensures.room ∙ ap (λ (s : Shared). record s { room = lengths_of (part_in c.args.local.now).blocks c.in_ok-plan.plan.ids }) c.in_ok-ready.ensures.ok) t.heap,
    )

pub commit-requires-clause-whole : goal.commit-requires-clause-whole
commit-requires-clause-whole c =
    let plan = c.in_ok-plan.plan in
    plan_whole (part_in c.args.local.now) (firsts c.args.object c.args.value) c.ready.new.self plan c.in_ok-plan.ensures.plan (subst (PlanFits plan) c.in_ok-plan.ensures.room (c.if-not-fits.ensures.0 refl))

pub returns-clause-ok : goal.returns-clause-ok
returns-clause-ok c =
    let h : Shared = c.args.heap.now in
    let plan = c.in_ok-plan.plan in
    let w = with_room h.ready c.args.object c.args.value in
    did_escape c.args.local.now c.commit.new.local h c.ready.new.self c.commit.new.heap c.args.object c.args.value plan w h.room c.requires.out c.in_ok-ready.ensures.ok c.in_ok-plan.ensures.plan
    (subst (PlanFits plan) c.in_ok-plan.ensures.room (c.if-not-fits.ensures.0 refl))
    (λ z b is. c.commit.ensures.escaped z b (heap_still h c.plan_both.new.heap z w _ (c.in_ok-plan.ensures.room ∙ ap (λ (s : Shared). record s { room = lengths_of (part_in c.args.local.now).blocks plan.ids }) c.in_ok-ready.ensures.ok) is))
