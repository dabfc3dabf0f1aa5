use Rattle.std.proofs.Common.{◌∙◌, sym, subst}
use Rattle.zone_model.specs.declared.call.Call.TheVariants as call
use Rattle.zone_model.specs.declared.entry.Reply.TheVariants as reply
use Rattle.shared_heap.specs.Steps.{Stepped}
use Rattle.shared_heap.specs.Weak.{showing}
use Rattle.shared_heap.proofs.Weak.{assign_misused, assign_step}
use Rattle.shared_heap.proofs.heap.Heap.assign_weak.Goals as goal

pub returns-in-Some-clause-step : goal.returns-in-Some-clause-step
returns-in-Some-clause-step c = λ z l from runs sound at has_value.
    assign_misused c.args.self.now z c.args.t runs from l c.args.loc c.args.value sound c.requires.given c.requires.escaped at has_value c.in-Some.misuse (sym c.loc_misuse.ensures ∙ c.in-Some.is)

pub returns-in_ok-show-in-None-clause-step : goal.returns-in_ok-show-in-None-clause-step
returns-in_ok-show-in-None-clause-step c = λ z l from runs sound at has_value.
    subst (λ h. Stepped h z c.args.t (call.SetWeak l from) (reply.Block c.shown.result)) (sym c.in_ok-show-in-None.ensures.ok)
    (subst (λ v. Stepped (showing c.args.self.now c.args.loc v) z c.args.t (call.SetWeak l from) (reply.Block v)) (sym c.shown.ensures.value)
    (assign_step c.args.self.now z c.args.t runs from l c.args.loc c.args.value sound c.requires.given c.requires.escaped at has_value c.in_ok-show-in-None.ensures.fits (sym c.loc_misuse.ensures ∙ c.in-None.is)))
