-- Histories that go on by one step, and the entries that a list of calls matches
use Rattle.std.proofs.Common.{◌≡◌, List, [], ◌∷◌, ◌++◌, map, refl, ap, subst}
use Rattle.zone_model.specs.declared.act.Act.TheVariants as act
use Rattle.zone_model.specs.declared.call.Call.{Call}
use Rattle.zone_model.specs.declared.call.Call.TheVariants as call
use Rattle.zone_model.specs.declared.entry.Entry.{Entry}
use Rattle.zone_model.specs.State.{State}
use Rattle.zone_model.specs.Step.{Step}
use Rattle.zone_model.specs.History.{Run, Matches, calls_of}

-- a run goes on by one step
pub run_more : (z : State) (es : List Entry) (mid : State) (e : Entry) (after : State) → Run z es mid → Step mid e after → Run z (es ++ e ∷ []) after
run_more z [] mid e after r s = (after, subst (λ y. Step y e after) r s, refl)
run_more z (d ∷ es) mid e after r s = (r.0, r.1, run_more r.0 es mid e after r.2 s)

calls_head : (e : Entry) (es : List Entry) (c : Call) (cs : List Call) → calls_of (e ∷ es) ≡ c ∷ cs → (e.call ≡ c) × (calls_of es ≡ cs)
calls_head e es c cs h = (cc, cc)

-- entries with these calls and a last Leave match the lines that ask for these calls
pub matches_calls : (es : List Entry) (cs : List Call) → calls_of es ≡ cs ++ call.Leave ∷ [] → Matches es (map act.Call cs)
matches_calls es [] h = h
matches_calls [] (c ∷ cs) h = cc
matches_calls (e ∷ es) (c ∷ cs) h =
    let parts = calls_head e es c (cs ++ call.Leave ∷ []) h in
    (e ∷ [], es, refl, ap (λ x. x ∷ []) parts.0, matches_calls es cs parts.1)
