use Rattle.std.proofs.Common.{◌≡◌, ◌∷◌, ◌++◌, ◌∙◌, [], drop, length, sym, ap, subst}
use Rattle.zone_model.specs.History.{entries_of}
use Rattle.zone_gate.specs.Tokens.{entries_in, view_in}
use Rattle.zone_gate.proofs.Begins.{own_grows}
use Rattle.zone_gate.proofs.Lives.{within_both, within_none}
use Rattle.zone_gate.proofs.gate.Gate.give_back.Goals as goal

pub then-cuts-requires : goal.then-cuts-requires
then-cuts-requires g c κs within = search (within_both, within_none, within) depth 14

pub returns-clause-own : goal.returns-clause-own
returns-clause-own g c =
    let list = g.V.Kept.list in
    let held = c.args.held in
    let mine : held.own ≡ entries_of held.thread (list held.was) = subst (λ h. h.own ≡ entries_of h.thread (list h.was)) c.held.view_is c.held.invariant.mine in
    ap (λ vs. entries_in (view_in vs).own) (c.into_badge.ensures.2 ∙ ap (λ m. m.0 ∷ []) c.put_back.ensures.rest)
    ∙ (ap (λ h. entries_of h.thread (list h.value)) c.held.view_is
    ∙ (own_grows held.thread (list held.was) (list held.value) c.requires.grew.0 c.requires.grew.1 c.requires.grew.2 ∙ ap (λ l. l ++ drop (length (list held.was)) (list held.value)) (sym mine)))
