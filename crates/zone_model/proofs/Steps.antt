-- Steps from their parts, and their parts from steps
use Rattle.std.proofs.Common.{◌≡◌, Bool, true, false, MatchOption, Option, Some, None, IsTrue, refl, sym, ap, subst, ◌∙◌}
use Rattle.std.specs.Option.{option_map}
use Rattle.std.specs.FinMap.{get, same_map}
use Rattle.az_base.specs.declared.block_id.BlockId.{BlockId}
use Rattle.az_base.specs.declared.misuse.Misuse.{Misuse}
use Rattle.az_base.specs.Ids.{id_cmp, ids_total, exact_ids}
use Rattle.zone_model.specs.declared.entry.Entry.{Entry}
use Rattle.zone_model.specs.declared.entry.Reply.TheVariants as reply
use Rattle.zone_model.proofs.MapLaws.{get-map_values}
use Rattle.zone_model.specs.State.{State, moment}
use Rattle.zone_model.specs.Escape.{Need, Tells, with_escaped}
use Rattle.zone_model.specs.Misuses.{misuse_of}
use Rattle.zone_model.specs.Step.{Step, Happens, seen_now, with_moment}

mapped_to_itself : {X : Type 0} (o : Option X) → option_map (λ x. x) o ≡ o
mapped_to_itself None = refl
mapped_to_itself (Some x) = refl

-- where nothing escapes, nothing changes
pub none_escaped : (z : State) → with_escaped z (λ _. false) ≡ z
none_escaped z = ap (λ m. record z { blocks = m }) (same_map ids_total exact_ids _ _ (λ q. get-map_values id_cmp _ exact_ids z.blocks q ∙ mapped_to_itself (get z.blocks q)))

no_test : (b : Bool) → (IsTrue b → ⊥) → b ≡ false
no_test true h = absurd (h refl)
no_test false h = refl

-- the test of the empty set
pub tells_none : (need : BlockId → Bool) (P : BlockId → Type 0) → Tells need P → ((id : BlockId) → P id → ⊥) → need ≡ (λ _. false)
tells_none need P tells none i id = no_test (need id) (λ h. none id ((tells id).0 h)) i

-- the step of a call that is no misuse and makes nothing escape
pub step_plain : (z : State) (e : Entry) (after : State) → z.ended e.thread ≡ false → ((id : BlockId) → Need z e.thread e.call id → ⊥)
    → misuse_of z e.thread e.call (λ _. false) ≡ None → Happens z e.thread e.call e.reply after → Step z e after
step_plain z e after running none right happens = record {
  running = running;
  need = λ _. false;
  needed = λ id. (λ h. cc, λ n. absurd (none id n));
  does = subst (λ (m : Option Misuse). MatchOption m (Happens (with_escaped z (λ _. false)) e.thread e.call e.reply after) (λ m. (e.reply ≡ reply.Misuse m) × (after ≡ z))) (sym right) (subst (λ y. Happens y e.thread e.call e.reply after) (sym (none_escaped z)) happens);
}

-- the step of a misuse that makes nothing escape
pub step_misuse : (z : State) (e : Entry) (m : Misuse) → z.ended e.thread ≡ false → ((id : BlockId) → Need z e.thread e.call id → ⊥)
    → misuse_of z e.thread e.call (λ _. false) ≡ Some m → e.reply ≡ reply.Misuse m → Step z e z
step_misuse z e m running none wrong says = record {
  running = running;
  need = λ _. false;
  needed = λ id. (λ h. cc, λ n. absurd (none id n));
  does = subst (λ (o : Option Misuse). MatchOption o (Happens (with_escaped z (λ _. false)) e.thread e.call e.reply z) (λ m. (e.reply ≡ reply.Misuse m) × (z ≡ z))) (sym wrong) (says, refl);
}

-- what such a step is
pub plain_happens : (z : State) (e : Entry) (after : State) → Step z e after → ((id : BlockId) → Need z e.thread e.call id → ⊥)
    → misuse_of z e.thread e.call (λ _. false) ≡ None → Happens z e.thread e.call e.reply after
plain_happens z e after step none right =
    let empty_need : step.need ≡ (λ _. false) = tells_none step.need (Need z e.thread e.call) step.needed none in
    let does = subst (λ (n : BlockId → Bool). MatchOption (misuse_of z e.thread e.call n) (Happens (with_escaped z n) e.thread e.call e.reply after) (λ m. (e.reply ≡ reply.Misuse m) × (after ≡ z))) empty_need step.does in
    let happens = subst (λ (m : Option Misuse). MatchOption m (Happens (with_escaped z (λ _. false)) e.thread e.call e.reply after) (λ m. (e.reply ≡ reply.Misuse m) × (after ≡ z))) right does in
    subst (λ y. Happens y e.thread e.call e.reply after) (none_escaped z) happens

-- where no cycle is open, none sees the state
pub unseen : (z : State) → z.cycle ≡ None → seen_now z ≡ z
unseen z none = ap (λ c. record z { cycle = c }) (ap (option_map (with_moment (moment z))) none ∙ sym none)
