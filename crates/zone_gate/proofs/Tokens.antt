-- The steps of a token, by what is known of it where they are made
use Rattle.std.proofs.Common.{◌≡◌, ℕ, ◌+◌, ◌%◌, ◌^◌, false, List, [], ◌∷◌, ◌++◌, length, Option, Some, None, ap, sym, ◌∙◌, subst, arith}
use mathlib.Core.Option.{none}
use Rattle.atomic_table.specs.Table.{State, Me, rest, step, Allows, Splits, Joins}
use Rattle.az_base.specs.declared.options.Options.{Options}
use Rattle.zone_model.specs.declared.entry.Entry.{Entry}
use Rattle.zone_gate.specs.declared.view.View.{View}
use Rattle.zone_gate.specs.Owning.{after_first, first_only}
use Rattle.zone_gate.specs.Rule.{RuleHolds}
use Rattle.zone_gate.specs.Shown.{GrewBy}
use Rattle.zone_gate.specs.Steps.{Draws, GivesBack, Looks}
use Rattle.zone_gate.specs.Tokens.{AtRest, IsOfThread, IsOut, entries_in}
use Rattle.zone_gate.specs.Views.{joined, resting, spent}
use Rattle.zone_gate.proofs.Sharing.{deals, joins, notes, tells}
use Rattle.zone_gate.proofs.Turning.{draws, gives_home, looks}

module _ {X : Type 0} (list_of : X → List Entry) (options_of : X → Options) (options : Options) (threads : List ℕ) where
  abbrev M : Type 0
  M = Me (Option X) View

  abbrev Rule : State (Option X) View → Type 0
  Rule = RuleHolds list_of options_of options threads

  pub token_draws : (slots id : ℕ) (me : M) (t : ℕ) → slots ≡ 1 → AtRest me → IsOfThread t me → Allows Rule slots id me 0 (λ n. (n + 1) % 2 ^ 64) (Draws list_of options_of (step slots 0 1 0 none) me)
  token_draws slots id me t sized at_rest one = subst (λ (n : ℕ). Allows Rule n id me 0 (λ n. (n + 1) % 2 ^ 64) (Draws list_of options_of (step n 0 1 0 none) me)) (sym sized)
      (draws list_of options_of options threads id me.0 me.1 (ap (λ (v : View). v.ticket) at_rest.view) (let h : length me.0.own ≡ 1 = ap length one in omega arith))

  pub token_looks : (slots id : ℕ) (me : M) (turn : ℕ) → slots ≡ 1 → me.0.ticket ≡ Some turn → me.0.holds ≡ false → Allows Rule slots id me 1 (λ n. n) (Looks list_of options_of (step slots 1 0 0 none) me)
  token_looks slots id me turn sized waits free = subst (λ (n : ℕ). Allows Rule n id me 1 (λ n. n) (Looks list_of options_of (step n 1 0 0 none) me)) (sym sized) (looks list_of options_of options threads id me.0 me.1 turn waits free)

  pub token_gives : (slots id : ℕ) (old me : M) (t : ℕ) (was value : X) → slots ≡ 1 → IsOut list_of options_of t was old → options_of value ≡ options_of was → GrewBy t (list_of was) (list_of value)
      → me ≡ (old.0, (0, Some value) ∷ rest old.1) → Allows Rule slots id me 1 (λ n. (n + 1) % 2 ^ 64) (GivesBack list_of options_of (step slots 1 1 0 none) me)
  token_gives slots id old me t was value sized out chosen grew is =
      let now : me ≡ (old.0, (0, Some value) ∷ []) = is ∙ ap (λ (l : List (ℕ × Option X)). (old.0, (0, Some value) ∷ rest l)) out.slots in
      subst (λ (z : ℕ × M). Allows Rule z.0 id z.1 1 (λ n. (n + 1) % 2 ^ 64) (GivesBack list_of options_of (step z.0 1 1 0 none) z.1)) (λ i. (sym sized i, sym now i))
      (gives_home list_of options_of options threads id old.0 value t (entries_in old.0.own) grew.0 out.own out.live out.holds (grew.1 ∙ ap (λ l. l ++ grew.0) (sym out.list_is)) grew.2 (chosen ∙ out.options_are))

  pub token_tells : (slots id : ℕ) (me : M) → slots ≡ 1 → me.0.ticket ≡ None → Allows Rule slots id me 1 (λ n. n) (Looks list_of options_of (step slots 1 0 0 none) me)
  token_tells slots id me sized idle = subst (λ (n : ℕ). Allows Rule n id me 1 (λ n. n) (Looks list_of options_of (step n 1 0 0 none) me)) (sym sized) (tells list_of options_of options threads id me.0 me.1 idle)

  pub token_notes : (id : ℕ) (v : View) → v ≡ resting v.options v.seen v.own → Splits Rule id v v (record v { own = [] })
  token_notes id v rest = subst (λ (u : View). Splits Rule id u u (record u { own = [] })) (sym rest) (notes list_of options_of options threads id v.options v.seen v.own)

  pub token_deals : (id : ℕ) (v : View) → v ≡ resting v.options v.seen v.own → Splits Rule id v (record v { own = after_first v.own }) (record v { own = first_only v.own })
  token_deals id v rest = subst (λ (u : View). Splits Rule id u (record u { own = after_first u.own }) (record u { own = first_only u.own })) (sym rest) (deals list_of options_of options threads id v.options v.seen v.own)

  pub token_joins : (id : ℕ) (v : View) (other : ℕ) (w : View) → v ≡ resting v.options v.seen v.own → w ≡ resting w.options w.seen w.own → Joins Rule id v other w (joined v w) spent
  token_joins id v other w rest rest' = subst (λ (z : View × View). Joins Rule id z.0 other z.1 (joined z.0 z.1) spent) (λ i. (sym rest i, sym rest' i))
      (joins list_of options_of options threads id v.options v.seen v.own other w.options w.seen w.own)
