-- A `retain` whose closure only tests leaves a filter
use Rattle.std.proofs.Common.{◌≡◌, Bool, cond, List, [], ◌∷◌, filter, ap, subst, ◌∙◌}
use Rattle.std.specs.List.Retain.{RetainsInTurn}

module _ {F X : Type 0} (R : F → X → Bool → F → X → Type 0) (p : X → Bool) (f : F) (tests : (x : X) (b : Bool) (g : F) (y : X) → R f x b g y → (b ≡ p x) × (y ≡ x) × (g ≡ f)) where
  pub filter_in_turn : (xs ys : List X) → RetainsInTurn R f xs ys → ys ≡ filter p xs
  filter_in_turn [] ys r = r
  filter_in_turn (x ∷ xs) ys (b, g, y, called, zs, more, is) =
      let t = tests x b g y called in
      let rest : zs ≡ filter p xs = filter_in_turn xs zs (subst (λ h. RetainsInTurn R h xs zs) t.2 more) in
      is ∙ ap (λ v. cond b (v ∷ zs) zs) t.1 ∙ ap (λ c. cond c (x ∷ zs) zs) t.0 ∙ ap (λ vs. cond (p x) (x ∷ vs) vs) rest
