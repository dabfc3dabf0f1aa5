-- Lists of views, of which one is changed or one is added
use Rattle.std.proofs.Common.{◌≡◌, ◌≢◌, ◌⊎◌, ℕ, zero, suc, ◌+◌, ◌<◌, ◌≤◌, List, [], ◌∷◌, ◌++◌, length, set, refl, ap, sym, ◌∙◌, subst, ⊎_elim, inl, inr, arith}
use mathlib.Core.Option.{some, some-injective, some-ne-none}
use lib.ListN.{get_elem?}
use Rattle.atomic_table.proofs.Lists.{at_set}
use Rattle.zone_gate.specs.declared.view.View.{View}
use Rattle.zone_gate.specs.Rule.{Apart}
use Rattle.zone_gate.specs.Views.{Shares, total}

pub at_length : {A : Type 0} (l : List A) (i : ℕ) (a : A) → get_elem? l i ≡ some a → i < length l
at_length [] i a e = absurd (some-ne-none a (sym e))
at_length (x ∷ xs) zero a e = omega arith
at_length (x ∷ xs) (suc i) a e = let h = at_length xs i a e in omega arith

pub set_swap : {A : Type 0} (l : List A) (i j : ℕ) (a b : A) → j ≢ i → set (set l i a) j b ≡ set (set l j b) i a
set_swap [] i j a b n = refl
set_swap (x ∷ xs) zero zero a b n = absurd (n refl)
set_swap (x ∷ xs) zero (suc j) a b n = refl
set_swap (x ∷ xs) (suc i) zero a b n = refl
set_swap (x ∷ xs) (suc i) (suc j) a b n = ap (λ l. x ∷ l) (set_swap xs i j a b (λ e. n (ap suc e)))

pub one_there : {A : Type 0} (l : List A) (i : ℕ) (a b : A) → get_elem? l i ≡ some a → get_elem? l i ≡ some b → a ≡ b
one_there l i a b e f = some-injective a b (sym e ∙ f)

pub total_set : (f : View → ℕ) (views : List View) (id : ℕ) (v w : View) → get_elem? views id ≡ some v → total f (set views id w) + f v ≡ total f views + f w
total_set f [] id v w at = absurd (some-ne-none v (sym at))
total_set f (x ∷ xs) zero v w at = let e : f x ≡ f v = ap f (some-injective x v at) in omega arith
total_set f (x ∷ xs) (suc id) v w at = let h = total_set f xs id v w at in omega arith

pub total_snoc : (f : View → ℕ) (views : List View) (w : View) → total f (views ++ w ∷ []) ≡ total f views + f w
total_snoc f [] w = omega arith
total_snoc f (x ∷ xs) w = let h = total_snoc f xs w in omega arith

pub total_at : (f : View → ℕ) (views : List View) (id : ℕ) (v : View) → get_elem? views id ≡ some v → f v ≤ total f views
total_at f [] id v at = absurd (some-ne-none v (sym at))
total_at f (x ∷ xs) zero v at = let e : f x ≡ f v = ap f (some-injective x v at) in omega arith
total_at f (x ∷ xs) (suc id) v at = let h = total_at f xs id v at in omega arith

pub total_below : (f g : View → ℕ) (views : List View) → ((id : ℕ) (v : View) → get_elem? views id ≡ some v → f v ≤ g v) → total f views ≤ total g views
total_below f g [] h = omega arith
total_below f g (x ∷ xs) h = let here = h 0 x refl in let rest = total_below f g xs (λ id v at. h (suc id) v at) in omega arith

pub snoc_at : (views : List View) (w u : View) (j : ℕ) → get_elem? (views ++ w ∷ []) j ≡ some u → (get_elem? views j ≡ some u) ⊎ ((j ≡ length views) × (w ≡ u))
snoc_at [] w u zero e = inr (refl, some-injective w u e)
snoc_at [] w u (suc j) e = absurd (some-ne-none u (sym e))
snoc_at (x ∷ xs) w u zero e = inl e
snoc_at (x ∷ xs) w u (suc j) e = ⊎_elim (λ (l : get_elem? xs j ≡ some u). inl l) (λ (r : (j ≡ length xs) × (w ≡ u)). inr (ap suc r.0, r.1)) (snoc_at xs w u j e)

-- what holds of the new view and of each other one
pub each_set : (K : View → Type 0) (views : List View) (id : ℕ) (w : View) → K w → ((j : ℕ) (u : View) → j ≢ id → get_elem? views j ≡ some u → K u) → (j : ℕ) (u : View) → get_elem? (set views id w) j ≡ some u → K u
each_set K views id w mine others j u e = ⊎_elim
    (λ (x : (j ≡ id) × (w ≡ u)). subst K x.1 mine)
    (λ (x : (j ≢ id) × (get_elem? views j ≡ some u)). others j u x.0 x.1)
    (at_set views id j w u e)

pub each_snoc : (K : View → Type 0) (views : List View) (w : View) → K w → ((j : ℕ) (u : View) → get_elem? views j ≡ some u → K u) → (j : ℕ) (u : View) → get_elem? (views ++ w ∷ []) j ≡ some u → K u
each_snoc K views w mine others j u e = ⊎_elim
    (λ (l : get_elem? views j ≡ some u). others j u l)
    (λ (r : (j ≡ length views) × (w ≡ u)). subst K r.1 mine)
    (snoc_at views w u j e)

pub shares_sym : (v w : View) → Shares v w → Shares w v
shares_sym v w (inl h) = inl (h.0, h.2, h.1)
shares_sym v w (inr h) = inr (h.0, h.2, h.1)

pub apart_set : (views : List View) (id : ℕ) (w : View) → Apart views → ((j : ℕ) (u : View) → j ≢ id → get_elem? views j ≡ some u → ¬ Shares w u) → Apart (set views id w)
apart_set views id w old new i j a b ei ej sh = ⊎_elim
    (λ (x : (i ≡ id) × (w ≡ a)). ⊎_elim
    (λ (y : (j ≡ id) × (w ≡ b)). x.0 ∙ sym y.0)
    (λ (y : (j ≢ id) × (get_elem? views j ≡ some b)). absurd (new j b y.0 y.1 (subst (λ (u : View). Shares u b) (sym x.1) sh)))
    (at_set views id j w b ej))
    (λ (x : (i ≢ id) × (get_elem? views i ≡ some a)). ⊎_elim
    (λ (y : (j ≡ id) × (w ≡ b)). absurd (new i a x.0 x.1 (shares_sym a w (subst (λ (u : View). Shares a u) (sym y.1) sh))))
    (λ (y : (j ≢ id) × (get_elem? views j ≡ some b)). old i j a b x.1 y.1 sh)
    (at_set views id j w b ej))
    (at_set views id i w a ei)

pub apart_snoc : (views : List View) (w : View) → Apart views → ((j : ℕ) (u : View) → get_elem? views j ≡ some u → ¬ Shares w u) → Apart (views ++ w ∷ [])
apart_snoc views w old new i j a b ei ej sh = ⊎_elim
    (λ (x : get_elem? views i ≡ some a). ⊎_elim
    (λ (y : get_elem? views j ≡ some b). old i j a b x y sh)
    (λ (y : (j ≡ length views) × (w ≡ b)). absurd (new i a x (shares_sym a w (subst (λ (u : View). Shares a u) (sym y.1) sh))))
    (snoc_at views w b j ej))
    (λ (x : (i ≡ length views) × (w ≡ a)). ⊎_elim
    (λ (y : get_elem? views j ≡ some b). absurd (new j b y (subst (λ (u : View). Shares u b) (sym x.1) sh)))
    (λ (y : (j ≡ length views) × (w ≡ b)). x.0 ∙ sym y.0)
    (snoc_at views w b j ej))
    (snoc_at views w a i ei)
