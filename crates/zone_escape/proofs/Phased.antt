-- In which phase of its own cycle a thread may make which call
use Rattle.std.proofs.Common.{◌≡◌, ◌≢◌, ◌↔◌, ◌<◌, ◌==◌, ℕ, zero, suc, Bool, true, false, cond, nat_lt, List, [], ◌∷◌, Option, Some, None, IsTrue, is_some, find, filter, length, option_map, option_and_then, refl, sym, ap, subst, ◌∙◌, arith, true≢false, eqb-true}
use Rattle.std.proofs.lemmas.Bool.{ltb-true, lt-ltb}
use Rattle.az_base.specs.declared.block_id.BlockId.{BlockId}
use Rattle.zone_model.specs.declared.call.Call.{Call}
use Rattle.zone_model.specs.declared.call.Call.TheVariants as call
use Rattle.zone_model.specs.Collection.{HasCondemned, awaits}
use Rattle.zone_model.specs.Phases.{Free, Marking, May, left_in, left_among}
use Rattle.zone_model.specs.State.{State, Cycle}
use Rattle.zone_model.proofs.Replied.{one_condemned}
use Rattle.zone_escape.specs.declared.phase.Phase.{Phase}
use Rattle.zone_escape.specs.declared.phase.Phase.TheVariants as phase
use Rattle.zone_escape.specs.Phases.{IsIn, may_in}

one_of : {X : Type 0} (x y : X) → Some x ≡ Some y → x ≡ y
one_of x y h = cc (h)

none_some : {X : Type 0} (x : X) → None ≡ Some x → ⊥
none_some x h = cc (h)

-- what a heap tells of the open cycle
abbrev told : Cycle → ℕ × Bool
told c = (c.owner, is_some c.condemned)

cycle_at : (z : State) (o : ℕ) (b : Bool) → Some (o, b) ≡ option_map told z.cycle → (c : Cycle) × (z.cycle ≡ Some c) × (c.owner ≡ o) × (is_some c.condemned ≡ b)
cycle_at z o b h = by z.cycle refl h
  where
    by : (x : Option Cycle) → z.cycle ≡ x → Some (o, b) ≡ option_map told x → (c : Cycle) × (z.cycle ≡ Some c) × (c.owner ≡ o) × (is_some c.condemned ≡ b)
    by None e k = absurd (none_some (o, b) (sym k))
    by (Some c) e k = let same = one_of (o, b) (told c) k in (c, e, ap (λ (p : ℕ × Bool). p.0) (sym same), ap (λ (p : ℕ × Bool). p.1) (sym same))

pub free_where_none : (z : State) (t : ℕ) → None ≡ option_map told z.cycle → Free z t
free_where_none z t h c has = none_some (told c) (h ∙ ap (option_map told) has.0)

pub free_where_other : (z : State) (t o : ℕ) (b : Bool) → o ≢ t → Some (o, b) ≡ option_map told z.cycle → Free z t
free_where_other z t o b other h c has =
    let d = cycle_at z o b h in
    other (sym d.2 ∙ ap (λ (x : Cycle). x.owner) (one_of d.0 c (sym d.1 ∙ has.0)) ∙ has.1)

pub marking_where : (z : State) (t o : ℕ) → o ≡ t → Some (o, false) ≡ option_map told z.cycle → Marking z t
marking_where z t o same h = let d = cycle_at z o false h in (d.0, (d.1, d.2 ∙ same), none d.0.condemned d.3)
  where
    none : (r : Option (List BlockId)) → is_some r ≡ false → r ≡ None
    none None e = refl
    none (Some r) e = absurd (true≢false e)

pub settling_where : (z : State) (t o n : ℕ) → o ≡ t → Some (o, true) ≡ option_map told z.cycle → n ≡ left_in z → IsIn z t (phase.Settling n)
settling_where z t o n same h left =
    let d = cycle_at z o true h in
    let r = some d.0.condemned d.3 in
    (r.0, (d.0, (d.1, d.2 ∙ same), r.1), sym (left ∙ ap (λ (x : Option Cycle). left_among z (option_and_then (λ (c : Cycle). c.condemned) x)) d.1 ∙ ap (left_among z) r.1))
  where
    some : (r : Option (List BlockId)) → is_some r ≡ true → (xs : List BlockId) × (r ≡ Some xs)
    some None e = absurd (true≢false (sym e))
    some (Some xs) e = (xs, refl)

-- a thread isn't in two phases
marking_free : (z : State) (t : ℕ) → Marking z t → Free z t → ⊥
marking_free z t m free = free m.0 m.1

condemned_free : (z : State) (t : ℕ) (r : List BlockId) → HasCondemned z t r → Free z t → ⊥
condemned_free z t r h free = free h.0 h.1

condemned_marking : (z : State) (t : ℕ) (r : List BlockId) → HasCondemned z t r → Marking z t → ⊥
condemned_marking z t r h m = let same = one_of h.0 m.0 (sym h.1.0 ∙ m.1.0) in none_some r (sym m.2 ∙ ap (λ (c : Cycle). c.condemned) (sym same) ∙ h.2)

-- a search finds one where some pass
finds : (f : BlockId → Bool) (xs : List BlockId) → 0 < length (filter f xs) → (b : BlockId) × (find f xs ≡ Some b)
finds f [] more = absurd (omega (arith, more))
finds f (x ∷ xs) more = by (f x) (λ m. finds f xs m) more
  where
    by : (t : Bool) → (0 < length (filter f xs) → (b : BlockId) × (find f xs ≡ Some b)) → 0 < length (cond t (x ∷ filter f xs) (filter f xs)) → (b : BlockId) × (cond t (Some x) (find f xs) ≡ Some b)
    by true rest m = (x, refl)
    by false rest m = rest m

pub found : (f : BlockId → Bool) (xs : List BlockId) (b : BlockId) → find f xs ≡ Some b → 0 < length (filter f xs)
found f [] b h = absurd (none_some b h)
found f (x ∷ xs) b h = by (f x) (λ k. found f xs b k) h
  where
    by : (t : Bool) → (find f xs ≡ Some b → 0 < length (filter f xs)) → cond t (Some x) (find f xs) ≡ Some b → 0 < length (cond t (x ∷ filter f xs) (filter f xs))
    by true rest k = omega arith
    by false rest k = rest k

finds_none : (f : BlockId → Bool) (xs : List BlockId) → length (filter f xs) ≡ 0 → find f xs ≡ None
finds_none f xs none = by (find f xs) refl
  where
    by : (o : Option BlockId) → find f xs ≡ o → find f xs ≡ None
    by None e = e
    by (Some b) e = let some = found f xs b e in absurd (omega (arith, some, none))

pub found_none : (f : BlockId → Bool) (xs : List BlockId) → find f xs ≡ None → length (filter f xs) ≡ 0
found_none f xs h = by (length (filter f xs)) refl
  where
    by : (n : ℕ) → length (filter f xs) ≡ n → length (filter f xs) ≡ 0
    by zero e = e
    by (suc n) e = let b = finds f xs (omega (arith, e)) in absurd (none_some b.0 (sym h ∙ b.1))

zero_test : (n : ℕ) → IsTrue (n == 0) → n ≡ 0
zero_test n h = eqb-true n 0 h

-- of a thread with a condemned set, whatever a call asks for it is the same set
module _ (z : State) (t n : ℕ) (is : IsIn z t (phase.Settling n)) where
  same_set : (r : List BlockId) → HasCondemned z t r → r ≡ is.0
  same_set r h = one_condemned z t r is.0 h is.1

  may_finalise : IsTrue (nat_lt 0 n) ↔ May z t call.Finalise
  may_finalise = (
    λ more. let b = finds (awaits z) is.0 (subst (λ k. 0 < k) (sym is.2) (ltb-true 0 n more)) in (is.0, is.1, b.0, b.1),
    λ may. lt-ltb 0 n (subst (λ k. 0 < k) is.2 (found (awaits z) is.0 may.2 (ap (find (awaits z)) (sym (same_set may.0 may.1)) ∙ may.3))),
  )

  may_reclaim : IsTrue (n == 0) ↔ May z t call.Reclaim
  may_reclaim = (
    λ none. (is.0, is.1, finds_none (awaits z) is.0 (is.2 ∙ zero_test n none)),
    λ may. ap (λ k. k == 0) (sym is.2 ∙ found_none (awaits z) is.0 (ap (find (awaits z)) (sym (same_set may.0 may.1)) ∙ may.2)),
  )

never : {P : Type 0} → (P → ⊥) → IsTrue false ↔ P
never none = (λ e. absurd (true≢false (sym e)), λ p. absurd (none p))

-- which calls the thread may make
pub may_right : (z : State) (t : ℕ) (p : Phase) (c : Call) → IsIn z t p → IsTrue (may_in p c) ↔ May z t c
may_right z t phase.Free (call.Begin mode) is = (λ e. is, λ may. refl)
may_right z t phase.Free call.Leave is = (λ e. is, λ may. refl)
may_right z t phase.Free call.Condemn is = never (λ m. marking_free z t m is)
may_right z t phase.Free call.Finalise is = never (λ m. condemned_free z t m.0 m.1 is)
may_right z t phase.Free call.Reclaim is = never (λ m. condemned_free z t m.0 m.1 is)
may_right z t phase.Marking (call.Begin mode) is = never (λ m. marking_free z t is m)
may_right z t phase.Marking call.Leave is = never (λ m. marking_free z t is m)
may_right z t phase.Marking call.Condemn is = (λ e. is, λ may. refl)
may_right z t phase.Marking call.Finalise is = never (λ m. condemned_marking z t m.0 m.1 is)
may_right z t phase.Marking call.Reclaim is = never (λ m. condemned_marking z t m.0 m.1 is)
may_right z t (phase.Settling n) (call.Begin mode) is = never (λ m. condemned_free z t is.0 is.1 m)
may_right z t (phase.Settling n) call.Leave is = never (λ m. condemned_free z t is.0 is.1 m)
may_right z t (phase.Settling n) call.Condemn is = never (λ m. condemned_marking z t is.0 is.1 m)
may_right z t (phase.Settling n) call.Finalise is = may_finalise z t n is
may_right z t (phase.Settling n) call.Reclaim is = may_reclaim z t n is
may_right z t p _ is = (λ e. tt, λ may. refl)
