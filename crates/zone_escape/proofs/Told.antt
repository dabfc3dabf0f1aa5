-- What was told of one block after another
use Rattle.std.proofs.Common.{◌≡◌, ℕ, ◌+◌, ◌<◌, ◌==◌, ◌&&◌, ◌||◌, ◌⊎◌, inl, inr, zero, suc, Bool, true, false, cond, not, List, take, Option, Some, None, is_some, slice_get, refl, sym, ap, subst, ◌∙◌, arith}
use Rattle.std.proofs.lemmas.Bool.Decides.{nat_tests}
use Rattle.std.specs.FinMap.{get}
use Rattle.std.specs.Option.{option_eq}
use Rattle.az_base.specs.declared.block_id.BlockId.{BlockId}
use Rattle.az_base.specs.Ids.{same_id, id_eq, among}
use Rattle.az_base.proofs.Ids.{same_is, same_turned, among_more, eq_self}
use Rattle.zone_model.specs.Holds.{is_block, holds_of}
use Rattle.shared_heap.specs.Shared.{Shared, held}
use Rattle.local_set.specs.LocalSets.{LocalSet, part_in}
use Rattle.local_set.proofs.Lists.{next_taken, among_of}
use Rattle.escape_plan.specs.Moving.{Told, CanTell}
use Rattle.escape_plan.proofs.Telling.{told_as, can_still}
use Rattle.zone_escape.specs.Telling.{below, moved_of, CanTellAll}

-- nothing was told
pub told_nothing : (l : LocalSet) (h : Shared) (f : BlockId → Bool) → ((q : BlockId) → f q ≡ false) → Told l h h f
told_nothing l h f none = told_as l h h (λ q. false) f (λ q. sym (none q)) (record { held = λ u q. go (l.thread == u) (holds_of (part_in l) q) (held h u q); rest = refl; stands = λ z s. s })
  where
    go : (b : Bool) (x y : ℕ) → y ≡ cond (b && false) x y
    go true x y = refl
    go false x y = refl

-- a block that isn't the heap's isn't told
pub told_absent : (l : LocalSet) (h : Shared) (id : BlockId) → is_some (get h.blocks id) ≡ false → Told l h h (same_id id)
told_absent l h id none = record { held = λ u q. go u q (same_id id q) refl; rest = refl; stands = λ z s. s }
  where
    out : (a s : Bool) (x y : ℕ) → y ≡ cond (a && (s && false)) x y
    out true true x y = refl
    out true false x y = refl
    out false s x y = refl

    other : (a e : Bool) (x y : ℕ) → y ≡ cond (a && (false && e)) x y
    other true e x y = refl
    other false e x y = refl

    go : (u : ℕ) (q : BlockId) (s : Bool) → same_id id q ≡ s → held h u q ≡ cond ((l.thread == u) && (same_id id q && is_some (get h.blocks q))) (holds_of (part_in l) q) (held h u q)
    go u q true e =
        out (l.thread == u) (same_id id q) (holds_of (part_in l) q) (held h u q)
        ∙ ap (λ b. cond ((l.thread == u) && (same_id id q && b)) (holds_of (part_in l) q) (held h u q)) (sym (ap (λ x. is_some (get h.blocks x)) (sym (same_is id q e)) ∙ none))
    go u q false e =
        other (l.thread == u) (is_some (get h.blocks q)) (holds_of (part_in l) q) (held h u q)
        ∙ ap (λ b. cond ((l.thread == u) && (b && is_some (get h.blocks q))) (holds_of (part_in l) q) (held h u q)) (sym e)

pub can_all_still : (l : LocalSet) (h mid : Shared) (f : BlockId → Bool) → CanTellAll l h → Told l h mid f → CanTellAll l mid
can_all_still l h mid f can first sixteen = can_still l h mid f (λ q. true) (can sixteen) first

-- of all, and so of some
pub can_some : (l : LocalSet) (h : Shared) (f : BlockId → Bool) → CanTell l h (λ q. true) → CanTell l h f
can_some l h f can q asked there = can q refl there

-- none of the first none
pub below_none : (f : ℕ → BlockId → Bool) (q : BlockId) → below f 0 q ≡ false
unfolding below
below_none f q = refl

pub below_more : (f : ℕ → BlockId → Bool) (n : ℕ) (q : BlockId) → below f (n + 1) q ≡ (below f n q || f n q)
unfolding below
below_more f n q = ap (λ k. below f k q) (add-one' n)
  where
    add-one' : (n : ℕ) → n + 1 ≡ suc n
    add-one' n = omega arith

-- one id more
pub among_next : (ids : List BlockId) (i : ℕ) (id q : BlockId) → slice_get ids i ≡ Some id → (among (take i ids) q || same_id id q) ≡ among (take (i + 1) ids) q
among_next ids i id q at = ap (λ b. among (take i ids) q || b) (same_turned id q) ∙ sym (among_more (take i ids) id q) ∙ ap (λ l. among l q) (next_taken ids i id at)

-- an id at a place is one of the ids
pub asked_here : (ids : List BlockId) (i : ℕ) (id q : BlockId) → slice_get ids i ≡ Some id → same_id id q ≡ true → among ids q ≡ true
asked_here ids i id q at asked = ap (among ids) (sym (same_is id q asked)) ∙ among_of ids i id at

pub is_held : (o : Option BlockId) (q : BlockId) → is_block q o ≡ true → o ≡ Some q
is_held None q h = cc
is_held (Some b) q h = ap (λ x. Some x) (same_is b q h)

pub itself_eq : (a : Option BlockId) → option_eq id_eq a a ≡ true
itself_eq None = refl
itself_eq (Some b) = eq_self b

-- what moved between two registers that differ
pub moved : (a b : Option BlockId) (q : BlockId) → (a ≡ b → ⊥) → (is_block q a || is_block q b) ≡ moved_of q a b
moved a b q differ = go (is_block q a) (is_block q b) refl refl
  where
    go : (s t : Bool) → is_block q a ≡ s → is_block q b ≡ t → (s || t) ≡ cond s (not t) t
    go true true e f = absurd (differ (is_held a q e ∙ sym (is_held b q f)))
    go true false e f = refl
    go false t e f = refl
