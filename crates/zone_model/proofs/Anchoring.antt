-- Old and young blocks of a state, and what is anchored there
use Rattle.std.proofs.Common.{◌≡◌, ℕ, ◌==◌, nat_lt, Option, Some, None, [], refl, sym, ap, ◌∙◌, inl, inr, IsTrue, true, false, arith}
use Rattle.std.specs.Option.{option_map_or}
use Rattle.std.proofs.lemmas.Bool.Decides.{nat_tests}
use Rattle.az_base.specs.declared.block_id.BlockId.{BlockId}
use Rattle.az_base.specs.declared.action.Mode.{Mode}
use Rattle.az_base.specs.declared.action.Mode.TheVariants as mode
use Rattle.zone_model.specs.State.{State, Zone, Cycle, since_of, is_unescaped, moment}
use Rattle.zone_model.specs.Reach.{Edge, IsHeld, Anchors, AnchoredFor, age, is_old, is_young}
use Rattle.zone_model.proofs.Paths.{reached_more}

three_or_less : (n : ℕ) → (n == 3) ≡ true → nat_lt n 3 ≡ true → ⊥
three_or_less n e l = grind (arith, nat_tests)

-- no old block is young
pub old_not_young : (z : State) (b : BlockId) → IsTrue (is_old z b) → IsTrue (is_young z b) → ⊥
old_not_young z b o y = go (since_of z b) refl
  where
    go : (s : Option ℕ) → since_of z b ≡ s → ⊥
    go None e = let no : is_old z b ≡ false = ap (λ s. option_map_or (λ n. age z n == 3) s false) e in cc
    go (Some n) e = three_or_less (age z n) (sym (ap (λ s. option_map_or (λ n. age z n == 3) s false) e) ∙ o) (sym (ap (λ s. option_map_or (λ n. nat_lt (age z n) 3) s false) e) ∙ y)

-- what is held or unescaped anchors in either mode
pub held_anchors : {C : Type 0} (m : Mode) (z : Zone C) (b : BlockId) → IsHeld z b → Anchors m z b
held_anchors mode.Full z b h = inl h
held_anchors mode.Young z b h = inl h

pub unescaped_anchors : {C : Type 0} (m : Mode) (z : Zone C) (b : BlockId) → IsTrue (is_unescaped z b) → Anchors m z b
unescaped_anchors mode.Full z b u = inr u
unescaped_anchors mode.Young z b u = inr (inl u)

-- what anchors is anchored, and so is what an anchored block refers to
pub anchor_anchored : {C : Type 0} (m : Mode) (z : Zone C) (b : BlockId) → Anchors m z b → AnchoredFor m z b
anchor_anchored m z b h = (b, h, ([], refl))

pub held_anchored : {C : Type 0} (m : Mode) (z : Zone C) (b : BlockId) → IsHeld z b → AnchoredFor m z b
held_anchored m z b h = anchor_anchored m z b (held_anchors m z b h)

pub unescaped_anchored : {C : Type 0} (m : Mode) (z : Zone C) (b : BlockId) → IsTrue (is_unescaped z b) → AnchoredFor m z b
unescaped_anchored m z b u = anchor_anchored m z b (unescaped_anchors m z b u)

pub anchored_edge : {C : Type 0} (m : Mode) (z : Zone C) (a b : BlockId) → AnchoredFor m z a → Edge z a b → AnchoredFor m z b
anchored_edge m z a b r e = reached_more z (Anchors m z) a b r e

-- a state's own cycle has nothing to do with it
pub of_moment : (m : Mode) (z : State) (b : BlockId) → AnchoredFor m (moment z) b → AnchoredFor m z b
of_moment mode.Full z b r = r
of_moment mode.Young z b r = r

pub to_moment : (m : Mode) (z : State) (b : BlockId) → AnchoredFor m z b → AnchoredFor m (moment z) b
to_moment mode.Full z b r = r
to_moment mode.Young z b r = r

pub other_cycle : (m : Mode) (z : State) (x : Option Cycle) (b : BlockId) → AnchoredFor m (record z { cycle = x }) b → AnchoredFor m z b
other_cycle mode.Full z x b r = r
other_cycle mode.Young z x b r = r
