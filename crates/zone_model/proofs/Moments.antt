-- What an open cycle has seen, and how a step adds to it
use Rattle.std.specs.Prelude.{Any}
use Rattle.std.proofs.Common.{◌≡◌, ℕ, zero, suc, ◌<◌, true, false, Bool, Option, Some, None, List, [], ◌∷◌, is_some, length, slice_index_or, option_map, refl, sym, ap, ◌∙◌, subst, ◌⊎◌, inl, inr, IsTrue, IsFalse, arith, if◌then◌else◌}
use Rattle.az_base.specs.declared.action.Mode.{Mode}
use Rattle.az_base.specs.declared.block_id.BlockId.{BlockId}
use Rattle.zone_model.specs.State.{State, Cycle, Moment, moment, is_escaped}
use Rattle.zone_model.specs.Reach.{AnchoredFor}
use Rattle.zone_model.specs.Collection.{WasAnchored, new_cycle}
use Rattle.zone_model.specs.Step.{with_moment, seen_now}
use Rattle.zone_model.specs.Reached.{KeepsReached, OpenReached, IsRooted, AddsToAnchored}
use Rattle.zone_model.proofs.Anchoring.{anchored_edge, unescaped_anchored, to_moment, of_moment, other_cycle}

pub none_of_none : (P : Moment → Type 0) → Any P [] → ⊥
none_of_none P (k, x, lt, at, p) = absurd (omega (arith, lt))

module _ (P : Moment → Type 0) (m : Moment) where
  pub any_one : Any P (m ∷ []) → P m
  any_one (k, x, lt, at, p) = go k lt at
    where
      go : (k : ℕ) → k < length (m ∷ []) → slice_index_or (m ∷ []) k x ≡ x → P m
      go zero lt e = subst P (sym e) p
      go (suc n) lt e = absurd (omega (arith, lt))

  any_first : (xs : List Moment) → P m → Any P (m ∷ xs)
  any_first xs p = (0, m, omega arith, refl, p)

  any_more : (xs : List Moment) → Any P xs → Any P (m ∷ xs)
  any_more xs (k, x, lt, at, p) = (suc k, x, omega (arith, lt), at, p)

  any_cases : (xs : List Moment) → Any P (m ∷ xs) → P m ⊎ Any P xs
  any_cases xs (k, x, lt, at, p) = go k lt at
    where
      go : (k : ℕ) → k < length (m ∷ xs) → slice_index_or (m ∷ xs) k x ≡ x → P m ⊎ Any P xs
      go zero lt e = inl (subst P (sym e) p)
      go (suc n) lt e = inr (n, x, omega (arith, lt), e, p)

-- an open cycle that has seen one moment more
abbrev pub seeing : Moment → Cycle → Cycle
seeing m c = record c { moments = m ∷ c.moments }

pub sees : (m : Moment) (c : Cycle) → c.condemned ≡ None → with_moment m c ≡ seeing m c
sees m c uncondemned = ap (λ (o : Option (List BlockId)). if is_some o then c else seeing m c) uncondemned

-- what was anchored stays so
pub was_more : (m : Moment) (c : Cycle) (b : BlockId) → WasAnchored c b → WasAnchored (seeing m c) b
was_more m c b was = any_more (λ n. AnchoredFor c.mode n b) m c.moments was

-- what is anchored in the state that is seen was anchored
pub was_now : (z : State) (c : Cycle) (b : BlockId) → AnchoredFor c.mode z b → WasAnchored (seeing (moment z) c) b
was_now z c b anchored = any_first (λ n. AnchoredFor c.mode n b) (moment z) c.moments (to_moment c.mode z b anchored)

pub was_cases : (z : State) (c : Cycle) (b : BlockId) → WasAnchored (seeing (moment z) c) b → AnchoredFor c.mode z b ⊎ WasAnchored c b
was_cases z c b was = elim (any_cases (λ n. AnchoredFor c.mode n b) (moment z) c.moments was) [ inl k ↦ inl (of_moment c.mode z b k) | inr k ↦ inr k ]

-- what is reached goes on along edges, also after a change that adds only edges to what is anchored
pub keeps_after : (z after : State) (c : Cycle) → AddsToAnchored z after c → KeepsReached z c → KeepsReached after (seeing (moment after) c)
keeps_after z after c adds keeps = record {
  now = λ b i anchored. was_now after c b anchored;
  on = λ a b was e i. elim (was_cases after c a was) [
    | inl k ↦ was_now after c b (anchored_edge c.mode after a b k e)
    | inr k ↦ elim (adds a b e) [ inl f ↦ was_more (moment after) c b (keeps.on a b k f i) | inr k ↦ was_now after c b k ]
  ];
  outside = λ a b n e i. elim (adds a b e) [ inl f ↦ was_more (moment after) c b (keeps.outside a b n f i) | inr k ↦ was_now after c b k ];
}

pub keeps_with_moment : (z after : State) (c : Cycle) → c.condemned ≡ None → AddsToAnchored z after c → KeepsReached z c → KeepsReached after (with_moment (moment after) c)
keeps_with_moment z after c uncondemned adds keeps = subst (KeepsReached after) (sym (sees (moment after) c uncondemned)) (keeps_after z after c adds keeps)

not_both : (t : Bool) → IsTrue t → IsFalse t → ⊥
not_both true a b = let e : true ≡ false = b in cc
not_both false a b = let e : false ≡ true = a in cc

-- as a cycle opens
pub keeps_opening : (z : State) (t : ℕ) (m : Mode) → IsRooted z → KeepsReached z (seeing (moment z) (new_cycle z t m))
keeps_opening z t m rooted = record {
  now = λ b i anchored. was_now z (new_cycle z t m) b anchored;
  on = λ a b was e i. elim (was_cases z (new_cycle z t m) a was) [
    | inl k ↦ was_now z (new_cycle z t m) b (anchored_edge m z a b k e)
    | inr k ↦ absurd (none_of_none (λ n. AnchoredFor m n a) k)
  ];
  outside = λ a b n e i. elim (rooted a b e) [
    | inl k ↦ absurd (not_both (is_escaped z a) k n)
    | inr u ↦ was_now z (new_cycle z t m) b (anchored_edge m z a b (unescaped_anchored m z a u) e)
  ];
}

-- the state's own cycle has nothing to do with it
pub any_cycle : (z : State) (x : Option Cycle) (c : Cycle) → KeepsReached z c → KeepsReached (record z { cycle = x }) c
any_cycle z x c keeps = record { now = λ b i anchored. keeps.now b i (other_cycle c.mode z x b anchored); on = keeps.on; outside = keeps.outside }

pub the_cycle : (b c : Cycle) → Some b ≡ Some c → b ≡ c
the_cycle b c e = cc

-- a cycle that has seen a moment and isn't condemned wasn't so before
seen_of : (m : Moment) (b c : Cycle) → with_moment m b ≡ c → c.condemned ≡ None → (b.condemned ≡ None) × (seeing m b ≡ c)
seen_of m b c e uncondemned = go b.condemned refl
  where
    go : (o : Option (List BlockId)) → b.condemned ≡ o → (b.condemned ≡ None) × (seeing m b ≡ c)
    go None f = (f, sym (sees m b f) ∙ e)
    go (Some r) f =
        let stays : with_moment m b ≡ b = ap (λ (o : Option (List BlockId)). if is_some o then b else seeing m b) f in
        let none : Some r ≡ None = sym f ∙ ap (λ (x : Cycle). x.condemned) (sym stays ∙ e) ∙ uncondemned in
        cc (none)

some_of : (f : Cycle → Cycle) (o : Option Cycle) (c : Cycle) → option_map f o ≡ Some c → (b : Cycle) × (o ≡ Some b) × (f b ≡ c)
some_of f None c e = cc (e)
some_of f (Some b) c e = (b, refl, the_cycle (f b) c e)

-- the open cycle before it saw the state
pub seen_before : (mid : State) (c : Cycle) → (seen_now mid).cycle ≡ Some c → c.condemned ≡ None → (b : Cycle) × (mid.cycle ≡ Some b) × (b.condemned ≡ None) × (seeing (moment mid) b ≡ c)
seen_before mid c is uncondemned = let b = some_of (with_moment (moment mid)) mid.cycle c is in let s = seen_of (moment mid) b.0 c b.2 uncondemned in (b.0, b.1, s.0, s.1)

-- a change that leaves the cycle, and adds only edges to what is anchored
pub open_after : (z mid : State) → ((c : Cycle) → AddsToAnchored z mid c) → mid.cycle ≡ z.cycle → OpenReached z → OpenReached (seen_now mid)
open_after z mid adds same was c is uncondemned =
    let b = seen_before mid c is uncondemned in
    any_cycle mid (seen_now mid).cycle c (subst (KeepsReached mid) b.3 (keeps_after z mid b.0 (adds b.0) (was b.0 (sym same ∙ b.1) b.2)))

-- where the cycle is condemned or closed nothing is asked
pub open_condemned : (mid : State) (r : List BlockId) (b : Cycle) → mid.cycle ≡ Some b → b.condemned ≡ Some r → OpenReached (seen_now mid)
open_condemned mid r b e f c is uncondemned =
    let before = seen_before mid c is uncondemned in
    let same : before.0 ≡ b = the_cycle before.0 b (sym before.1 ∙ e) in
    let none : None ≡ Some r = sym before.2 ∙ ap (λ (x : Cycle). x.condemned) same ∙ f in
    cc (none)

pub open_closed : (mid : State) → mid.cycle ≡ None → OpenReached (seen_now mid)
open_closed mid e c is uncondemned = let before = seen_before mid c is uncondemned in let none : None ≡ Some before.0 = sym e ∙ before.1 in cc (none)
