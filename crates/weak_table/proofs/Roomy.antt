-- Lists with room, and what single changes do to them
use Rattle.std.proofs.Common.{◌≡◌, ℕ, ◌<◌, ◌==◌, Bool, true, false, cond, List, [], ◌∷◌, length, Option, Some, None, is_some, refl, sym, ap, subst, ◌∙◌, arith, true≢false, suc}
use Rattle.std.proofs.lemmas.Bool.Decides.{nat_tests}
use Rattle.std.specs.List.{swap_remove}
use Rattle.std.specs.Map.{lookup}
use Rattle.smallvec.specs.SmallVec.{SmallVec}
use Rattle.az_base.specs.declared.block_id.BlockId.{BlockId}
use Rattle.az_base.specs.declared.weak_loc.WeakLoc.{WeakLoc}
use Rattle.az_base.specs.Ids.{id_eq}
use Rattle.weak_table.specs.Lists.{list_in, members_at, is_tight, IsRoomy, SameMembers}
use Rattle.az_base.proofs.Ids.{eq_is}

-- the group's list is this one now, and the others stay
abbrev pub Relists : BlockId → Option (SmallVec WeakLoc) → List (BlockId × SmallVec WeakLoc) → List (BlockId × SmallVec WeakLoc) → Type 0
Relists group w es fs = (q : BlockId) → lookup (id_eq q) fs ≡ cond (id_eq group q) w (lookup (id_eq q) es)

same_list : (v w : SmallVec WeakLoc) → Some v ≡ Some w → v ≡ w
same_list v w e = cc

nothing : (v : SmallVec WeakLoc) → None ≡ Some v → ⊥
nothing v e = cc

pub none_of : (o : Option (SmallVec WeakLoc)) → is_some o ≡ false → o ≡ None
none_of None e = refl
none_of (Some v) e = absurd (true≢false e)

module _ (es fs : List (BlockId × SmallVec WeakLoc)) (group : BlockId) where
  -- a list with room in place of another one
  pub roomy-with : (tight : Option BlockId) (w : SmallVec WeakLoc) → Relists group (Some w) es fs → (is_tight tight group ≡ false → length w.items < w.capacity) → IsRoomy tight es → IsRoomy tight fs
  roomy-with tight w is has was b v h t = by (id_eq group b) refl (sym (is b) ∙ h)
    where
      by : (s : Bool) → id_eq group b ≡ s → cond s (Some w) (lookup (id_eq b) es) ≡ Some v → length v.items < v.capacity
      by true e g = subst (λ (x : SmallVec WeakLoc). length x.items < x.capacity) (same_list w v g) (has (ap (is_tight tight) (eq_is group b e) ∙ t))
      by false e g = was b v g t

  -- a list that grew may be full
  pub roomy-but : (w : SmallVec WeakLoc) → Relists group (Some w) es fs → IsRoomy None es → IsRoomy (Some group) fs
  roomy-but w is was b v h t = was b v (sym (ap (λ s. cond s (Some w) (lookup (id_eq b) es)) t) ∙ sym (is b) ∙ h) refl

  -- the list that may be full got room
  pub roomy-all : (w : SmallVec WeakLoc) → Relists group (Some w) es fs → length w.items < w.capacity → IsRoomy (Some group) es → IsRoomy None fs
  roomy-all w is has was b v h t = by (id_eq group b) refl (sym (is b) ∙ h)
    where
      by : (s : Bool) → id_eq group b ≡ s → cond s (Some w) (lookup (id_eq b) es) ≡ Some v → length v.items < v.capacity
      by true e g = subst (λ (x : SmallVec WeakLoc). length x.items < x.capacity) (same_list w v g) has
      by false e g = was b v g e

  -- a list that isn't there isn't full
  pub roomy-none : lookup (id_eq group) es ≡ None → IsRoomy (Some group) es → IsRoomy None es
  roomy-none none was b v h t = by (id_eq group b) refl
    where
      by : (s : Bool) → id_eq group b ≡ s → length v.items < v.capacity
      by true e = absurd (nothing v (sym none ∙ ap (λ x. lookup (id_eq x) es) (eq_is group b e) ∙ h))
      by false e = was b v h e

  pub roomy-gone : (tight : Option BlockId) → Relists group None es fs → IsRoomy tight es → IsRoomy tight fs
  roomy-gone tight is was b v h t = by (id_eq group b) (sym (is b) ∙ h)
    where
      by : (s : Bool) → cond s None (lookup (id_eq b) es) ≡ Some v → length v.items < v.capacity
      by true g = absurd (nothing v g)
      by false g = was b v g t

  -- an empty list makes no difference
  pub members-gone : members_at es group ≡ [] → Relists group None es fs → SameMembers es fs
  members-gone none is b = ap list_in (is b) ∙ by (id_eq group b) refl
    where
      by : (s : Bool) → id_eq group b ≡ s → list_in (cond s None (lookup (id_eq b) es)) ≡ members_at es b
      by true e = sym none ∙ ap (members_at es) (eq_is group b e)
      by false e = refl

  pub members-left : (at : ℕ) (d : WeakLoc) (v w : SmallVec WeakLoc) → lookup (id_eq group) es ≡ Some v → Relists group (Some w) es fs → w.items ≡ swap_remove v.items at d
      → (b : BlockId) → members_at fs b ≡ cond (id_eq group b) (swap_remove (members_at es group) at d) (members_at es b)
  members-left at d v w there is items b = ap list_in (is b) ∙ by (id_eq group b)
    where
      by : (s : Bool) → list_in (cond s (Some w) (lookup (id_eq b) es)) ≡ cond s (swap_remove (members_at es group) at d) (members_at es b)
      by true = items ∙ ap (λ o. swap_remove (list_in o) at d) (sym there)
      by false = refl

no_length : (n : ℕ) → (suc n == 0) ≡ true → ⊥
no_length n e = grind (arith, nat_tests)

pub no_items : {X : Type 0} (xs : List X) → (length xs == 0) ≡ true → xs ≡ []
no_items [] e = refl
no_items (x ∷ xs) e = absurd (no_length (length xs) e)
