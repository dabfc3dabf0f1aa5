-- What one entry does to a weak location
use Rattle.std.proofs.Common.{◌≡◌, ℕ, Bool, true, false, cond, not, List, [], ◌∷◌, Option, Some, None, MatchOption, fold, refl, sym, ap, subst, ◌∙◌, ◌⊎◌, inl, inr, if◌then◌else◌}
use Rattle.std.specs.Option.{option_map_or}
use Rattle.std.specs.declared.cmp.Ordering.TheVariants.{Less, Equal, Greater}
use Rattle.std.specs.Ordering.{eq_by_cmp, is_eq}
use Rattle.std.specs.Cmp.{tied_itself}
use Rattle.std.specs.FinMap.{FinMap, get, get-retain_keys, retain_keys}
use Rattle.az_base.specs.declared.action.Action.{Action}
use Rattle.az_base.specs.declared.action.Action.TheVariants as action
use Rattle.az_base.specs.declared.block_id.BlockId.{BlockId}
use Rattle.az_base.specs.declared.misuse.Misuse.{Misuse}
use Rattle.az_base.specs.declared.weak_loc.WeakLoc.{WeakLoc}
use Rattle.az_base.specs.Places.{loc_cmp, locs_total, exact_locs}
use Rattle.zone_model.specs.declared.call.Call.{Call}
use Rattle.zone_model.specs.declared.call.Call.TheVariants as call
use Rattle.zone_model.specs.declared.call.Loc.{Loc}
use Rattle.zone_model.specs.declared.entry.Reply.{Reply}
use Rattle.zone_model.specs.declared.entry.Reply.TheVariants as reply
use Rattle.zone_model.specs.declared.entry.Entry.{Entry}
pub use Rattle.az_base.proofs.Tables.{get-with_value}
use Rattle.zone_model.specs.State.{State, with_weak, with_count, with_assoc, is_word_of}
use Rattle.zone_model.specs.Escape.{with_escaped}
use Rattle.zone_model.specs.Misuses.{misuse_of}
use Rattle.zone_model.specs.Collection.{shows_one, with_action, actions_of}
use Rattle.zone_model.specs.Effect.{Effect, weak_loc, value_to_show}
use Rattle.zone_model.specs.Step.{Step, Happens}
use Rattle.zone_model.specs.WeakShows.{Assigns}

-- where the entry assigns: a setweak that is no misuse does so at its location
abbrev pub assigned_loc : State → ℕ → Call → Reply → Option WeakLoc
assigned_loc z t (call.SetWeak loc from) (reply.Misuse m) = None
assigned_loc z t (call.SetWeak loc from) r = weak_loc z t loc
assigned_loc z t _ r = None

-- what it assigns
abbrev pub assigned_value : State → ℕ → Call → Option BlockId
assigned_value z t (call.SetWeak loc from) = z.registers t from
assigned_value z t _ = None

-- what the location shows after an entry with this reply that doesn't assign to it
abbrev pub left_after : WeakLoc → Reply → Option BlockId → Option BlockId
left_after l (reply.Condemned r) shown = if shows_one r.list shown then None else shown
left_after l (reply.Settled gone kept) shown = if is_word_of gone.list l then None else shown
left_after l _ shown = shown

pub does_assign : (z : State) (t : ℕ) (c : Call) (r : Reply) (l : WeakLoc) → assigned_loc z t c r ≡ Some l → Assigns z (record { thread = t; call = c; reply = r }) l (assigned_value z t c)
does_assign z t (call.SetWeak loc from) (reply.Misuse m) l h = cc (h)
does_assign z t (call.SetWeak loc from) r l h = (loc, from, refl, λ m e. cc (e), h, refl)
does_assign z t _ r l h = cc (h)

no_misuse : (z : State) (t : ℕ) (loc : Loc) (from : ℕ) (r : Reply) → ((m : Misuse) → r ≡ reply.Misuse m → ⊥) → assigned_loc z t (call.SetWeak loc from) r ≡ weak_loc z t loc
no_misuse z t loc from (reply.Misuse m) none = absurd (none m refl)
no_misuse z t loc from r none = refl

pub assigns_there : (z : State) (e : Entry) (l : WeakLoc) (v : Option BlockId) → Assigns z e l v → assigned_loc z e.thread e.call e.reply ≡ Some l
assigns_there z e l v a = ap (λ c. assigned_loc z e.thread c e.reply) a.2 ∙ no_misuse z e.thread a.0 a.1 e.reply a.3 ∙ a.4

told_apart : (l k : WeakLoc) → is_eq (loc_cmp l k) ≡ false → (k ≡ l) → ⊥
told_apart l k apart same = let h : true ≡ false = ap is_eq (sym (tied_itself locs_total l)) ∙ ap (λ x. is_eq (loc_cmp l x)) (sym same) ∙ apart in cc (h)

-- two locations are one, or they are two
pub same_or_other : (l k : WeakLoc) → (k ≡ l) ⊎ ((k ≡ l) → ⊥)
same_or_other l k = elim (loc_cmp l k) as (λ r. loc_cmp l k ≡ r → (k ≡ l) ⊎ ((k ≡ l) → ⊥)) [
  | Less ↦ λ e. inr (told_apart l k (ap is_eq e))
  | Equal ↦ λ e. inl (sym (exact_locs l k e))
  | Greater ↦ λ e. inr (told_apart l k (ap is_eq e))
] refl

apart : (l k : WeakLoc) → ((k ≡ l) → ⊥) → eq_by_cmp loc_cmp l k ≡ false
apart l k other = elim (loc_cmp l k) as (λ r. loc_cmp l k ≡ r → is_eq r ≡ false) [ Less ↦ λ e. refl | Equal ↦ λ e. absurd (other (sym (exact_locs l k e))) | Greater ↦ λ e. refl ] refl

-- what a location shows after another one was assigned, or none
pub assigned_elsewhere : (z : State) (k : Option WeakLoc) (v : Option BlockId) (l : WeakLoc) → (k ≡ Some l → ⊥) → get (option_map_or (λ k. with_weak z k v) k z).weak l ≡ get z.weak l
assigned_elsewhere z None v l other = refl
assigned_elsewhere z (Some k) v l other = get-with_value locs_total z.weak k v l ∙ ap (λ b. cond b v (get z.weak l)) (apart l k (λ same. other (ap Some same)))

-- and after it was assigned itself
pub assigned_here : (z : State) (l : WeakLoc) (v : Option BlockId) → get (with_weak z l v).weak l ≡ v
assigned_here z l v = get-with_value locs_total z.weak l v l ∙ ap (λ r. cond (is_eq r) v (get z.weak l)) (tied_itself locs_total l)

cond_not : {X : Type 0} (b : Bool) (x y : X) → cond (not b) x y ≡ cond b y x
cond_not true x y = refl
cond_not false x y = refl

-- what a location shows after some were taken away
left_out : (m : FinMap loc_cmp BlockId) (p : WeakLoc → Bool) (l : WeakLoc) → get (retain_keys m (λ k. not (p k))) l ≡ cond (p l) None (get m l)
left_out m p l = get-retain_keys m (λ k. not (p k)) l (λ k e. ap (λ k. not (p k)) (sym (exact_locs l k e))) ∙ cond_not (p l) (get m l) None

-- a change of something else leaves the weak locations
option_leaves : {X : Type 0} (f : X → State) (z : State) → ((x : X) → (f x).weak ≡ z.weak) → (o : Option X) → (option_map_or f o z).weak ≡ z.weak
option_leaves f z same None = refl
option_leaves f z same (Some x) = same x

actions_leave : (b : BlockId) (actions : List Action) (z : State) → (fold (with_action b) z actions).weak ≡ z.weak
actions_leave b [] z = refl
actions_leave b (action.Keep g ∷ more) z = actions_leave b more (with_action b z (action.Keep g))
actions_leave b (action.Pass g at ∷ more) z = actions_leave b more (with_action b z (action.Pass g at))

effect_leaves : (z : State) (t : ℕ) (c : Call) (r : Reply) (a : State) (l : WeakLoc) → Effect z t c r a → (assigned_loc z t c r ≡ Some l → ⊥) → get a.weak l ≡ left_after l r (get z.weak l)
effect_leaves z t (call.New to layout actions) (reply.Block id) a l h n = ap (λ (y : State). get y.weak l) h.1
effect_leaves z t (call.Load to from at) (reply.Block id) a l h n = ap (λ (y : State). get y.weak l) h.1
effect_leaves z t (call.Store into at from) reply.Done a l h n = ap (λ (y : State). get y.weak l) h
effect_leaves z t (call.Put into at number) reply.Done a l h n = ap (λ (y : State). get y.weak l) h
effect_leaves z t (call.Get from at) (reply.Number k) a l h n = ap (λ (y : State). get y.weak l) h.1
effect_leaves z t (call.Copy to from) reply.Done a l h n = ap (λ (y : State). get y.weak l) h
effect_leaves z t (call.DropReg reg) reply.Done a l h n = ap (λ (y : State). get y.weak l) h
effect_leaves z t call.CollectLocal (reply.Reclaimed gone) a l h n = ap (λ (y : State). get y.weak l) h.1
effect_leaves z t (call.SetRoot root from) reply.Done a l h n = ap (λ (y : State). get y.weak l) h
effect_leaves z t (call.GetRoot to root) (reply.Block id) a l h n = ap (λ (y : State). get y.weak l) h.1
effect_leaves z t (call.Retain reg) (reply.Number k) a l h n = ap (λ (y : State). get y.weak l) h.1 ∙ ap (λ m. get m l) (option_leaves (λ b. with_count z b k) z (λ b. refl) (z.registers t reg))
effect_leaves z t (call.Release reg) (reply.Number k) a l h n = ap (λ (y : State). get y.weak l) h.1 ∙ ap (λ m. get m l) (option_leaves (λ b. with_count z b k) z (λ b. refl) (z.registers t reg))
effect_leaves z t (call.Count reg) (reply.Number k) a l h n = ap (λ (y : State). get y.weak l) h.1
effect_leaves z t (call.Take to id) (reply.Block i) a l h n = ap (λ (y : State). get y.weak l) h.1
effect_leaves z t (call.SetAssoc object key value) (reply.Block id) a l h n = ap (λ (y : State). get y.weak l) h.1 ∙ ap (λ m. get m l) (option_leaves (λ b. with_assoc z b key.0 (z.registers t value)) z (λ b. refl) (z.registers t object))
effect_leaves z t (call.GetAssoc to object key) (reply.Block id) a l h n = ap (λ (y : State). get y.weak l) h.1
effect_leaves z t (call.SetWeak loc from) (reply.Block v) a l h n = ap (λ (y : State). get y.weak l) h.1 ∙ assigned_elsewhere z (weak_loc z t loc) v l n
effect_leaves z t (call.ReadWeak to loc) (reply.Block id) a l h n = ap (λ (y : State). get y.weak l) h.1
effect_leaves z t call.Stats (reply.Stats s) a l h n = ap (λ (y : State). get y.weak l) h.1
effect_leaves z t (call.Begin mode) reply.Begun a l h n = ap (λ (y : State). get y.weak l) h.1
effect_leaves z t call.Condemn (reply.Condemned r) a l h n = ap (λ (y : State). get y.weak l) h.4 ∙ left_out z.weak (λ k. shows_one r.list (get z.weak k)) l
effect_leaves z t call.Finalise (reply.Finalised id) a l h n = ap (λ (y : State). get y.weak l) h.3 ∙ ap (λ m. get m l) (actions_leave id (actions_of z id) z)
effect_leaves z t call.Reclaim (reply.Settled gone kept) a l h n = ap (λ (y : State). get y.weak l) h.does ∙ left_out z.weak (λ k. is_word_of gone.list k) l
effect_leaves z t call.Leave (reply.Reclaimed gone) a l h n = ap (λ (y : State). get y.weak l) h.does
effect_leaves z t _ _ a l h n = absurd h

happens_leaves : (z : State) (t : ℕ) (c : Call) (r : Reply) (a : State) (l : WeakLoc) → Happens z t c r a → (assigned_loc z t c r ≡ Some l → ⊥) → get a.weak l ≡ left_after l r (get z.weak l)
happens_leaves z t c reply.Busy a l h n = ap (λ (y : State). get y.weak l) h.1
happens_leaves z t c r a l h n = ap (λ (y : State). get y.weak l) h.2 ∙ effect_leaves z t c r h.0 l h.1 n

-- what a location shows after an entry that doesn't assign to it
pub step_leaves : (z : State) (e : Entry) (after : State) (l : WeakLoc) → Step z e after → ((v : Option BlockId) → Assigns z e l v → ⊥) → get after.weak l ≡ left_after l e.reply (get z.weak l)
step_leaves z e after l s none = by_misuse (misuse_of z e.thread e.call s.need) s.does
  where
    by_misuse : (m : Option Misuse) → MatchOption m (Happens (with_escaped z s.need) e.thread e.call e.reply after) (λ m. (e.reply ≡ reply.Misuse m) × (after ≡ z)) → get after.weak l ≡ left_after l e.reply (get z.weak l)
    by_misuse None h = happens_leaves (with_escaped z s.need) e.thread e.call e.reply after l h (λ here. none (assigned_value z e.thread e.call) (does_assign z e.thread e.call e.reply l here))
    by_misuse (Some m) h = ap (λ (y : State). get y.weak l) h.1 ∙ ap (λ r. left_after l r (get z.weak l)) (sym h.0)

happens_assigns : (z : State) (t : ℕ) (loc : Loc) (from : ℕ) (r : Reply) (a : State) (l : WeakLoc) → Happens z t (call.SetWeak loc from) r a → weak_loc z t loc ≡ Some l → get a.weak l ≡ value_to_show z (z.registers t from)
happens_assigns z t loc from (reply.Block b) a l h here =
    ap (λ (y : State). get y.weak l) h.2
    ∙ ap (λ (y : State). get y.weak l) h.1.1
    ∙ ap (λ k. get (option_map_or (λ k. with_weak z k b) k z).weak l) here
    ∙ assigned_here z l b
    ∙ h.1.0
happens_assigns z t loc from reply.Busy a l h here = absurd h.0
happens_assigns z t loc from r a l h here = absurd h.1

-- what a location shows after an entry that assigns to it
pub step_assigns : (z : State) (e : Entry) (after : State) (l : WeakLoc) (v : Option BlockId) → Step z e after → Assigns z e l v → get after.weak l ≡ value_to_show z v
step_assigns z e after l v s assigns = by_misuse (misuse_of z e.thread e.call s.need) s.does
  where
    by_misuse : (m : Option Misuse) → MatchOption m (Happens (with_escaped z s.need) e.thread e.call e.reply after) (λ m. (e.reply ≡ reply.Misuse m) × (after ≡ z)) → get after.weak l ≡ value_to_show z v
    by_misuse None h =
        happens_assigns (with_escaped z s.need) e.thread assigns.0 assigns.1 e.reply after l (subst (λ c. Happens (with_escaped z s.need) e.thread c e.reply after) assigns.2 h) assigns.4
        ∙ ap (value_to_show z) (sym assigns.5)
    by_misuse (Some m) h = absurd (assigns.3 m h.0)
