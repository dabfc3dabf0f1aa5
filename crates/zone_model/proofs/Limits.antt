-- Counts and serials never pass their options
use Rattle.std.proofs.Common.{◌≡◌, ◌≤◌, ◌+◌, ℕ, zero, suc, ◌==◌, Bool, true, false, cond, List, [], ◌∷◌, Option, Some, None, MatchOption, fold, refl, sym, ap, subst, ◌∙◌, unwrap_or, arith}
use Rattle.std.proofs.lemmas.Bool.Decides.{nat_tests}
use Rattle.std.specs.Option.{option_map_or}
use Rattle.std.specs.declared.cmp.Ordering.{Ordering}
use Rattle.std.specs.declared.cmp.Ordering.TheVariants.{Less, Equal, Greater}
use Rattle.std.specs.Ordering.{is_eq}
use Rattle.std.specs.FinMap.{get, get-empty}
use Rattle.az_base.specs.declared.action.Action.{Action}
use Rattle.az_base.specs.declared.action.Action.TheVariants as action
use Rattle.az_base.specs.declared.block_id.BlockId.{BlockId}
use Rattle.az_base.specs.declared.misuse.Misuse.{Misuse}
use Rattle.az_base.specs.declared.misuse.Misuse.TheVariants as misuse
use Rattle.az_base.specs.declared.options.Options.{Options}
use Rattle.az_base.specs.Ids.{id_cmp, ids_total}
use Rattle.az_base.specs.declared.word.Word.{Word}
use Rattle.az_base.specs.declared.word.Word.TheVariants as word
use Rattle.zone_model.specs.declared.call.Call.{Call}
use Rattle.zone_model.specs.declared.call.Call.TheVariants as call
use Rattle.zone_model.specs.declared.entry.Entry.{Entry}
use Rattle.zone_model.specs.declared.entry.Reply.{Reply}
use Rattle.zone_model.specs.declared.entry.Reply.TheVariants as reply
use Rattle.zone_model.specs.State.{State, opening, count_of, positive_count, reference, with_word, with_count, with_assoc, with_weak}
use Rattle.zone_model.specs.Escape.{with_escaped}
use Rattle.zone_model.specs.Misuses.{misuse_of, first_of, null_block, no_word, wrong_class, over_release, count_full, serials_used, zone_full, not_held}
use Rattle.zone_model.specs.Collection.{with_action, actions_of}
use Rattle.zone_model.specs.Effect.{Effect, with_new, weak_loc}
use Rattle.zone_model.specs.Step.{Step, Happens}
use Rattle.zone_model.proofs.WeakSteps.{get-with_value}

abbrev pub Limits : State → Type 0
Limits z = ((b : BlockId) → count_of z b ≤ z.options.counts) × ((t : ℕ) → z.serials t ≤ z.options.serials)

-- what a call that is no misuse leaves room for
abbrev LeavesRoom : State → ℕ → Call → Type 0
LeavesRoom z t (call.New to layout actions) = z.serials t + 1 ≤ z.options.serials
LeavesRoom z t (call.Retain reg) = (b : BlockId) → z.registers t reg ≡ Some b → count_of z b + 1 ≤ z.options.counts
LeavesRoom z t _ = Unit {0}

middle_two : (a b c d e f g h : Bool) → first_of ((a, misuse.NullBlock) ∷ (b, misuse.NoWord) ∷ (c, misuse.WrongClass) ∷ (d, misuse.OverRelease) ∷ (e, misuse.CountFull) ∷ (f, misuse.SerialsUsed) ∷ (g, misuse.ZoneFull) ∷ (h, misuse.NotHeld) ∷ []) ≡ None → (e ≡ false) × (f ≡ false)
middle_two true b c d e f g h n = cc (n)
middle_two false true c d e f g h n = cc (n)
middle_two false false true d e f g h n = cc (n)
middle_two false false false true e f g h n = cc (n)
middle_two false false false false true f g h n = cc (n)
middle_two false false false false false true g h n = cc (n)
middle_two false false false false false false g h n = (refl, refl)

right_limits : (z : State) (t : ℕ) (c : Call) (need : BlockId → Bool) → misuse_of z t c need ≡ None → (count_full z t c ≡ false) × (serials_used z t c ≡ false)
right_limits z t c need h = middle_two (null_block z t c) (no_word z t c) (wrong_class z t c) (over_release z t c) (count_full z t c) (serials_used z t c) (zone_full z t c need) (not_held z t c) h

one_more : (a b : ℕ) → (a == b) ≡ false → a ≤ b → a + 1 ≤ b
one_more a b h below = grind (arith, nat_tests)

leaves : (z : State) → Limits z → (t : ℕ) (c : Call) (need : BlockId → Bool) → misuse_of z t c need ≡ None → LeavesRoom z t c
leaves z s t (call.New to layout actions) need h = one_more (z.serials t) z.options.serials (right_limits z t (call.New to layout actions) need h).1 (s.1 t)
leaves z s t (call.Retain reg) need h = λ b is. one_more (count_of z b) z.options.counts (sym (ap (λ o. option_map_or (λ b. count_of z b == z.options.counts) o false) is) ∙ (right_limits z t (call.Retain reg) need h).0) (s.0 b)
leaves z s t _ need h = tt

unwrapped : (n : ℕ) → unwrap_or (positive_count n) 0 ≡ n
unwrapped zero = refl
unwrapped (suc n) = refl

module _ (z : State) (s : Limits z) where
  count_limits : (id : BlockId) (n : ℕ) → n ≤ z.options.counts → Limits (with_count z id n)
  count_limits id n low = (λ b. subst (λ o. unwrap_or o 0 ≤ z.options.counts) (sym (get-with_value ids_total z.counts id (positive_count n) b)) (by b (id_cmp b id)), s.1)
    where
      by : (b : BlockId) (r : Ordering) → unwrap_or (cond (is_eq r) (positive_count n) (get z.counts b)) 0 ≤ z.options.counts
      by b Less = s.0 b
      by b Equal = subst (λ k. k ≤ z.options.counts) (sym (unwrapped n)) low
      by b Greater = s.0 b

  counted : (o : Option BlockId) (n : ℕ) → ((b : BlockId) → o ≡ Some b → n ≤ z.options.counts) → Limits (option_map_or (λ b. with_count z b n) o z)
  counted None n low = s
  counted (Some b) n low = count_limits b n (low b refl)

  retained : (o : Option BlockId) (n : ℕ) → n ≡ option_map_or (λ b. count_of z b) o 0 + 1 → ((b : BlockId) → o ≡ Some b → count_of z b + 1 ≤ z.options.counts) → Limits (option_map_or (λ b. with_count z b n) o z)
  retained None n is room = s
  retained (Some b) n is room = count_limits b n (subst (λ k. k ≤ z.options.counts) (sym is) (room b refl))

  released : (o : Option BlockId) (n : ℕ) → n + 1 ≡ option_map_or (λ b. count_of z b) o 0 → Limits (option_map_or (λ b. with_count z b n) o z)
  released None n is = s
  released (Some b) n is = count_limits b n (let below = s.0 b in omega (arith, is, below))

  word_limits : (a : Option BlockId) (at : ℕ) (w : Word) → Limits (with_word z a at w)
  word_limits None at w = s
  word_limits (Some id) at w = s

  associated : (o v : Option BlockId) (key : ℕ) → Limits (option_map_or (λ a. with_assoc z a key v) o z)
  associated None v key = s
  associated (Some a) v key = s

  shown : (o : Option _) (v : Option BlockId) → Limits (option_map_or (λ l. with_weak z l v) o z)
  shown None v = s
  shown (Some l) v = s

  new_limits : (t to : ℕ) (l : _) (actions : List Action) → z.serials t + 1 ≤ z.options.serials → Limits (with_new z t to l actions)
  new_limits t to l actions room = (s.0, λ u. by u (t == u))
    where
      by : (u : ℕ) (b : Bool) → cond b (z.serials t + 1) (z.serials u) ≤ z.options.serials
      by u true = room
      by u false = s.1 u

actions_limits : (z : State) → Limits z → (b : BlockId) (actions : List Action) → Limits (fold (with_action b) z actions)
actions_limits z s b [] = s
actions_limits z s b (action.Keep g ∷ more) = actions_limits (with_action b z (action.Keep g)) s b more
actions_limits z s b (action.Pass g at ∷ more) = actions_limits (with_action b z (action.Pass g at)) s b more

effect_limits : (z : State) → Limits z → (t : ℕ) (c : Call) (r : Reply) (a : State) → LeavesRoom z t c → Effect z t c r a → Limits a
effect_limits z s t (call.New to layout actions) (reply.Block id) a n h = subst Limits (sym h.1) (new_limits z s t to layout actions n)
effect_limits z s t (call.Load to from at) (reply.Block b) a n h = subst Limits (sym h.1) s
effect_limits z s t (call.Store into at from) reply.Done a n h = subst Limits (sym h) (word_limits z s (z.registers t into) at (reference (z.registers t from)))
effect_limits z s t (call.Put into at number) reply.Done a n h = subst Limits (sym h) (word_limits z s (z.registers t into) at (word.Number number))
effect_limits z s t (call.Get from at) (reply.Number k) a n h = subst Limits (sym h.1) s
effect_limits z s t (call.Copy to from) reply.Done a n h = subst Limits (sym h) s
effect_limits z s t (call.DropReg reg) reply.Done a n h = subst Limits (sym h) s
effect_limits z s t call.CollectLocal (reply.Reclaimed gone) a n h = subst Limits (sym h.1) s
effect_limits z s t (call.SetRoot root from) reply.Done a n h = subst Limits (sym h) s
effect_limits z s t (call.GetRoot to root) (reply.Block b) a n h = subst Limits (sym h.1) s
effect_limits z s t (call.Retain reg) (reply.Number k) a n h = subst Limits (sym h.1) (retained z s (z.registers t reg) k h.0 n)
effect_limits z s t (call.Release reg) (reply.Number k) a n h = subst Limits (sym h.1) (released z s (z.registers t reg) k h.0)
effect_limits z s t (call.Count reg) (reply.Number k) a n h = subst Limits (sym h.1) s
effect_limits z s t (call.Take to id) (reply.Block i) a n h = subst Limits (sym h.1) s
effect_limits z s t (call.SetAssoc object key value) (reply.Block b) a n h = subst Limits (sym h.1) (associated z s (z.registers t object) (z.registers t value) key.0)
effect_limits z s t (call.GetAssoc to object key) (reply.Block b) a n h = subst Limits (sym h.1) s
effect_limits z s t (call.SetWeak loc from) (reply.Block v) a n h = subst Limits (sym h.1) (shown z s (weak_loc z t loc) v)
effect_limits z s t (call.ReadWeak to loc) (reply.Block b) a n h = subst Limits (sym h.1) s
effect_limits z s t call.Stats (reply.Stats k) a n h = subst Limits (sym h.1) s
effect_limits z s t (call.Begin mode) reply.Begun a n h = subst Limits (sym h.1) s
effect_limits z s t call.Condemn (reply.Condemned r) a n h = subst Limits (sym h.4) s
effect_limits z s t call.Finalise (reply.Finalised b) a n h = subst Limits (sym h.3) (actions_limits z s b (actions_of z b))
effect_limits z s t call.Reclaim (reply.Settled gone kept) a n h = subst Limits (sym h.does) s
effect_limits z s t call.Leave (reply.Reclaimed gone) a n h = subst Limits (sym h.does) s
effect_limits z s t _ _ a n h = absurd h

happens_limits : (z : State) → Limits z → (t : ℕ) (c : Call) (r : Reply) (a : State) → LeavesRoom z t c → Happens z t c r a → Limits a
happens_limits z s t c reply.Busy a n h = subst Limits (sym h.1) s
happens_limits z s t c r a n h = subst Limits (sym h.2) (effect_limits z s t c r h.0 n h.1)

escaped_leaves : (z : State) (need : BlockId → Bool) (t : ℕ) (c : Call) → LeavesRoom z t c → LeavesRoom (with_escaped z need) t c
escaped_leaves z need t (call.New to layout actions) n = n
escaped_leaves z need t (call.Retain reg) n = n
escaped_leaves z need t _ n = tt

pub step_limits : (z : State) (e : Entry) (after : State) → Limits z → Step z e after → Limits after
step_limits z e after s k = by_misuse (misuse_of z e.thread e.call k.need) refl k.does
  where
    by_misuse : (m : Option Misuse) → misuse_of z e.thread e.call k.need ≡ m → MatchOption m (Happens (with_escaped z k.need) e.thread e.call e.reply after) (λ m. (e.reply ≡ reply.Misuse m) × (after ≡ z)) → Limits after
    by_misuse None right h = happens_limits (with_escaped z k.need) s e.thread e.call e.reply after (escaped_leaves z k.need e.thread e.call (leaves z s e.thread e.call k.need right)) h
    by_misuse (Some m) right h = subst Limits (sym h.1) s

pub opening_limits : (o : Options) → Limits (opening o)
opening_limits o = (λ b. (let none : count_of (opening o) b ≡ 0 = ap (λ o. unwrap_or o 0) (get-empty id_cmp b) in omega (arith, none)), λ t. omega arith)
