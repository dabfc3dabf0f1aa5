-- What holds of each block by itself: it escaped no later than now, and while it is unescaped it has no actions and isn't finalised
use Rattle.std.proofs.Common.{◌≡◌, ◌≤◌, ◌+◌, ℕ, Bool, true, false, cond, not, ◌||◌, List, [], ◌∷◌, Option, Some, None, MatchOption, fold, option_and_then, refl, sym, ap, subst, ◌∙◌, is_some, arith, IsTrue}
use Rattle.std.specs.Option.{option_map_or}
use Rattle.std.specs.FinMap.{FinMap, get, get-empty}
use Rattle.az_base.specs.declared.action.Action.{Action}
use Rattle.az_base.specs.declared.action.Action.TheVariants as action
use Rattle.az_base.specs.declared.block_id.BlockId.{BlockId}
use Rattle.az_base.specs.declared.options.Options.{Options}
use Rattle.az_base.specs.declared.misuse.Misuse.{Misuse}
use Rattle.az_base.specs.declared.word.Word.{Word}
use Rattle.az_base.specs.Ids.{id_cmp, id_of}
use Rattle.block_layouts.specs.declared.layout.Layout.{Layout}
use Rattle.zone_model.specs.declared.call.Call.{Call}
use Rattle.zone_model.specs.declared.call.Call.TheVariants as call
use Rattle.zone_model.specs.declared.entry.Entry.{Entry}
use Rattle.zone_model.specs.declared.entry.Reply.{Reply}
use Rattle.zone_model.specs.declared.entry.Reply.TheVariants as reply
use Rattle.zone_model.specs.State.{State, Block, opening, is_nil, is_escaped, with_word, with_count, with_assoc, with_weak}
use Rattle.zone_model.specs.Quanta.{is_born_escaped}
use Rattle.zone_model.specs.Collection.{with_action, actions_of, with_finalised}
use Rattle.zone_model.specs.Effect.{Effect, new_block, with_new, weak_loc}
use Rattle.zone_model.specs.Escape.{with_escaped}
use Rattle.zone_model.specs.Misuses.{misuse_of}
use Rattle.zone_model.specs.Step.{Step, Happens}
use Rattle.zone_model.proofs.Intact.{Intact}
use Rattle.zone_model.proofs.Made.{actions_same}
use Rattle.zone_model.proofs.EachBlock.{Each, each_edit, each_insert, each_left, each_escaped}
use Rattle.zone_model.proofs.IntactCycles.{found_among, condemned_out}
use Rattle.zone_model.proofs.IntactEscapes.{escape_intact}

pub record Fits (reclaims : ℕ) (b : Block) : Type 0 where
  pub since : (n : ℕ) → b.since ≡ Some n → n ≤ reclaims
  pub inert : b.since ≡ None → (b.actions ≡ []) × (b.finalised ≡ false)

abbrev pub AllFit : State → Type 0
AllFit z = Each (Fits z.reclaims) z.blocks

-- an escaped block, of now
now_fits : (n : ℕ) (b : Block) → Fits n (record b { since = Some n })
now_fits n b = record { since = λ k s. (let same : n ≡ k = cc in omega (arith, same)); inert = λ s. cc (s) }

-- blocks escape
pub escape_fits : (z : State) → AllFit z → (need : BlockId → Bool) → AllFit (with_escaped z need)
escape_fits z all need = each_escaped (Fits z.reclaims) z need (λ b fits. now_fits z.reclaims b) all

module _ (z : State) (all : AllFit z) where
  word_fits : (a : Option BlockId) (at : ℕ) (w : Word) → AllFit (with_word z a at w)
  word_fits None at w = all
  word_fits (Some id) at w = each_edit (Fits z.reclaims) z.blocks all id _ (λ b is fits. record { since = fits.since; inert = fits.inert })

  nil_of : (actions : List Action) → is_nil actions ≡ true → actions ≡ []
  nil_of [] h = refl
  nil_of (a ∷ actions) h = cc (h)

  or_false : (a b : Bool) → (not a || b) ≡ false → a ≡ true
  or_false true b h = refl
  or_false false b h = cc (h)

  born : (t : ℕ) (l : Layout) (actions : List Action) → Fits z.reclaims (new_block z t l actions)
  born t l actions = by_test (is_born_escaped z t l actions) refl
    where
      by_test : (e : Bool) → is_born_escaped z t l actions ≡ e → Fits z.reclaims (record (new_block z t l actions) { since = cond e (Some z.reclaims) None })
      by_test true e = now_fits z.reclaims (new_block z t l actions)
      by_test false e = record { since = λ n s. cc (s); inert = λ s. (nil_of actions (or_false (is_nil actions) _ e), refl) }

  new_fits : (t to : ℕ) (l : Layout) (actions : List Action) → AllFit (with_new z t to l actions)
  new_fits t to l actions = each_insert (Fits z.reclaims) z.blocks all (id_of t (z.serials t)) (new_block z t l actions) (born t l actions)

  counted : (o : Option BlockId) (n : ℕ) → AllFit (option_map_or (λ b. with_count z b n) o z)
  counted None n = all
  counted (Some b) n = all

  associated : (o v : Option BlockId) (key : ℕ) → AllFit (option_map_or (λ a. with_assoc z a key v) o z)
  associated None v key = all
  associated (Some a) v key = all

  shown : (o : Option _) (v : Option BlockId) → AllFit (option_map_or (λ l. with_weak z l v) o z)
  shown None v = all
  shown (Some l) v = all

-- later there were more Reclaims
more_fit : (n : ℕ) (b : Block) → Fits n b → Fits (n + 1) b
more_fit n b fits = record { since = λ k is. (let below = fits.since k is in omega (arith, below)); inert = fits.inert }

actions_fit : (b : BlockId) (actions : List Action) (z : State) → AllFit z → AllFit (fold (with_action b) z actions)
actions_fit b [] z all = all
actions_fit b (action.Keep g ∷ more) z all = actions_fit b more (with_action b z (action.Keep g)) all
actions_fit b (action.Pass g at ∷ more) z all = actions_fit b more (with_action b z (action.Pass g at)) all

-- a finalised block has escaped
finalised_fits : (z : State) → AllFit z → (b : BlockId) → IsTrue (is_escaped z b) → AllFit (with_finalised (fold (with_action b) z (actions_of z b)) b)
finalised_fits z all b out =
    let y = fold (with_action b) z (actions_of z b) in
    each_edit (Fits y.reclaims) y.blocks (actions_fit b (actions_of z b) z all) b _ (λ k is fits.
    record { since = fits.since; inert = λ none. absurd (never k (ap (λ (m : FinMap id_cmp Block). get m b) (sym (actions_same b (actions_of z b) z).1) ∙ is) none) })
  where
    never : (k : Block) → get z.blocks b ≡ Some k → k.since ≡ None → ⊥
    never k is none = let no : false ≡ true = sym (ap is_some none) ∙ sym (ap (λ (o : Option Block). is_some (option_and_then (λ (k : Block). k.since) o)) is) ∙ out in cc (no)

effect_fits : (z : State) → Intact z → AllFit z → (t : ℕ) (c : Call) (r : Reply) (a : State) → Effect z t c r a → AllFit a
effect_fits z s all t (call.New to layout actions) (reply.Block id) a h = subst AllFit (sym h.1) (new_fits z all t to layout actions)
effect_fits z s all t (call.Load to from at) (reply.Block b) a h = subst AllFit (sym h.1) all
effect_fits z s all t (call.Store into at from) reply.Done a h = subst AllFit (sym h) (word_fits z all (z.registers t into) at _)
effect_fits z s all t (call.Put into at number) reply.Done a h = subst AllFit (sym h) (word_fits z all (z.registers t into) at _)
effect_fits z s all t (call.Get from at) (reply.Number k) a h = subst AllFit (sym h.1) all
effect_fits z s all t (call.Copy to from) reply.Done a h = subst AllFit (sym h) all
effect_fits z s all t (call.DropReg reg) reply.Done a h = subst AllFit (sym h) all
effect_fits z s all t call.CollectLocal (reply.Reclaimed gone) a h = subst AllFit (sym h.1) (each_left (Fits z.reclaims) z.blocks all gone.list)
effect_fits z s all t (call.SetRoot root from) reply.Done a h = subst AllFit (sym h) all
effect_fits z s all t (call.GetRoot to root) (reply.Block b) a h = subst AllFit (sym h.1) all
effect_fits z s all t (call.Retain reg) (reply.Number k) a h = subst AllFit (sym h.1) (counted z all (z.registers t reg) k)
effect_fits z s all t (call.Release reg) (reply.Number k) a h = subst AllFit (sym h.1) (counted z all (z.registers t reg) k)
effect_fits z s all t (call.Count reg) (reply.Number k) a h = subst AllFit (sym h.1) all
effect_fits z s all t (call.Take to id) (reply.Block i) a h = subst AllFit (sym h.1) all
effect_fits z s all t (call.SetAssoc object key value) (reply.Block b) a h = subst AllFit (sym h.1) (associated z all (z.registers t object) (z.registers t value) key.0)
effect_fits z s all t (call.GetAssoc to object key) (reply.Block b) a h = subst AllFit (sym h.1) all
effect_fits z s all t (call.SetWeak loc from) (reply.Block v) a h = subst AllFit (sym h.1) (shown z all (weak_loc z t loc) v)
effect_fits z s all t (call.ReadWeak to loc) (reply.Block b) a h = subst AllFit (sym h.1) all
effect_fits z s all t call.Stats (reply.Stats k) a h = subst AllFit (sym h.1) all
effect_fits z s all t (call.Begin mode) reply.Begun a h = subst AllFit (sym h.1) all
effect_fits z s all t call.Condemn (reply.Condemned r) a h = subst AllFit (sym h.4) all
effect_fits z s all t call.Finalise (reply.Finalised b) a h = subst AllFit (sym h.3) (finalised_fits z all b (condemned_out z s t h.0 h.1 b (found_among _ h.0 b h.2)).1)
effect_fits z s all t call.Reclaim (reply.Settled gone kept) a h = subst AllFit (sym h.does) (λ q b is. more_fit z.reclaims b (each_left (Fits z.reclaims) z.blocks all gone.list q b is))
effect_fits z s all t call.Leave (reply.Reclaimed gone) a h = subst AllFit (sym h.does) (each_left (Fits z.reclaims) z.blocks all gone.list)
effect_fits z s all t _ _ a h = absurd h

happens_fit : (z : State) → Intact z → AllFit z → (t : ℕ) (c : Call) (r : Reply) (a : State) → Happens z t c r a → AllFit a
happens_fit z s all t c reply.Busy a h = subst AllFit (sym h.1) all
happens_fit z s all t c r a h = subst AllFit (sym h.2) (effect_fits z s all t c r h.0 h.1)

pub step_fits : (z : State) (e : Entry) (after : State) → Intact z → AllFit z → Step z e after → AllFit after
step_fits z e after s all k = by_misuse (misuse_of z e.thread e.call k.need) refl k.does
  where
    by_misuse : (m : Option Misuse) → misuse_of z e.thread e.call k.need ≡ m → MatchOption m (Happens (with_escaped z k.need) e.thread e.call e.reply after) (λ m. (e.reply ≡ reply.Misuse m) × (after ≡ z)) → AllFit after
    by_misuse None right h = happens_fit (with_escaped z k.need) (escape_intact z s e.thread e.call k.need k.needed right) (escape_fits z all k.need) e.thread e.call e.reply after h
    by_misuse (Some m) right h = subst AllFit (sym h.1) all

pub opening_fits : (o : Options) → AllFit (opening o)
opening_fits o q b h = let no : None ≡ Some b = sym (get-empty id_cmp q) ∙ h in cc (no)
