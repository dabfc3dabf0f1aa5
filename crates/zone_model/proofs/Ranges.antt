-- Registers past 15 and roots past 255 stay null where calls are in range
use Rattle.std.proofs.Common.{◌≡◌, ◌≤◌, ◌<◌, ℕ, ◌==◌, Bool, true, false, cond, ◌&&◌, List, [], ◌∷◌, Option, Some, None, MatchOption, fold, refl, sym, ap, subst, ◌∙◌, eqb-true, arith}
use Rattle.std.specs.Option.{option_map_or}
use Rattle.std.specs.List.{AllByRecursion}
use Rattle.std.specs.FinMap.{FinMap, get, get-empty}
use Rattle.az_base.specs.declared.action.Action.{Action}
use Rattle.az_base.specs.declared.action.Action.TheVariants as action
use Rattle.az_base.specs.declared.block_id.BlockId.{BlockId}
use Rattle.az_base.specs.declared.misuse.Misuse.{Misuse}
use Rattle.az_base.specs.declared.options.Options.{Options}
use Rattle.az_base.specs.declared.word.Word.{Word}
use Rattle.az_base.specs.Ids.{id_cmp, id_of}
use Rattle.block_layouts.specs.declared.layout.Layout.{Layout}
use Rattle.zone_model.specs.declared.call.Call.{Call}
use Rattle.zone_model.specs.declared.call.Call.TheVariants as call
use Rattle.zone_model.specs.declared.entry.Entry.{Entry}
use Rattle.zone_model.specs.declared.entry.Reply.{Reply}
use Rattle.zone_model.specs.declared.entry.Reply.TheVariants as reply
use Rattle.zone_model.specs.State.{State, Block, opening, with_register, with_root, with_word, with_count, with_assoc, with_weak, without_blocks}
use Rattle.zone_model.specs.Escape.{with_escaped}
use Rattle.zone_model.specs.Misuses.{misuse_of}
use Rattle.zone_model.specs.Collection.{with_action, actions_of, with_finalised, with_end}
use Rattle.zone_model.specs.Effect.{Effect, new_block, with_new, weak_loc}
use Rattle.zone_model.specs.Step.{Step, Happens}
use Rattle.zone_model.specs.InRange.{ActionInRange, CallInRange, InRange}
use Rattle.zone_model.proofs.Blocks.{and_second}
use Rattle.zone_model.proofs.EachBlock.{Each, each_edit, each_insert, each_left, each_escaped}

abbrev ActionsInRange : Block → Type 0
ActionsInRange b = AllByRecursion ActionInRange b.actions

module _ (z : State) (s : InRange z) where
  -- a register gets a value
  register_ranges : (t to : ℕ) (v : Option BlockId) → to ≤ 15 → InRange (with_register z t to v)
  register_ranges t to v low = record { registers = λ u q past. by u q past ((t == u) && (to == q)) refl; roots = s.roots; actions = s.actions }
    where
      by : (u q : ℕ) → 15 < q → (b : Bool) → ((t == u) && (to == q)) ≡ b → cond b v (z.registers u q) ≡ None
      by u q past true e = let same : to ≡ q = eqb-true to q (and_second (t == u) (to == q) e) in absurd (omega (arith, same, low, past))
      by u q past false e = s.registers u q past

  -- or null
  dropped_ranges : (t r : ℕ) → InRange (with_register z t r None)
  dropped_ranges t r = record { registers = λ u q past. by ((t == u) && (r == q)) (z.registers u q) (s.registers u q past); roots = s.roots; actions = s.actions }
    where
      by : (b : Bool) (v : Option BlockId) → v ≡ None → cond b None v ≡ None
      by true v h = refl
      by false v h = h

  -- a root gets a value
  root_ranges : (g : ℕ) (v : Option BlockId) → g ≤ 255 → InRange (with_root z g v)
  root_ranges g v low = record { registers = s.registers; roots = λ q past. by q past (g == q) refl; actions = s.actions }
    where
      by : (q : ℕ) → 255 < q → (b : Bool) → (g == q) ≡ b → cond b v (z.roots q) ≡ None
      by q past true e = let same : g ≡ q = eqb-true g q e in absurd (omega (arith, same, low, past))
      by q past false e = s.roots q past

  -- other blocks, whose actions are in range
  blocks_ranges : (m : FinMap id_cmp Block) → Each ActionsInRange m → InRange (record z { blocks = m })
  blocks_ranges m all = record { registers = s.registers; roots = s.roots; actions = all }

  word_ranges : (a : Option BlockId) (at : ℕ) (w : Word) → InRange (with_word z a at w)
  word_ranges None at w = s
  word_ranges (Some id) at w = blocks_ranges _ (each_edit ActionsInRange z.blocks s.actions id _ (λ b is acts. acts))

  left_ranges : (gone : List BlockId) → InRange (without_blocks z gone)
  left_ranges gone = blocks_ranges _ (each_left ActionsInRange z.blocks s.actions gone)

  escape_ranges : (need : BlockId → Bool) → InRange (with_escaped z need)
  escape_ranges need = blocks_ranges _ (each_escaped ActionsInRange z need (λ b acts. acts) s.actions)

  counted : (o : Option BlockId) (n : ℕ) → InRange (option_map_or (λ b. with_count z b n) o z)
  counted None n = s
  counted (Some b) n = record { registers = s.registers; roots = s.roots; actions = s.actions }

  associated : (o v : Option BlockId) (key : ℕ) → InRange (option_map_or (λ a. with_assoc z a key v) o z)
  associated None v key = s
  associated (Some a) v key = record { registers = s.registers; roots = s.roots; actions = s.actions }

  shown : (o : Option _) (v : Option BlockId) → InRange (option_map_or (λ l. with_weak z l v) o z)
  shown None v = s
  shown (Some l) v = record { registers = s.registers; roots = s.roots; actions = s.actions }

  new_ranges : (t to : ℕ) (l : Layout) (actions : List Action) → to ≤ 15 → AllByRecursion ActionInRange actions → InRange (with_new z t to l actions)
  new_ranges t to l actions low acts = record {
    registers = (register_ranges t to (Some (id_of t (z.serials t))) low).registers;
    roots = s.roots;
    actions = each_insert ActionsInRange z.blocks s.actions (id_of t (z.serials t)) (new_block z t l actions) acts;
  }

  end_ranges : (t : ℕ) → InRange (with_end z t)
  end_ranges t = record { registers = λ u q past. by (t == u) (z.registers u q) (s.registers u q past); roots = s.roots; actions = s.actions }
    where
      by : (b : Bool) (v : Option BlockId) → v ≡ None → cond b None v ≡ None
      by true v h = refl
      by false v h = h

-- a finaliser's actions
action_ranges : (z : State) → InRange z → (b : BlockId) (a : Action) → ActionInRange a → InRange (with_action b z a)
action_ranges z s b (action.Keep g) low = root_ranges z s g.0 _ low
action_ranges z s b (action.Pass g at) low = root_ranges z s g.0 _ low

actions_ranges : (z : State) → InRange z → (b : BlockId) (actions : List Action) → AllByRecursion ActionInRange actions → InRange (fold (with_action b) z actions)
actions_ranges z s b [] acts = s
actions_ranges z s b (action.Keep g ∷ more) acts = actions_ranges (with_action b z (action.Keep g)) (action_ranges z s b (action.Keep g) acts.0) b more acts.1
actions_ranges z s b (action.Pass g at ∷ more) acts = actions_ranges (with_action b z (action.Pass g at)) (action_ranges z s b (action.Pass g at) acts.0) b more acts.1

of_block : (z : State) → InRange z → (b : BlockId) → AllByRecursion ActionInRange (actions_of z b)
of_block z s b = go (get z.blocks b) refl
  where
    go : (o : Option Block) → get z.blocks b ≡ o → AllByRecursion ActionInRange (option_map_or (λ (k : Block). k.actions) o [])
    go None e = tt
    go (Some k) e = s.actions b k e

finalised_ranges : (z : State) → InRange z → (b : BlockId) → InRange (with_finalised (fold (with_action b) z (actions_of z b)) b)
finalised_ranges z s b =
    let done = actions_ranges z s b (actions_of z b) (of_block z s b) in
    blocks_ranges (fold (with_action b) z (actions_of z b)) done _ (each_edit ActionsInRange (fold (with_action b) z (actions_of z b)).blocks done.actions b _ (λ k is acts. acts))

-- nothing of it changes
same_ranges : (z a : State) → InRange z → a.registers ≡ z.registers → a.roots ≡ z.roots → a.blocks ≡ z.blocks → InRange a
same_ranges z a s registers roots blocks = record {
  registers = λ t r past. ap (λ f. f t r) registers ∙ s.registers t r past;
  roots = λ g past. ap (λ f. f g) roots ∙ s.roots g past;
  actions = λ id b is. s.actions id b (sym (ap (λ (m : FinMap id_cmp Block). get m id) blocks) ∙ is);
}

effect_ranges : (z : State) → InRange z → (t : ℕ) (c : Call) (r : Reply) (a : State) → CallInRange c → Effect z t c r a → InRange a
effect_ranges z s t (call.New to layout actions) (reply.Block id) a n h = subst InRange (sym h.1) (new_ranges z s t to layout actions n.0 n.1)
effect_ranges z s t (call.Load to from at) (reply.Block b) a n h = subst InRange (sym h.1) (register_ranges z s t to b n)
effect_ranges z s t (call.Store into at from) reply.Done a n h = subst InRange (sym h) (word_ranges z s (z.registers t into) at _)
effect_ranges z s t (call.Put into at number) reply.Done a n h = subst InRange (sym h) (word_ranges z s (z.registers t into) at _)
effect_ranges z s t (call.Get from at) (reply.Number k) a n h = subst InRange (sym h.1) s
effect_ranges z s t (call.Copy to from) reply.Done a n h = subst InRange (sym h) (register_ranges z s t to _ n)
effect_ranges z s t (call.DropReg reg) reply.Done a n h = subst InRange (sym h) (dropped_ranges z s t reg)
effect_ranges z s t call.CollectLocal (reply.Reclaimed gone) a n h = subst InRange (sym h.1) (left_ranges z s gone.list)
effect_ranges z s t (call.SetRoot root from) reply.Done a n h = subst InRange (sym h) (root_ranges z s root.0 _ n)
effect_ranges z s t (call.GetRoot to root) (reply.Block b) a n h = subst InRange (sym h.1) (register_ranges z s t to b n)
effect_ranges z s t (call.Retain reg) (reply.Number k) a n h = subst InRange (sym h.1) (counted z s (z.registers t reg) k)
effect_ranges z s t (call.Release reg) (reply.Number k) a n h = subst InRange (sym h.1) (counted z s (z.registers t reg) k)
effect_ranges z s t (call.Count reg) (reply.Number k) a n h = subst InRange (sym h.1) s
effect_ranges z s t (call.Take to id) (reply.Block i) a n h = subst InRange (sym h.1) (register_ranges z s t to i n)
effect_ranges z s t (call.SetAssoc object key value) (reply.Block b) a n h = subst InRange (sym h.1) (associated z s (z.registers t object) (z.registers t value) key.0)
effect_ranges z s t (call.GetAssoc to object key) (reply.Block b) a n h = subst InRange (sym h.1) (register_ranges z s t to b n)
effect_ranges z s t (call.SetWeak loc from) (reply.Block v) a n h = subst InRange (sym h.1) (shown z s (weak_loc z t loc) v)
effect_ranges z s t (call.ReadWeak to loc) (reply.Block b) a n h = subst InRange (sym h.1) (register_ranges z s t to b n)
effect_ranges z s t call.Stats (reply.Stats k) a n h = subst InRange (sym h.1) s
effect_ranges z s t (call.Begin mode) reply.Begun a n h = subst InRange (sym h.1) (same_ranges z _ s refl refl refl)
effect_ranges z s t call.Condemn (reply.Condemned r) a n h = subst InRange (sym h.4) (same_ranges z _ s refl refl refl)
effect_ranges z s t call.Finalise (reply.Finalised b) a n h = subst InRange (sym h.3) (finalised_ranges z s b)
effect_ranges z s t call.Reclaim (reply.Settled gone kept) a n h = subst InRange (sym h.does) (same_ranges (without_blocks z gone.list) _ (left_ranges z s gone.list) refl refl refl)
effect_ranges z s t call.Leave (reply.Reclaimed gone) a n h = subst InRange (sym h.does) (end_ranges (without_blocks z gone.list) (left_ranges z s gone.list) t)
effect_ranges z s t _ _ a n h = absurd h

happens_ranges : (z : State) → InRange z → (t : ℕ) (c : Call) (r : Reply) (a : State) → CallInRange c → Happens z t c r a → InRange a
happens_ranges z s t c reply.Busy a n h = subst InRange (sym h.1) s
happens_ranges z s t c r a n h = subst InRange (sym h.2) (same_ranges h.0 _ (effect_ranges z s t c r h.0 n h.1) refl refl refl)

pub step_ranges : (z : State) (e : Entry) (after : State) → InRange z → CallInRange e.call → Step z e after → InRange after
step_ranges z e after s n k = by_misuse (misuse_of z e.thread e.call k.need) k.does
  where
    by_misuse : (m : Option Misuse) → MatchOption m (Happens (with_escaped z k.need) e.thread e.call e.reply after) (λ m. (e.reply ≡ reply.Misuse m) × (after ≡ z)) → InRange after
    by_misuse None h = happens_ranges (with_escaped z k.need) (escape_ranges z s k.need) e.thread e.call e.reply after n h
    by_misuse (Some m) h = subst InRange (sym h.1) s

pub opening_ranges : (o : Options) → InRange (opening o)
opening_ranges o = record {
  registers = λ t r past. refl;
  roots = λ g past. refl;
  actions = λ id b is. (let no : None ≡ Some b = sym (get-empty id_cmp id) ∙ is in cc (no));
}
