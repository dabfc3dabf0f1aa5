-- A local call is a step wherever its part is the thread's, and changes no other part
use Rattle.std.proofs.Common.{◌≡◌, ◌≤◌, ◌+◌, ℕ, ◌==◌, Bool, true, false, not, nat_lt, nat_le, ◌&&◌, List, [], ◌∷◌, Option, Some, None, MatchOption, IsTrue, refl, sym, ap, subst, ◌∙◌, inl, inr, is_none, option_and_then, slice_get, arith}
use Rattle.std.proofs.lemmas.Bool.Decides.{nat_tests}
use Rattle.std.specs.List.{list_any}
use Rattle.std.specs.Option.{option_map_or}
use Rattle.std.specs.FinMap.{get}
use Rattle.az_base.specs.declared.block_id.BlockId.{BlockId}
use Rattle.az_base.specs.declared.misuse.Misuse.{Misuse}
use Rattle.az_base.specs.declared.misuse.Misuse.TheVariants as misuse
use Rattle.az_base.specs.declared.word.Class.{Class}
use Rattle.az_base.specs.declared.word.Class.TheVariants as class
use Rattle.az_base.specs.declared.word.Word.TheVariants as word
use Rattle.az_base.specs.Ids.{ids_total, exact_ids}
use Rattle.block_layouts.specs.declared.layout.Layout.{Layout}
use Rattle.block_layouts.specs.Layouts.{len_of, class_at, same_class, quanta}
use Rattle.zone_model.specs.declared.call.Call.{Call}
use Rattle.zone_model.specs.declared.call.Call.TheVariants as call
use Rattle.zone_model.specs.declared.entry.Reply.{Reply}
use Rattle.zone_model.specs.declared.entry.Reply.TheVariants as reply
use Rattle.zone_model.specs.declared.entry.Entry.{Entry}
use Rattle.zone_model.specs.State.{State, Block, with_register, with_word, without_blocks, reference, referent, is_escaped, is_own}
use Rattle.zone_model.specs.Reach.{Live, IsHeld}
use Rattle.zone_model.specs.Escape.{Need, with_escaped}
use Rattle.zone_model.specs.Quanta.{used_quanta, quanta_needed, is_born_escaped}
use Rattle.zone_model.specs.Misuses.{Named, misuse_of, first_of, is_overfull}
use Rattle.zone_model.specs.Collection.{Lists}
use Rattle.zone_model.specs.Effect.{Effect, with_new}
use Rattle.zone_model.specs.Step.{Step, Happens, FindsBusy, seen_now}
use Rattle.zone_model.specs.Part.{Part, part_of, is_in, is_within, is_local, passes_local, part_after}
use Rattle.zone_model.proofs.Steps.{step_plain, step_misuse, plain_happens, tells_none}
use Rattle.zone_model.proofs.Made.{AllMade}
use Rattle.zone_model.proofs.Intact.{Intact}
use Rattle.zone_model.specs.LocalSteps.{LocalStep, Replies, misuse_within, IsFound}
use Rattle.zone_model.proofs.Blocks.{not_both, own_inside, own_thread}
use Rattle.zone_model.proofs.Sums.{total_nothing}
use Rattle.zone_model.proofs.IntactSteps.{next_free}
use Rattle.zone_model.proofs.PartChanges.{born_in_part}
use Rattle.zone_model.proofs.PartNeeds.{in_part, part_has, part_path, path_within, not_within}
use Rattle.zone_model.proofs.PartEffects.{effect_part}

not_true : (b : Bool) → (b ≡ true → ⊥) → b ≡ false
not_true true h = absurd (h refl)
not_true false h = refl

-- the misuse of a call that needs a word, and of one that fills the zone
abbrev named : ℕ → Class → Option Block → List Named
named at class o = option_map_or (λ (b : Block). let r : Named = record { layout = b.layout; at = at; class = class } in r ∷ []) o []

abbrev misuse_at : Bool → ℕ → Class → Bool → Option Block → Option Misuse
misuse_at null at class full o = first_of (
    (null, misuse.NullBlock)
    ∷ (list_any (λ w. nat_le (len_of w.layout) w.at) (named at class o), misuse.NoWord)
    ∷ (list_any (λ w. option_map_or (λ class. not (same_class class w.class)) (class_at w.layout w.at) false) (named at class o), misuse.WrongClass)
    ∷ (full, misuse.ZoneFull)
    ∷ [])

module _ (z : State) (s : Intact z) (t : ℕ) where
  abbrev p : Part
  p = part_of z t

  -- a register that holds null or a block of the part shows the same block
  block_same : (o : Option BlockId) → is_within p o ≡ true → option_and_then (λ id. get z.blocks id) o ≡ option_and_then (λ id. get p.blocks id) o
  block_same None h = refl
  block_same (Some id) h = sym (part_has z t id (sym (in_part z t id) ∙ h))

  not_full : is_overfull z (quanta_needed z (λ _. false)) ≡ false
  not_full = let zero : quanta_needed z (λ _. false) ≡ 0 = total_nothing ids_total exact_ids z.blocks in below (used_quanta z + quanta_needed z (λ _. false)) z.options.heap_quanta (omega (arith, zero, s.used))
    where
      below : (a b : ℕ) → a ≤ b → nat_lt b a ≡ false
      below a b l = grind (arith, nat_tests)

  no_born : (l : Layout) → not (passes_local p l) ≡ true → is_born_escaped z t l [] ≡ false
  no_born l h = born_in_part z t 0 l [] ∙ turn (passes_local p l) h
    where
      turn : (b : Bool) → not b ≡ true → b ≡ false
      turn true h = sym h
      turn false h = refl

  -- the misuse of a local call is told by the part
  pub misuse_same : (c : Call) → is_local p c ≡ true → misuse_of z t c (λ _. false) ≡ misuse_within p c
  misuse_same (call.Load to from at) h = ap (misuse_at (is_none (z.registers t from)) at class.Strong false) (block_same (z.registers t from) h)
  misuse_same (call.Store into at from) h =
      ap (λ f. misuse_at (is_none (z.registers t into)) at class.Strong f (option_and_then (λ id. get z.blocks id) (z.registers t into))) not_full
      ∙ ap (misuse_at (is_none (z.registers t into)) at class.Strong false) (block_same (z.registers t into) h)
  misuse_same (call.Put into at number) h = ap (misuse_at (is_none (z.registers t into)) at class.Plain false) (block_same (z.registers t into) h)
  misuse_same (call.Get from at) h = ap (misuse_at (is_none (z.registers t from)) at class.Plain false) (block_same (z.registers t from) h)
  misuse_same (call.New to layout []) h =
      ap (λ b. first_of ((z.serials t == z.options.serials, misuse.SerialsUsed) ∷ (b && is_overfull z (quanta (len_of layout)), misuse.ZoneFull) ∷ [])) (no_born layout h)
  misuse_same (call.New to layout (a ∷ actions)) h = cc (h)
  misuse_same (call.Copy to from) h = refl
  misuse_same (call.DropReg reg) h = refl
  misuse_same call.CollectLocal h = refl
  misuse_same _ h = cc

  -- nothing escapes at a local call
  pub local_needs : (c : Call) → is_local p c ≡ true → (id : BlockId) → Need z t c id → ⊥
  local_needs (call.Store into at from) h id n = let no : false ≡ true = sym (ap not h) ∙ not_within z s t (z.registers t into) n.0 in cc (no)
  local_needs (call.SetRoot root from) h id n = cc (h)
  local_needs (call.Retain reg) h id n = cc (h)
  local_needs (call.SetAssoc object key value) h id n = cc (h)
  local_needs (call.SetWeak loc from) h id n = cc (h)
  local_needs _ h id n = absurd n

  -- what is live of the thread's own blocks is what its registers reach
  found_live : (b : BlockId) → IsFound p b → Live z b
  found_live b f = (f.1, inl (t, f.0, f.2), (f.3.0, part_path z t f.1 f.3.0 b f.3.1))

  live_found : (b : BlockId) → IsTrue (is_own z t b) → Live z b → IsFound p b
  live_found b own live = by_held live.1
    where
      escaped_start : IsTrue (is_escaped z live.0) → IsFound p b
      escaped_start out =
          let within = path_within z s t live.0 live.2.0 b live.2.1 (inl out) (own_inside z t b own) in
          absurd (not_both (get z.blocks live.0) out (own_inside z t live.0 within.0))

      by_held : IsHeld z live.0 → IsFound p b
      by_held (inl in_register) =
          let u = in_register.0 in
          let within = path_within z s u live.0 live.2.0 b live.2.1 (s.names.registers u in_register.1 live.0 in_register.2) (own_inside z t b own) in
          let same : u ≡ t = sym (own_thread z u b within.1) ∙ own_thread z t b own in
          subst (λ v. IsFound (part_of z v) b) same (in_register.1, live.0, in_register.2, (live.2.0, within.2))
      by_held (inr (inl in_root)) = escaped_start (s.names.roots in_root.0 live.0 in_root.1)
      by_held (inr (inr counted)) = escaped_start (s.names.counts live.0 counted)

  dead_same : (gone : List BlockId) → Lists gone (λ b. IsTrue (is_in p b) × ¬ IsFound p b) → Lists gone (λ b. IsTrue (is_own z t b) × ¬ Live z b)
  dead_same gone l = (
    l.0,
    λ b. (
      λ h. let d = (l.1 b).0 h in let own : is_own z t b ≡ true = sym (in_part z t b) ∙ d.0 in (own, λ live. d.1 (live_found b own live)),
      λ d. (l.1 b).1 (in_part z t b ∙ d.0, λ f. d.1 (found_live b f)),
    ),
  )

  dead_back : (gone : List BlockId) → Lists gone (λ b. IsTrue (is_own z t b) × ¬ Live z b) → Lists gone (λ b. IsTrue (is_in p b) × ¬ IsFound p b)
  dead_back gone l = (
    l.0,
    λ b. (
      λ h. let d = (l.1 b).0 h in (in_part z t b ∙ d.0, λ f. d.1 (found_live b f)),
      λ d. let own : is_own z t b ≡ true = sym (in_part z t b) ∙ d.0 in (l.1 b).1 (own, λ live. d.1 (live_found b own live)),
    ),
  )

  -- what a local call replies is an effect
  local_effect : (c : Call) (r : Reply) → is_local p c ≡ true → Replies p t c r → (mid : State) × Effect z t c r mid
  local_effect (call.New to layout actions) (reply.Block id) h k = (with_new z t to layout actions, (k, refl))
  local_effect (call.Load to from at) (reply.Block b) h k = (with_register z t to b, (k ∙ ap (λ o. referent (option_and_then (λ (x : Block). slice_get x.words at) o)) (sym (block_same (z.registers t from) h)), refl))
  local_effect (call.Store into at from) reply.Done h k = (with_word z (z.registers t into) at (reference (z.registers t from)), refl)
  local_effect (call.Put into at number) reply.Done h k = (with_word z (z.registers t into) at (word.Number number), refl)
  local_effect (call.Get from at) (reply.Number n) h k = (z, (ap (λ o. option_and_then (λ (x : Block). slice_get x.words at) o) (block_same (z.registers t from) h) ∙ k, refl))
  local_effect (call.Copy to from) reply.Done h k = (with_register z t to (z.registers t from), refl)
  local_effect (call.DropReg reg) reply.Done h k = (with_register z t reg None, refl)
  local_effect call.CollectLocal (reply.Reclaimed gone) h k = (without_blocks z gone.list, (dead_same gone.list k, refl))
  local_effect _ _ h k = absurd k

  -- and the effect of a local call is what it replies
  effect_local : (c : Call) (r : Reply) (mid : State) → is_local p c ≡ true → Effect z t c r mid → Replies p t c r
  effect_local (call.New to layout actions) (reply.Block id) mid h k = k.0
  effect_local (call.Load to from at) (reply.Block b) mid h k = k.0 ∙ ap (λ o. referent (option_and_then (λ (x : Block). slice_get x.words at) o)) (block_same (z.registers t from) h)
  effect_local (call.Store into at from) reply.Done mid h k = tt
  effect_local (call.Put into at number) reply.Done mid h k = tt
  effect_local (call.Get from at) (reply.Number n) mid h k = sym (ap (λ o. option_and_then (λ (x : Block). slice_get x.words at) o) (block_same (z.registers t from) h)) ∙ k.0
  effect_local (call.Copy to from) reply.Done mid h k = tt
  effect_local (call.DropReg reg) reply.Done mid h k = tt
  effect_local call.CollectLocal (reply.Reclaimed gone) mid h k = dead_back gone.list k.0
  effect_local (call.SetRoot root from) r mid h k = cc (h)
  effect_local (call.GetRoot to root) r mid h k = cc (h)
  effect_local (call.Retain reg) r mid h k = cc (h)
  effect_local (call.Release reg) r mid h k = cc (h)
  effect_local (call.Count reg) r mid h k = cc (h)
  effect_local (call.Take to id) r mid h k = cc (h)
  effect_local (call.SetAssoc object key value) r mid h k = cc (h)
  effect_local (call.GetAssoc to object key) r mid h k = cc (h)
  effect_local (call.SetWeak loc from) r mid h k = cc (h)
  effect_local (call.ReadWeak to loc) r mid h k = cc (h)
  effect_local call.Stats r mid h k = cc (h)
  effect_local (call.Begin mode) r mid h k = cc (h)
  effect_local call.Condemn r mid h k = cc (h)
  effect_local call.Finalise r mid h k = cc (h)
  effect_local call.Reclaim r mid h k = cc (h)
  effect_local call.Leave r mid h k = cc (h)
  effect_local _ _ mid h k = absurd k

to_happens : (z : State) (t : ℕ) (c : Call) (r : Reply) (mid : State) → Effect z t c r mid → Happens z t c r (seen_now mid)
to_happens z t call.Stats reply.Busy mid h = absurd h
to_happens z t _ reply.Busy mid h = absurd h
to_happens z t c r mid h = (mid, h, refl)

pub local_busy : (z : State) (p : Part) (t : ℕ) (c : Call) → is_local p c ≡ true → FindsBusy z t c → ⊥
local_busy z p t (call.Begin mode) h b = cc (h)
local_busy z p t _ h b = absurd b

pub happens_effect : (z : State) (t : ℕ) (c : Call) (r : Reply) (a : State) → (FindsBusy z t c → ⊥) → Happens z t c r a → (mid : State) × Effect z t c r mid × (a ≡ seen_now mid)
happens_effect z t c reply.Busy a never h = absurd (never h.0)
happens_effect z t c r a never h = (h.0, h.1, h.2)

-- a step of a call that is a misuse and makes nothing escape
pub plain_refused : (z : State) (e : Entry) (a : State) (m : Misuse) → Step z e a → ((id : BlockId) → Need z e.thread e.call id → ⊥) → misuse_of z e.thread e.call (λ _. false) ≡ Some m → (e.reply ≡ reply.Misuse m) × (a ≡ z)
plain_refused z e a m step none wrong =
    let empty_need : step.need ≡ (λ _. false) = tells_none step.need (Need z e.thread e.call) step.needed none in
    let does = subst (λ (n : BlockId → Bool). MatchOption (misuse_of z e.thread e.call n) (Happens (with_escaped z n) e.thread e.call e.reply a) (λ m. (e.reply ≡ reply.Misuse m) × (a ≡ z))) empty_need step.does in
    subst (λ (m : Option Misuse). MatchOption m (Happens (with_escaped z (λ _. false)) e.thread e.call e.reply a) (λ m. (e.reply ≡ reply.Misuse m) × (a ≡ z))) wrong does

-- what a local entry with this misuse, or none, does to the part
abbrev Does : Part → Entry → Part → Option Misuse → Type 0
Does p e after m = MatchOption m (Replies p e.thread e.call e.reply × (after ≡ part_after p e.call e.reply)) (λ m. (e.reply ≡ reply.Misuse m) × (after ≡ p))

module _ (z : State) (s : Intact z) (made : AllMade z) where
  -- an entry that is local at its thread's part, with its reply there, is a step
  local_is_step : (e : Entry) (after : Part) → LocalStep (part_of z e.thread) e.thread e after → (a : State) × Step z e a × (part_of a e.thread ≡ after)
  local_is_step e after k = by_misuse (misuse_within (part_of z e.thread) e.call) (misuse_same z s e.thread e.call k.local) k.does
    where
      by_misuse : (m : Option Misuse) → misuse_of z e.thread e.call (λ _. false) ≡ m
          → MatchOption m (Replies (part_of z e.thread) e.thread e.call e.reply × (after ≡ part_after (part_of z e.thread) e.call e.reply)) (λ m. (e.reply ≡ reply.Misuse m) × (after ≡ part_of z e.thread))
          → (a : State) × Step z e a × (part_of a e.thread ≡ after)
      by_misuse None right h =
          let effect = local_effect z s e.thread e.call e.reply k.local h.0 in (
            seen_now effect.0,
            step_plain z e (seen_now effect.0) k.running (local_needs z s e.thread e.call k.local) right (to_happens z e.thread e.call e.reply effect.0 effect.1),
            effect_part z s e.thread e.call e.reply effect.0 (next_free z made e.thread) effect.1 ∙ sym h.1,
          )
      by_misuse (Some m) wrong h = (z, step_misuse z e m k.running (local_needs z s e.thread e.call k.local) wrong h.0, sym h.1)

  pub local_step : (t : ℕ) (e : Entry) (after : Part) → LocalStep (part_of z t) t e after → (a : State) × Step z e a × (part_of a t ≡ after)
  local_step t e after k = subst (λ u. LocalStep (part_of z u) u e after → (a : State) × Step z e a × (part_of a u ≡ after)) k.thread (local_is_step e after) k

  -- a step of a local call is local at its thread's part, with its reply there
  pub step_local : (e : Entry) (a : State) → Step z e a → is_local (part_of z e.thread) e.call ≡ true → LocalStep (part_of z e.thread) e.thread e (part_of a e.thread)
  step_local e a k local = record {
    thread = refl;
    running = k.running;
    local = local;
    does = subst (Does (part_of z e.thread) e (part_of a e.thread)) (misuse_same z s e.thread e.call local) (by_misuse (misuse_of z e.thread e.call (λ _. false)) refl);
  }
    where
      by_misuse : (m : Option Misuse) → misuse_of z e.thread e.call (λ _. false) ≡ m → Does (part_of z e.thread) e (part_of a e.thread) m
      by_misuse None right =
          let effect = happens_effect z e.thread e.call e.reply a (local_busy z (part_of z e.thread) e.thread e.call local) (plain_happens z e a k (local_needs z s e.thread e.call local) right) in
          (effect_local z s e.thread e.call e.reply effect.0 local effect.1, ap (λ x. part_of x e.thread) effect.2 ∙ effect_part z s e.thread e.call e.reply effect.0 (next_free z made e.thread) effect.1)
      by_misuse (Some m) wrong =
          let refused = plain_refused z e a m k (local_needs z s e.thread e.call local) wrong in
          (refused.0, ap (λ x. part_of x e.thread) refused.1)
