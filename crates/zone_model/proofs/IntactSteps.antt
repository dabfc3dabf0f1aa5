-- Each state of a legal history is sound
use Rattle.std.proofs.Common.{◌≡◌, ◌<◌, ◌+◌, ℕ, Bool, true, false, cond, List, [], ◌∷◌, Option, Some, None, MatchOption, IsTrue, IsFalse, refl, sym, ap, subst, ◌∙◌, inl, is_some, arith, unwrap_or}
use Rattle.std.specs.Option.{option_map, option_map_or}
use Rattle.std.specs.FinMap.{get, get-empty}
use Rattle.az_base.specs.declared.block_id.BlockId.{BlockId}
use Rattle.az_base.specs.declared.misuse.Misuse.{Misuse}
use Rattle.az_base.specs.declared.options.Options.{Options}
use Rattle.az_base.specs.declared.weak_loc.WeakLoc.{WeakLoc}
use Rattle.az_base.specs.declared.weak_loc.WeakLoc.TheVariants as weak
use Rattle.az_base.specs.Ids.{id_cmp, id_of}
use Rattle.az_base.specs.Places.{pair_cmp, loc_cmp}
use Rattle.zone_model.specs.declared.call.Call.{Call}
use Rattle.zone_model.specs.declared.call.Call.TheVariants as call
use Rattle.zone_model.specs.declared.call.Loc.{Loc}
use Rattle.zone_model.specs.declared.call.Loc.TheVariants as loc
use Rattle.zone_model.specs.declared.entry.Reply.{Reply}
use Rattle.zone_model.specs.declared.entry.Reply.TheVariants as reply
use Rattle.zone_model.specs.declared.entry.Entry.{Entry}
use Rattle.zone_model.proofs.MapLaws.{total-empty}
use Rattle.zone_model.specs.State.{State, opening, with_weak, with_assoc, with_count, is_escaped, is_condemned, count_of}
use Rattle.zone_model.specs.Escape.{with_escaped, block_named}
use Rattle.zone_model.specs.Misuses.{misuse_of}
use Rattle.zone_model.specs.Effect.{Effect, assoc_of, weak_loc, weak_value, value_to_show, count_in}
use Rattle.zone_model.specs.Quanta.{used_quanta}
use Rattle.zone_model.specs.Step.{Step, Happens}
use Rattle.zone_model.specs.History.{Run, Ends}
use Rattle.zone_model.proofs.Made.{AllMade, opening_made, step_made}
use Rattle.zone_model.proofs.Intact.{Intact}
use Rattle.zone_model.proofs.Blocks.{got_escaped}
use Rattle.zone_model.proofs.IntactChanges.{register_intact, root_intact, count_intact, assoc_intact, weak_intact}
use Rattle.zone_model.proofs.IntactEscapes.{Rests, escape_intact, call_rests}
use Rattle.zone_model.proofs.IntactWords.{load_known, store_intact, put_intact, seen_intact}
use Rattle.zone_model.proofs.IntactBirths.{new_intact}
use Rattle.zone_model.proofs.IntactEnds.{collect_intact, leave_intact}
use Rattle.zone_model.proofs.IntactCycles.{begin_intact, condemn_intact, finalise_intact, reclaim_intact, found_among, condemned_out}

some_id : (a b : BlockId) → Some a ≡ Some b → a ≡ b
some_id a b h = cc

-- the next id of a thread is free
pub next_free : (z : State) → AllMade z → (t : ℕ) → get z.blocks (id_of t (z.serials t)) ≡ None
next_free z made t = go (get z.blocks (id_of t (z.serials t))) refl
  where
    go : (o : Option _) → get z.blocks (id_of t (z.serials t)) ≡ o → get z.blocks (id_of t (z.serials t)) ≡ None
    go None e = e
    go (Some b) e = let below : z.serials t < z.serials t = made (id_of t (z.serials t)) (inl (ap is_some e)) in absurd (omega (arith, below))

-- an escape makes no ids
pub escaped_made : (z : State) (need : BlockId → Bool) (t : ℕ) → get z.blocks (id_of t (z.serials t)) ≡ None → get (with_escaped z need).blocks (id_of t (z.serials t)) ≡ None
escaped_made z need t none = got_escaped z need (id_of t (z.serials t)) ∙ ap (option_map _) none

module _ (z : State) (s : Intact z) (t : ℕ) where
  counted : (o : Option BlockId) (n : ℕ) → ((b : BlockId) → o ≡ Some b → IsTrue (is_escaped z b)) → Intact (option_map_or (λ b. with_count z b n) o z)
  counted None n out = s
  counted (Some b) n out = count_intact z s b n (out b refl)

  -- a block with a count has escaped
  released : (reg n : ℕ) → n + 1 ≡ count_in z t reg → (b : BlockId) → z.registers t reg ≡ Some b → IsTrue (is_escaped z b)
  released reg n is b h = s.names.counts b (let one : count_in z t reg ≡ count_of z b = ap (λ o. option_map_or (λ b. count_of z b) o 0) h in omega (arith, is, one))

  got_assoc : (o : Option BlockId) (key : ℕ) (b : BlockId) → assoc_of z o key ≡ Some b → IsTrue (is_escaped z b)
  got_assoc None key b h = cc (h)
  got_assoc (Some a) key b h = s.names.values a key b h

  associated : (o v : Option BlockId) (key : ℕ) → ((b : BlockId) → o ≡ Some b → IsTrue (is_escaped z b)) → ((b : BlockId) → v ≡ Some b → IsTrue (is_escaped z b)) → Intact (option_map_or (λ a. with_assoc z a key v) o z)
  associated None v key out value = s
  associated (Some a) v key out value = assoc_intact z s a key v (out a refl) value

  read : (l : Option WeakLoc) (b : BlockId) → weak_value z l ≡ Some b → IsTrue (is_escaped z b)
  read None b h = cc (h)
  read (Some l) b h = s.names.shown l b h

  -- what is to be shown is the value, and isn't condemned
  to_show : (v : Option BlockId) (b : BlockId) → value_to_show z v ≡ Some b → (v ≡ Some b) × IsFalse (is_condemned z b)
  to_show None b h = cc (h)
  to_show (Some x) b h = by_test (is_condemned z x) refl h
    where
      by_test : (c : Bool) → is_condemned z x ≡ c → cond c None (Some x) ≡ Some b → (Some x ≡ Some b) × IsFalse (is_condemned z b)
      by_test true e h = cc (h)
      by_test false e h = (h, sym (ap (is_condemned z) (some_id x b h)) ∙ e)

  shown : (loc : Loc) (v w : Option BlockId) → w ≡ value_to_show z v → ((b : BlockId) → v ≡ Some b → IsTrue (is_escaped z b)) → ((b : BlockId) → block_named z t loc ≡ Some b → IsTrue (is_escaped z b)) → Intact (option_map_or (λ l. with_weak z l w) (weak_loc z t loc) z)
  shown (loc.Root k) v w is value named = weak_intact z s (weak.Root k) w (λ a at e. cc (e)) (λ b h. let was = to_show v b (sym is ∙ h) in (value b was.0, was.1))
  shown (loc.Word r at) v w is value named = by_register (z.registers t r) named
    where
      by_register : (o : Option BlockId) → ((b : BlockId) → o ≡ Some b → IsTrue (is_escaped z b)) → Intact (option_map_or (λ l. with_weak z l w) (option_map (λ id. weak.Word id at) o) z)
      by_register None named = s
      by_register (Some id) named = weak_intact z s (weak.Word id at) w (λ a i e. let same : id ≡ a = cc in subst (λ x. IsTrue (is_escaped z x)) same (named id refl)) (λ b h. let was = to_show v b (sym is ∙ h) in (value b was.0, was.1))

  effect_intact : (c : Call) (r : Reply) (a : State) → get z.blocks (id_of t (z.serials t)) ≡ None → Rests z t c → Effect z t c r a → Intact a
  effect_intact (call.New to layout actions) (reply.Block id) a free rests h = subst Intact (sym h.1) (new_intact z s t to layout actions free rests)
  effect_intact (call.Load to from at) (reply.Block b) a free rests h = subst Intact (sym h.1) (register_intact z s t to b (load_known z s t from at b h.0))
  effect_intact (call.Store into at from) reply.Done a free rests h = subst Intact (sym h) (store_intact z s t into at from rests)
  effect_intact (call.Put into at number) reply.Done a free rests h = subst Intact (sym h) (put_intact z s (z.registers t into) at number)
  effect_intact (call.Get from at) (reply.Number k) a free rests h = subst Intact (sym h.1) s
  effect_intact (call.Copy to from) reply.Done a free rests h = subst Intact (sym h) (register_intact z s t to (z.registers t from) (s.names.registers t from))
  effect_intact (call.DropReg reg) reply.Done a free rests h = subst Intact (sym h) (register_intact z s t reg None (λ b e. cc (e)))
  effect_intact call.CollectLocal (reply.Reclaimed gone) a free rests h = subst Intact (sym h.1) (collect_intact z s t gone.list h.0)
  effect_intact (call.SetRoot root from) reply.Done a free rests h = subst Intact (sym h) (root_intact z s root.0 (z.registers t from) rests)
  effect_intact (call.GetRoot to root) (reply.Block b) a free rests h = subst Intact (sym h.1) (register_intact z s t to b (λ x e. inl (s.names.roots root.0 x (sym h.0 ∙ e))))
  effect_intact (call.Retain reg) (reply.Number k) a free rests h = subst Intact (sym h.1) (counted (z.registers t reg) k rests)
  effect_intact (call.Release reg) (reply.Number k) a free rests h = subst Intact (sym h.1) (counted (z.registers t reg) k (released reg k h.0))
  effect_intact (call.Count reg) (reply.Number k) a free rests h = subst Intact (sym h.1) s
  effect_intact (call.Take to id) (reply.Block i) a free rests h = subst Intact (sym h.1) (register_intact z s t to i (λ x e. inl (subst (λ y. IsTrue (is_escaped z y)) (some_id id x (sym h.0 ∙ e)) (s.names.counts id rests))))
  effect_intact (call.SetAssoc object key value) (reply.Block b) a free rests h = subst Intact (sym h.1) (associated (z.registers t object) (z.registers t value) key.0 rests.0 rests.1)
  effect_intact (call.GetAssoc to object key) (reply.Block b) a free rests h = subst Intact (sym h.1) (register_intact z s t to b (λ x e. inl (got_assoc (z.registers t object) key.0 x (sym h.0 ∙ e))))
  effect_intact (call.SetWeak loc from) (reply.Block v) a free rests h = subst Intact (sym h.1) (shown loc (z.registers t from) v h.0 rests.0 rests.1)
  effect_intact (call.ReadWeak to loc) (reply.Block b) a free rests h = subst Intact (sym h.1) (register_intact z s t to b (λ x e. inl (read (weak_loc z t loc) x (sym h.0 ∙ e))))
  effect_intact call.Stats (reply.Stats k) a free rests h = subst Intact (sym h.1) s
  effect_intact (call.Begin mode) reply.Begun a free rests h = subst Intact (sym h.1) (begin_intact z s t mode)
  effect_intact call.Condemn (reply.Condemned r) a free rests h = subst Intact (sym h.4) (condemn_intact z s h.0 r.list h.1.0 h.3)
  effect_intact call.Finalise (reply.Finalised b) a free rests h = subst Intact (sym h.3) (finalise_intact z s b (condemned_out z s t h.0 h.1 b (found_among _ h.0 b h.2)).1)
  effect_intact call.Reclaim (reply.Settled gone kept) a free rests h = subst Intact (sym h.does) (reclaim_intact z s t gone.list kept.list a h)
  effect_intact call.Leave (reply.Reclaimed gone) a free rests h = subst Intact (sym h.does) (leave_intact z s t gone.list h.gone_ones)
  effect_intact _ _ a free rests h = absurd h

happens_intact : (z : State) (t : ℕ) (c : Call) (r : Reply) (a : State) → Intact z → get z.blocks (id_of t (z.serials t)) ≡ None → Rests z t c → Happens z t c r a → Intact a
happens_intact z t c reply.Busy a s free rests h = subst Intact (sym h.1) s
happens_intact z t c r a s free rests h = subst Intact (sym h.2) (seen_intact h.0 (effect_intact z s t c r h.0 free rests h.1))

-- a step keeps a state sound
pub step_intact : (z : State) (e : Entry) (after : State) → Intact z → AllMade z → Step z e after → Intact after
step_intact z e after s made k = by_misuse (misuse_of z e.thread e.call k.need) refl k.does
  where
    by_misuse : (m : Option Misuse) → misuse_of z e.thread e.call k.need ≡ m → MatchOption m (Happens (with_escaped z k.need) e.thread e.call e.reply after) (λ m. (e.reply ≡ reply.Misuse m) × (after ≡ z)) → Intact after
    by_misuse None right h =
        happens_intact (with_escaped z k.need) e.thread e.call e.reply after (escape_intact z s e.thread e.call k.need k.needed right)
        (escaped_made z k.need e.thread (next_free z made e.thread)) (call_rests z s e.thread k.need e.call k.needed right) h
    by_misuse (Some m) right h = subst Intact (sym h.1) s

pub run_intact : (z : State) (es : List Entry) (after : State) → Intact z → AllMade z → Run z es after → Intact after × AllMade after
run_intact z [] after s made run = (subst Intact (sym run) s, subst AllMade (sym run) made)
run_intact z (e ∷ es) after s made run = run_intact run.0 es after (step_intact z e run.0 s made run.1) (step_made z e run.0 run.1 made) run.2

nothing_there : {X : Type 0} (o : Option X) → o ≡ None → (x : X) → o ≡ Some x → ⊥
nothing_there o e x h = let no : None ≡ Some x = sym e ∙ h in cc (no)

pub opening_intact : (o : Options) → Intact (opening o)
opening_intact o = record {
  names = record {
    registers = λ t r b h. cc (h);
    roots = λ g b h. cc (h);
    words = λ a b e. absurd (nothing_there _ (get-empty id_cmp a) e.0 e.2);
    counts = λ b h. let zero : count_of (opening o) b ≡ 0 = ap (λ o. unwrap_or o 0) (get-empty id_cmp b) in absurd (omega (arith, h, zero));
    objects = λ a k b h. absurd (nothing_there _ (get-empty pair_cmp (a, k)) b h);
    values = λ a k b h. absurd (nothing_there _ (get-empty pair_cmp (a, k)) b h);
    shown = λ l b h. absurd (nothing_there _ (get-empty loc_cmp l) b h);
    showing = λ a at b h. absurd (nothing_there _ (get-empty loc_cmp (weak.Word a at)) b h);
  };
  cycle = record {
    started = λ b h. cc (h);
    condemned = λ b h. cc (h);
    cleared = λ l b h. refl;
  };
  used = let none : used_quanta (opening o) ≡ 0 = total-empty id_cmp _ in omega (arith, none);
}

pub ends_intact : (o : Options) (history : List Entry) (z : State) → Ends o history z → Intact z × AllMade z
ends_intact o history z ends = run_intact (opening o) history z (opening_intact o) (opening_made o) ends
