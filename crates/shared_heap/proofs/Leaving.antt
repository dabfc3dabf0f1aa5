-- Calls that leave the parts of all threads as they are
use Rattle.std.proofs.Common.{◌≡◌, ◌==◌, ◌&&◌, ℕ, Bool, true, false, not, cond, List, [], ◌∷◌, MatchOption, Option, Some, None, IsTrue, refl, sym, ap, subst, ◌∙◌, inl, inr, fold, arith}
use Rattle.std.proofs.lemmas.Bool.Decides.{nat_tests}
use Rattle.std.specs.Option.{option_map_or}
use Rattle.std.specs.FinMap.{FinMap, get, retain_keys, get-retain_keys}
use Rattle.az_base.specs.declared.block_id.BlockId.{BlockId}
use Rattle.az_base.specs.Ids.{among, exact_ids, id_cmp}
use Rattle.az_base.specs.declared.misuse.Misuse.{Misuse}
use Rattle.az_base.specs.declared.weak_loc.WeakLoc.{WeakLoc}
use Rattle.az_base.specs.declared.word.Word.{Word}
use Rattle.az_base.specs.declared.word.Word.TheVariants as word
use Rattle.zone_model.specs.declared.call.Call.{Call}
use Rattle.zone_model.specs.declared.call.Call.TheVariants as call
use Rattle.zone_model.specs.declared.entry.Reply.{Reply}
use Rattle.zone_model.specs.declared.entry.Reply.TheVariants as reply
use Rattle.zone_model.specs.Effect.{Effect, weak_loc}
use Rattle.zone_model.specs.Escape.{Need, EscOf, block_named}
use Rattle.zone_model.specs.Misuses.{misuse_of}
use Rattle.zone_model.specs.Collection.{actions_of, with_action, with_finalised}
use Rattle.zone_model.specs.Part.{Part, part_of, part_after}
use Rattle.zone_model.specs.Reach.{Edge, Path}
use Rattle.zone_model.specs.Room.{WithRoom}
use Rattle.zone_model.specs.Sound.{Sound}
use Rattle.zone_model.specs.State.{State, reference, is_escaped, with_word, with_count, with_assoc, with_weak}
use Rattle.zone_model.specs.Step.{Step, Happens, seen_now}
use Rattle.zone_model.proofs.Blocks.{is_inside, is_out, not_both, edit_standing, left_get}
use Rattle.zone_model.proofs.Made.{actions_same}
use Rattle.zone_model.proofs.PartEffects.{effect_part, effect_others}
use Rattle.zone_model.proofs.Soundness.{sound_intact}
use Rattle.zone_model.proofs.PartChanges.{edited_others}
use Rattle.block_table.specs.Holds.{Holds, times}
use Rattle.shared_heap.specs.Shared.{Shared, held}
use Rattle.zone_model.specs.Holds.{holds_of}
use Rattle.shared_heap.specs.Holding.{HoldsAgree, IsShared, LeavesParts}
use Rattle.shared_heap.proofs.Agreeing.{outcome}
use Rattle.shared_heap.proofs.Shut.{closed, next_unused}

-- from what has escaped nothing escapes any more
leads_out : (z : State) → Sound z → (a b : BlockId) (steps : List BlockId) → IsTrue (is_escaped z a) → Path (Edge z) a steps b → IsTrue (is_escaped z b)
leads_out z s a b [] out p = subst (λ x. IsTrue (is_escaped z x)) p out
leads_out z s a b (c ∷ steps) out p = leads_out z s c b steps (closed z s a c out p.0) p.1

nothing_escapes : (z : State) → Sound z → (v : Option BlockId) → IsShared z v → (id : BlockId) → EscOf z v id → ⊥
nothing_escapes z s None shared id e = e
nothing_escapes z s (Some b) shared id e = not_both (get z.blocks id) (leads_out z s b id e.1.0 shared e.1.1) e.0

-- the parts are the same, and no block has escaped
abbrev Same : State → State → Type 0
Same z a = ((u : ℕ) → part_of a u ≡ part_of z u) × ((q : BlockId) → IsTrue (is_escaped a q) → IsTrue (is_escaped z q))

itself : (z : State) → Same z z
itself z = ((λ u. refl), (λ q out. out))

not_own : (mine inside : Bool) → inside ≡ false → (mine && inside) ≡ false
not_own true inside e = e
not_own false inside e = refl

word_written : (z : State) (a : Option BlockId) (at : ℕ) (w : Word) → IsShared z a → Same z (with_word z a at w)
word_written z None at w shared = itself z
word_written z (Some id) at w shared = (
  (λ u. ap (λ m. record (part_of z u) { blocks = m }) (edited_others z u id (λ b. record b { words = Rattle.std.specs.Prelude.slice_set b.words at w }) (λ b. refl) (not_own (id.thread == u) (is_inside (get z.blocks id)) (no_test (is_inside (get z.blocks id)) (not_both (get z.blocks id) shared))))),
  (λ q out. sym (edit_standing z.blocks id (λ b. record b { words = Rattle.std.specs.Prelude.slice_set b.words at w }) (λ b. refl) q).0 ∙ out),
)
  where
    no_test : (b : Bool) → (b ≡ true → ⊥) → b ≡ false
    no_test true h = absurd (h refl)
    no_test false h = refl

counted : (z : State) (a : Option BlockId) (n : ℕ) → Same z (option_map_or (λ b. with_count z b n) a z)
counted z None n = itself z
counted z (Some b) n = itself z

associated : (z : State) (a : Option BlockId) (key : ℕ) (v : Option BlockId) → Same z (option_map_or (λ o. with_assoc z o key v) a z)
associated z None key v = itself z
associated z (Some o) key v = itself z

shown : (z : State) (l : Option WeakLoc) (v : Option BlockId) → Same z (option_map_or (λ l. with_weak z l v) l z)
shown z None v = itself z
shown z (Some l) v = itself z

is_same : (z a b : State) → a ≡ b → Same z b → Same z a
is_same z a b e same = subst (Same z) (sym e) same

module _ (z : State) (t : ℕ) where
  -- a step of a cycle leaves the parts
  cycle_parts : Sound z → (c : Call) (r : Reply) (a : State) → Effect z t c r a → part_after (part_of z t) c r ≡ part_of z t → (u : ℕ) → part_of a u ≡ part_of z u
  cycle_parts s c r a e stays u = by (t == u) refl
    where
      same : (t == u) ≡ true → t ≡ u
      same e = grind (arith, nat_tests)

      by : (b : Bool) → (t == u) ≡ b → part_of a u ≡ part_of z u
      by true f = ap (part_of a) (sym (same f)) ∙ effect_part z (sound_intact z s) t c r a (next_unused z t s) e ∙ stays ∙ ap (part_of z) (same f)
      by false f = effect_others z (sound_intact z s) t c r a u f e

  -- after a finaliser the same blocks have escaped
  finalise_out : (b : BlockId) (a : State) → a ≡ with_finalised (fold (with_action b) z (actions_of z b)) b → (q : BlockId) → IsTrue (is_escaped a q) → IsTrue (is_escaped z q)
  finalise_out b a e q out =
      let mid = fold (with_action b) z (actions_of z b) in
      ap (λ m. is_out (get m q)) (sym (actions_same b (actions_of z b) z).1) ∙ sym (edit_standing mid.blocks b (λ b. record b { finalised = true }) (λ b. refl) q).0 ∙ sym (ap (λ (y : State). is_escaped y q) e) ∙ out

  effect_same : Sound z → (c : Call) (r : Reply) (a : State) → LeavesParts z t c → Effect z t c r a → Same z a
  effect_same s (call.Store into at from) reply.Done a out e = is_same z a _ e (word_written z (z.registers t into) at (reference (z.registers t from)) out.0)
  effect_same s (call.Store into at from) _ a out e = absurd e
  effect_same s (call.Put into at number) reply.Done a out e = is_same z a _ e (word_written z (z.registers t into) at (word.Number number) out)
  effect_same s (call.Put into at number) _ a out e = absurd e
  effect_same s (call.Get from at) (reply.Number n) a out e = is_same z a z e.1 (itself z)
  effect_same s (call.Get from at) _ a out e = absurd e
  effect_same s (call.SetRoot root from) reply.Done a out e = is_same z a _ e (itself z)
  effect_same s (call.SetRoot root from) _ a out e = absurd e
  effect_same s (call.Retain reg) (reply.Number n) a out e = is_same z a _ e.1 (counted z (z.registers t reg) n)
  effect_same s (call.Retain reg) _ a out e = absurd e
  effect_same s (call.Release reg) (reply.Number n) a out e = is_same z a _ e.1 (counted z (z.registers t reg) n)
  effect_same s (call.Release reg) _ a out e = absurd e
  effect_same s (call.Count reg) (reply.Number n) a out e = is_same z a z e.1 (itself z)
  effect_same s (call.Count reg) _ a out e = absurd e
  effect_same s (call.SetAssoc object key value) (reply.Block b) a out e = is_same z a _ e.1 (associated z (z.registers t object) key.0 (z.registers t value))
  effect_same s (call.SetAssoc object key value) _ a out e = absurd e
  effect_same s (call.SetWeak loc from) (reply.Block b) a out e = is_same z a _ e.1 (shown z (weak_loc z t loc) b)
  effect_same s (call.SetWeak loc from) _ a out e = absurd e
  effect_same s call.Stats (reply.Stats n) a out e = is_same z a z e.1 (itself z)
  effect_same s call.Stats _ a out e = absurd e
  effect_same s (call.Begin mode) reply.Begun a out e = is_same z a _ e.1 (itself z)
  effect_same s (call.Begin mode) _ a out e = absurd e
  effect_same s call.Condemn (reply.Condemned r) a out e = is_same z a _ e.4 (itself z)
  effect_same s call.Condemn _ a out e = absurd e
  effect_same s call.Finalise (reply.Finalised b) a out e = (cycle_parts s call.Finalise (reply.Finalised b) a e refl, finalise_out b a e.3)
  effect_same s call.Finalise _ a out e = absurd e
  effect_same s _ r a out e = absurd out

  none_needed : Sound z → (c : Call) → LeavesParts z t c → (id : BlockId) → Need z t c id → ⊥
  none_needed s (call.Store into at from) out id n = nothing_escapes z s (z.registers t from) out.1 id n.1
  none_needed s (call.SetRoot root from) out id n = nothing_escapes z s (z.registers t from) out id n
  none_needed s (call.Retain reg) out id n = nothing_escapes z s (z.registers t reg) out id n
  none_needed s (call.SetAssoc object key value) out id n = elim n [ inl a ↦ nothing_escapes z s (z.registers t object) out.0 id a | inr v ↦ nothing_escapes z s (z.registers t value) out.1 id v ]
  none_needed s (call.SetWeak loc from) out id n = elim n [ inl v ↦ nothing_escapes z s (z.registers t from) out.0 id v | inr a ↦ nothing_escapes z s (block_named z t loc) out.1 id a ]
  none_needed s _ out id n = n

  happens_same : Sound z → (c : Call) (r : Reply) (after : State) → LeavesParts z t c → Happens z t c r after → Same z after
  happens_same s c reply.Busy after out h = is_same z after z h.1 (itself z)
  happens_same s c r after out h = subst (Same z) (sym h.2) (effect_same s c r h.0 out h.1)

pub leaves_holds : (h new : Shared) (z after : State) (t : ℕ) (c : Call) (r : Reply) → LeavesParts z t c → Sound z → HoldsAgree h z → new.holds ≡ h.holds
    → Step z (record { thread = t; call = c; reply = r }) after → HoldsAgree new after
leaves_holds h new z after t c r out s agree same step = go (misuse_of z t c (λ _. false)) (outcome z _ after (none_needed z t s c out) step)
  where
    held_same : (u : ℕ) (q : BlockId) → held new u q ≡ held h u q
    held_same u q = ap (λ m. held (record h { holds = m }) u q) same

    from : Same z after → HoldsAgree new after
    from k u q o = held_same u q ∙ agree u q (k.1 q o) ∙ sym (ap (λ (p : Part). holds_of p q) (k.0 u))

    go : (m : Option Misuse) → MatchOption m (Happens z t c r after) (λ m. (r ≡ reply.Misuse m) × (after ≡ z)) → HoldsAgree new after
    go None k = from (happens_same z t s c r after out k)
    go (Some m) k = from (subst (Same z) (sym k.1) (itself z))

left_held : (m : FinMap id_cmp Holds) (gone : BlockId → Bool) (q : BlockId) → get (retain_keys m (λ id. not (gone id))) q ≡ cond (gone q) None (get m q)
left_held m gone q = get-retain_keys m (λ id. not (gone id)) q (λ k e. ap (λ k. not (gone k)) (sym (exact_ids q k e))) ∙ turn (gone q)
  where
    turn : (b : Bool) → cond (not b) (get m q) None ≡ cond b None (get m q)
    turn true = refl
    turn false = refl

-- a Reclaim takes the holds of the blocks that are gone
module _ (h new : Shared) (z after : State) (t : ℕ) (gone kept : WithRoom) (s : Sound z) (agree : HoldsAgree h z) (same : new.holds ≡ retain_keys h.holds (λ b. not (among gone.list b))) where
  module _ (k : Happens z t call.Reclaim (reply.Settled gone kept) after) (u : ℕ) (q : BlockId) (out : IsTrue (is_escaped after q)) where
    parts : part_of after u ≡ part_of z u
    parts = ap (λ y. part_of y u) k.2 ∙ cycle_parts z t s call.Reclaim (reply.Settled gone kept) k.0 k.1 refl u

    at : get after.blocks q ≡ cond (among gone.list q) None (get z.blocks q)
    at = ap (λ (y : State). get y.blocks q) (k.2 ∙ ap seen_now k.1.does) ∙ left_get z.blocks (among gone.list) q

    stays : (b : Bool) → among gone.list q ≡ b → among gone.list q ≡ false
    stays false e = e
    stays true e =
        let gone_here : is_escaped after q ≡ false = ap is_out (at ∙ ap (λ b. cond b None (get z.blocks q)) e) in
        let differ : true ≡ false = sym out ∙ gone_here in
        cc (differ)

    left : among gone.list q ≡ false
    left = stays (among gone.list q) refl

    out_before : IsTrue (is_escaped z q)
    out_before = sym (ap is_out (at ∙ ap (λ b. cond b None (get z.blocks q)) left)) ∙ out

    agrees : held new u q ≡ holds_of (part_of after u) q
    agrees =
        ap (λ m. held (record h { holds = m }) u q) same
        ∙ ap (λ o. option_map_or (λ m. times m u) o 0) (left_held h.holds (among gone.list) q ∙ ap (λ b. cond b None (get h.holds q)) left)
        ∙ agree u q out_before
        ∙ sym (ap (λ (p : Part). holds_of p q) parts)

  pub reclaimed_holds : Step z (record { thread = t; call = call.Reclaim; reply = reply.Settled gone kept }) after → HoldsAgree new after
  reclaimed_holds step = go (misuse_of z t call.Reclaim (λ _. false)) (outcome z _ after (λ id n. n) step)
    where
      go : (m : Option Misuse) → MatchOption m (Happens z t call.Reclaim (reply.Settled gone kept) after) (λ m. (reply.Settled gone kept ≡ reply.Misuse m) × (after ≡ z)) → HoldsAgree new after
      go (Some m) k = cc (k.0)
      go None k = agrees k
