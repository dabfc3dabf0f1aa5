-- Of the heap's blocks a thread holds after local calls what it held before
use Rattle.std.proofs.Common.{◌≡◌, ℕ, ◌+◌, ◌<◌, ◌≤◌, ◌⊎◌, inl, inr, zero, suc, cond, List, [], ◌∷◌, Option, Some, None, IsTrue, is_some, refl, sym, ap, subst, ◌∙◌, arith}
use Rattle.std.proofs.lemmas.Option.{slice_get_past}
use Rattle.std.specs.Option.{option_and_then}
use Rattle.std.specs.FinMap.{get}
use Rattle.az_base.specs.declared.block_id.BlockId.{BlockId}
use Rattle.az_base.specs.declared.word.Word.TheVariants as word
use Rattle.az_base.proofs.Ids.{same_self}
use Rattle.zone_model.specs.declared.entry.Entry.{Entry}
use Rattle.zone_model.specs.LocalSteps.{LocalRun}
use Rattle.zone_model.specs.Part.{Part, part_of, is_local, is_in}
use Rattle.zone_model.specs.SameShared.{SameShared, HoldsRef, escaped_only}
use Rattle.zone_model.specs.Sound.{Sound}
use Rattle.zone_model.specs.State.{State, Block, is_escaped}
use Rattle.zone_model.proofs.Blocks.{not_both, own_inside}
use Rattle.zone_model.proofs.LocalGains.{step_gains}
use Rattle.zone_model.proofs.PartNeeds.{in_part}
use Rattle.zone_model.proofs.SoundLaws.{from_local, local_shares}
use Rattle.zone_model.proofs.Soundness.{step_sound}
use Rattle.shared_heap.specs.Shared.{Shared, held}
use Rattle.shared_heap.proofs.Stepping.{escaped_here}
use Rattle.shared_heap.proofs.Unheld.{unheld}
use Rattle.zone_model.specs.Holds.{one_if, register_holds, word_holds, words_to, holds_of}
use Rattle.local_set.specs.LocalSets.{LocalSet, part_in}
use Rattle.local_set.proofs.Quantities.{holds_there, refers_there}
use Rattle.escape_plan.specs.Together.{Belongs, IsHeapOf}
use Rattle.zone_escape.specs.Telling.{CanTellAll}

escaped_alone : (o : Option Block) → is_some (option_and_then (λ (b : Block). b.since) o) ≡ is_some (escaped_only o)
escaped_alone None = refl
escaped_alone (Some b) = go b.since
  where
    go : (v : Option ℕ) → is_some v ≡ is_some (cond (is_some v) (Some b) None)
    go None = refl
    go (Some n) = refl

-- the same blocks have escaped
pub escaped_alike : (z a : State) (q : BlockId) → SameShared z a → is_escaped a q ≡ is_escaped z q
escaped_alike z a q same = escaped_alone (get a.blocks q) ∙ ap is_some (same.blocks q) ∙ sym (escaped_alone (get z.blocks q))

-- an escaped block that the thread holds after local calls it held before
run_gains : (z : State) → Sound z → (t : ℕ) (es : List Entry) (last : Part) → LocalRun (part_of z t) t es last → (q : BlockId) → IsTrue (is_escaped z q) → HoldsRef last q → HoldsRef (part_of z t) q
run_gains z s t [] last run q out h = subst (λ p. HoldsRef p q) run h
run_gains z s t (e ∷ es) last run q out h =
    let a = from_local z s t e run.0 run.1 in
    let shared = local_shares z s e a.0 a.1 (ap (λ u. is_local (part_of z u) e.call) run.1.thread ∙ run.1.local) in
    let still : IsTrue (is_escaped a.0 q) = escaped_alike z a.0 q shared ∙ out in
    let was = run_gains a.0 (step_sound z e a.0 s a.1) t es last (subst (λ p. LocalRun p t es last) (sym a.2) run.2) q still h in
    elim (step_gains (part_of z t) t e run.0 run.1 q (subst (λ p. HoldsRef p q) a.2 was)) [
      | inl before ↦ before
      | inr own ↦ absurd (not_both (get a.0.blocks q) still (own_inside a.0 t q (sym (in_part a.0 t q) ∙ ap (λ p. is_in p q) a.2 ∙ own)))
    ]

-- a block in a register is counted
in_register : (f : ℕ → Option BlockId) (q : BlockId) (n r : ℕ) → r < n → f r ≡ Some q → 0 < register_holds f q n
in_register f q zero r less is = absurd (omega (arith, less))
in_register f q (suc n) r less is = go (split n r less) (λ before. in_register f q n r before is)
  where
    split : (n r : ℕ) → r < suc n → (r < n) ⊎ (r ≡ n)
    split n r less = grind arith

    go : (r < n) ⊎ (r ≡ n) → (r < n → 0 < register_holds f q n) → 0 < register_holds f q n + one_if q (f n)
    go (inl before) rest = let some : 0 < register_holds f q n = rest before in omega (arith, some)
    go (inr last) rest = let one : one_if q (f n) ≡ 1 = ap (λ m. one_if q (f m)) (sym last) ∙ ap (one_if q) is ∙ ap (λ b. cond b 1 0) (same_self q) in omega (arith, one)

-- what isn't counted isn't held
none_held : (p : Part) (q : BlockId) → ((r : ℕ) → 16 ≤ r → p.registers r ≡ None) → holds_of p q ≡ 0 → HoldsRef p q → ⊥
none_held p q few none (inl held) = go (below 16 held.0)
  where
    below : (n r : ℕ) → (r < n) ⊎ (n ≤ r)
    below n r = grind arith

    go : (held.0 < 16) ⊎ (16 ≤ held.0) → ⊥
    go (inl less) = let some : 0 < register_holds p.registers q 16 = in_register p.registers q 16 held.0 less held.1 in omega (arith, some, none)
    go (inr past) = let no : None ≡ Some q = sym (few held.0 past) ∙ held.1 in cc (no)
none_held p q few none (inr edge) =
    let b = edge.1.0 in
    let words : words_to q b.words ≤ word_holds p.blocks q = holds_there p.blocks edge.0 b q edge.1.2 in
    let one : one_if q (Some q) ≤ words_to q b.words = refers_there b.words edge.1.1 q (word.Block q) edge.1.3 in
    let is : one_if q (Some q) ≡ 1 = ap (λ b. cond b 1 0) (same_self q) in
    absurd (omega (arith, words, one, is, none))

-- so the heap can be told without memory
pub can_tell : (l : LocalSet) (h : Shared) (z : State) → Belongs l z → IsHeapOf h z → CanTellAll l h
can_tell l h z b k sixteen q asked there = go (held h l.thread q) refl
  where
    out : IsTrue (is_escaped z q)
    out = escaped_here h z q k.stands there

    few : (r : ℕ) → 16 ≤ r → z.registers l.thread r ≡ None
    few r past = sym (b.published r) ∙ ap (λ o. option_and_then (λ x. x) o) (slice_get_past l.published r (omega (arith, sixteen, past)))

    go : (n : ℕ) → held h l.thread q ≡ n → (0 < held h l.thread q) ⊎ (holds_of (part_in l) q ≡ 0)
    go zero e = inr (
        unheld (part_in l) q (λ ref. none_held (part_of z l.thread) q few (sym (k.holds l.thread q out) ∙ e) (run_gains z k.sound l.thread l.waiting (part_in l) b.run q out ref)))
    go (suc n) e = inl (omega (arith, e))
