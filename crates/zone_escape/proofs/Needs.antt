-- What a call makes escape, and the steps that begin by it
use Rattle.std.proofs.Common.{◌≡◌, ℕ, zero, suc, Bool, true, false, ◌||◌, MatchOption, [], ◌∷◌, Option, Some, None, IfSome, IsTrue, slice_get, refl, sym, subst, ◌⊎◌, inl, inr}
use Rattle.std.specs.FinMap.{get}
use Rattle.az_base.specs.declared.block_id.BlockId.{BlockId}
use Rattle.az_base.specs.declared.misuse.Misuse.{Misuse}
use Rattle.az_base.specs.Ids.{among}
use Rattle.zone_model.specs.declared.entry.Entry.{Entry}
use Rattle.zone_model.specs.declared.entry.Reply.TheVariants as reply
use Rattle.zone_model.specs.Escape.{Need, EscOf, Tells, with_escaped}
use Rattle.zone_model.specs.Misuses.{misuse_of}
use Rattle.zone_model.specs.Part.{part_of, EscWithin}
use Rattle.zone_model.specs.Sound.{Sound, Knows}
use Rattle.zone_model.specs.State.{State, is_escaped}
use Rattle.zone_model.specs.Step.{Step, Happens}
use Rattle.zone_model.proofs.Blocks.{own_inside, there_inside, still_escaped, now_escaped}
use Rattle.zone_model.proofs.LocalCalls.{plain_refused}
use Rattle.zone_model.proofs.Steps.{plain_happens}
use Rattle.local_set.specs.LocalSets.{LocalSet, part_in}
use Rattle.local_set.specs.Walks.{IsIn}
use Rattle.escape_plan.specs.Escapes.{IsKnown}
use Rattle.escape_plan.proofs.Belonging.{led_escapes, escapes_led}
use Rattle.escape_plan.proofs.Reaching.{some_reached}

-- one register's block
only_one : (o : Option BlockId) (f : BlockId) → IsIn (o ∷ []) f → o ≡ Some f
only_one o f h = go h.0 h.1
  where
    some : {a b : Option BlockId} → Some a ≡ Some b → a ≡ b
    some e = cc

    go : (r : ℕ) → slice_get (o ∷ []) r ≡ Some (Some f) → o ≡ Some f
    go zero e = some e
    go (suc n) e = cc

module _ (l : LocalSet) (z : State) (sound : Sound z) (is : part_in l ≡ part_of z l.thread) where
  -- there is a test for what a block that the thread knows leads to
  one_need : (o : Option BlockId) → IsKnown z l.thread o → (need : BlockId → Bool) × Tells need (EscOf z o)
  one_need None known = ((λ _. false), λ c. (λ h. cc, λ e. absurd e))
  one_need (Some b) known =
      let found = some_reached l.blocks (Some b ∷ []) in (
        among found.0,
        λ c. (
          λ h.
              let led = (found.1 c).0 h in
              let first = only_one (Some b) led.1 led.2 in
              led_escapes z l.thread sound b c (subst (λ p. EscWithin p (Some b) c) is (subst (λ x. EscWithin (part_in l) x c) (sym first) (led.0, led.3))),
          λ e. let led = subst (λ p. EscWithin p (Some b) c) (sym is) (escapes_led z l.thread sound b c (known b refl) e) in (found.1 c).1 (led.0, b, (0, refl), led.1),
        ),
      )

  either : (a b : BlockId → Bool) (P Q : BlockId → Type 0) → Tells a P → Tells b Q → Tells (λ c. a c || b c) (λ c. P c ⊎ Q c)
  either a b P Q p q c = (λ h. split (a c) (b c) (p c).0 (q c).0 h, λ e. elim e [ inl x ↦ first (a c) (b c) ((p c).1 x) | inr y ↦ second (a c) (b c) ((q c).1 y) ])
    where
      split : (s t : Bool) → (IsTrue s → P c) → (IsTrue t → Q c) → IsTrue (s || t) → P c ⊎ Q c
      split true t f g h = inl (f refl)
      split false t f g h = inr (g h)

      first : (s t : Bool) → IsTrue s → IsTrue (s || t)
      first true t h = refl
      first false t h = cc

      second : (s t : Bool) → IsTrue t → IsTrue (s || t)
      second true t h = refl
      second false t h = h

  pub some_need : (o v : Option BlockId) → IsKnown z l.thread o → IsKnown z l.thread v → (need : BlockId → Bool) × Tells need (λ c. EscOf z o c ⊎ EscOf z v c)
  some_need o v known_o known_v =
      let a = one_need o known_o in
      let b = one_need v known_v in
      ((λ c. a.0 c || b.0 c), either a.0 b.0 (EscOf z o) (EscOf z v) a.1 b.1)

-- each of the two blocks has escaped then
value_escaped : (z : State) (t : ℕ) (need : BlockId → Bool) (id : BlockId) → Knows z t id → (EscOf z (Some id) id → need id ≡ true) → IsTrue (is_escaped (with_escaped z need) id)
value_escaped z t need id (inl out) needed = still_escaped z need id out
value_escaped z t need id (inr own) needed = now_escaped z need id (needed (own_inside z t id own, ([], refl))) (there_inside (get z.blocks id) (own_inside z t id own))

pub first_out : (z : State) (t : ℕ) (need : BlockId → Bool) (v second : Option BlockId) → IsKnown z t v → Tells need (λ c. EscOf z v c ⊎ EscOf z second c) → IfSome v (λ id. IsTrue (is_escaped (with_escaped z need) id))
first_out z t need None second known tells = tt
first_out z t need (Some id) second known tells = value_escaped z t need id (known id refl) (λ e. (tells id).1 (inl e))

pub second_out : (z : State) (t : ℕ) (need : BlockId → Bool) (first v : Option BlockId) → IsKnown z t v → Tells need (λ c. EscOf z first c ⊎ EscOf z v c) → IfSome v (λ id. IsTrue (is_escaped (with_escaped z need) id))
second_out z t need first None known tells = tt
second_out z t need first (Some id) known tells = value_escaped z t need id (known id refl) (λ e. (tells id).1 (inr e))

-- a misuse where these blocks would escape
pub refused : (z : State) (e : Entry) (need : BlockId → Bool) (m : Misuse) → z.ended e.thread ≡ false → Tells need (Need z e.thread e.call) → misuse_of z e.thread e.call need ≡ Some m → e.reply ≡ reply.Misuse m → Step z e z
refused z e need m running tells wrong says = record {
  running = running;
  need = need;
  needed = tells;
  does = subst (λ (o : Option Misuse). MatchOption o (Happens (with_escaped z need) e.thread e.call e.reply z) (λ m. (e.reply ≡ reply.Misuse m) × (z ≡ z))) (sym wrong) (says, refl);
}

-- a step after an escape is a step from before it
pub composed : (z : State) (e : Entry) (need : BlockId → Bool) (after : State) → z.ended e.thread ≡ false → Tells need (Need z e.thread e.call) → misuse_of z e.thread e.call need ≡ None
    → ((id : BlockId) → Need (with_escaped z need) e.thread e.call id → ⊥) → ((m : Misuse) → e.reply ≡ reply.Misuse m → ⊥) → Step (with_escaped z need) e after → Step z e after
composed z e need after running tells right none fine step = record {
  running = running;
  need = need;
  needed = tells;
  does = subst (λ (m : Option Misuse). MatchOption m (Happens (with_escaped z need) e.thread e.call e.reply after) (λ m. (e.reply ≡ reply.Misuse m) × (after ≡ z))) (sym right) (go (misuse_of (with_escaped z need) e.thread e.call (λ _. false)) refl);
}
  where
    go : (m : Option Misuse) → misuse_of (with_escaped z need) e.thread e.call (λ _. false) ≡ m → Happens (with_escaped z need) e.thread e.call e.reply after
    go None now = plain_happens (with_escaped z need) e after step none now
    go (Some m) now = absurd (fine m (plain_refused (with_escaped z need) e after m step none now).0)
