-- A collection of a thread's own blocks, and its end, keep a state sound
use Rattle.std.proofs.Common.{◌≡◌, ℕ, ◌==◌, Bool, true, false, cond, List, [], Some, None, IsTrue, refl, sym, ◌∙◌, inl, inr, eq-eqb}
use Rattle.std.specs.FinMap.{get}
use Rattle.az_base.specs.declared.block_id.BlockId.{BlockId}
use Rattle.az_base.specs.Ids.{among}
use Rattle.zone_model.specs.State.{State, without_blocks, is_escaped, is_own}
use Rattle.zone_model.specs.Reach.{Edge, WordEdge, Live, IsHeld}
use Rattle.zone_model.specs.Collection.{Lists, with_end}
use Rattle.zone_model.specs.Sound.{Knows, MayRefer}
use Rattle.zone_model.proofs.Intact.{Intact}
use Rattle.zone_model.proofs.Blocks.{not_both, own_inside, own_thread, both_true}
use Rattle.zone_model.proofs.IntactChanges.{removed_intact}
use Rattle.zone_model.proofs.Paths.{reached_more}

pub live_more : (z : State) (a b : BlockId) → Live z a → Edge z a b → Live z b
live_more z a b live e = reached_more z (IsHeld z) a b live e

-- unescaped blocks of a thread are gone, to which nothing refers that is left
own_removed : (z : State) → Intact z → (t : ℕ) (gone : List BlockId) → ((b : BlockId) → among gone b ≡ true → IsTrue (is_own z t b)) → ((u r : ℕ) (b : BlockId) → z.registers u r ≡ Some b → among gone b ≡ true → ⊥)
    → ((a b : BlockId) → WordEdge z.blocks a b → IsTrue (is_own z t a) → among gone b ≡ true → among gone a ≡ true) → Intact (without_blocks z gone)
own_removed z s t gone own registers words = removed_intact z s gone
    (λ u r b h. not_true (among gone b) (λ taken. registers u r b h taken))
    (λ g b h. out b (s.names.roots g b h))
    (λ a b e left. not_true (among gone b) (λ taken. let both : true ≡ false = sym (words a b e (refers a b (s.names.words a b e) (own b taken)) taken) ∙ left in cc (both)))
    (λ b h. out b (s.names.counts b h))
    (λ a k b h. (out a (s.names.objects a k b h), out b (s.names.values a k b h)))
    (λ l b h. out b (s.names.shown l b h))
    (λ a at b h. out a (s.names.showing a at b h))
    (λ b h. out b (s.cycle.started b h))
  where
    not_true : (b : Bool) → (b ≡ true → ⊥) → b ≡ false
    not_true true h = absurd (h refl)
    not_true false h = refl

    out : (b : BlockId) → IsTrue (is_escaped z b) → among gone b ≡ false
    out b h = not_true (among gone b) (λ taken. not_both (get z.blocks b) h (own_inside z t b (own b taken)))

    refers : (a b : BlockId) → MayRefer z a b → IsTrue (is_own z t b) → IsTrue (is_own z t a)
    refers a b (inl there) mine = absurd (not_both (get z.blocks b) there (own_inside z t b mine))
    refers a b (inr inside) mine = both_true (a.thread == t) _ (eq-eqb a.thread t (sym (own_thread z a.thread b inside.1) ∙ own_thread z t b mine)) inside.0

pub collect_intact : (z : State) → Intact z → (t : ℕ) (gone : List BlockId) → Lists gone (λ b. IsTrue (is_own z t b) × ¬ Live z b) → Intact (without_blocks z gone)
collect_intact z s t gone lists = own_removed z s t gone
    (λ b taken. ((lists.1 b).0 taken).0)
    (λ u r b h taken. ((lists.1 b).0 taken).1 (b, inl (u, r, h), ([], refl)))
    (λ a b e own taken. (lists.1 a).1 (own, λ live. ((lists.1 b).0 taken).1 (live_more z a b live (inl e))))

-- the thread's registers are null, and it has ended
ended_intact : (z : State) → Intact z → (t : ℕ) → Intact (with_end z t)
ended_intact z s t = record {
  names = record {
    registers = λ u r b h. by_test u r b (t == u) h;
    roots = s.names.roots;
    words = s.names.words;
    counts = s.names.counts;
    objects = s.names.objects;
    values = s.names.values;
    shown = s.names.shown;
    showing = s.names.showing;
  };
  cycle = record { started = s.cycle.started; condemned = s.cycle.condemned; cleared = s.cycle.cleared };
  used = s.used;
}
  where
    by_test : (u r : ℕ) (b : BlockId) (c : Bool) → cond c None (z.registers u r) ≡ Some b → Knows z u b
    by_test u r b true h = cc (h)
    by_test u r b false h = s.names.registers u r b h

pub leave_intact : (z : State) → Intact z → (t : ℕ) (gone : List BlockId) → Lists gone (λ b. IsTrue (is_own z t b)) → Intact (with_end (without_blocks z gone) t)
leave_intact z s t gone lists = own_removed (with_end z t) (ended_intact z s t) t gone
    (λ b taken. (lists.1 b).0 taken)
    (λ u r b h taken. by_test u r b ((lists.1 b).0 taken) (t == u) refl h)
    (λ a b e own taken. (lists.1 a).1 own)
  where
    by_knows : (u r : ℕ) (b : BlockId) → IsTrue (is_own z t b) → (t == u) ≡ false → Knows z u b → ⊥
    by_knows u r b own other (inl out) = not_both (get z.blocks b) out (own_inside z t b own)
    by_knows u r b own other (inr mine) = let same : true ≡ false = sym (eq-eqb t u (sym (own_thread z t b own) ∙ own_thread z u b mine)) ∙ other in cc (same)

    by_test : (u r : ℕ) (b : BlockId) → IsTrue (is_own z t b) → (c : Bool) → (t == u) ≡ c → cond c None (z.registers u r) ≡ Some b → ⊥
    by_test u r b own true e h = cc (h)
    by_test u r b own false e h = by_knows u r b own e (s.names.registers u r b h)
