-- What is reclaimed was in no use
use Rattle.std.proofs.Common.{◌≡◌, ℕ, ◌==◌, Bool, true, false, cond, None, Some, List, [], ◌∷◌, refl, sym, ◌∙◌, subst, ◌⊎◌, inl, inr, IsTrue, eq-eqb, eqb-true, ◌+◌, arith}
use Rattle.std.specs.FinMap.{get}
use Rattle.az_base.specs.declared.action.Mode.TheVariants as mode
use Rattle.az_base.specs.declared.block_id.BlockId.{BlockId}
use Rattle.az_base.specs.Ids.{among}
use Rattle.zone_model.specs.declared.call.Call.TheVariants as call
use Rattle.zone_model.specs.declared.entry.Reply.TheVariants as reply
use Rattle.zone_model.specs.Room.{WithRoom}
use Rattle.zone_model.specs.State.{State, is_own, is_escaped, is_unescaped}
use Rattle.zone_model.specs.Reach.{Edge, Path, IsHeld, Live, AnchoredFor}
use Rattle.zone_model.specs.Collection.{Reclaims, with_end}
use Rattle.zone_model.specs.Step.{Step}
use Rattle.zone_model.specs.Sound.{Sound, Knows}
use Rattle.zone_model.specs.Replies.{replied}
use Rattle.zone_model.proofs.Steps.{plain_happens}
use Rattle.zone_model.proofs.Blocks.{not_both, own_inside, own_thread}
use Rattle.zone_model.proofs.IntactWords.{edge_known}
use Rattle.zone_model.proofs.IntactCycles.{condemned_out}
use Rattle.zone_model.proofs.Soundness.{sound_intact}

-- an unescaped block isn't condemned
outside : (z : State) (t : ℕ) (gone kept : List BlockId) (after : State) → Sound z → (h : Reclaims z t gone kept after) → (a : BlockId) → IsTrue (is_unescaped z a) → (i : Bool) → among h.r a ≡ i → i ≡ false
outside z t gone kept after s h a un true e = absurd (not_both (get z.blocks a) (condemned_out z (sound_intact z s) t h.r h.condemned a e).1 un)
outside z t gone kept after s h a un false e = refl

pub reclaimed_unanchored : (z : State) (t : ℕ) (gone kept : WithRoom) (after : State) → Sound z → Step z (replied t call.Reclaim (reply.Settled gone kept)) after → (b : BlockId) → IsTrue (among gone.list b) → ¬ AnchoredFor mode.Full z b
reclaimed_unanchored z t gone kept after s step b taken (a, first, path) =
    let h = (plain_happens z (replied t call.Reclaim (reply.Settled gone kept)) after step (λ id n. n) refl).1 in
    ((h.gone_ones.1 b).0 taken).1 (a, elim first [ inl held ↦ inl held | inr un ↦ inr (outside z t gone.list kept.list _ s h a un (among h.r a) refl) ], path)

pub collected_not_live : (z : State) (t : ℕ) (gone : WithRoom) (after : State) → Step z (replied t call.CollectLocal (reply.Reclaimed gone)) after → (b : BlockId) → IsTrue (among gone.list b) → ¬ Live z b
collected_not_live z t gone after step b taken =
    let h = (plain_happens z (replied t call.CollectLocal (reply.Reclaimed gone)) after step (λ id n. n) refl).1 in
    ((h.0.1 b).0 taken).1

-- what a thread knows leads to what it knows
edges_known : (z : State) → Sound z → (u : ℕ) (a b : BlockId) → Knows z u a → Edge z a b → Knows z u b
edges_known z s u a b known (inl e) = edge_known z u a b known (s.names.words a b e)
edges_known z s u a b known (inr (key, is)) = inl (s.names.values a key b is)

path_known : (z : State) → Sound z → (u : ℕ) (a : BlockId) (steps : List BlockId) (b : BlockId) → Knows z u a → Path (Edge z) a steps b → Knows z u b
path_known z s u a [] b known p = subst (Knows z u) p known
path_known z s u a (x ∷ more) b known p = path_known z s u x more b (edges_known z s u a x known p.0) p.1

-- another thread doesn't know it
not_known : (z : State) (t u : ℕ) (b : BlockId) → IsTrue (is_own z t b) → (t == u) ≡ false → Knows z u b → ⊥
not_known z t u b own other (inl out) = not_both (get z.blocks b) out (own_inside z t b own)
not_known z t u b own other (inr mine) = let same : true ≡ false = sym (eq-eqb t u (sym (own_thread z t b own) ∙ own_thread z u b mine)) ∙ other in cc (same)

-- what is held once the registers of a thread are empty is known to another
held_by_others : (z : State) → Sound z → (t : ℕ) (a : BlockId) → IsHeld (with_end z t) a → IsTrue (is_escaped z a) ⊎ ((u : ℕ) × ((t == u) ≡ false) × Knows z u a)
held_by_others z s t a (inl (u, r, is)) = by_test (t == u) refl is
  where
    by_test : (c : Bool) → (t == u) ≡ c → cond c None (z.registers u r) ≡ Some a → IsTrue (is_escaped z a) ⊎ ((u : ℕ) × ((t == u) ≡ false) × Knows z u a)
    by_test true e h = cc (h)
    by_test false e h = inr (u, e, s.names.registers u r a h)
held_by_others z s t a (inr (inl (g, is))) = inl (s.names.roots g a is)
held_by_others z s t a (inr (inr more)) = inl (s.names.counts a more)

same_path : (z : State) (t : ℕ) (a : BlockId) (steps : List BlockId) (b : BlockId) → Path (Edge (with_end z t)) a steps b → Path (Edge z) a steps b
same_path z t a [] b p = p
same_path z t a (x ∷ more) b p = (p.0, same_path z t x more b p.1)

another : (t : ℕ) → (t == t + 1) ≡ false
another t = go (t == t + 1) refl
  where
    go : (b : Bool) → (t == t + 1) ≡ b → b ≡ false
    go false e = refl
    go true e = let same : t ≡ t + 1 = eqb-true t (t + 1) e in absurd (omega (arith, same))

own_unheld : (z : State) → Sound z → (t : ℕ) (b : BlockId) → IsTrue (is_own z t b) → ¬ Live (with_end z t) b
own_unheld z s t b own (a, held, (steps, p)) = elim (held_by_others z s t a held) [
  | inl out ↦ not_known z t (t + 1) b own (another t) (path_known z s (t + 1) a steps b (inl out) (same_path z t a steps b p))
  | inr k ↦ not_known z t k.0 b own k.1 (path_known z s k.0 a steps b k.2 (same_path z t a steps b p))
]

pub left_not_live : (z : State) (t : ℕ) (gone : WithRoom) (after : State) → Sound z → Step z (replied t call.Leave (reply.Reclaimed gone)) after → (b : BlockId) → IsTrue (among gone.list b) → ¬ Live (with_end z t) b
left_not_live z t gone after s step b taken =
    let h = (plain_happens z (replied t call.Leave (reply.Reclaimed gone)) after step (λ id n. n) refl).1 in
    own_unheld z s t b ((h.gone_ones.1 b).0 taken)
