-- A tight graph stays tight
use Rattle.std.proofs.Common.{◌≡◌, ◌≢◌, true, false, List, refl, sym, ◌∙◌, subst, ◌⊎◌, inl, inr, IsTrue, IsFalse}
use Rattle.az_base.specs.declared.action.Mode.{Mode}
use Rattle.az_base.specs.declared.action.Mode.TheVariants as mode
use Rattle.az_base.specs.declared.block_id.BlockId.{BlockId}
use Rattle.quantum_space.specs.declared.shade.Shade.{Shade}
use Rattle.quantum_space.specs.declared.shade.Shade.TheVariants as shade
use Rattle.quantum_space.specs.Shapes.{Shape, Shades, Has, edges}
use Rattle.gen_marker.specs.Marking.{Begun, Greys, Shut, Starts, in_scope}
use Rattle.gen_marker.proofs.Marks.{white_or_not}
use Rattle.gen_marker.specs.Tight.{Tight, Changed, AtBegin, NoneNewer, Covered, IsClosed}

not_black : (f : Shade) → (f ≡ shade.White) ⊎ (f ≡ shade.Grey) → f ≢ shade.Black
not_black f (inl w) b = let e : shade.White ≡ shade.Black = sym w ∙ b in cc
not_black f (inr g) b = let e : shade.Grey ≡ shade.Black = sym g ∙ b in cc

-- a remembered block outside the scope is one that marking starts with
remembered_starts : (m : Mode) (s : Shape) (a : BlockId) → Has s.blocks a → IsFalse (in_scope m s a) → Has s.remembered a → Starts m s a
remembered_starts mode.Full s a h o r = let e : true ≡ false = o in cc
remembered_starts mode.Young s a h o r = inr (record { block = h; here = r })

pub tight_begun : (m : Mode) (s : Shape) (old new : Shades) → NoneNewer s → Covered m s → Begun m s old new → Tight m s new
tight_begun m s old new none covered begun = record { dark = go }
  where
    go : (a b : BlockId) → IsClosed m s new a → Has (edges s a) b → Has s.blocks b → IsTrue (in_scope m s b) → new b ≢ shade.White
    go a b (inl n) e hb sb = absurd (none a b n e)
    go a b (inr (h, inl black)) e hb sb = absurd (not_black (new a) (elim (begun.each a h) [ inl w ↦ inl w | inr x ↦ inr x.1 ]) black)
    go a b (inr (h, inr (white, out))) e hb sb = absurd (begun.starts a (remembered_starts m s a h out (covered a b h out e hb sb)) white)

-- where shades only get darker, and no black block has an edge to a white one
pub tight_darker : (m : Mode) (s : Shape) (old new : Shades) → ((b : BlockId) → old b ≢ shade.White → new b ≢ shade.White) → Shut m s new → Tight m s old → Tight m s new
tight_darker m s old new stays shut tight = record { dark = go }
  where
    go : (a b : BlockId) → IsClosed m s new a → Has (edges s a) b → Has s.blocks b → IsTrue (in_scope m s b) → new b ≢ shade.White
    go a b (inl n) e hb sb = stays b (tight.dark a b (inl n) e hb sb)
    go a b (inr (h, inl black)) e hb sb = shut.closed a b h hb black e sb
    go a b (inr (h, inr (white, out))) e hb sb = elim (white_or_not (old a)) [
      | inl w ↦ stays b (tight.dark a b (inr (h, inr (w, out))) e hb sb)
      | inr d ↦ absurd (stays a d white)
    ]

pub tight_shut : (m : Mode) (s : Shape) (f : Shades) → Tight m s f → Shut m s f
tight_shut m s f tight = record { closed = λ a b ha hb black e sb. tight.dark a b (inr (ha, inl black)) e hb sb }

same_scope : (m : Mode) (s t : Shape) (V : List BlockId) → Changed s t V → (b : BlockId) → Has s.blocks b → in_scope m t b ≡ in_scope m s b
same_scope mode.Full s t V d b h = refl
same_scope mode.Young s t V d b h = d.young b h

-- greying keeps what is dark, and makes nothing black or white
pub greys_stay : (P : BlockId → Type 0) (old new : Shades) → Greys P old new → (b : BlockId) → old b ≢ shade.White → new b ≢ shade.White
greys_stay P old new greys b dark w = elim (greys.same b) [ inl e ↦ dark (sym e ∙ w) | inr x ↦ dark x.1 ]

was_black : (P : BlockId → Type 0) (old new : Shades) → Greys P old new → (b : BlockId) → new b ≡ shade.Black → old b ≡ shade.Black
was_black P old new greys b k = elim (greys.same b) [ inl e ↦ sym e ∙ k | inr x ↦ absurd (not_black (new b) (inr x.2) k) ]

was_white : (P : BlockId → Type 0) (old new : Shades) → Greys P old new → (b : BlockId) → new b ≡ shade.White → old b ≡ shade.White
was_white P old new greys b w = elim (greys.same b) [ inl e ↦ sym e ∙ w | inr x ↦ x.1 ]

pub tight_changed : (m : Mode) (s t : Shape) (V : List BlockId) (old new : Shades) → Changed s t V → Greys (AtBegin s V) old new → Tight m s old → Tight m t new
tight_changed m s t V old new d greys tight = record { dark = go }
  where
    here : (x : BlockId) → Has t.blocks x → Has s.blocks x
    here x h = subst (λ l. Has l x) d.blocks h

    closed : (a : BlockId) → IsClosed m t new a → IsClosed m s old a
    closed a (inl n) = inl (λ h. n (subst (λ l. Has l a) (sym d.blocks) h))
    closed a (inr (h, inl black)) = inr (here a h, inl (was_black (AtBegin s V) old new greys a black))
    closed a (inr (h, inr (white, out))) = inr (here a h, inr (was_white (AtBegin s V) old new greys a white, sym (same_scope m s t V d a (here a h)) ∙ out))

    go : (a b : BlockId) → IsClosed m t new a → Has (edges t a) b → Has t.blocks b → IsTrue (in_scope m t b) → new b ≢ shade.White
    go a b k e hb sb = elim (d.edge a b e) [
      | inl was ↦ greys_stay (AtBegin s V) old new greys b (tight.dark a b (closed a k) was (here b hb) (sym (same_scope m s t V d b (here b hb)) ∙ sb))
      | inr v ↦ greys.done b (v, here b hb)
    ]
