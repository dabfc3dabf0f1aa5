-- What marking says of anchored blocks, over any edges and any first blocks (those of a state)
use Rattle.std.proofs.Common.{◌≡◌, ◌≢◌, Bool, true, false, List, [], ◌∷◌, refl, sym, ◌∙◌, subst, ◌⊎◌, inl, inr, IsTrue}
use Rattle.az_base.specs.declared.block_id.BlockId.{BlockId}
use Rattle.az_base.specs.declared.action.Mode.{Mode}
use Rattle.quantum_space.specs.declared.shade.Shade.{Shade}
use Rattle.quantum_space.specs.declared.shade.Shade.TheVariants as shade
use Rattle.quantum_space.specs.Shapes.{Shape, Shades, Has, anchors}
use Rattle.gen_marker.specs.Marking.{Shut, NoGrey, Spreads, Begun, Enlivens, Finishes, Starts, Source, Among, in_scope}
use Rattle.gen_marker.specs.Marking as marking
use Rattle.gen_marker.specs.Closure.{Marked, MarkedIn, OfDark, GoesOn}
use Rattle.zone_model.specs.Reach.{Path, Edge, Anchors, AnchoredFor}
use Rattle.zone_model.specs.State.{State}
use Rattle.quantum_space.proofs.Lists.{has_or_not, same_or_not}
use Rattle.gen_marker.proofs.Marks.{white_or_not}

true_or_not : (t : Bool) → (t ≡ true) ⊎ (t ≡ false)
true_or_not true = inl refl
true_or_not false = inr refl

dark_is_black : (f : Shade) → f ≢ shade.White → f ≢ shade.Grey → f ≡ shade.Black
dark_is_black shade.White w g = absurd (w refl)
dark_is_black shade.Grey w g = absurd (g refl)
dark_is_black shade.Black w g = refl

-- the block isn't a white one that the collection may take
abbrev pub Dark : Mode → Shape → Shades → BlockId → Type 0
Dark m s f a = Has s.blocks a → IsTrue (in_scope m s a) → f a ≢ shade.White

-- no edge leads into what is white
pub dark_edge : (m : Mode) (s : Shape) (f : Shades) (E : BlockId → BlockId → Type 0) (First : BlockId → Type 0) → Marked m s f E First → (a b : BlockId) → Dark m s f a → E a b → Dark m s f b
dark_edge m s f E First k a b dark e hb sb = elim (has_or_not s.blocks a) [
  | inr n ↦ k.outer a b n hb sb e
  | inl ha ↦ elim (white_or_not (f a)) [
    | inr d ↦ k.shut.closed a b ha hb (dark_is_black (f a) d (k.no_grey a ha)) (k.inner a b ha hb e) sb
    | inl w ↦ elim (true_or_not (in_scope m s a)) [ inl t ↦ absurd (dark ha t w) | inr t ↦ k.crossing a b ha t hb sb e w ]
  ]
]

dark_path : (m : Mode) (s : Shape) (f : Shades) (E : BlockId → BlockId → Type 0) (First : BlockId → Type 0) → Marked m s f E First → (a : BlockId) (steps : List BlockId) (b : BlockId) → Dark m s f a → Path E a steps b → Dark m s f b
dark_path m s f E First k a [] b d p = subst (Dark m s f) p d
dark_path m s f E First k a (c ∷ more) b d p = dark_path m s f E First k c more b (dark_edge m s f E First k a c d p.0) p.1

-- a white block that the collection may take isn't anchored
pub white_unanchored : (m : Mode) (s : Shape) (f : Shades) (E : BlockId → BlockId → Type 0) (First : BlockId → Type 0) → Marked m s f E First
    → (a : BlockId) → First a ⊎ (in_scope m s a ≡ false) → (steps : List BlockId) (b : BlockId) → Path E a steps b → Has s.blocks b → IsTrue (in_scope m s b) → f b ≢ shade.White
white_unanchored m s f E First k a from steps b p hb sb =
    let dark : Dark m s f a = λ h t. elim from [ inl x ↦ k.first a x h t | inr o ↦ cc ] in
    dark_path m s f E First k a steps b dark p hb sb

-- a fact that goes on along edges holds at the end of a path
along : (m : Mode) (s : Shape) (P : BlockId → Type 0) → GoesOn s P → (a : BlockId) (steps : List BlockId) (b : BlockId) → P a → marking.Path m s a steps b → P b
along m s P on a [] b x p = subst P p x
along m s P on a (c ∷ more) b x p = along m s P on c more b (on a c p.0.block x p.0.here) p.1

pub spread_dark : (m : Mode) (s : Shape) (old new : Shades) (P : BlockId → Type 0) → Spreads m s old new → GoesOn s P → OfDark s old P → OfDark s new P
spread_dark m s old new P spreads on was b h d = let o = spreads.source b h d in along m s P on o.first o.steps b (was o.first o.block o.shade) o.path

pub finish_dark : (m : Mode) (s : Shape) (old new : Shades) (P : BlockId → Type 0) → Finishes m s old new → GoesOn s P → ((b : BlockId) → Among m s (anchors s) b → P b) → OfDark s old P → OfDark s new P
finish_dark m s old new P f on anchored was b h d =
    let o = f.source b h d in
    along m s P on o.first o.steps b (elim o.dark [ inl k ↦ was o.first o.block k | inr a ↦ anchored o.first a ]) o.path

pub begun_dark : (m : Mode) (s : Shape) (old new : Shades) (P : BlockId → Type 0) → Begun m s old new → ((b : BlockId) → Starts m s b → P b) → OfDark s new P
begun_dark m s old new P begun starts b h d = elim (begun.each b h) [ inl w ↦ absurd (d w) | inr x ↦ starts b x.0 ]

pub enlivened_dark : (s : Shape) (id : BlockId) (old new : Shades) (P : BlockId → Type 0) → Enlivens s.blocks id old new → P id → OfDark s old P → OfDark s new P
enlivened_dark s id old new P en here was b h d = elim (same_or_not b id) [
  | inl e ↦ subst P (sym e) here
  | inr n ↦ was b h (λ w. d (en.others b n.0 ∙ w))
]

pub never_dark : (s : Shape) (f : Shades) (P : BlockId → Type 0) → OfDark s f P → (b : BlockId) → Has s.blocks b → ¬ P b → f b ≡ shade.White
never_dark s f P dark b h n = elim (white_or_not (f b)) [ inl w ↦ w | inr d ↦ absurd (n (dark b h d)) ]

-- no block is white that is anchored in the state
pub anchored_dark : (z : State) (m : Mode) (s : Shape) (f : Shades) → MarkedIn z m s f → (b : BlockId) → Has s.blocks b → IsTrue (in_scope m s b) → AnchoredFor m z b → f b ≢ shade.White
anchored_dark z m s f k b hb sb r = white_unanchored m s f (Edge z) (Anchors m z) k r.0 (inl r.1) r.2.0 b r.2.1 hb sb
