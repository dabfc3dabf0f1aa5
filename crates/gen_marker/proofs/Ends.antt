-- Scanning to the end, and gathering what is left
use Rattle.std.proofs.Common.{◌≡◌, ℕ, ◌+◌, ◌≤◌, Bool, true, false, List, [], ◌∷◌, refl, sym, ap, ◌∙◌, subst, arith, inl, inr, length, slice_get, take, zero, suc, count_by}
use Rattle.std.proofs.lemmas.Grind.{common_steps}
use Rattle.std.specs.List.{filter}
use Rattle.std.specs.Option.{option_to_list}
use Rattle.std.proofs.lemmas.List.Sums.{count_by-le-length, length-filter}
use Rattle.az_base.specs.declared.block_id.BlockId.{BlockId}
use Rattle.az_base.specs.declared.action.Mode.{Mode}
use Rattle.quantum_space.specs.declared.shade.Shade.{Shade}
use Rattle.quantum_space.specs.declared.shade.Shade.TheVariants as shade
use Rattle.quantum_space.specs.Shapes.{Shape, Shades, Has, anchors}
use Rattle.gen_marker.specs.declared.scanning.Progress.{Progress}
use Rattle.gen_marker.specs.declared.scanning.Progress.TheVariants as progress
use Rattle.gen_marker.specs.Marking.{Marking, Tracks, NoGrey, Greys, Among, Spreads, Finishes, blacks, is_black, is_white, is_left}
use Rattle.gen_marker.specs.Progress.{Ends}
use Rattle.quantum_space.proofs.Lists.{count_same, count_below, count_one_less}

-- the whole budget of steps is more than the blocks, so none is grey
pub all_done : (r : Progress) (blocks : List BlockId) (old new : Shades) (before after n : ℕ) → Ends r blocks new (after ≡ before + n) → after + blacks blocks old ≡ before + blacks blocks new → length blocks ≤ n → NoGrey blocks new
all_done progress.Done blocks old new before after n e t l = e
all_done progress.More blocks old new before after n e t l =
    let fewer = count_one_less (λ b. true) (λ b. is_black (new b)) blocks e.0.id e.0.block refl (ap is_black e.0.grey) (λ b h k. refl) in
    let all = count_by-le-length (λ (b : BlockId). true) blocks in
    absurd (omega (arith, fewer, all, t, l, e.1))

-- greying makes none black, nor takes it away
pub same_blacks : (P : BlockId → Type 0) (blocks : List BlockId) (old new : Shades) → Greys P old new → blacks blocks new ≡ blacks blocks old
same_blacks P blocks old new g = count_same (λ b. is_black (new b)) (λ b. is_black (old b)) blocks (λ b h. elim (g.same b) [ inl e ↦ ap is_black e | inr a ↦ ap is_black a.2 ∙ sym (ap is_black a.1) ])

pub empty_stack : (m : Marking) (blocks : List BlockId) (f : Shades) → Tracks m blocks f → NoGrey blocks f → m.grey ≡ []
empty_stack m blocks f t n = go m.grey refl
  where
    go : (xs : List BlockId) → m.grey ≡ xs → m.grey ≡ []
    go [] e = e
    go (x ∷ xs) e = let h : Has m.grey x = subst (λ ys. Has ys x) (sym e) (inl refl) in absurd (n x (t.block x h) (t.each x h))

-- there is room for the next one
count_next : (p : BlockId → Bool) (xs : List BlockId) (n : ℕ) → count_by p (take n xs) + count_by p (option_to_list (slice_get xs n)) ≤ count_by p xs
count_next p [] n = elim n as (λ n. count_by p (take n []) + count_by p (option_to_list (slice_get [] n)) ≤ 0) [ zero ↦ omega arith | suc k ↦ omega arith ]
count_next p (x ∷ xs) zero = go (p x) refl
  where
    go : (t : Bool) → p x ≡ t → 0 + count_by p (x ∷ []) ≤ count_by p (x ∷ xs)
    go true e = grind (arith, common_steps, e)
    go false e = grind (arith, common_steps, e)
count_next p (x ∷ xs) (suc n) = let r = count_next p xs n in go (p x) refl r
  where
    go : (t : Bool) → p x ≡ t → count_by p (take n xs) + count_by p (option_to_list (slice_get xs n)) ≤ count_by p xs → count_by p (x ∷ take n xs) + count_by p (option_to_list (slice_get xs n)) ≤ count_by p (x ∷ xs)
    go true e r = grind (arith, common_steps, e, r)
    go false e r = grind (arith, common_steps, e, r)

left_white : (m : Mode) (s : Shape) (f : Shades) (b : BlockId) → is_left m s f b ≡ true → is_white (f b) ≡ true
left_white m s f b h = go (f b) refl h
  where
    go : (x : Shade) → f b ≡ x → is_left m s f b ≡ true → is_white (f b) ≡ true
    go shade.White e h = ap is_white e
    go shade.Grey e h = let k : is_left m s f b ≡ false = rw e refl in cc
    go shade.Black e h = let k : is_left m s f b ≡ false = rw e refl in cc

pub room_to_gather : (m : Mode) (s : Shape) (f : Shades) (start : Marking) (n : ℕ) → Tracks start s.blocks f
    → length (filter (is_left m s f) (take n s.blocks)) + count_by (is_left m s f) (option_to_list (slice_get s.blocks n)) ≤ start.room
room_to_gather m s f start n t =
    let len = length-filter (is_left m s f) (take n s.blocks) in
    let next = count_next (is_left m s f) s.blocks n in
    let white = count_below (λ b. is_white (f b)) (is_left m s f) s.blocks (λ b h k. left_white m s f b k) in
    omega (arith, len, next, white, t.room)

-- anchors were greyed, and then the walk went on
pub finishes : (m : Mode) (s : Shape) (old mid new : Shades) → Greys (Among m s (anchors s)) old mid → Spreads m s mid new → Finishes m s old new
finishes m s old mid new g x = record {
  anchors = λ b a. x.stays b (g.done b a);
  outside = λ b n. elim (g.same b) [ inl e ↦ x.outside b n ∙ e | inr a ↦ absurd (n a.0.block) ];
  stays = λ b d. x.stays b (λ w. elim (g.same b) [ inl e ↦ d (sym e ∙ w) | inr a ↦ d a.1 ]);
  black = λ b k. x.black b (elim (g.same b) [ inl e ↦ e ∙ k | inr a ↦ let j : shade.White ≡ shade.Black = sym a.1 ∙ k in cc ]);
  source = λ b h d.
      let o = x.source b h d in
      record {
        first = o.first;
        block = o.block;
        dark = elim (g.same o.first) [ inl e ↦ inl (λ w. o.shade (e ∙ w)) | inr a ↦ inr a.0 ];
        steps = o.steps;
        path = o.path;
      };
}
