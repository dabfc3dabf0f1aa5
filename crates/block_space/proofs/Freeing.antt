-- Blocks that are freed one after another
use Rattle.std.proofs.Common.{◌≡◌, ◌≢◌, inl, inr, ℕ, zero, suc, ◌+◌, ◌<◌, ◌≤◌, take, get_or, length, slice_index_or, arith, ◌++◌, ◌∷◌, [], List, Option, Some, None, MatchOption, refl, sym, ap, ◌∙◌, subst}
use Rattle.std.proofs.Math.Seq.{take-suc}
use Rattle.std.proofs.lemmas.List.Elements.{Contains-append_left, Contains-append_right, Contains-append_cases}
use Rattle.block_layouts.specs.declared.layout.Layout.{Layout}
use Rattle.quantum_space.specs.declared.place.Place.{Place}
use Rattle.block_space.specs.Spaces.{Space', layout_at}
use Rattle.block_space.specs.Maps.{AreTakenOff, HasBlockLess, HasBlocksLess, IsSameBlock, MayBeTakenOff}

pub one_more_off : (s mid new : Space') (ps : List Place) (p : Place) → AreTakenOff s ps mid → MayBeTakenOff mid p new → AreTakenOff s (ps ++ p ∷ []) new
one_more_off s mid new [] p e off = (new, subst (λ (x : Space'). MayBeTakenOff x p new) e off, refl)
one_more_off s mid new (q ∷ ps) p e off = (e.0, e.1, one_more_off e.0 mid new ps p e.2 off)

same_twice : (s mid new : Space') (q : Place) (o : Layout) → IsSameBlock s mid q o → IsSameBlock mid new q o → IsSameBlock s new q o
same_twice s mid new q o a b = record { layout = b.layout; id = b.id ∙ a.id; byte = b.byte ∙ a.byte; words = λ i l. b.words i l ∙ a.words i l }

same_itself : (s : Space') (q : Place) (o : Layout) → layout_at s q ≡ Some o → IsSameBlock s s q o
same_itself s q o e = record { layout = e; id = refl; byte = refl; words = λ i l. refl }

pub none_less : (s : Space') → HasBlocksLess s s []
none_less s = record { gone = λ p c. absurd (omega (arith, c.1)); others = λ q o d e. same_itself s q o e; only = λ q o e. e }

-- one place more
pub take_more : (ps : List Place) (j : ℕ) (d : Place) → j < length ps → take (j + 1) ps ≡ take j ps ++ get_or ps j d ∷ []
take_more ps j d l = (let e : j + 1 ≡ suc j = omega arith in ap (λ n. take n ps) e ∙ take-suc ps j d l)

pub only_one : (p q : Place) (k : ℕ) → k < length (p ∷ []) → slice_index_or (p ∷ []) k q ≡ q → q ≡ p
only_one p q zero l e = sym e
only_one p q (suc k) l e = absurd (omega (arith, l))

-- what the next one leaves
record Next (s new : Space') (p : Place) : Type 0 where
  gone : layout_at new p ≡ None
  others : (q : Place) (o : Layout) → q ≢ p → layout_at s q ≡ Some o → IsSameBlock s new q o
  only : (q : Place) (o : Layout) → layout_at new q ≡ Some o → layout_at s q ≡ Some o

next : (s new : Space') (p : Place) → MatchOption (layout_at s p) (new ≡ s) (λ _. HasBlockLess s new p) → Next s new p
next s new p h = go (layout_at s p) refl h
  where
    go : (m : Option Layout) → layout_at s p ≡ m → MatchOption m (new ≡ s) (λ _. HasBlockLess s new p) → Next s new p
    go None e f = subst (λ (x : Space'). Next s x p) (sym f) (record { gone = e; others = λ q o d g. same_itself s q o g; only = λ q o g. g })
    go (Some l) e f = record { gone = f.gone; others = f.others; only = f.only }

pub one_more_less : (s mid new : Space') (ps : List Place) (p : Place) → HasBlocksLess s mid ps → MatchOption (layout_at mid p) (new ≡ mid) (λ _. HasBlockLess mid new p) → HasBlocksLess s new (ps ++ p ∷ [])
one_more_less s mid new ps p less h = record {
  gone = λ q c. elim (Contains-append_cases ps (p ∷ []) q c) [ inl a ↦ still_gone q (less.gone q a) | inr a ↦ subst (λ (x : Place). layout_at new x ≡ None) (sym (only_one p q a.0 a.1 a.2)) step.gone ];
  others = λ q o d e.
      (let was = less.others q o (λ c. d (Contains-append_left ps (p ∷ []) q c)) e in
      same_twice s mid new q o was (step.others q o (λ f. d (Contains-append_right ps (p ∷ []) q (0, omega arith, sym f))) was.layout));
  only = λ q o e. less.only q o (step.only q o e);
}
  where
    step : Next mid new p
    step = next mid new p h

    still_gone : (q : Place) → layout_at mid q ≡ None → layout_at new q ≡ None
    still_gone q e = go (layout_at new q) refl
      where
        go : (m : Option Layout) → layout_at new q ≡ m → layout_at new q ≡ None
        go None f = f
        go (Some o) f = absurd (let g = step.only q o f in let n : None ≡ Some o = sym e ∙ g in cc)

-- a list of one
pub less_one : (s new : Space') (p : Place) → HasBlocksLess s new (p ∷ []) → HasBlockLess s new p
less_one s new p less = record {
  gone = less.gone p (0, omega arith, refl);
  others = λ q o d e. less.others q o (λ c. d (only_one p q c.0 c.1 c.2)) e;
  only = less.only;
}

pub take_all : (ps : List Place) (n : ℕ) → length ps ≤ n → take n ps ≡ ps
take_all [] zero l = refl
take_all [] (suc n) l = refl
take_all (p ∷ ps) zero l = absurd (omega (arith, l))
take_all (p ∷ ps) (suc n) l = ap (λ qs. p ∷ qs) (take_all ps n (omega (arith, l)))
