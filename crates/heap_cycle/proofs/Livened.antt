-- Blocks that were enlivened one after another
use Rattle.std.proofs.Common.{◌≡◌, ◌≢◌, ◌<◌, ◌++◌, ◌+◌, ◌&&◌, ◌||◌, ℕ, zero, suc, Bool, true, false, cond, List, [], ◌∷◌, Option, Some, None, IsTrue, option_map, get_or, length, take, add-one, arith, refl, sym, ap, subst, ◌∙◌, inl, inr}
use Rattle.az_base.specs.declared.block_id.BlockId.{BlockId}
use Rattle.az_base.specs.declared.word.Word.{Word}
use Rattle.az_base.specs.declared.word.Word.TheVariants as word
use Rattle.az_base.specs.Ids.{among, same_id}
use Rattle.quantum_space.specs.declared.shade.Shade.{Shade}
use Rattle.quantum_space.specs.declared.shade.Shade.TheVariants as shade
use Rattle.quantum_space.proofs.Lists.{has_among}
use Rattle.gen_marker.specs.Marking.{is_white}
use Rattle.heap_tables.specs.declared.tables.Tables.{Tables}
use Rattle.heap_cycle.specs.Barriers.{IsLive}
use Rattle.heap_cycle.specs.Collector.{Collecting, Collector, shade_in}
use Rattle.heap_cycle.specs.Collects.{collecting, collector_of, condemned_at, start_of}
use Rattle.heap_cycle.specs.Livening.{Livens, blocks_in, enlivened, unshaded}
use Rattle.heap_cycle.specs.declared.open_cycle.OpenCycle.{OpenCycle}
use Rattle.heap_cycle.proofs.Slicing.{marking_shade}

some_same : {X : Type 0} (x y : X) → Some x ≡ Some y → x ≡ y
some_same x y e = cc

-- a block that was to be enlivened isn't white
enlivened_dark : (live : List BlockId) (f : Collecting) (b : BlockId) → IsTrue (among live b) → enlivened live f b ≢ shade.White
enlivened_dark live f b i w = by (shade_in f b) (sym (ap (λ t. cond (t && is_white (shade_in f b)) shade.Grey (shade_in f b)) i) ∙ w)
  where
    by : (s : Shade) → cond (is_white s) shade.Grey s ≢ shade.White
    by shade.White e = cc (e)
    by shade.Grey e = cc (e)
    by shade.Black e = cc (e)

-- an open cycle was open before, as one that differs in shades alone
opened_before : (old new : Collector) (live carded : List BlockId) → Livens old new live carded → (g : Collecting) → new.cycle ≡ Some g → (f : Collecting) × (old.cycle ≡ Some f) × (unshaded g ≡ unshaded f)
opened_before old new live carded k g e = by old.cycle refl (sym (ap (option_map unshaded) e) ∙ k.cycle)
  where
    by : (o : Option Collecting) → old.cycle ≡ o → Some (unshaded g) ≡ option_map unshaded o → (f : Collecting) × (old.cycle ≡ Some f) × (unshaded g ≡ unshaded f)
    by None e is = cc (is)
    by (Some f) e is = (f, e, some_same (unshaded g) (unshaded f) is)

among_both : (xs ys : List BlockId) (b : BlockId) → among (xs ++ ys) b ≡ (among xs b || among ys b)
among_both [] ys b = refl
among_both (x ∷ xs) ys b = ap (λ t. same_id b x || t) (among_both xs ys b) ∙ joined (same_id b x) (among xs b) (among ys b)
  where
    joined : (p q r : Bool) → (p || (q || r)) ≡ ((p || q) || r)
    joined true q r = refl
    joined false q r = refl

-- grey after one enlivening is grey after both
enlivened_twice : (p q : Bool) (s : Shade) → cond (q && is_white (cond (p && is_white s) shade.Grey s)) shade.Grey (cond (p && is_white s) shade.Grey s) ≡ cond ((p || q) && is_white s) shade.Grey s
enlivened_twice true true shade.White = refl
enlivened_twice true false shade.White = refl
enlivened_twice false true shade.White = refl
enlivened_twice false false shade.White = refl
enlivened_twice true true shade.Grey = refl
enlivened_twice true false shade.Grey = refl
enlivened_twice false true shade.Grey = refl
enlivened_twice false false shade.Grey = refl
enlivened_twice true true shade.Black = refl
enlivened_twice true false shade.Black = refl
enlivened_twice false true shade.Black = refl
enlivened_twice false false shade.Black = refl

-- the words so far, with one more
pub blocks_next : (ws : List Word) (n : ℕ) (w : Word) → n < length ws → w ≡ get_or ws n w → blocks_in (take (n + 1) ws) ≡ blocks_in (take n ws) ++ blocks_in (w ∷ [])
blocks_next ws n w below is = rw add-one (go ws n below is)
  where
    go : (ws : List Word) (n : ℕ) → n < length ws → w ≡ get_or ws n w → blocks_in (take (suc n) ws) ≡ blocks_in (take n ws) ++ blocks_in (w ∷ [])
    go [] n l e = absurd (omega (arith, l))
    go (x ∷ xs) zero l e = ap (λ y. blocks_in (y ∷ [])) (sym e)
    go (word.Null ∷ xs) (suc n) l e = go xs n (omega (arith, l)) e
    go (word.Number x ∷ xs) (suc n) l e = go xs n (omega (arith, l)) e
    go (word.Block b ∷ xs) (suc n) l e = ap (λ l. b ∷ l) (go xs n (omega (arith, l)) e)

-- some blocks are enlivened, and then others, and none are remembered
pub livens_then : (x y z : Collector) (first second : List BlockId) → Livens x y first [] → Livens y z second [] → Livens x z (first ++ second) []
livens_then x y z first second k l = record {
  cycle = l.cycle ∙ k.cycle;
  shades = λ f h ef eh none b i. both f h ef eh none b i (opened_before y z second [] l h eh);
  cards = λ b i. l.cards b (k.cards b i);
  fewer = λ b i. elim (l.fewer b i) [ inl was ↦ k.fewer b was | inr one ↦ cc (one) ];
}
  where
    both : (f h : Collecting) → x.cycle ≡ Some f → z.cycle ≡ Some h → f.condemned ≡ None → (b : BlockId) → IsTrue (among f.start b) → (g : Collecting) × (y.cycle ≡ Some g) × (unshaded h ≡ unshaded g) → shade_in h b ≡ enlivened (first ++ second) f b
    both f h ef eh none b i (g, eg, same) =
        let before = opened_before x y first [] k g eg in
        let is : unshaded g ≡ unshaded f = before.2 ∙ ap unshaded (some_same before.0 f (sym before.1 ∙ ef)) in
        let fresh : g.condemned ≡ None = ap (λ (v : Collecting). v.condemned) is ∙ none in
        let there : IsTrue (among g.start b) = ap (λ (v : Collecting). among v.start b) is ∙ i in
        l.shades g h eg eh fresh b there
        ∙ ap (λ s. cond (among second b && is_white s) shade.Grey s) (k.shades f g ef eg none b i)
        ∙ enlivened_twice (among first b) (among second b) (shade_in f b)
        ∙ sym (ap (λ t. cond (t && is_white (shade_in f b)) shade.Grey (shade_in f b)) (among_both first second b))

-- what was enlivened isn't white
pub livens_live : (t u : Tables) (o p : Option OpenCycle) (live carded : List BlockId) → start_of u ≡ start_of t → Livens (collector_of t o) (collector_of u p) live carded → (b : BlockId) → IsTrue (among live b) → IsLive u p b
livens_live t u o p live carded start k b i c is fresh there white = by o k
  where
    shown : collector_of u (Some c) ≡ collector_of u p
    shown = ap (collector_of u) (sym is)

    dark : (d : OpenCycle) → Livens (collector_of t (Some d)) (collector_of u (Some c)) live carded → ⊥
    dark d k =
        let before = opened_before (collector_of t (Some d)) (collector_of u (Some c)) live carded k (collecting u c) refl in
        let is : unshaded (collecting u c) ≡ unshaded (collecting t d) = before.2 ∙ ap unshaded (some_same before.0 (collecting t d) (sym before.1)) in
        let marks : condemned_at d.phase ≡ None = sym (ap (λ (v : Collecting). v.condemned) is) ∙ fresh in
        let here : IsTrue (among (start_of u) b) = has_among (start_of u) b there in
        let now = k.shades (collecting t d) (collecting u c) refl refl marks b (sym (ap (λ l. among l b) start) ∙ here) in
        enlivened_dark live (collecting t d) b i (sym now ∙ marking_shade u c fresh b here ∙ white)

    by : (o : Option OpenCycle) → Livens (collector_of t o) (collector_of u p) live carded → ⊥
    by None k = let before = opened_before (collector_of t None) (collector_of u p) live carded k (collecting u c) (sym (ap (λ (g : Collector). g.cycle) shown)) in cc (before.1)
    by (Some d) k = dark d (subst (λ g. Livens (collector_of t (Some d)) g live carded) (sym shown) k)
