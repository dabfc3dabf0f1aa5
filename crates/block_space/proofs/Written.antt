-- A word that is written is the only one that changes
use Rattle.std.proofs.Common.{◌≡◌, ◌≢◌, ◌⊎◌, inl, inr, ℕ, ◌+◌, ◌*◌, ◌<◌, ◌≤◌, Option, Some, None, MatchOption, get_or, get_or-set_same, get_or-set_other, set, refl, sym, ap, subst, arith}
use Rattle.block_layouts.specs.declared.layout.Layout.{Layout}
use Rattle.block_layouts.specs.Layouts.{len_of}
use Rattle.quantum_space.specs.declared.placed.PlacedWord.{PlacedWord}
use Rattle.quantum_space.specs.declared.placed.PlacedWord.TheVariants as word
use Rattle.quantum_space.specs.declared.spot.Spot.{Spot}
use Rattle.quantum_space.specs.declared.spot.Kind.{Kind}
use Rattle.quantum_space.specs.declared.spot.Kind.TheVariants as kind
use Rattle.quantum_space.specs.PlacedWords.{spot_at}
use Rattle.quantum_space.specs.Regions.{Region', IsRegion, quanta_in}
use Rattle.quantum_space.proofs.Placing.{blocks_apart, some_quanta, word_inside}
use Rattle.quantum_space.proofs.Runs.{below_or}
use Rattle.block_space.specs.Spaces.{Space'}
use Rattle.block_space.specs.Maps.{IsSound}
use Rattle.block_space.specs.Marking.{layout_in, with_word_in, word_in}
use Rattle.block_space.proofs.Still.{words_apart}

module _ (r : Region') (inv : IsRegion r) (at b : ℕ) (l o : Layout) (first : get_or r.layouts at None ≡ Some l) (second : get_or r.layouts b None ≡ Some o) (d : b ≢ at) where
  lie_apart : (b + quanta_in r.width (len_of o) ≤ at) ⊎ (at + quanta_in r.width (len_of l) ≤ b)
  lie_apart = elim (below_or b at) [
    | inl lt ↦ elim (below_or at (b + quanta_in r.width (len_of o))) [
      | inl in_it ↦ absurd (blocks_apart r b at at o l (inv.blocks b o second) (inv.blocks at l first) d (omega (arith, lt)) in_it (omega arith) (omega (arith, some_quanta r.width (len_of l))))
      | inr past ↦ inl past
    ]
    | inr ge ↦ elim (below_or b (at + quanta_in r.width (len_of l))) [
      | inl in_it ↦ absurd (blocks_apart r at b b l o (inv.blocks at l first) (inv.blocks b o second) (λ e. d (sym e)) ge in_it (omega arith) (omega (arith, some_quanta r.width (len_of o))))
      | inr past ↦ inr past
    ]
  ]

  region_still : (i j : ℕ) (w : PlacedWord) → i < len_of l → j < len_of o → get_or (set r.words (at * r.width + i) w) (b * r.width + j) word.Null ≡ get_or r.words (b * r.width + j) word.Null
  region_still i j w m n = get_or-set_other r.words (at * r.width + i) (b * r.width + j) w word.Null (λ e. elim (words_apart r.width b at j (len_of o) (len_of l) inv.wide n lie_apart) [
    | inl lt ↦ omega (arith, lt, e)
    | inr ge ↦ omega (arith, ge, e, m)
  ])

-- words of another block
pub word_still : (s : Space') (x y : Spot) (l o : Layout) (i j : ℕ) (w : PlacedWord) → IsSound s → y ≢ x → layout_in s x ≡ Some l → layout_in s y ≡ Some o → i < len_of l → j < len_of o → word_in (with_word_in s x i w) y j ≡ word_in s y j
word_still s x y l o i j w sound = go x.kind y.kind x.at y.at
  where
    go : (k m : Kind) (a b : ℕ) → spot_at m b ≢ spot_at k a → layout_in s (spot_at k a) ≡ Some l → layout_in s (spot_at m b) ≡ Some o → i < len_of l → j < len_of o → word_in (with_word_in s (spot_at k a) i w) (spot_at m b) j ≡ word_in s (spot_at m b) j
    go kind.Small kind.Small a b d e f m n = region_still s.small (sound.regions kind.Small) a b l o e f (λ z. d (ap (spot_at kind.Small) z)) i j w m n
    go kind.Small kind.Medium a b d e f m n = refl
    go kind.Medium kind.Small a b d e f m n = refl
    go kind.Medium kind.Medium a b d e f m n = region_still s.medium (sound.regions kind.Medium) a b l o e f (λ z. d (ap (spot_at kind.Medium) z)) i j w m n

-- another word of the same block
pub word_beside : (s : Space') (x : Spot) (i j : ℕ) (w : PlacedWord) → j ≢ i → word_in (with_word_in s x i w) x j ≡ word_in s x j
word_beside s x i j w d = go x.kind x.at
  where
    go : (k : Kind) (a : ℕ) → word_in (with_word_in s (spot_at k a) i w) (spot_at k a) j ≡ word_in s (spot_at k a) j
    go kind.Small a = get_or-set_other s.small.words (a * s.small.width + i) (a * s.small.width + j) w word.Null (λ e. d (omega (arith, e)))
    go kind.Medium a = get_or-set_other s.medium.words (a * s.medium.width + i) (a * s.medium.width + j) w word.Null (λ e. d (omega (arith, e)))

-- the word itself
pub word_set : (s : Space') (x : Spot) (l : Layout) (i : ℕ) (w : PlacedWord) → IsSound s → layout_in s x ≡ Some l → i < len_of l → word_in (with_word_in s x i w) x i ≡ w
word_set s x l i w sound = go x.kind x.at
  where
    has : (o : Option Layout) → o ≡ Some l → i < len_of l → MatchOption o ⊥ (λ l. i < len_of l)
    has o e m = subst (λ (o : Option Layout). MatchOption o ⊥ (λ l. i < len_of l)) (sym e) m

    go : (k : Kind) (a : ℕ) → layout_in s (spot_at k a) ≡ Some l → i < len_of l → word_in (with_word_in s (spot_at k a) i w) (spot_at k a) i ≡ w
    go kind.Small a e m = get_or-set_same s.small.words (a * s.small.width + i) w word.Null (word_inside s.small a i (sound.regions kind.Small) (has _ e m))
    go kind.Medium a e m = get_or-set_same s.medium.words (a * s.medium.width + i) w word.Null (word_inside s.medium a i (sound.regions kind.Medium) (has _ e m))
