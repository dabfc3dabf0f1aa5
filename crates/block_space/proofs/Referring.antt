-- Where the blocks lie to which words refer
use Rattle.std.proofs.Common.{MatchOption, ◌≡◌, inl, inr, ℕ, ◌+◌, ◌*◌, ◌/◌, ◌%◌, ◌<◌, Option, Some, None, refl, sym, ap, ◌∙◌, subst, arith, length, get_or}
use Rattle.std.specs.Bool.{⊤}
use Rattle.az_base.specs.declared.block_id.BlockId.{BlockId}
use Rattle.az_base.specs.declared.word.Word.TheVariants as plain
use Rattle.block_layouts.specs.declared.layout.Layout.{Layout}
use Rattle.block_layouts.specs.Layouts.{len_of}
use Rattle.quantum_space.specs.declared.place.Place.{Place}
use Rattle.quantum_space.specs.declared.placed.PlacedWord.{PlacedWord}
use Rattle.quantum_space.specs.declared.placed.PlacedWord.TheVariants as word
use Rattle.quantum_space.specs.PlacedWords.{known, spot_at, word_of}
use Rattle.quantum_space.specs.Regions.{HasBlock, HasWord, no_id}
use Rattle.quantum_space.proofs.Runs.{below_or}
use Rattle.quantum_space.proofs.Placing.{row_le}
use Rattle.quantum_space.specs.declared.spot.Spot.{Spot}
use Rattle.quantum_space.specs.declared.spot.Kind.{Kind}
use Rattle.quantum_space.specs.declared.spot.Kind.TheVariants as kind
use Rattle.block_space.specs.Tables.{numbers, subzone_of}
use Rattle.block_space.specs.Spaces.{AreRight, BeginsAt, HasBlockAt, HasWordAt, IsRight, IsWhole, Space', id_at, placed_at, region, size_of, spot_of}
use Rattle.block_space.specs.Maps.{IsSound}
use Rattle.block_space.proofs.Keeping.{stored_block}
use Rattle.block_space.proofs.Mapping.{id_spot, spot_from, word_spot}
use Rattle.block_space.proofs.Still.{none_above}

some_size : (k : Kind) → 0 < size_of k
some_size kind.Small = omega arith
some_size kind.Medium = omega arith

-- a place
abbrev pub at_place : ℕ → ℕ → Place
at_place z q = record { subzone = z; quantum = q }

-- a block's place, by its quantum
module _ (s : Space') (k : Kind) (at : ℕ) (sound : IsSound s) (has : HasBlock (region s k) at) where
  l : Layout
  l = (stored_block (region s k) at has).0

  stored : get_or (region s k).layouts at None ≡ Some l
  unfolding l
  stored = (stored_block (region s k) at has).1

  size : (region s k).map.size ≡ size_of k
  size = sound.space.size k

  rows : ((region s k).map.size ≡ size_of k) × (at ≡ (at / size_of k) * size_of k + at % size_of k) × (at % size_of k < size_of k)
  rows = (let some = some_size k in (size, omega (arith, some), omega (arith, some)))

  pub index_there : at / size_of k < length (numbers s.table k)
  index_there = elim (below_or (at / size_of k) (region s k).opened) [
    | inl b ↦ omega (arith, b, sound.space.opened k)
    | inr b ↦ absurd (let e : (region s k).opened * (region s k).map.size ≡ (region s k).opened * size_of k = ap (λ n. (region s k).opened * n) size in
        omega (arith, none_above (region s k) at l (sound.regions k) stored, e, rows.1, row_le (size_of k) (region s k).opened (at / size_of k) b))
  ]

  pub place_is : spot_of s (record { subzone = get_or (numbers s.table k) (at / size_of k) 0; quantum = at % size_of k }) ≡ Some (spot_at k at)
  place_is =
      let g = sound.table.back k (at / size_of k) index_there in
      spot_from s (record { subzone = get_or (numbers s.table k) (at / size_of k) 0; quantum = at % size_of k }) (subzone_of k (at / size_of k)) g rows.2 ∙ ap (λ n. Some (spot_at k n)) (sym rows.1)

-- a word of a block is right about where its block lies
pub right_at : (s : Space') (p : Place) (i : ℕ) → IsWhole s → HasWordAt s p i → IsRight s.small.layouts s.medium.layouts s.small.ids s.medium.ids (placed_at s p i)
right_at s p i whole has = go (spot_of s p) refl has
  where
    by_kind : (k : Kind) → AreRight (region s k) s.small s.medium
    by_kind kind.Small = whole.small
    by_kind kind.Medium = whole.medium

    at_spot : (x : Spot) → spot_of s p ≡ Some x → (m : Option Layout) → get_or (region s x.kind).layouts x.at None ≡ m → MatchOption m ⊥ (λ l. i < len_of l) → IsRight s.small.layouts s.medium.layouts s.small.ids s.medium.ids (placed_at s p i)
    at_spot x e None f h = absurd h
    at_spot x e (Some l) f h = subst (λ (w : PlacedWord). IsRight s.small.layouts s.medium.layouts s.small.ids s.medium.ids w) (sym (word_spot s p x i e)) (by_kind x.kind x.at l f i h)

    go : (m : Option Spot) → spot_of s p ≡ m → MatchOption m ⊥ (λ x. HasWord (region s x.kind) x.at i) → IsRight s.small.layouts s.medium.layouts s.small.ids s.medium.ids (placed_at s p i)
    go None e h = absurd h
    go (Some x) e h = at_spot x e (get_or (region s x.kind).layouts x.at None) refl h

-- what a word that is right knows
pub record Knows (s : Space') (w : PlacedWord) (x : Spot) : Type 0 where
  pub id : BlockId
  pub word : word_of w ≡ plain.Block id
  pub block : HasBlock (region s x.kind) x.at
  pub here : get_or (region s x.kind).ids x.at no_id ≡ id

begins_knows : (s : Space') (w : PlacedWord) (x : Spot) (id : BlockId) → word_of w ≡ plain.Block id → BeginsAt (region s x.kind).layouts (region s x.kind).ids x.at id → Knows s w x
begins_knows s w x id e h = (let b = parts (get_or (region s x.kind).layouts x.at None) (get_or (region s x.kind).ids x.at no_id) h in record { id = id; word = e; block = b.0; here = b.1 })
  where
    parts : (m : Option Layout) (n : BlockId) → MatchOption m ⊥ (λ l. n ≡ id) → (MatchOption m ⊥ (λ l. ⊤)) × (n ≡ id)
    parts None n h = absurd h
    parts (Some l) n h = (tt, h)

pub knows : (s : Space') (w : PlacedWord) (x : Spot) → IsRight s.small.layouts s.medium.layouts s.small.ids s.medium.ids w → known w ≡ Some x → Knows s w x
knows s word.Null x h e = cc
knows s (word.Block id) x h e = cc
knows s (word.InSmall id at) x h e = (let f : spot_at kind.Small at ≡ x = cc in subst (λ (y : Spot). Knows s (word.InSmall id at) y) f (begins_knows s (word.InSmall id at) (spot_at kind.Small at) id refl h))
knows s (word.InMedium id at) x h e = (let f : spot_at kind.Medium at ≡ x = cc in subst (λ (y : Spot). Knows s (word.InMedium id at) y) f (begins_knows s (word.InMedium id at) (spot_at kind.Medium at) id refl h))
knows s (word.Number m) x h e = cc

pub refers : (s : Space') (w : PlacedWord) (x : Spot) (q : Place) → Knows s w x → spot_of s q ≡ Some x → HasBlockAt s q × (word_of w ≡ plain.Block (id_at s q))
refers s w x q k e = (
  subst (λ (m : Option Spot). MatchOption m ⊥ (λ y. HasBlock (region s y.kind) y.at)) (sym e) k.block,
  k.word ∙ ap plain.Block (sym k.here ∙ sym (id_spot s q x e)),
)
