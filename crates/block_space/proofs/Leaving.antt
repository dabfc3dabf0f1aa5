-- Blocks that are freed by their quanta
use Rattle.std.proofs.Common.{IfSome, MatchOption, ◌≡◌, ◌≢◌, ◌∷◌, [], ℕ, ◌<◌, List, Option, Some, None, Contains, refl, sym, ap, ◌∙◌, subst, arith}
use Rattle.block_layouts.specs.declared.layout.Layout.{Layout}
use Rattle.block_layouts.specs.Layouts.{len_of}
use Rattle.quantum_space.specs.declared.place.Place.{Place}
use Rattle.quantum_space.specs.declared.placed.PlacedWord.{PlacedWord}
use Rattle.quantum_space.specs.declared.spot.Spot.{Spot}
use Rattle.quantum_space.specs.PlacedWords.{known, unplaced}
use Rattle.az_base.specs.declared.block_id.BlockId.{BlockId}
use Rattle.az_base.specs.declared.word.Word.{Word}
use Rattle.az_base.specs.declared.word.Word.TheVariants as plain
use Rattle.block_space.specs.Tables.{IsTable}
use Rattle.block_space.specs.Spaces.{Space', HasBlockAt, IsFreedAt, IsRight, IsTakenOff, layout_at, placed_at, region, spot_of}
use Rattle.block_space.specs.Maps.{IsSound, LeadsTo, MayFree}
use Rattle.block_space.specs.Marking.{HasBlockIn, HasBlockLessIn, IsUnknown, layout_in}
use Rattle.block_space.proofs.Freeing.{only_one}
use Rattle.block_space.proofs.Keeping.{stored_block}
use Rattle.block_space.proofs.Mapping.{block_less_in, one_place, some_spot, word_spot}

-- a place at which a block begins
pub block_there : (s : Space') (p : Place) (x : Spot) → spot_of s p ≡ Some x → HasBlockIn s x → HasBlockAt s p
block_there s p x e h = subst (λ (m : Option Spot). MatchOption m ⊥ (λ y. HasBlockIn s y)) (sym e) h

pub less_in : (s new : Space') → IsSound s → (p : Place) (x : Spot) → spot_of s p ≡ Some x → HasBlockIn s x → IsTakenOff s new p → HasBlockLessIn s new x
less_in s new sound p x there has off =
    let b = stored_block (region s x.kind) x.at has in
    block_less_in s new sound b.0 p x there b.1 (subst (λ (o : Option Layout). IfSome o (λ l. IsFreedAt s new l x)) b.1
    (subst (λ (m : Option Spot). MatchOption m ⊥ (λ x. IfSome (layout_in s x) (λ l. IsFreedAt s new l x))) there off))

leads_to : (s : Space') (w : PlacedWord) (p : Place) (x : Spot) → spot_of s p ≡ Some x → LeadsTo s w p → known w ≡ Some x
leads_to s w p x e h = go (known w) refl h
  where
    go : (m : Option Spot) → known w ≡ m → MatchOption m ⊥ (λ x. spot_of s p ≡ Some x) → known w ≡ Some x
    go None f k = absurd k
    go (Some y) f k = f ∙ sym k ∙ e

-- a block whose quantum no word of another knows may be freed
pub may_free_one : (s : Space') (p : Place) (x : Spot) → IsTable s.table → spot_of s p ≡ Some x → IsUnknown s x → MayFree s (p ∷ [])
may_free_one s p x table there unknown = record { apart = apart }
  where
    apart : (q : Place) (o : Layout) (i : ℕ) → layout_at s q ≡ Some o → ¬ Contains (p ∷ []) q → i < len_of o → (r : Place) → Contains (p ∷ []) r → ¬ LeadsTo s (placed_at s q i) r
    apart q o i e out lt r c leads =
        let y = some_spot s q o e in
        let same : r ≡ p = only_one p r c.0 c.1 c.2 in
        let other : y.0 ≢ x = λ f. out (0, omega arith, sym (one_place s q p x table (y.1 ∙ ap (λ z. Some z) f) there)) in
        let knows : known (placed_at s q i) ≡ Some x = leads_to s (placed_at s q i) r x (ap (spot_of s) same ∙ there) leads in
        unknown y.0 o i y.2 other lt (ap known (sym (word_spot s q y.0 i y.1)) ∙ knows)

-- a word that knows no place is right
pub right_unplaced : (ls ms : List (Option Layout)) (is js : List BlockId) (w : Word) → IsRight ls ms is js (unplaced w)
right_unplaced ls ms is js plain.Null = tt
right_unplaced ls ms is js (plain.Block id) = tt
right_unplaced ls ms is js (plain.Number n) = tt
