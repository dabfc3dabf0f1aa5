-- Words that fit their layouts
use Rattle.std.proofs.Common.{◌≡◌, ℕ, Option, Some, None, IfSome, MatchOption, slice_get, refl, subst, arith, inl, inr}
use Rattle.std.proofs.lemmas.Bool.Decides.{nat_tests}
use Rattle.std.proofs.lemmas.Grind.{common_steps}
use Rattle.std.proofs.lemmas.Option.{slice_get_cases}
use Rattle.std.specs.Option.{option_and_then}
use Rattle.std.specs.FinMap.{FinMap, get}
use Rattle.az_base.specs.declared.block_id.BlockId.{BlockId}
use Rattle.az_base.specs.declared.word.Class.TheVariants as class
use Rattle.az_base.specs.declared.word.Word.{Word}
use Rattle.az_base.specs.Ids.{id_cmp}
use Rattle.block_layouts.specs.Layouts.{class_at}
use Rattle.block_table.specs.Stored.{HeapBlock, IsWhole}
use Rattle.block_layouts.proofs.Fitting.{class_within}
use Rattle.block_layouts.specs.Fitting.{Suits, Fits}

-- there is a word, and it holds a number
abbrev pub HoldsNumber : Option Word → Type 0
HoldsNumber None = ⊥
HoldsNumber (Some w) = Suits class.Plain w

-- a Plain word holds a number
pub plain_word : (m : FinMap id_cmp HeapBlock) (id : BlockId) (at : ℕ) → option_and_then (λ (k : HeapBlock). class_at k.layout at) (get m id) ≡ Some class.Plain → IfSome (get m id) IsWhole
    → HoldsNumber (option_and_then (λ (k : HeapBlock). slice_get k.words at) (get m id))
plain_word m id at plain whole = go (get m id) plain whole
  where
    of_words : (k : HeapBlock) → class_at k.layout at ≡ Some class.Plain → Fits k.layout k.words → (o : Option Word) → slice_get k.words at ≡ o → HoldsNumber o
    of_words k p w None e = elim (slice_get_cases k.words at).1 [
      | inl x ↦ let there = x.2 in cc
      | inr x ↦ let out = class_within k.layout at class.Plain p in let l = w.all in let past = x.0 in absurd (grind (arith, nat_tests, common_steps))
    ]
    of_words k p w (Some v) e = subst (λ c. MatchOption c ⊥ (λ c. Suits c v)) p (w.suit at v e)

    go : (o : Option HeapBlock) → option_and_then (λ (k : HeapBlock). class_at k.layout at) o ≡ Some class.Plain → IfSome o IsWhole → HoldsNumber (option_and_then (λ (k : HeapBlock). slice_get k.words at) o)
    go None p w = cc
    go (Some k) p w = of_words k p w.words (slice_get k.words at) refl
