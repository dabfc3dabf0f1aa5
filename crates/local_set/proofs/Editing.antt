-- What a write changes in a table of blocks
use Rattle.az_base.proofs.Ids.{same_self, same_turned}
use Rattle.std.proofs.Common.{◌≡◌, ℕ, ◌+◌, ◌<◌, ◌≤◌, Bool, true, false, cond, ◌||◌, List, length, get_or, Option, Some, None, MatchOption, slice_get, slice_set, option_and_then, refl, sym, ap, ◌∙◌, arith}
use Rattle.std.specs.FinMap.{FinMap, get}
use Rattle.std.proofs.lemmas.Option.{slice_get-get_or}
use Rattle.az_base.specs.declared.block_id.BlockId.{BlockId}
use Rattle.az_base.specs.declared.word.Word.{Word}
use Rattle.az_base.specs.declared.word.Word.TheVariants as word
use Rattle.az_base.specs.declared.word.Class.{Class}
use Rattle.az_base.specs.declared.word.Class.TheVariants as class
use Rattle.az_base.specs.Ids.{id_cmp, same_id, among}
use Rattle.block_layouts.specs.declared.layout.Layout.{Layout}
use Rattle.block_layouts.specs.Layouts.{class_at}
use Rattle.block_layouts.proofs.Fitting.{place_within}
use Rattle.zone_model.specs.State.{Block, referent, reference, with_edit}
use Rattle.block_layouts.specs.Fitting.{Suits, FitsAt, Fits}
use Rattle.zone_model.specs.Holds.{one_if, words_to, word_holds}
use Rattle.local_set.specs.Counting.{list_of}
use Rattle.local_set.proofs.Quantities.{holds_edited, holds_there, refers_there}

-- a word that stands where a number may stand is one
plain_only : (c : Class) (n : ℕ) (w : Word) → Suits c (word.Number n) → Suits c w → referent (Some w) ≡ None
plain_only class.Strong n w h k = absurd h
plain_only class.Weak n w h k = absurd h
plain_only class.Plain n word.Null h k = absurd k
plain_only class.Plain n (word.Block b) h k = absurd k
plain_only class.Plain n (word.Number m) h k = refl

number_only : (o : Option Class) (n : ℕ) (w : Word) → MatchOption o ⊥ (λ c. Suits c (word.Number n)) → MatchOption o ⊥ (λ c. Suits c w) → referent (Some w) ≡ None
number_only None n w h k = absurd h
number_only (Some c) n w h k = plain_only c n w h k

-- the reference in a word
pub referent_is : (v : Option BlockId) → referent (Some (reference v)) ≡ v
referent_is None = refl
referent_is (Some b) = refl

module _ (m : FinMap id_cmp Block) (id : BlockId) (at : ℕ) (was : Word) where
  abbrev pub StoodThere : Type 0
  StoodThere = option_and_then (λ (b : Block). slice_get b.words at) (get m id) ≡ Some was

  abbrev pub after_write : Word → FinMap id_cmp Block
  after_write now = with_edit m id (λ b. record b { words = slice_set b.words at now })

  -- how often a block is referred to after a write
  pub written_holds : (now : Word) (q : BlockId) → StoodThere → word_holds (after_write now) q + one_if q (referent (Some was)) ≡ word_holds m q + one_if q (referent (Some now))
  written_holds now q stood = go (get m id) refl stood
    where
      go : (o : Option Block) → get m id ≡ o → option_and_then (λ (b : Block). slice_get b.words at) o ≡ Some was → word_holds (after_write now) q + one_if q (referent (Some was)) ≡ word_holds m q + one_if q (referent (Some now))
      go None e h = cc
      go (Some b) e h = holds_edited m id b at was now q e h

  -- a number changes nothing
  pub number_holds : (n : ℕ) (q : BlockId) → StoodThere → MatchOption (get m id) ⊥ (λ b. FitsAt b.layout at was) → MatchOption (get m id) ⊥ (λ b. FitsAt b.layout at (word.Number n)) → word_holds (after_write (word.Number n)) q ≡ word_holds m q
  number_holds n q stood fits may =
      let all : word_holds (after_write (word.Number n)) q + one_if q (referent (Some was)) ≡ word_holds m q + 0 = written_holds (word.Number n) q stood in
      let none : one_if q (referent (Some was)) ≡ 0 = ap (one_if q) (go (get m id) fits may) in
      omega arith
    where
      go : (o : Option Block) → MatchOption o ⊥ (λ (b : Block). FitsAt b.layout at was) → MatchOption o ⊥ (λ (b : Block). FitsAt b.layout at (word.Number n)) → referent (Some was) ≡ None
      go None f g = absurd f
      go (Some b) f g = number_only (class_at b.layout at) n was g f

  -- the block to which the word refers is referred to
  pub referred_there : (o : Option BlockId) → StoodThere → referent (Some was) ≡ o → MatchOption o (Unit {0}) (λ b. 0 < word_holds m b)
  referred_there None stood e = tt
  referred_there (Some b) stood e = go (get m id) refl stood
    where
      go : (o : Option Block) → get m id ≡ o → option_and_then (λ (k : Block). slice_get k.words at) o ≡ Some was → 0 < word_holds m b
      go None f h = cc
      go (Some k) f h =
          let one : one_if b (referent (Some was)) ≡ 1 = ap (one_if b) e ∙ ap (λ t. cond t 1 0) (same_self b) in
          let refers : one_if b (referent (Some was)) ≤ words_to b k.words = refers_there k.words at b was h in
          let holds : words_to b k.words ≤ word_holds m b = holds_there m id k b f in
          omega arith

-- a block that isn't among those is not one of them
pub not_listed : (q : BlockId) (o : Option BlockId) → among (list_of o) q ≡ false → one_if q o ≡ 0
not_listed q None h = refl
not_listed q (Some b) h = ap (λ t. cond t 1 0) (same_turned b q) ∙ go (same_id q b) h
  where
    go : (t : Bool) → (t || false) ≡ false → ◌≡◌ {A = ℕ} (cond t 1 0) 0
    go true h = cc
    go false h = refl

-- a word that stands where a number may stand
plain_class : (o : Option Class) (w : Word) → MatchOption o ⊥ (λ c. Suits c (word.Number 0)) → MatchOption o ⊥ (λ c. Suits c w) → Suits class.Plain w
plain_class None w h k = absurd h
plain_class (Some class.Strong) w h k = absurd h
plain_class (Some class.Weak) w h k = absurd h
plain_class (Some class.Plain) w h k = k

pub plain_there : (m : FinMap id_cmp Block) (id : BlockId) (at : ℕ) (w : Word) → MatchOption (get m id) ⊥ (λ b. FitsAt b.layout at (word.Number 0)) → MatchOption (get m id) ⊥ (λ b. FitsAt b.layout at w) → Suits class.Plain w
plain_there m id at w h k = go (get m id) h k
  where
    go : (o : Option Block) → MatchOption o ⊥ (λ (b : Block). FitsAt b.layout at (word.Number 0)) → MatchOption o ⊥ (λ (b : Block). FitsAt b.layout at w) → Suits class.Plain w
    go None h k = absurd h
    go (Some b) h k = plain_class (class_at b.layout at) w h k

-- where a word would fit, a word stands
pub fits_within : (l : Layout) (ws : List Word) (at : ℕ) (w : Word) → Fits l ws → FitsAt l at w → at < length ws
fits_within l ws at w fits h = go (class_at l at) refl h
  where
    go : (o : Option Class) → class_at l at ≡ o → MatchOption o ⊥ (λ c. Suits c w) → at < length ws
    go None e h = absurd h
    go (Some k) e h = place_within l ws at k fits e

pub stood_there : (l : Layout) (ws : List Word) (at : ℕ) (now was : Word) → Fits l ws → FitsAt l at now → was ≡ get_or ws at was → slice_get ws at ≡ Some was
stood_there l ws at now was fits h e = slice_get-get_or ws at was (fits_within l ws at now fits h) ∙ ap Some (sym e)
