-- Lists of places, some of which hold a block
use Rattle.std.specs.Prelude.{◌≡◌, ◌≤◌, ℕ, List, [], ◌∷◌, Option, Some, None, MatchOption, slice_get, length, drop}
use Rattle.az_base.specs.declared.block_id.BlockId.{BlockId}
use Rattle.az_base.specs.declared.word.Word.{Word}
use Rattle.quantum_space.specs.Shapes.{Has}
use Rattle.zone_model.specs.State.{referent}

-- what the places hold
abbrev pub somes : List (Option BlockId) → List BlockId
somes [] = []
somes (None ∷ xs) = somes xs
somes (Some b ∷ xs) = b ∷ somes xs

-- what a word refers to
abbrev pub in_word : Word → Option BlockId
in_word w = referent (Some w)

-- the first block that stands in the list from a place on, and the place after it, which is within the list
abbrev pub NextOf : List (Option BlockId) → ℕ → Option (BlockId × ℕ) → Type 0
NextOf xs place result = MatchOption result (somes (drop place xs) ≡ []) (λ x. (somes (drop place xs) ≡ x.0 ∷ somes (drop x.1 xs)) × (x.1 ≤ length xs))

-- the only place at which the block stands in the list; None where it doesn't
abbrev pub PlaceOf : List BlockId → BlockId → Option ℕ → Type 0
PlaceOf xs id result = MatchOption result (¬ Has xs id) (λ n. (slice_get xs n ≡ Some id) × ((k : ℕ) → slice_get xs k ≡ Some id → k ≡ n))
