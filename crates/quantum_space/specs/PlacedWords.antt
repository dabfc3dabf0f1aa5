-- Words that know where their blocks lie
use Rattle.std.specs.Prelude.{ℕ, ◌^◌, nat_lt, if◌then◌else◌, Option, Some, None}
use Rattle.az_base.specs.declared.block_id.BlockId.{BlockId}
use Rattle.az_base.specs.declared.word.Word.{Word}
use Rattle.az_base.specs.declared.word.Word.TheVariants as word
use Rattle.quantum_space.specs.declared.placed.PlacedWord.{PlacedWord}
use Rattle.quantum_space.specs.declared.placed.PlacedWord.TheVariants as placed
use Rattle.quantum_space.specs.declared.spot.Kind.{Kind}
use Rattle.quantum_space.specs.declared.spot.Kind.TheVariants as kind
use Rattle.quantum_space.specs.declared.spot.Spot.{Spot}

-- a quantum of a kind
abbrev pub spot_at : Kind → ℕ → Spot
spot_at k at = record { kind = k; at = at }

-- where the block begins to which a word refers, where it refers to one and knows
abbrev pub known : PlacedWord → Option Spot
known placed.Null = None
known (placed.Block id) = None
known (placed.InSmall id at) = Some (spot_at kind.Small at)
known (placed.InMedium id at) = Some (spot_at kind.Medium at)
known (placed.Number n) = None

-- the word alone
abbrev pub word_of : PlacedWord → Word
word_of placed.Null = word.Null
word_of (placed.Block id) = word.Block id
word_of (placed.InSmall id at) = word.Block id
word_of (placed.InMedium id at) = word.Block id
word_of (placed.Number n) = word.Number n

-- the word, whose block lies nobody knows where
abbrev pub unplaced : Word → PlacedWord
unplaced word.Null = placed.Null
unplaced (word.Block id) = placed.Block id
unplaced (word.Number n) = placed.Number n

-- a reference to the block at a quantum of a kind
abbrev pub in_kind : Kind → BlockId → ℕ → PlacedWord
in_kind kind.Small id at = placed.InSmall id at
in_kind kind.Medium id at = placed.InMedium id at

-- a reference to the block at a quantum, which it knows where that has a number below 2^32
abbrev pub knowing : BlockId → Spot → PlacedWord
knowing id x = if nat_lt x.at (2 ^ 32) then in_kind x.kind id x.at else placed.Block id
