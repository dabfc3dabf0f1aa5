-- A search along references, which stops where too much was found
use Rattle.std.specs.Prelude.{◌≡◌, ◌<◌, ◌≤◌, ◌⊎◌, ℕ, true, List, Option, Some, None, All, map, length, take, slice_get}
use Rattle.std.specs.Map.{keys_of}
use Rattle.std.specs.FinMap.{FinMap}
use Rattle.az_base.specs.declared.block_id.BlockId.{BlockId}
use Rattle.az_base.specs.Ids.{id_cmp, among}
use Rattle.zone_model.specs.State.{Block}
use Rattle.zone_model.specs.Part.{Part}
use Rattle.local_set.specs.Tables.{Distinct}
use Rattle.local_set.specs.Walks.{VisitsAll, words_at, referents_of}
use Rattle.escape_plan.specs.declared.search.Search.{Search}
use Rattle.escape_plan.specs.Planning.{length_at, sum_of, LedFrom}

-- each of these blocks
abbrev pub each_of : List BlockId → List (Option BlockId)
each_of ids = map (λ b. Some b) ids

-- a block with its length in words
abbrev pub with_length : FinMap id_cmp Block → BlockId → BlockId × ℕ
with_length m id = (id, length_at m id)

-- the blocks that were followed are the first of those that were found, with their lengths, and their quanta are counted
pub record Counts (m : FinMap id_cmp Block) (s : Search) : Type 0 where
  pub within : length s.followed.items ≤ length s.found.keys
  pub followed : s.followed.items ≡ map (with_length m) (take (length s.followed.items) s.found.keys)
  pub quanta : s.quanta ≡ sum_of m (take (length s.followed.items) s.found.keys)

-- the block is the next to be followed, and so far all fits; or else all were followed, or what was followed doesn't fit
abbrev pub IsNext : Search → Option BlockId → Type 0
IsNext s (Some id) = (s.quanta ≤ s.room) × (slice_get s.found.keys (length s.followed.items) ≡ Some id)
IsNext s None = (s.room < s.quanta) ⊎ (length s.found.keys ≤ length s.followed.items)

-- the blocks to which the words of the block refer were found
abbrev pub Follows : FinMap id_cmp Block → List BlockId → List BlockId → BlockId → Type 0
Follows m old new id = VisitsAll m old new (referents_of (words_at m id))

-- what was followed, with lengths and quanta: it is led to from the first blocks, and all of that where it fits into the room
pub record Found (p : Part) (first : List BlockId) (room : ℕ) (followed : List (BlockId × ℕ)) (n : ℕ) : Type 0 where
  pub distinct : Distinct (keys_of followed)
  pub lengths : All (λ (e : BlockId × ℕ). e.1 ≡ length_at p.blocks e.0) followed
  pub quanta : n ≡ sum_of p.blocks (keys_of followed)
  pub led : (c : BlockId) → among (keys_of followed) c ≡ true → LedFrom p first c
  pub whole : n ≤ room → (c : BlockId) → LedFrom p first c → among (keys_of followed) c ≡ true
