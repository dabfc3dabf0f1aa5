-- The table of the escaped blocks
use Rattle.std.specs.Prelude.{◌≡◌, ◌↔◌, ◌<◌, ◌≤◌, ◌^◌, ℕ, ◌+◌, ◌*◌, nat_lt, Bool, false, not, List, [], ◌∷◌, ◌++◌, map, length, drop, unwrap_or, is_some, IsSome, IsTrue, IsFalse}
use Rattle.std.specs.Option.{option_map_or}
use Rattle.std.specs.FinMap.{FinMap, from_entries, get, insert, remove, retain_keys, empty}
use Rattle.std.specs.Map.{keys_of}
use Rattle.az_base.specs.declared.block_id.BlockId.{BlockId}
use Rattle.az_base.specs.declared.word.Word.{Word}
use Rattle.az_base.specs.Ids.{id_cmp, among}
use Rattle.block_layouts.specs.Layouts.{len_of, quanta}
use Rattle.quantum_space.specs.declared.shade.Shade.{Shade}
use Rattle.quantum_space.specs.declared.shade.Shade.TheVariants as shade
use Rattle.quantum_space.specs.Shapes.{Has, Once, Shades}
use Rattle.zone_model.specs.Maps.{total}
use Rattle.block_table.specs.Holds.{Holds, is_held_by}
use Rattle.block_table.specs.Places.{somes, in_word}
use Rattle.block_table.specs.Stored.{HeapBlock, Row, older_row}

pub record Table : Type 0 where
  pub blocks : FinMap id_cmp HeapBlock
  -- of each block, which threads hold it and how often
  pub holds : FinMap id_cmp Holds
  -- of each block, the shade that a collection gave it
  pub shades : FinMap id_cmp Shade
  -- the blocks by position, and how many of them were there as the last cycle began
  pub order : List BlockId
  pub began : ℕ
  -- the lengths of the blocks for which there is room, next first
  pub room : List ℕ

-- what f gives of each entry
abbrev pub each_of : {X : Type 0} → (Row → X) → List (BlockId × Row) → FinMap id_cmp X
each_of {X} f es = from_entries (map (λ (e : BlockId × Row). let r : BlockId × X = (e.0, f e.1) in r) es)

-- the table that the entries make, in their order
abbrev pub table_of : List (BlockId × Row) → ℕ → List ℕ → Table
table_of es began room = record {
  blocks = each_of (λ r. r.kept) es;
  holds = each_of (λ r. r.holds) es;
  shades = each_of (λ r. r.shade) es;
  order = keys_of es;
  began = began;
  room = room;
}

-- no block, and room for none
abbrev pub no_blocks : Table
no_blocks = record { blocks = empty; holds = empty; shades = empty; order = []; began = 0; room = [] }

-- what holds of every table: each block has one position, and whatever is kept beside the blocks is kept of each of them
pub record IsTable (t : Table) : Type 0 where
  pub once : Once t.order
  pub order : (b : BlockId) → Has t.order b ↔ IsSome (get t.blocks b)
  pub holds : (b : BlockId) → is_some (get t.holds b) ≡ is_some (get t.blocks b)
  pub shades : (b : BlockId) → is_some (get t.shades b) ≡ is_some (get t.blocks b)
  pub began : t.began ≤ length t.order
  pub few : length t.order + length t.room < 2 ^ 32

-- the quanta of the blocks
abbrev pub used_by : FinMap id_cmp HeapBlock → ℕ
used_by blocks = total (λ id k. quanta (len_of k.layout)) blocks

-- the words of a block, and none where it isn't there
abbrev pub words_in : FinMap id_cmp HeapBlock → BlockId → List Word
words_in blocks id = option_map_or (λ (k : HeapBlock). k.words) (get blocks id) []

-- what the words of a block refer to
abbrev pub refs_in : FinMap id_cmp HeapBlock → BlockId → List BlockId
refs_in blocks id = somes (map in_word (words_in blocks id))

-- the block is there, and younger than 3
abbrev pub is_young_at : FinMap id_cmp HeapBlock → BlockId → Bool
is_young_at blocks id = option_map_or (λ (k : HeapBlock). nat_lt k.age 3) (get blocks id) false

-- a thread holds the block
abbrev pub is_held_in : FinMap id_cmp Holds → BlockId → Bool
is_held_in holds id = option_map_or is_held_by (get holds id) false

-- the shade of a block, and white where it isn't there
abbrev pub shades_in : FinMap id_cmp Shade → Shades
shades_in shades id = unwrap_or (get shades id) shade.White

-- a block more, which comes last, is black, and takes the next room
abbrev pub with_block : Table → BlockId → HeapBlock → Holds → Table
with_block t id k m = record {
  blocks = insert t.blocks id k;
  holds = insert t.holds id m;
  shades = insert t.shades id shade.Black;
  order = t.order ++ id ∷ [];
  began = t.began;
  room = drop 1 t.room;
}

-- the map without these blocks
abbrev pub without : {X : Type 0} → FinMap id_cmp X → List BlockId → FinMap id_cmp X
without m ids = retain_keys m (λ id. not (among ids id))

-- these blocks are gone; the others may have other positions, the next cycle hasn't begun, and there is room for none
pub record AreRemoved (old : Table) (ids : List BlockId) (new : Table) : Type 0 where
  pub blocks : new.blocks ≡ without old.blocks ids
  pub holds : new.holds ≡ without old.holds ids
  pub shades : new.shades ≡ without old.shades ids
  pub began : new.began ≡ length new.order
  pub room : new.room ≡ []

-- the block is gone, if it was there; the others may have other positions
pub record IsRemoved (old : Table) (id : BlockId) (new : Table) : Type 0 where
  pub blocks : new.blocks ≡ remove old.blocks id
  pub holds : new.holds ≡ remove old.holds id
  pub shades : new.shades ≡ remove old.shades id
  pub began : new.began ≡ old.began
  pub room : new.room ≡ old.room

-- each entry is older by one Reclaim
abbrev pub aged : List (BlockId × Row) → List (BlockId × Row)
aged es = map (λ (e : BlockId × Row). let r : BlockId × Row = (e.0, older_row e.1) in r) es

-- no word of a block that isn't one of these refers to one of them
abbrev pub AreApart : FinMap id_cmp HeapBlock → List BlockId → Type 0
AreApart blocks ids = (a b : BlockId) → IsFalse (among ids a) → IsTrue (among ids b) → ¬ Has (refs_in blocks a) b

-- what the fields of a table keep: the sum of quanta; how many blocks had begun; and room for what is to come, in the map, in the positions and in the sum
pub record IsKept (es : List (BlockId × Row)) (b u : ℕ) (lengths : List ℕ) (n : ℕ) : Type 0 where
  pub used : used_by (each_of (λ r. r.kept) es) ≡ u
  pub began : b ≤ length es
  pub room : length lengths ≤ n
  pub few : length es + length lengths < 2 ^ 32
  pub sum : u + 2048 * length lengths < 2 ^ 64
