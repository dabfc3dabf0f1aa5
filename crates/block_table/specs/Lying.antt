-- Blocks of the table, where they lie in a space
use Rattle.std.specs.Prelude.{◌≡◌, ◌≢◌, ◌++◌, drop, slice_get, ℕ, zero, suc, ◌/◌, ◌%◌, ◌<◌, Bool, false, List, [], ◌∷◌, Some, unwrap_or, is_some}
use Rattle.std.specs.FinMap.{empty, remove}
use Rattle.std.specs.Map.{lookup}
use Rattle.az_base.specs.declared.action.Action.{Action}
use Rattle.az_base.specs.declared.block_id.BlockId.{BlockId}
use Rattle.az_base.specs.declared.word.Word.{Word}
use Rattle.az_base.specs.Ids.{id_eq}
use Rattle.block_layouts.specs.declared.layout.Layout.{Layout}
use Rattle.block_layouts.specs.Layouts.{len_of}
use Rattle.block_layouts.specs.declared.layout.Shape.TheVariants as layout
use Rattle.quantum_space.specs.declared.spot.Spot.{Spot}
use Rattle.quantum_space.specs.PlacedWords.{word_of}
use Rattle.block_space.specs.Spaces.{Space'}
use Rattle.block_space.specs.Marking.{byte_in, layout_in, len_in, shade_told, unmarked, word_in}
use Rattle.space_graph.specs.Graphs.{Graph', spot_for}
use Rattle.block_table.specs.Holds.{Holds}
use Rattle.block_table.specs.Stored.{HeapBlock, IsWhole, Row}
use Rattle.block_table.specs.Table.{IsKept, Table, table_of, without}

-- what is kept of a block beside what lies in the space
pub record Kept' : Type 0 where
  pub actions : List Action
  pub holds : Holds
  pub finalised : Bool

-- no actions, held by nobody, and not finalised
abbrev pub nothing_kept : Kept'
nothing_kept = record { actions = []; holds = empty; finalised = false }

-- what is kept of a block
abbrev pub kept_for : List (BlockId × Kept') → BlockId → Kept'
kept_for ks id = unwrap_or (lookup (id_eq id) ks) nothing_kept

-- so many words of the block that begins at a quantum, from one on
abbrev pub words_from : Space' → Spot → ℕ → ℕ → List Word
words_from s x i zero = []
words_from s x i (suc n) = word_of (word_in s x i) ∷ words_from s x (suc i) n

-- its words
abbrev pub words_at : Space' → Spot → List Word
words_at s x = words_from s x 0 (len_in s x)

-- its layout
abbrev pub layout_at : Space' → Spot → Layout
layout_at s x = unwrap_or (layout_in s x) (layout.Scanned 0)

-- the block that begins at a quantum, with what is kept of it
abbrev pub block_in : Space' → Spot → Kept' → HeapBlock
block_in s x k = record { layout = layout_at s x; words = words_at s x; actions = k.actions; finalised = k.finalised; age = (byte_in s x / 4) % 8 }

-- all that the table has of it: its shade is told by one space, and all else by another, which has no shades
abbrev pub row_in : Space' → Space' → Spot → Kept' → Row
row_in u s x k = record { kept = block_in u x k; holds = k.holds; shade = shade_told (byte_in s x) }

-- the same of each row
abbrev pub rows_in : Space' → Space' → List (BlockId × Kept') → List (BlockId × Spot) → List (BlockId × Row)
rows_in u s ks [] = []
rows_in u s ks (e ∷ rs) = (e.0, row_in u s e.1 (kept_for ks e.0)) ∷ rows_in u s ks rs

-- the entries of the table
abbrev pub entries_of : Graph' → List (BlockId × Kept') → List (BlockId × Row)
entries_of g ks = rows_in (unmarked g.space) g.space ks g.rows

-- the table that blocks in a space make, with what is kept of each
abbrev pub lying_table : Graph' → List (BlockId × Kept') → Table
lying_table g ks = table_of (entries_of g ks) g.began g.space.spare

-- a block is the same in two spaces
pub record IsSameSpot (s z : Space') (x : Spot) : Type 0 where
  pub layout : layout_in z x ≡ layout_in s x
  pub byte : byte_in z x ≡ byte_in s x
  pub words : words_at z x ≡ words_at s x

-- something is kept of each block, and each is whole; the quanta are summed up, and there is room for what is to come
pub record AreLying (g : Graph') (ks : List (BlockId × Kept')) (used room : ℕ) : Type 0 where
  pub same : (q : BlockId) → is_some (lookup (id_eq q) ks) ≡ is_some (spot_for g.rows q)
  pub whole : (q : BlockId) (x : Spot) → spot_for g.rows q ≡ Some x → IsWhole (block_in (unmarked g.space) x (kept_for ks q))
  pub kept : IsKept (entries_of g ks) g.began used g.space.spare room

-- the first so many words of a block were written, and nothing else
pub record IsWrittenTo (g : Graph') (x : Spot) (ws : List Word) (n : ℕ) (new : Graph') : Type 0 where
  pub rows : new.rows ≡ g.rows
  pub began : new.began ≡ g.began
  pub spare : new.space.spare ≡ g.space.spare
  pub layouts : (y : Spot) → layout_in new.space y ≡ layout_in g.space y
  pub bytes : (y : Spot) → byte_in new.space y ≡ byte_in g.space y
  pub others : (y : Spot) (o : Layout) (j : ℕ) → y ≢ x → layout_in g.space y ≡ Some o → j < len_of o → word_in new.space y j ≡ word_in g.space y j
  pub words : (j : ℕ) → j < n → Some (word_of (word_in new.space x j)) ≡ slice_get ws j

-- a block has come with these words, last and black, of age 0
pub record IsPutWith (g : Graph') (id : BlockId) (l : Layout) (ws : List Word) (new : Graph') : Type 0 where
  pub spot : Spot
  pub rows : new.rows ≡ g.rows ++ (id, spot) ∷ []
  pub began : new.began ≡ g.began
  pub spare : new.space.spare ≡ drop 1 g.space.spare
  pub layout : layout_in new.space spot ≡ Some l
  pub byte : byte_in new.space spot ≡ 130
  pub words : words_at new.space spot ≡ ws
  pub others : (y : Spot) (o : Layout) → layout_in g.space y ≡ Some o → IsSameSpot g.space new.space y

-- one block has gone from the table
pub record HasOneLess (t : Table) (id : BlockId) (new : Table) : Type 0 where
  pub blocks : new.blocks ≡ remove t.blocks id
  pub holds : new.holds ≡ remove t.holds id
  pub shades : new.shades ≡ remove t.shades id
  pub room : new.room ≡ t.room

-- these blocks have gone
pub record HasLess (t : Table) (ids : List BlockId) (new : Table) : Type 0 where
  pub blocks : new.blocks ≡ without t.blocks ids
  pub holds : new.holds ≡ without t.holds ids
  pub shades : new.shades ≡ without t.shades ids
  pub room : new.room ≡ t.room
