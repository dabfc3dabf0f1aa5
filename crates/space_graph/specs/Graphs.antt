-- Graphs whose blocks lie in a space
use Rattle.std.specs.Prelude.{◌≢◌, if◌then◌else◌, ◌⊎◌, ◌++◌, ◌∷◌, ◌≡◌, ◌<◌, ◌≤◌, ◌+◌, ◌-◌, ◌^◌, ℕ, Bool, true, false, List, [], Option, Some, None, length, take, drop}
use Rattle.std.specs.Option.{option_map_or}
use Rattle.std.specs.Map.{keys_of, lookup}
use Rattle.az_base.specs.declared.action.Mode.{Mode}
use Rattle.az_base.specs.declared.action.Mode.TheVariants as mode
use Rattle.az_base.specs.declared.block_id.BlockId.{BlockId}
use Rattle.az_base.specs.Ids.{id_eq}
use Rattle.block_layouts.specs.declared.layout.Layout.{Layout}
use Rattle.block_layouts.specs.Layouts.{len_of}
use Rattle.quantum_space.specs.declared.placed.PlacedWord.{PlacedWord}
use Rattle.quantum_space.specs.declared.placed.PlacedWord.TheVariants as word
use Rattle.quantum_space.specs.declared.shade.Shade.TheVariants as shade
use Rattle.quantum_space.specs.declared.spot.Spot.{Spot}
use Rattle.quantum_space.specs.PlacedWords.{knowing}
use Rattle.quantum_space.specs.Shapes.{Has, Once, Shades, Shape, Stack, VisitsAll, is_unmarked}
use Rattle.block_space.specs.Spaces.{Space'}
use Rattle.block_space.specs.Marking.{HasBlockIn, IsLost, IsSameIn, byte_in, ends_from, id_in, layout_in, len_in, shade_told, takes_byte, unmarked, with_word_in, word_in}

-- the blocks, each with the quantum at which it begins; the space in which they lie; how many there were as the cycle began; the anchors; and the remembered blocks
pub record Graph' : Type 0 where
  pub rows : List (BlockId × Spot)
  pub space : Space'
  pub began : ℕ
  pub anchors : List BlockId
  pub remembered : List BlockId

-- blocks, each with the quantum at which it begins, and for how many more there is room
pub record Rows' : Type 0 where
  pub list : List (BlockId × Spot)
  pub room : ℕ

-- where a block begins
abbrev pub spot_for : List (BlockId × Spot) → BlockId → Option Spot
spot_for rows id = lookup (id_eq id) rows

-- with another space
abbrev pub with_space : Graph' → Space' → Graph'
with_space g s = record { rows = g.rows; space = s; began = g.began; anchors = g.anchors; remembered = g.remembered }

-- what marking leaves as it is: all but shades, and what words know of where blocks lie
abbrev pub rest_of : Graph' → Graph'
rest_of g = with_space g (unmarked g.space)

-- the shade of each block, and white for what is none
abbrev pub shades_of : Graph' → Shades
shades_of g id = option_map_or (λ x. shade_told (byte_in g.space x)) (spot_for g.rows id) shade.White

-- the blocks as the cycle began
abbrev pub begun : Graph' → List BlockId
begun g = take g.began (keys_of g.rows)

-- the blocks to which a block's words refer, from one word on
abbrev pub edges_of : Graph' → BlockId → ℕ → List BlockId
edges_of g id place = option_map_or (λ x. ends_from g.space x place (len_in g.space x - place)) (spot_for g.rows id) []

-- the block is there, and younger than 3
abbrev pub is_young_of : Graph' → BlockId → Bool
is_young_of g id = option_map_or (λ x. takes_byte mode.Young (byte_in g.space x)) (spot_for g.rows id) false

-- the graph as a collection sees it
abbrev pub plain_shape : Graph' → Shape
plain_shape g = record {
  blocks = begun g;
  anchors_from = λ place. drop place g.anchors;
  remembered = g.remembered;
  edges_from = edges_of g;
  young = is_young_of g;
}

-- the same, which reads nothing that marking changes
abbrev pub shape_of : Graph' → Shape
shape_of g = plain_shape (rest_of g)

-- the rows tell exactly the blocks of the space, and a white one was there as the cycle began
pub record IsGraph (g : Graph') : Type 0 where
  pub once : Once (keys_of g.rows)
  pub few : length g.rows < 2 ^ 32
  pub began : g.began ≤ length g.rows
  pub there : (id : BlockId) (x : Spot) → spot_for g.rows id ≡ Some x → HasBlockIn g.space x × (id_in g.space x ≡ id)
  pub back : (x : Spot) (l : Layout) → layout_in g.space x ≡ Some l → spot_for g.rows (id_in g.space x) ≡ Some x
  pub used : (x : Spot) (l : Layout) → layout_in g.space x ≡ Some l → 128 ≤ byte_in g.space x
  pub white : (x : Spot) (l : Layout) → layout_in g.space x ≡ Some l → is_unmarked (shade_told (byte_in g.space x)) ≡ true → Has (begun g) (id_in g.space x)

-- so many words of the block that begins at a quantum were followed from one on, one after another
abbrev pub Follows : Mode → Spot → ℕ → ℕ → Graph' → Stack → Graph' → Stack → Type 0
Follows m x from n g stack new onto = VisitsAll m (shape_of g) (ends_from (unmarked g.space) x from n) (shades_of g) stack (shades_of new) onto

-- the words of a block were followed from one on, up to the first that refers to a block and doesn't know where it lies, or to the last
abbrev pub FollowsFrom : Mode → Spot → ℕ → Graph' → Stack → Graph' → Stack → Option ℕ → Type 0
FollowsFrom m x from g stack new onto None = Follows m x from (len_in g.space x - from) g stack new onto
FollowsFrom m x from g stack new onto (Some j) = (from ≤ j) × (j < len_in g.space x) × IsLost (word_in new.space x j) × Follows m x from (j - from) g stack new onto

-- the same blocks with the same words, whatever else has changed
pub record IsAlike (s new : Space') : Type 0 where
  pub layouts : (x : Spot) → layout_in new x ≡ layout_in s x
  pub ids : (x : Spot) → id_in new x ≡ id_in s x
  pub bytes : (x : Spot) → byte_in new x ≡ byte_in s x
  pub words : (x : Spot) (i : ℕ) → word_in new x i ≡ word_in s x i

-- room for the rows of all blocks that are to come
pub record HasRoom (rows : List (BlockId × Spot)) (spare : List ℕ) (room : ℕ) : Type 0 where
  pub fits : length spare ≤ room
  pub few : length rows + length spare < 2 ^ 32

-- one block has come at a quantum, and is black; all others are as they were
pub record IsPut (s new : Space') (id : BlockId) (l : Layout) (x : Spot) : Type 0 where
  pub fresh : layout_in s x ≡ None
  pub layout : layout_in new x ≡ Some l
  pub its_id : id_in new x ≡ id
  pub used : 128 ≤ byte_in new x
  pub black : shade_told (byte_in new x) ≡ shade.Black
  pub byte : byte_in new x ≡ 130
  pub others : (y : Spot) (o : Layout) → layout_in s y ≡ Some o → IsSameIn s new y o
  pub only : (y : Spot) (o : Layout) → layout_in new y ≡ Some o → (y ≡ x) ⊎ (layout_in s y ≡ Some o)
  pub spare : new.spare ≡ drop 1 s.spare

-- a block has come at a quantum, last and black; anchors and remembered blocks are as they were
pub record IsAdded (old new : Graph') (id : BlockId) (l : Layout) (spot : Spot) : Type 0 where
  pub rows : new.rows ≡ old.rows ++ (id, spot) ∷ []
  pub put : IsPut old.space new.space id l spot
  pub rest : new ≡ record { rows = new.rows; space = new.space; began = old.began; anchors = old.anchors; remembered = old.remembered }

-- nothing but room has changed
pub record IsRoomy (old new : Graph') : Type 0 where
  pub space : IsAlike old.space new.space
  pub rest : new ≡ with_space old new.space

-- a word of a block refers to another block, and knows where it lies
pub record IsReferring (old new : Graph') (id : BlockId) (i : ℕ) (to : BlockId) : Type 0 where
  pub spot : Spot
  pub end : Spot
  pub there : spot_for old.rows id ≡ Some spot
  pub end_there : spot_for old.rows to ≡ Some end
  pub within : i < len_in old.space spot
  pub written : new ≡ with_space old (with_word_in old.space spot i (knowing to end))

-- the block that a word knows to lie somewhere
abbrev pub known_id : PlacedWord → Option BlockId
known_id word.Null = None
known_id (word.Block id) = None
known_id (word.InSmall id at) = Some id
known_id (word.InMedium id at) = Some id
known_id (word.Number n) = None

-- no word knows where this block lies
abbrev pub IsForgotten : Graph' → BlockId → Type 0
IsForgotten g b = (y : Spot) (o : Layout) (i : ℕ) → layout_in g.space y ≡ Some o → i < len_of o → known_id (word_in g.space y i) ≢ Some b

-- words know less than before, or as much, and nothing else has changed
pub record KnowsLess (old new : Graph') : Type 0 where
  pub rest : rest_of new ≡ rest_of old
  pub bytes : (x : Spot) → byte_in new.space x ≡ byte_in old.space x
  pub less : (y : Spot) (i : ℕ) (b : BlockId) → known_id (word_in new.space y i) ≡ Some b → known_id (word_in old.space y i) ≡ Some b

-- the first so many words of the block that begins at a quantum know nothing
abbrev pub KnowsNothing : Space' → Spot → ℕ → Type 0
KnowsNothing s x n = (i : ℕ) → i < n → known_id (word_in s x i) ≡ None

-- the block of a row has gone from a space, if there is one, and all others are as they were
pub record IsGoneFrom (rows : List (BlockId × Spot)) (s : Space') (id : BlockId) (new : Space') : Type 0 where
  pub others : (y : Spot) (o : Layout) → spot_for rows id ≢ Some y → layout_in s y ≡ Some o → IsSameIn s new y o
  pub only : (y : Spot) (o : Layout) → layout_in new y ≡ Some o → layout_in s y ≡ Some o
  pub gone : (y : Spot) → spot_for rows id ≡ Some y → layout_in new y ≡ None
  pub spare : new.spare ≡ s.spare

-- a block has gone, if it was there; all blocks are those of the next cycle, and may have other positions
pub record IsTakenOut (old : Graph') (id : BlockId) (new : Graph') : Type 0 where
  pub rows : (q : BlockId) → spot_for new.rows q ≡ (if id_eq id q then None else spot_for old.rows q)
  pub others : (y : Spot) (o : Layout) → spot_for old.rows id ≢ Some y → layout_in old.space y ≡ Some o → IsSameIn old.space new.space y o
  pub only : (y : Spot) (o : Layout) → layout_in new.space y ≡ Some o → layout_in old.space y ≡ Some o
  pub gone : (y : Spot) → spot_for old.rows id ≡ Some y → layout_in new.space y ≡ None
  pub began : new.began ≡ length new.rows
  pub spare : new.space.spare ≡ old.space.spare
  pub fewer : length new.rows ≤ length old.rows
