-- The blocks of one kind, by quantum
use Rattle.std.specs.Prelude.{◌≡◌, ◌≢◌, ℕ, ◌+◌, ◌-◌, ◌*◌, ◌/◌, ◌%◌, ◌==◌, ◌<◌, ◌≤◌, ◌⊎◌, List, Option, Some, None, get_or, set, length, if◌then◌else◌, MatchOption, ⊤}
use Rattle.az_base.specs.declared.block_id.BlockId.{BlockId}
use Rattle.az_base.specs.Ids.{id_of}
use Rattle.az_base.specs.declared.word.Class.{Class}
use Rattle.az_base.specs.declared.word.Class.TheVariants as class
use Rattle.quantum_space.specs.declared.placed.PlacedWord.{PlacedWord}
use Rattle.quantum_space.specs.declared.placed.PlacedWord.TheVariants as word
use Rattle.block_layouts.specs.declared.layout.Layout.{Layout}
use Rattle.block_layouts.specs.Layouts.{len_of, class_at}
use Rattle.quantum_space.specs.AdminMaps.{AdminMap', AllAre, IsFirstOf, IsRenoted, SameOutside, with_bytes}

-- the admin bytes; the id and the layout at the first quantum of each block; the words, so many a quantum; how many subzones were opened; and a quantum from which on none is in use
pub record Region' : Type 0 where
  pub map : AdminMap'
  pub ids : List BlockId
  pub layouts : List (Option Layout)
  pub words : List PlacedWord
  pub width : ℕ
  pub opened : ℕ
  pub top : ℕ

-- the quanta of a block of so many words, where a quantum has so many
abbrev pub quanta_in : ℕ → ℕ → ℕ
quanta_in width len = if len == 0 then 1 else (len - 1) / width + 1

-- the byte of a new block's first quantum: white, in use
abbrev pub new_byte : ℕ
new_byte = 128

-- the byte of each further quantum of a block
abbrev pub further_byte : ℕ
further_byte = 131

-- what stands among the ids where no block begins
abbrev pub no_id : BlockId
no_id = id_of 1 0

-- a byte with which a block may begin: of a quantum in use, no further one, with an age of at most 3
abbrev pub IsFirstByte : ℕ → Type 0
IsFirstByte b = (128 ≤ b) × (b ≢ further_byte) × ((b / 4) % 8 ≤ 3)

-- a block with this layout lies at this quantum
pub record Lies (r : Region') (at : ℕ) (l : Layout) : Type 0 where
  pub subzone : ℕ
  pub quantum : ℕ
  pub place : at ≡ subzone * r.map.size + quantum
  pub there : subzone < r.map.subzones
  pub within : quantum + quanta_in r.width (len_of l) ≤ r.map.size
  pub begins : IsFirstByte (get_or r.map.bytes at 0)
  pub goes_on : AllAre r.map.bytes (at + 1) (at + quanta_in r.width (len_of l)) further_byte

-- what holds of each region
pub record IsRegion (r : Region') : Type 0 where
  pub wide : 0 < r.width
  pub large : 64 ≤ r.map.size
  pub sized : length r.map.bytes ≡ r.map.subzones * r.map.size
  pub ids : length r.ids ≡ length r.map.bytes
  pub layouts : length r.layouts ≡ length r.map.bytes
  pub words : length r.words ≡ length r.map.bytes * r.width
  pub enough : r.opened ≤ r.map.subzones
  pub top_opened : r.top ≤ r.opened * r.map.size
  pub last : r.opened * r.map.size ≤ r.top + r.map.size
  pub above : (k : ℕ) → r.top ≤ k → get_or r.map.bytes k 0 ≡ 0
  pub blocks : (at : ℕ) (l : Layout) → get_or r.layouts at None ≡ Some l → Lies r at l

-- the quanta for which there is room, however blocks of up to 32 quanta come, and 31 more
abbrev pub room_of : Region' → ℕ
room_of r = (r.opened * r.map.size - r.top) + (r.map.subzones - r.opened) * (r.map.size - 31)

-- what a new word of this class holds: null, and 0 in a Plain one
abbrev pub new_word : Option Class → PlacedWord
new_word (Some class.Plain) = word.Number 0
new_word (Some class.Strong) = word.Null
new_word (Some class.Weak) = word.Null
new_word None = word.Null

-- the words outside a range are the same
abbrev pub SameWords : List PlacedWord → List PlacedWord → ℕ → ℕ → Type 0
SameWords old new from end = (k : ℕ) → (k < from) ⊎ (end ≤ k) → get_or new k word.Null ≡ get_or old k word.Null

-- so many words from a place on are those of a new block
abbrev pub AreNew : List PlacedWord → ℕ → ℕ → Layout → Type 0
AreNew words from len l = (i : ℕ) → i < len → get_or words (from + i) word.Null ≡ new_word (class_at l i)

-- a block was placed in the first hole, in a subzone that was opened or in the next
pub record IsPlaced (old new : Region') (id : BlockId) (l : Layout) (found : ℕ × ℕ) (at : ℕ) : Type 0 where
  pub hole : IsFirstOf old.map (quanta_in old.width (len_of l)) found
  pub place : at ≡ found.0 * old.map.size + found.1
  pub inside : at < length old.layouts
  pub fresh : get_or old.layouts at None ≡ None
  pub opens : ((found.0 < old.opened) × (new.opened ≡ old.opened)) ⊎ ((found.0 ≡ old.opened) × (found.1 ≡ 0) × (new.opened ≡ old.opened + 1))
  pub map : new.map ≡ with_bytes old.map new.map.bytes
  pub width : new.width ≡ old.width
  pub ids : new.ids ≡ set old.ids at id
  pub layouts : new.layouts ≡ set old.layouts at (Some l)
  pub first : get_or new.map.bytes at 0 ≡ new_byte
  pub further : AllAre new.map.bytes (at + 1) (at + quanta_in old.width (len_of l)) further_byte
  pub bytes : SameOutside old.map.bytes new.map.bytes at (at + quanta_in old.width (len_of l))
  pub words : AreNew new.words (at * old.width) (len_of l) l
  pub others : SameWords old.words new.words (at * old.width) (at * old.width + len_of l)

-- a block was freed
pub record IsFreed (old new : Region') (l : Layout) (at : ℕ) : Type 0 where
  pub map : new.map ≡ with_bytes old.map new.map.bytes
  pub rest : new ≡ record { map = new.map; ids = old.ids; layouts = set old.layouts at None; words = old.words; width = old.width; opened = old.opened; top = old.top }
  pub free : AllAre new.map.bytes at (at + quanta_in old.width (len_of l)) 0
  pub bytes : SameOutside old.map.bytes new.map.bytes at (at + quanta_in old.width (len_of l))

-- a region with as many subzones or more, and else the same
pub record IsRoomier (old new : Region') : Type 0 where
  pub size : new.map.size ≡ old.map.size
  pub subzones : old.map.subzones ≤ new.map.subzones
  pub width : new.width ≡ old.width
  pub opened : new.opened ≡ old.opened
  pub top : new.top ≡ old.top
  pub bytes : (k : ℕ) → get_or new.map.bytes k 0 ≡ get_or old.map.bytes k 0
  pub ids : (k : ℕ) → get_or new.ids k no_id ≡ get_or old.ids k no_id
  pub layouts : (k : ℕ) → get_or new.layouts k None ≡ get_or old.layouts k None
  pub words : (k : ℕ) → get_or new.words k word.Null ≡ get_or old.words k word.Null

-- with this byte at a quantum
abbrev pub with_byte : Region' → ℕ → ℕ → Region'
with_byte r at byte = record { map = with_bytes r.map (set r.map.bytes at byte); ids = r.ids; layouts = r.layouts; words = r.words; width = r.width; opened = r.opened; top = r.top }

-- with this word, counted from the first quantum's first
abbrev pub with_word : Region' → ℕ → ℕ → PlacedWord → Region'
with_word r at i w = record { map = r.map; ids = r.ids; layouts = r.layouts; words = set r.words (at * r.width + i) w; width = r.width; opened = r.opened; top = r.top }

-- a block of at least so many words begins at this quantum
abbrev pub HasWord : Region' → ℕ → ℕ → Type 0
HasWord r at i = MatchOption (get_or r.layouts at None) ⊥ (λ l. i < len_of l)

-- a block begins at this quantum
abbrev pub HasBlock : Region' → ℕ → Type 0
HasBlock r at = MatchOption (get_or r.layouts at None) ⊥ (λ l. ⊤)

-- all bytes were changed by a rule, and nothing else
pub record IsRenotedRegion (f : ℕ → ℕ) (old new : Region') : Type 0 where
  pub map : IsRenoted f old.map new.map
  pub rest : new ≡ record { map = new.map; ids = old.ids; layouts = old.layouts; words = old.words; width = old.width; opened = old.opened; top = old.top }
