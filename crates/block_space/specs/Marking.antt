-- Marking over a space: shades by quantum, and visits along the words of a block
use Rattle.std.specs.Prelude.{◌⊎◌, map, ◌≡◌, ◌≢◌, ℕ, zero, suc, ◌+◌, ◌-◌, ◌*◌, ◌/◌, ◌%◌, ◌<◌, ◌≤◌, ◌&&◌, nat_lt, Bool, true, false, List, [], ◌∷◌, ◌++◌, Option, Some, None, ⊤, get_or, if◌then◌else◌}
use Rattle.std.specs.Option.{option_map_or}
use Rattle.az_base.specs.declared.action.Mode.{Mode}
use Rattle.az_base.specs.declared.action.Mode.TheVariants as mode
use Rattle.az_base.specs.declared.block_id.BlockId.{BlockId}
use Rattle.block_layouts.specs.declared.layout.Layout.{Layout}
use Rattle.block_layouts.specs.Layouts.{len_of}
use Rattle.quantum_space.specs.declared.shade.Shade.{Shade}
use Rattle.quantum_space.specs.declared.shade.Shade.TheVariants as shade
use Rattle.quantum_space.specs.AdminBytes.{shade_bits, shade_of}
use Rattle.quantum_space.specs.declared.placed.PlacedWord.{PlacedWord}
use Rattle.quantum_space.specs.declared.placed.PlacedWord.TheVariants as word
use Rattle.quantum_space.specs.declared.spot.Spot.{Spot}
use Rattle.quantum_space.specs.declared.spot.Kind.{Kind}
use Rattle.quantum_space.specs.declared.spot.Kind.TheVariants as kind
use Rattle.az_base.specs.declared.word.Word.{Word}
use Rattle.az_base.specs.declared.word.Word.TheVariants as plain
use Rattle.quantum_space.specs.AdminMaps.{with_bytes}
use Rattle.quantum_space.specs.PlacedWords.{known, spot_at, unplaced, word_of}
use Rattle.quantum_space.specs.Regions.{Region', HasBlock, new_byte, no_id, with_byte, with_word}
use Rattle.quantum_space.specs.Shapes.{Puts, Stack, is_unmarked}
use Rattle.block_space.specs.Spaces.{Space', region, with_region}

-- the admin byte of a quantum
abbrev pub byte_in : Space' → Spot → ℕ
byte_in s x = get_or (region s x.kind).map.bytes x.at 0

-- with another admin byte of a quantum
abbrev pub with_byte_in : Space' → Spot → ℕ → Space'
with_byte_in s x byte = with_region s x.kind (with_byte (region s x.kind) x.at byte)

-- a word of the block that begins at a quantum, as it is kept
abbrev pub word_in : Space' → Spot → ℕ → PlacedWord
word_in s x i = get_or (region s x.kind).words (x.at * (region s x.kind).width + i) word.Null

-- with another word of the block that begins at a quantum
abbrev pub with_word_in : Space' → Spot → ℕ → PlacedWord → Space'
with_word_in s x i w = with_region s x.kind (with_word (region s x.kind) x.at i w)

-- the id of the block that begins at a quantum
abbrev pub id_in : Space' → Spot → BlockId
id_in s x = get_or (region s x.kind).ids x.at no_id

-- the layout of the block that begins at a quantum, if there is one
abbrev pub layout_in : Space' → Spot → Option Layout
layout_in s x = get_or (region s x.kind).layouts x.at None

-- a block begins at the quantum
abbrev pub HasBlockIn : Space' → Spot → Type 0
HasBlockIn s x = HasBlock (region s x.kind) x.at

-- how many words the block has that begins at a quantum
abbrev pub len_in : Space' → Spot → ℕ
len_in s x = option_map_or len_of (layout_in s x) 0

-- the shade that a byte tells
abbrev pub shade_told : ℕ → Shade
shade_told b = shade_of (b % 4)

-- a collection of this mode takes a block with this byte: a full one any, a young one a block younger than 3
abbrev pub takes_byte : Mode → ℕ → Bool
takes_byte mode.Full b = true
takes_byte mode.Young b = nat_lt ((b / 4) % 8) 3

-- the byte is of a white block that the mode takes
abbrev pub is_white_byte : Mode → ℕ → Bool
is_white_byte m b = is_unmarked (shade_told b) && takes_byte m b

-- the byte with another shade
abbrev pub shaded : Shade → ℕ → ℕ
shaded x b = b - b % 4 + shade_bits x

-- the block that begins at a quantum is grey now where it was white and the mode takes it, as the answer tells, and nothing else has changed
pub record IsGreyed (m : Mode) (s : Space') (x : Spot) (is_new : Bool) (new : Space') : Type 0 where
  pub told : is_new ≡ is_white_byte m (byte_in s x)
  pub changed : new ≡ (if is_new then with_byte_in s x (shaded shade.Grey (byte_in s x)) else s)

-- the block that begins at a quantum was visited, and put onto the stack where it turned grey
pub record VisitsSpot (m : Mode) (s : Space') (x : Spot) (id : BlockId) (g : Stack) (new : Space') (onto : Stack) : Type 0 where
  pub is_new : Bool
  pub greyed : IsGreyed m s x is_new new
  pub puts : Puts id is_new g onto

-- so it is for a block of a region
pub record VisitsIn (m : Mode) (r : Region') (at : ℕ) (id : BlockId) (g : Stack) (new : Region') (onto : Stack) : Type 0 where
  pub is_new : Bool
  pub told : is_new ≡ is_white_byte m (get_or r.map.bytes at 0)
  pub changed : new ≡ (if is_new then with_byte r at (shaded shade.Grey (get_or r.map.bytes at 0)) else r)
  pub puts : Puts id is_new g onto

-- the block was visited to which a word refers; not so where the word refers to one and doesn't know where it lies
abbrev pub VisitsWord : Mode → PlacedWord → Space' → Stack → Space' → Stack → Type 0
VisitsWord m word.Null s g new onto = (new ≡ s) × (onto ≡ g)
VisitsWord m (word.Block id) s g new onto = ⊥
VisitsWord m (word.InSmall id at) s g new onto = VisitsSpot m s (spot_at kind.Small at) id g new onto
VisitsWord m (word.InMedium id at) s g new onto = VisitsSpot m s (spot_at kind.Medium at) id g new onto
VisitsWord m (word.Number n) s g new onto = (new ≡ s) × (onto ≡ g)

-- so many words of the block that begins at a quantum were visited from one on, one after another
abbrev pub VisitsWords : Mode → Spot → ℕ → ℕ → Space' → Stack → Space' → Stack → Type 0
VisitsWords m x from zero s g new onto = (new ≡ s) × (onto ≡ g)
VisitsWords m x from (suc n) s g new onto = (mid : Space') × (on : Stack) × VisitsWords m x from n s g mid on × VisitsWord m (word_in s x (from + n)) mid on new onto

-- the word knows the small quantum at which its block begins
abbrev pub is_in_small : PlacedWord → Bool
is_in_small word.Null = false
is_in_small (word.Block id) = false
is_in_small (word.InSmall id at) = true
is_in_small (word.InMedium id at) = false
is_in_small (word.Number n) = false

-- the word knows the medium quantum at which its block begins
abbrev pub is_in_medium : PlacedWord → Bool
is_in_medium word.Null = false
is_in_medium (word.Block id) = false
is_in_medium (word.InSmall id at) = false
is_in_medium (word.InMedium id at) = true
is_in_medium (word.Number n) = false

-- the word refers to a block and doesn't know where it lies, by a test
abbrev pub is_lost : PlacedWord → Bool
is_lost word.Null = false
is_lost (word.Block id) = true
is_lost (word.InSmall id at) = false
is_lost (word.InMedium id at) = false
is_lost (word.Number n) = false

-- the word refers to a block and doesn't know where it lies
abbrev pub IsLost : PlacedWord → Type 0
IsLost word.Null = ⊥
IsLost (word.Block id) = ⊤
IsLost (word.InSmall id at) = ⊥
IsLost (word.InMedium id at) = ⊥
IsLost (word.Number n) = ⊥

-- the words of a block were visited from one on, up to the first that refers to a block and doesn't know where it lies, or to the last
abbrev pub VisitsFrom : Mode → Spot → ℕ → Space' → Stack → Space' → Stack → Option ℕ → Type 0
VisitsFrom m x from s g new onto None = VisitsWords m x from (len_in s x - from) s g new onto
VisitsFrom m x from s g new onto (Some j) = (from ≤ j) × (j < len_in s x) × IsLost (word_in s x j) × VisitsWords m x from (j - from) s g new onto

-- the same blocks with the same words, whatever is noted of them
pub record HasSameBlocks (s new : Space') : Type 0 where
  pub layouts : (k : Kind) → (region new k).layouts ≡ (region s k).layouts
  pub ids : (k : Kind) → (region new k).ids ≡ (region s k).ids
  pub words : (k : Kind) → (region new k).words ≡ (region s k).words
  pub width : (k : Kind) → (region new k).width ≡ (region s k).width

-- the byte with the shade white, and all else that it tells
abbrev pub unshaded : ℕ → ℕ
unshaded b = b - b % 4

-- the word without what it knows of where its block lies
abbrev pub forgotten : PlacedWord → PlacedWord
forgotten w = unplaced (word_of w)

-- the blocks of a kind, without shades and without what words know of where blocks lie
abbrev pub unmarked_region : Region' → Region'
unmarked_region r = record { map = with_bytes r.map (map unshaded r.map.bytes); ids = r.ids; layouts = r.layouts; words = map forgotten r.words; width = r.width; opened = r.opened; top = r.top }

-- the space without shades and without what words know of where blocks lie: what marking leaves as it is
abbrev pub unmarked : Space' → Space'
unmarked s = record { small = unmarked_region s.small; medium = unmarked_region s.medium; table = s.table; spare = s.spare; used = s.used }

-- the same blocks, all white, and else what marking leaves as it is
pub record AreWhite (s new : Space') : Type 0 where
  pub layouts : (x : Spot) → layout_in new x ≡ layout_in s x
  pub ids : (x : Spot) → id_in new x ≡ id_in s x
  pub used : (x : Spot) → 128 ≤ byte_in s x → 128 ≤ byte_in new x
  pub white : (x : Spot) (l : Layout) → layout_in s x ≡ Some l → shade_told (byte_in new x) ≡ shade.White
  pub rest : unmarked new ≡ unmarked s

-- the block to which a word refers
abbrev pub ends_in : Word → List BlockId
ends_in plain.Null = []
ends_in (plain.Block id) = id ∷ []
ends_in (plain.Number n) = []

-- the blocks to which so many words refer of the block that begins at a quantum, from one word on
abbrev pub ends_from : Space' → Spot → ℕ → ℕ → List BlockId
ends_from s x i zero = []
ends_from s x i (suc n) = ends_in (word_of (word_in s x i)) ++ ends_from s x (suc i) n

-- the block that begins at a quantum is as it was
pub record IsSameIn (s new : Space') (y : Spot) (o : Layout) : Type 0 where
  pub layout : layout_in new y ≡ Some o
  pub id : id_in new y ≡ id_in s y
  pub byte : byte_in new y ≡ byte_in s y
  pub words : (i : ℕ) → i < len_of o → word_in new y i ≡ word_in s y i

-- one block has gone from a quantum, and all others are as they were
pub record HasBlockLessIn (s new : Space') (x : Spot) : Type 0 where
  pub gone : layout_in new x ≡ None
  pub others : (y : Spot) (o : Layout) → y ≢ x → layout_in s y ≡ Some o → IsSameIn s new y o
  pub only : (y : Spot) (o : Layout) → layout_in new y ≡ Some o → layout_in s y ≡ Some o
  pub spare : new.spare ≡ s.spare

-- no word of another block knows that its block lies at the quantum
abbrev pub IsUnknown : Space' → Spot → Type 0
IsUnknown s x = (y : Spot) (o : Layout) (i : ℕ) → layout_in s y ≡ Some o → y ≢ x → i < len_of o → known (word_in s y i) ≢ Some x

-- one block has come at a quantum, with its id and the byte of a new one, and all others are as they were
pub record HasBlockMoreIn (s new : Space') (id : BlockId) (l : Layout) (x : Spot) : Type 0 where
  pub fresh : layout_in s x ≡ None
  pub layout : layout_in new x ≡ Some l
  pub its_id : id_in new x ≡ id
  pub byte : byte_in new x ≡ new_byte
  pub others : (y : Spot) (o : Layout) → layout_in s y ≡ Some o → IsSameIn s new y o
  pub only : (y : Spot) (o : Layout) → layout_in new y ≡ Some o → (y ≡ x) ⊎ (layout_in s y ≡ Some o)
