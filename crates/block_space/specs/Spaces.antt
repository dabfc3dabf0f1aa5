-- Blocks at their places
use Rattle.std.specs.Prelude.{◌≡◌, ℕ, ◌+◌, ◌-◌, ◌*◌, ◌<◌, ◌≤◌, ◌⊎◌, ◌^◌, ◌∷◌, [], List, Option, Some, None, get_or, slice_get, length, if◌then◌else◌, nat_le, nat_lt, ⊤, MatchOption, IfSome, Bool, true, drop}
use Rattle.std.specs.Option.{option_and_then, option_map_or}
use Rattle.az_base.specs.declared.block_id.BlockId.{BlockId}
use Rattle.az_base.specs.declared.word.Word.{Word}
use Rattle.quantum_space.specs.declared.placed.PlacedWord.{PlacedWord}
use Rattle.quantum_space.specs.declared.placed.PlacedWord.TheVariants as word
use Rattle.quantum_space.specs.PlacedWords.{knowing, spot_at, word_of}
use Rattle.block_layouts.specs.declared.layout.Layout.{Layout}
use Rattle.block_layouts.specs.Layouts.{len_of, quanta}
use Rattle.quantum_space.specs.declared.admin.Admin.{Admin}
use Rattle.quantum_space.specs.declared.place.Place.{Place}
use Rattle.quantum_space.specs.AdminBytes.{admin_byte, admin_of}
use Rattle.quantum_space.specs.AdminMaps.{subzone_bytes}
use Rattle.quantum_space.specs.Regions.{Region', HasBlock, HasWord, IsFreed, IsPlaced, IsRenotedRegion, IsRoomier, no_id, quanta_in, room_of, with_byte, with_word}
use Rattle.quantum_space.specs.declared.spot.Spot.{Spot}
use Rattle.quantum_space.specs.declared.spot.Kind.{Kind}
use Rattle.quantum_space.specs.declared.spot.Kind.TheVariants as kind
use Rattle.block_space.specs.declared.table.Subzone.{Subzone}
use Rattle.block_space.specs.Tables.{Table', numbers, opened_with}

-- the blocks of both kinds; the numbers of their subzones; the lengths of blocks for which there is room; and the small quanta that the blocks take
pub record Space' : Type 0 where
  pub small : Region'
  pub medium : Region'
  pub table : Table'
  pub spare : List ℕ
  pub used : ℕ

-- the kind of subzones in which a block of so many words lies: small up to 64 words
abbrev pub kind_of : ℕ → Kind
kind_of n = if nat_le n 64 then kind.Small else kind.Medium

-- the quanta of a kind's subzone
abbrev pub size_of : Kind → ℕ
size_of kind.Small = 4096
size_of kind.Medium = 256

-- the words of a kind's quantum
abbrev pub width_of : Kind → ℕ
width_of kind.Small = 2
width_of kind.Medium = 128

-- the blocks of a kind
abbrev pub region : Space' → Kind → Region'
region s kind.Small = s.small
region s kind.Medium = s.medium

-- with other blocks of a kind
abbrev pub with_region : Space' → Kind → Region' → Space'
with_region s kind.Small r = record { small = r; medium = s.medium; table = s.table; spare = s.spare; used = s.used }
with_region s kind.Medium r = record { small = s.small; medium = r; table = s.table; spare = s.spare; used = s.used }

-- a quantum of a subzone, counted over all subzones of its kind; None past the subzone's end
abbrev pub spot_in : Subzone → ℕ → Option Spot
spot_in z q = if nat_lt q (size_of z.kind) then Some (spot_at z.kind (z.index * size_of z.kind + q)) else None

-- where a place is among those of its kind; None where there is no such subzone, or it has no such quantum
abbrev pub spot_of : Space' → Place → Option Spot
spot_of s p = option_and_then (λ z. spot_in z p.quantum) (slice_get s.table.subzones p.subzone)

-- the layout of the block at a place, if there is one
abbrev pub layout_at : Space' → Place → Option Layout
layout_at s p = option_and_then (λ x. get_or (region s x.kind).layouts x.at None) (spot_of s p)

-- a block lies at the place
abbrev pub HasBlockAt : Space' → Place → Type 0
HasBlockAt s p = MatchOption (spot_of s p) ⊥ (λ x. HasBlock (region s x.kind) x.at)

-- a block with such a word lies at the place
abbrev pub HasWordAt : Space' → Place → ℕ → Type 0
HasWordAt s p i = MatchOption (spot_of s p) ⊥ (λ x. HasWord (region s x.kind) x.at i)

-- a word of the block at a place, as it is kept
abbrev pub placed_at : Space' → Place → ℕ → PlacedWord
placed_at s p i = option_map_or (λ x. get_or (region s x.kind).words (x.at * (region s x.kind).width + i) word.Null) (spot_of s p) word.Null

-- a word of the block at a place
abbrev pub word_at : Space' → Place → ℕ → Word
word_at s p i = word_of (placed_at s p i)

-- the id of the block at a place
abbrev pub id_at : Space' → Place → BlockId
id_at s p = option_map_or (λ x. get_or (region s x.kind).ids x.at no_id) (spot_of s p) no_id

-- the admin byte of a quantum, 0 where there is no such quantum
abbrev pub byte_at : Space' → Place → ℕ
byte_at s p = option_map_or (λ x. get_or (region s x.kind).map.bytes x.at 0) (spot_of s p) 0

-- what is noted of the block at a place
abbrev pub admin_at : Space' → Place → Admin
admin_at s p = admin_of (byte_at s p)

-- the quanta of a block of so many words in a kind's subzones; none of another kind
abbrev pub kind_length : Kind → ℕ → ℕ
kind_length kind.Small n = if nat_le n 64 then quanta_in 2 n else 0
kind_length kind.Medium n = if nat_le n 64 then 0 else quanta_in 128 n

-- the quanta of blocks of these lengths in a kind's subzones
abbrev pub kind_quanta : Kind → List ℕ → ℕ
kind_quanta k [] = 0
kind_quanta k (n ∷ ns) = kind_length k n + kind_quanta k ns

-- the small quanta of blocks of these lengths
abbrev pub list_quanta : List ℕ → ℕ
list_quanta [] = 0
list_quanta (n ∷ ns) = quanta n + list_quanta ns

-- the small quanta of the blocks in a list
abbrev pub block_quanta : List (Option Layout) → ℕ
block_quanta [] = 0
block_quanta (o ∷ os) = option_map_or (λ l. quanta (len_of l)) o 0 + block_quanta os

-- each is a length that a layout may have
abbrev pub AreLengths : List ℕ → Type 0
AreLengths ns = (k : ℕ) → get_or ns k 0 ≤ 4096

-- room enough for so many quanta, however they come
abbrev pub IsCovered : ℕ → Region' → Type 0
IsCovered n r = (n ≡ 0) ⊎ (n + 31 ≤ room_of r)

-- what holds of each space
pub record IsSpace (s : Space') : Type 0 where
  pub opened : (k : Kind) → length (numbers s.table k) ≡ (region s k).opened
  pub size : (k : Kind) → (region s k).map.size ≡ size_of k
  pub width : (k : Kind) → (region s k).width ≡ width_of k
  pub used : s.used ≡ block_quanta s.small.layouts + block_quanta s.medium.layouts
  pub few : s.used + list_quanta s.spare < 2 ^ 32
  pub lengths : AreLengths s.spare
  pub covered : (k : Kind) → IsCovered (kind_quanta k s.spare) (region s k)
  pub unopened : (s.small.map.subzones - s.small.opened) + (s.medium.map.subzones - s.medium.opened) ≤ s.table.room
  pub rooms : s.table.room < 2 ^ 32

-- a block was placed in the first hole of its kind's subzones, in one that was opened or in a new one
pub record IsPlacedIn (r new : Region') (t after : Table') (k : Kind) (id : BlockId) (l : Layout) (p : Place) : Type 0 where
  pub index : ℕ
  pub placed : IsPlaced r new id l (index, p.quantum) (index * r.map.size + p.quantum)
  pub number : (index < length (numbers after k)) × (p.subzone ≡ get_or (numbers after k) index 0)
  pub table : ((index < r.opened) × (after ≡ t)) ⊎ ((index ≡ r.opened) × (after ≡ opened_with t k))

-- the other kind
abbrev pub other : Kind → Kind
other kind.Small = kind.Medium
other kind.Medium = kind.Small

-- a block was placed for the first of the lengths
pub record IsPlacedAt (s new : Space') (id : BlockId) (l : Layout) (p : Place) : Type 0 where
  pub placed : IsPlacedIn (region s (kind_of (len_of l))) (region new (kind_of (len_of l))) s.table new.table (kind_of (len_of l)) id l p
  pub others : region new (other (kind_of (len_of l))) ≡ region s (other (kind_of (len_of l)))
  pub spare : new.spare ≡ drop 1 s.spare
  pub used : new.used ≡ s.used + quanta (len_of l)

-- with other blocks of a kind, other numbers, other lengths of blocks to come, and another sum
abbrev pub altered : Space' → Kind → Region' → Table' → List ℕ → ℕ → Space'
altered s kind.Small r t ns n = record { small = r; medium = s.medium; table = t; spare = ns; used = n }
altered s kind.Medium r t ns n = record { small = s.small; medium = r; table = t; spare = ns; used = n }

-- a block was freed
pub record IsFreedAt (s new : Space') (l : Layout) (x : Spot) : Type 0 where
  pub freed : IsFreed (region s x.kind) (region new x.kind) l x.at
  pub others : region new (other x.kind) ≡ region s (other x.kind)
  pub table : new.table ≡ s.table
  pub spare : new.spare ≡ s.spare
  pub used : new.used + quanta (len_of l) ≡ s.used

-- the block at a quantum was freed, if one began there, and the quanta in use are lowered by its own
abbrev pub IsFreedIn : Region' → Region' → ℕ → ℕ → ℕ → Type 0
IsFreedIn r new used left at = MatchOption (get_or r.layouts at None) ((new ≡ r) × (left ≡ used)) (λ l. IsFreed r new l at × (left + quanta (len_of l) ≡ used))

-- the block at a place was freed
abbrev pub IsTakenOff : Space' → Space' → Place → Type 0
IsTakenOff s new p = MatchOption (spot_of s p) ⊥ (λ x. IfSome (get_or (region s x.kind).layouts x.at None) (λ l. IsFreedAt s new l x))

-- the same blocks, with as much room or more
pub record IsRoomierSpace (s new : Space') : Type 0 where
  pub each : (k : Kind) → IsRoomier (region s k) (region new k)
  pub subzones : new.table.subzones ≡ s.table.subzones
  pub numbers : (k : Kind) → numbers new.table k ≡ numbers s.table k
  pub used : new.used ≡ s.used

-- with another byte for the block at a place
abbrev pub with_byte_at : Space' → Place → ℕ → Space'
with_byte_at s p byte = option_map_or (λ x. with_region s x.kind (with_byte (region s x.kind) x.at byte)) (spot_of s p) s

-- with something else noted of the block at a place
abbrev pub with_admin : Space' → Place → Admin → Space'
with_admin s p a = with_byte_at s p (admin_byte a)

-- with another word of the block at a place
abbrev pub with_word_at : Space' → Place → ℕ → PlacedWord → Space'
with_word_at s p i w = option_map_or (λ x. with_region s x.kind (with_word (region s x.kind) x.at i w)) (spot_of s p) s

-- the same, remembered or not
abbrev pub with_card : Admin → Bool → Admin
with_card a on = record { shade = a.shade; age = a.age; card = on; finalised = a.finalised }

-- the same, its finaliser has run
abbrev pub with_finalised : Admin → Admin
with_finalised a = record { shade = a.shade; age = a.age; card = a.card; finalised = true }

-- with these lengths of blocks to come
abbrev pub with_spare : Space' → List ℕ → Space'
with_spare s ns = record { small = s.small; medium = s.medium; table = s.table; spare = ns; used = s.used }

-- all admin bytes were changed by a rule, and nothing else
pub record IsRenotedSpace (f : ℕ → ℕ) (s new : Space') : Type 0 where
  pub each : (k : Kind) → IsRenotedRegion f (region s k) (region new k)
  pub table : new.table ≡ s.table
  pub spare : new.spare ≡ s.spare
  pub used : new.used ≡ s.used

-- these are the admin bytes of the subzone with this number
abbrev pub IsSubzoneMap : Space' → ℕ → List ℕ → Type 0
IsSubzoneMap s n bytes = MatchOption (slice_get s.table.subzones n) ⊥ (λ z. bytes ≡ subzone_bytes (region s z.kind).map z.index)

-- a reference to the block at a place, which knows where it lies
abbrev pub reference : Space' → Place → PlacedWord
reference s p = option_map_or (λ x. knowing (get_or (region s x.kind).ids x.at no_id) x) (spot_of s p) word.Null

-- a block with this id begins at this quantum
abbrev pub BeginsAt : List (Option Layout) → List BlockId → ℕ → BlockId → Type 0
BeginsAt layouts ids at id = MatchOption (get_or layouts at None) ⊥ (λ l. get_or ids at no_id ≡ id)

-- where a word of small and medium blocks knows that its block lies, there it lies
abbrev pub IsRight : List (Option Layout) → List (Option Layout) → List BlockId → List BlockId → PlacedWord → Type 0
IsRight ls ms is js word.Null = ⊤
IsRight ls ms is js (word.Block id) = ⊤
IsRight ls ms is js (word.InSmall id at) = BeginsAt ls is at id
IsRight ls ms is js (word.InMedium id at) = BeginsAt ms js at id
IsRight ls ms is js (word.Number n) = ⊤

-- so it is for each word of the blocks of a region, where the blocks are those of two regions
abbrev pub AreRight : Region' → Region' → Region' → Type 0
AreRight r a b =
    (at : ℕ) (l : Layout) → get_or r.layouts at None ≡ Some l → (i : ℕ) → i < len_of l
    → IsRight a.layouts b.layouts a.ids b.ids (get_or r.words (at * r.width + i) word.Null)

-- a space, each word of which is right about where its block lies
pub record IsWhole (s : Space') : Type 0 where
  pub space : IsSpace s
  pub small : AreRight s.small s.small s.medium
  pub medium : AreRight s.medium s.small s.medium

-- blocks of both kinds, numbers, lengths of blocks to come, and the quanta in use
abbrev pub space_of : Region' → Region' → Table' → List ℕ → ℕ → Space'
space_of a b t ns n = record { small = a; medium = b; table = t; spare = ns; used = n }
