-- A space as a map from places to blocks
use Rattle.std.specs.Prelude.{◌≡◌, ◌≢◌, ℕ, ◌<◌, ◌⊎◌, ◌∷◌, [], List, Some, None, MatchOption, Contains, get_or}
use Rattle.az_base.specs.declared.block_id.BlockId.{BlockId}
use Rattle.az_base.specs.declared.word.Word.TheVariants as plain
use Rattle.block_layouts.specs.declared.layout.Layout.{Layout}
use Rattle.block_layouts.specs.Layouts.{class_at, len_of}
use Rattle.quantum_space.specs.declared.admin.Admin.{Admin}
use Rattle.quantum_space.specs.declared.place.Place.{Place}
use Rattle.quantum_space.specs.declared.placed.PlacedWord.{PlacedWord}
use Rattle.quantum_space.specs.declared.placed.PlacedWord.TheVariants as placed
use Rattle.quantum_space.specs.PlacedWords.{known}
use Rattle.quantum_space.specs.Regions.{IsRegion, Region', new_byte, new_word}
use Rattle.quantum_space.specs.declared.spot.Kind.{Kind}
use Rattle.block_space.specs.Tables.{IsTable, Table'}
use Rattle.block_space.specs.Spaces.{Space', HasBlockAt, IsSpace, IsTakenOff, admin_at, byte_at, id_at, layout_at, placed_at, region, space_of, spot_of, word_at}

-- what holds of each space and of its parts
pub record IsSound (s : Space') : Type 0 where
  pub space : IsSpace s
  pub table : IsTable s.table
  pub regions : (k : Kind) → IsRegion (region s k)

-- a block is at its place as it was
pub record IsSameBlock (s new : Space') (q : Place) (o : Layout) : Type 0 where
  pub layout : layout_at new q ≡ Some o
  pub id : id_at new q ≡ id_at s q
  pub byte : byte_at new q ≡ byte_at s q
  pub words : (i : ℕ) → i < len_of o → placed_at new q i ≡ placed_at s q i

-- one block has come, with its id and the words and the byte of a new one, and all others are as they were
pub record HasBlockMore (s new : Space') (id : BlockId) (l : Layout) (p : Place) : Type 0 where
  pub fresh : layout_at s p ≡ None
  pub layout : layout_at new p ≡ Some l
  pub its_id : id_at new p ≡ id
  pub byte : byte_at new p ≡ new_byte
  pub words : (i : ℕ) → i < len_of l → placed_at new p i ≡ new_word (class_at l i)
  pub others : (q : Place) (o : Layout) → layout_at s q ≡ Some o → IsSameBlock s new q o
  pub only : (q : Place) (o : Layout) → layout_at new q ≡ Some o → (q ≡ p) ⊎ (layout_at s q ≡ Some o)

-- one block has gone, and all others are as they were
pub record HasBlockLess (s new : Space') (p : Place) : Type 0 where
  pub gone : layout_at new p ≡ None
  pub others : (q : Place) (o : Layout) → q ≢ p → layout_at s q ≡ Some o → IsSameBlock s new q o
  pub only : (q : Place) (o : Layout) → layout_at new q ≡ Some o → layout_at s q ≡ Some o

-- the same blocks, with their ids and words; what is noted of each is what a rule makes of what was
pub record AreNoted (f : Admin → Admin) (s new : Space') : Type 0 where
  pub layouts : (p : Place) → layout_at new p ≡ layout_at s p
  pub ids : (p : Place) → id_at new p ≡ id_at s p
  pub words : (p : Place) (i : ℕ) → placed_at new p i ≡ placed_at s p i
  pub admins : (p : Place) (l : Layout) → layout_at s p ≡ Some l → admin_at new p ≡ f (admin_at s p)

-- a word of the block at a place refers to the block at another one
abbrev pub RefersTo : Space' → Place → ℕ → Place → Type 0
RefersTo s p i q = HasBlockAt s q × (word_at s p i ≡ plain.Block (id_at s q))

-- the word knows that its block lies at the place
abbrev pub LeadsTo : Space' → PlacedWord → Place → Type 0
LeadsTo s w p = MatchOption (known w) ⊥ (λ x. spot_of s p ≡ Some x)

-- no word of a subzone knows where its block lies
pub record KnowsNone (s : Space') : Type 0 where
  pub none : (k : Kind) (j : ℕ) → known (get_or (region s k).words j placed.Null) ≡ None

-- no word of a block that stays knows that its block lies at one of these places
pub record MayFree (s : Space') (ps : List Place) : Type 0 where
  pub apart : (q : Place) (o : Layout) (i : ℕ) → layout_at s q ≡ Some o → ¬ Contains ps q → i < len_of o → (p : Place) → Contains ps p → ¬ LeadsTo s (placed_at s q i) p

-- the block at a place has gone, if one began there
abbrev pub MayBeTakenOff : Space' → Place → Space' → Type 0
MayBeTakenOff s p new = MatchOption (layout_at s p) (new ≡ s) (λ _. IsTakenOff s new p)

-- the blocks at these places have gone, one after another
abbrev pub AreTakenOff : Space' → List Place → Space' → Type 0
AreTakenOff s [] new = new ≡ s
AreTakenOff s (p ∷ ps) new = (mid : Space') × MayBeTakenOff s p mid × AreTakenOff mid ps new

-- the blocks at these places have gone, and all others are as they were
pub record HasBlocksLess (s new : Space') (ps : List Place) : Type 0 where
  pub gone : (p : Place) → Contains ps p → layout_at new p ≡ None
  pub others : (q : Place) (o : Layout) → ¬ Contains ps q → layout_at s q ≡ Some o → IsSameBlock s new q o
  pub only : (q : Place) (o : Layout) → layout_at new q ≡ Some o → layout_at s q ≡ Some o

-- the block at a place has gone from the parts of a space, if one began there, whatever blocks are to come
abbrev pub IsFreedThere : Region' → Region' → Table' → ℕ → Place → Region' → Region' → ℕ → Type 0
IsFreedThere a b t used p new other left = (ns : List ℕ) → MayBeTakenOff (space_of a b t ns used) p (space_of new other t ns left)
