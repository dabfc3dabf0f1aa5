-- What weak locations show
use Rattle.std.specs.Prelude.{◌≡◌, Bool, true, false, cond, List, Option, Some, None, is_some, refl}
use Rattle.std.specs.Coded.{Coded, code_by, coded×, coded_option}
use Rattle.std.specs.FinMap as finite
use Rattle.std.specs.FinMap.{FinMap, get}
use Rattle.std.specs.Option.{option_map_or}
use Rattle.az_base.specs.declared.block_id.BlockId.{BlockId}
use Rattle.az_base.specs.declared.weak_loc.WeakLoc.{WeakLoc}
use Rattle.az_base.specs.declared.weak_loc.WeakLoc.TheVariants as loc
use Rattle.az_base.specs.Id.{coded_id}
use Rattle.az_base.specs.Ids.{same_id, among}
use Rattle.az_base.specs.Places.{loc_cmp}
use Rattle.az_base.specs.Codes.{coded_loc}
use Rattle.weak_table.specs.Grouped.{Grouped}

-- the block that each location shows, where it shows one, and the block for which there is room for one location more
pub record Shows : Type 0 where
  pub shown : FinMap loc_cmp BlockId
  pub ready : Option BlockId

-- as a pair
abbrev pub coded_shows : Coded Shows
coded_shows = code_by (FinMap loc_cmp BlockId × Option BlockId) (coded× (finite.code coded_loc coded_id) (coded_option coded_id)) (λ s. (s.shown, s.ready)) (λ p. record { shown = p.0; ready = p.1 }) (λ _. refl)

-- what the location shows is one of these blocks
abbrev pub shows_one : List BlockId → Option BlockId → Bool
shows_one ids shown = option_map_or (among ids) shown false

-- what the location shows is this block
abbrev pub shows : BlockId → Option BlockId → Bool
shows id shown = option_map_or (same_id id) shown false

-- the block of which a location is a word
abbrev pub block_of : WeakLoc → Option BlockId
block_of (loc.Root w) = None
block_of (loc.Word b i) = Some b

-- the location is a word of this block
abbrev pub is_word_of : BlockId → WeakLoc → Bool
is_word_of block (loc.Root w) = false
is_word_of block (loc.Word b i) = same_id block b

-- the words that show a block are grouped by their own block, and where there is room, both have it
pub record IsWeak (shown words : Grouped) (ready : Option BlockId) : Type 0 where
  pub owned : (l : WeakLoc) → get words.groups l ≡ cond (is_some (get shown.groups l)) (block_of l) None
  pub room : (v : BlockId) → ready ≡ Some v → (shown.room ≡ true) × (words.room ≡ true)
