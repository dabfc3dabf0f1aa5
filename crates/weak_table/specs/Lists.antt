-- The lists of groups
use Rattle.std.specs.Prelude.{◌≡◌, ℕ, ◌<◌, ◌++◌, Bool, false, cond, List, [], ◌∷◌, Option, None, Some, length}
use Rattle.std.specs.List.{swap_remove}
use Rattle.std.specs.Map.{lookup}
use Rattle.smallvec.specs.SmallVec.{SmallVec}
use Rattle.az_base.specs.declared.block_id.BlockId.{BlockId}
use Rattle.az_base.specs.declared.weak_loc.WeakLoc.{WeakLoc}
use Rattle.az_base.specs.Ids.{id_eq}

-- the locations of a list, none where there is no list
abbrev pub list_in : Option (SmallVec WeakLoc) → List WeakLoc
list_in None = []
list_in (Some v) = v.items

-- the locations of the group
abbrev pub members_at : List (BlockId × SmallVec WeakLoc) → BlockId → List WeakLoc
members_at es group = list_in (lookup (id_eq group) es)

-- this list may be full
abbrev pub is_tight : Option BlockId → BlockId → Bool
is_tight None b = false
is_tight (Some t) b = id_eq t b

-- all lists but that one have room for one more
abbrev pub IsRoomy : Option BlockId → List (BlockId × SmallVec WeakLoc) → Type 0
IsRoomy tight es = (b : BlockId) (v : SmallVec WeakLoc) → lookup (id_eq b) es ≡ Some v → is_tight tight b ≡ false → length v.items < v.capacity

-- each group has the same locations, in the same order
abbrev pub SameMembers : List (BlockId × SmallVec WeakLoc) → List (BlockId × SmallVec WeakLoc) → Type 0
SameMembers es fs = (b : BlockId) → members_at fs b ≡ members_at es b

-- the group's list is without the location at this place, which the last one took
abbrev pub Leaves : BlockId → ℕ → List (BlockId × SmallVec WeakLoc) → List (BlockId × SmallVec WeakLoc) → Type 0
Leaves group at es fs = (d : WeakLoc) × ((b : BlockId) → members_at fs b ≡ cond (id_eq group b) (swap_remove (members_at es group) at d) (members_at es b))

-- the group's list has one location more, at its end
abbrev pub Enters : BlockId → WeakLoc → List (BlockId × SmallVec WeakLoc) → List (BlockId × SmallVec WeakLoc) → Type 0
Enters group l es fs = (b : BlockId) → members_at fs b ≡ cond (id_eq group b) (members_at es group ++ l ∷ []) (members_at es b)
