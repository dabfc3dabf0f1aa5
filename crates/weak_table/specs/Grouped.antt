-- Locations in groups
use Rattle.std.specs.Prelude.{◌≡◌, ◌<◌, Bool, true, List, Option, None, map, refl}
use Rattle.std.specs.Coded.{Coded, code_by, coded×, coded_bool}
use Rattle.std.specs.FinMap as finite
use Rattle.std.specs.FinMap.{FinMap, from_entries}
use Rattle.std.specs.HashMap.{HashMap, spare}
use Rattle.std.specs.Map.{lookup}
use Rattle.smallvec.specs.SmallVec.{SmallVec}
use Rattle.az_base.specs.declared.block_id.BlockId.{BlockId}
use Rattle.az_base.specs.declared.weak_loc.WeakLoc.{WeakLoc}
use Rattle.az_base.specs.Id.{coded_id}
use Rattle.az_base.specs.Places.{loc_cmp}
use Rattle.weak_table.specs.Listings.{Listed}
use Rattle.az_base.specs.Codes.{coded_loc}
use Rattle.az_base.specs.Places.{loc_eq}
use Rattle.weak_table.specs.Lists.{members_at, IsRoomy}
use Rattle.weak_table.specs.Agrees.{Agrees}

-- the group of each location that is in one, and whether there is room for one location more
pub record Grouped : Type 0 where
  pub groups : FinMap loc_cmp BlockId
  pub room : Bool

-- as a pair
abbrev pub coded_grouped : Coded Grouped
coded_grouped = code_by (FinMap loc_cmp BlockId × Bool) (coded× (finite.code coded_loc coded_id) coded_bool) (λ g. (g.groups, g.room)) (λ p. record { groups = p.0; room = p.1 }) (λ _. refl)

-- the locations with their groups alone
abbrev pub with_groups : List (WeakLoc × Listed) → List (WeakLoc × BlockId)
with_groups es = map (λ (e : WeakLoc × Listed). let r : WeakLoc × BlockId = (e.0, e.1.group) in r) es

-- what the places are together
abbrev pub shown_groups : List (WeakLoc × Listed) → FinMap loc_cmp BlockId
shown_groups es = from_entries (with_groups es)

-- the places agree with the lists; only the tight list may be full; and where there is room, none is
pub record IsIndexed {S U : Type 0} (places : HashMap WeakLoc Listed S) (lists : HashMap BlockId (SmallVec WeakLoc) U) (tight : Option BlockId) (room : Bool) : Type 0 where
  pub agrees : Agrees (λ l. lookup (loc_eq l) places.entries) (λ b. members_at lists.entries b)
  pub roomy : IsRoomy tight lists.entries
  pub ready : room ≡ true → (tight ≡ None) × (0 < spare places) × (0 < spare lists)
