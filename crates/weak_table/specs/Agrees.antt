-- Places and lists agree
use Rattle.std.specs.Prelude.{◌≡◌, ℕ, Bool, false, List, Option, Some, None, slice_get}
use Rattle.az_base.specs.declared.block_id.BlockId.{BlockId}
use Rattle.az_base.specs.declared.weak_loc.WeakLoc.{WeakLoc}
use Rattle.weak_table.specs.Listings.{Listed}
use Rattle.az_base.specs.Places.{loc_eq}

-- the place in the group's list
abbrev pub place : BlockId → ℕ → Listed
place b i = record { group = b; at = i }

-- there is a location, and it is this one
abbrev pub is_one : Option WeakLoc → WeakLoc → Bool
is_one None l = false
is_one (Some m) l = loc_eq m l

-- a location's place is where its group's list has it, and what stands in a list has its place there
pub record Agrees (places : WeakLoc → Option Listed) (lists : BlockId → List WeakLoc) : Type 0 where
  pub placed : (l : WeakLoc) (p : Listed) → places l ≡ Some p → slice_get (lists p.group) p.at ≡ Some l
  pub listed : (b : BlockId) (i : ℕ) (l : WeakLoc) → slice_get (lists b) i ≡ Some l → places l ≡ Some (place b i)
