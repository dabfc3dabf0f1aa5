-- The numbers of subzones
use Rattle.std.specs.Prelude.{◌≡◌, ℕ, ◌+◌, ◌-◌, ◌<◌, ◌≤◌, ◌^◌, ◌++◌, ◌∷◌, [], List, Some, length, slice_get, get_or}
use Rattle.quantum_space.specs.declared.spot.Kind.{Kind}
use Rattle.quantum_space.specs.declared.spot.Kind.TheVariants as kind
use Rattle.block_space.specs.declared.table.Subzone.{Subzone}

-- the subzone of each number; the numbers of the small ones and of the medium ones, in their order; and for how many more there is room
pub record Table' : Type 0 where
  pub subzones : List Subzone
  pub small : List ℕ
  pub medium : List ℕ
  pub room : ℕ

-- the numbers of a kind's subzones
abbrev pub numbers : Table' → Kind → List ℕ
numbers t kind.Small = t.small
numbers t kind.Medium = t.medium

-- a kind's subzone
abbrev pub subzone_of : Kind → ℕ → Subzone
subzone_of k i = record { kind = k; index = i }

-- both lists tell the same, and the numbers of a kind ascend
pub record IsTable (t : Table') : Type 0 where
  pub there : (s : ℕ) (z : Subzone) → slice_get t.subzones s ≡ Some z → (z.index < length (numbers t z.kind)) × (get_or (numbers t z.kind) z.index 0 ≡ s)
  pub back : (k : Kind) (i : ℕ) → i < length (numbers t k) → slice_get t.subzones (get_or (numbers t k) i 0) ≡ Some (subzone_of k i)
  pub ascending : (k : Kind) (i j : ℕ) → i < j → j < length (numbers t k) → get_or (numbers t k) i 0 < get_or (numbers t k) j 0
  pub sum : length t.subzones ≡ length t.small + length t.medium
  pub few : length t.subzones + t.room < 2 ^ 32

-- a list that has room for so many more
abbrev pub HasRoom : {X : Type 0} → List X → ℕ → ℕ → Type 0
HasRoom xs capacity room = length xs + room ≤ capacity

-- with room for so many more
abbrev pub with_room : Table' → ℕ → Table'
with_room t n = record { subzones = t.subzones; small = t.small; medium = t.medium; room = n }

-- with one more of a kind
abbrev pub opened_with : Table' → Kind → Table'
opened_with t kind.Small = record { subzones = t.subzones ++ subzone_of kind.Small (length t.small) ∷ []; small = t.small ++ length t.subzones ∷ []; medium = t.medium; room = t.room - 1 }
opened_with t kind.Medium = record { subzones = t.subzones ++ subzone_of kind.Medium (length t.medium) ∷ []; small = t.small; medium = t.medium ++ length t.subzones ∷ []; room = t.room - 1 }
