-- The admin bytes of the subzones of one kind
use Rattle.std.specs.Prelude.{◌≡◌, ℕ, ◌+◌, ◌*◌, ◌<◌, ◌≤◌, ◌⊎◌, List, get_or, length, slice_range}
use Rattle.quantum_space.specs.Holes.{IsHole}

-- so many subzones of so many quanta, and their bytes one after another
pub record AdminMap' : Type 0 where
  pub size : ℕ
  pub subzones : ℕ
  pub bytes : List ℕ

-- the bytes of a subzone
abbrev pub subzone_bytes : AdminMap' → ℕ → List ℕ
subzone_bytes m s = slice_range m.bytes (s * m.size) (s * m.size + m.size)

-- so many quanta are free in a subzone from this one on
abbrev pub IsHoleIn : AdminMap' → ℕ → ℕ → ℕ → Type 0
IsHoleIn m s q len = (q + len ≤ m.size) × IsHole m.bytes (s * m.size + q) len

-- the subzone has no hole of this length
abbrev pub HasNoHole : AdminMap' → ℕ → ℕ → Type 0
HasNoHole m len s = (q : ℕ) → ¬ IsHoleIn m s q len

-- the first hole of this length in a subzone
pub record IsFirstIn (m : AdminMap') (len s q : ℕ) : Type 0 where
  pub hole : IsHoleIn m s q len
  pub first : (k : ℕ) → k < q → ¬ IsHoleIn m s k len

-- the first hole of this length in the first subzone that has one
pub record IsFirstOf (m : AdminMap') (len : ℕ) (found : ℕ × ℕ) : Type 0 where
  pub there : found.0 < m.subzones
  pub here : IsFirstIn m len found.0 found.1
  pub none : (s : ℕ) → s < found.0 → HasNoHole m len s

-- which lengths a block may have, in quanta of its kind
abbrev pub IsLength : ℕ → Type 0
IsLength len = (0 < len) × (len ≤ 32)

-- what is known of holes: none begins in a subzone before its cursor for that length, and none of a length lies in a subzone before the first for that length
pub record AreCursors (m : AdminMap') (low first : List ℕ) : Type 0 where
  pub sized : length m.bytes ≡ m.subzones * m.size
  pub rows : length low ≡ m.subzones * 33
  pub within : (k : ℕ) → get_or low k 0 ≤ m.size
  pub near : (len : ℕ) → get_or first len 0 ≤ m.subzones
  pub below : (s len q : ℕ) → IsLength len → q < get_or low (s * 33 + len) 0 → ¬ IsHoleIn m s q len
  pub before : (len s : ℕ) → IsLength len → s < get_or first len 0 → HasNoHole m len s

-- the bytes outside a range are the same
abbrev pub SameOutside : List ℕ → List ℕ → ℕ → ℕ → Type 0
SameOutside old new from end = (k : ℕ) → (k < from) ⊎ (end ≤ k) → get_or new k 0 ≡ get_or old k 0

-- the bytes of a range are these
abbrev pub AllAre : List ℕ → ℕ → ℕ → ℕ → Type 0
AllAre bytes from end byte = (k : ℕ) → from ≤ k → k < end → get_or bytes k 0 ≡ byte

-- with these bytes
abbrev pub with_bytes : AdminMap' → List ℕ → AdminMap'
with_bytes m bytes = record { size = m.size; subzones = m.subzones; bytes = bytes }

-- nothing but the bytes of a range has changed
pub record IsChanged (old new : AdminMap') (from end : ℕ) : Type 0 where
  pub size : new.size ≡ old.size
  pub subzones : new.subzones ≡ old.subzones
  pub count : length new.bytes ≡ length old.bytes
  pub outside : SameOutside old.bytes new.bytes from end

-- one free subzone has come
pub record IsGrown (old new : AdminMap') : Type 0 where
  pub size : new.size ≡ old.size
  pub subzones : new.subzones ≡ old.subzones + 1
  pub count : length new.bytes ≡ length old.bytes + old.size
  pub same : (k : ℕ) → get_or new.bytes k 0 ≡ get_or old.bytes k 0

-- each byte was changed by a rule, and nothing else
pub record IsRenoted (f : ℕ → ℕ) (old new : AdminMap') : Type 0 where
  pub size : new.size ≡ old.size
  pub subzones : new.subzones ≡ old.subzones
  pub count : length new.bytes ≡ length old.bytes
  pub bytes : (k : ℕ) → get_or new.bytes k 0 ≡ f (get_or old.bytes k 0)
