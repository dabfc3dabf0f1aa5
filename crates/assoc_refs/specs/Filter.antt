-- Which objects may have values
use Rattle.std.specs.Prelude.{◌≡◌, ℕ, ◌+◌, ◌*◌, Bool, true, List, Some, MatchOption, slice_get}
use Rattle.std.specs.Int.Bits.{bit_and}
use Rattle.az_base.specs.declared.block_id.BlockId.{BlockId}
use Rattle.assoc_refs.specs.Values.{Values}

-- the slot of an object under a mask
abbrev pub slot_in : BlockId → ℕ → ℕ
slot_in object mask = bit_and (object.serial + object.thread * 40503) mask

-- the object may be in: its slot is taken, or it has none
abbrev pub IsIn : List Bool → ℕ → BlockId → Type 0
IsIn taken mask object = MatchOption (slice_get taken (slot_in object mask)) (Unit {0}) (λ b. b ≡ true)

-- what has a list is in
abbrev pub HasAll : List Bool → ℕ → List (BlockId × Values) → Type 0
HasAll taken mask es = (n : ℕ) (object : BlockId) (v : Values) → slice_get es n ≡ Some (object, v) → IsIn taken mask object
