-- The values of one object
use Rattle.std.specs.Prelude.{◌≡◌, ℕ, ◌<◌, ◌≤◌, List, Option, Some, Result, Ok, Err, length, map, slice_get, refl}
use Rattle.std.specs.Coded.{Coded, code_by, coded×, coded_ℕ}
use Rattle.std.specs.FinMap as finite
use Rattle.std.specs.FinMap.{FinMap, entries}
use Rattle.std.specs.Option.{option_map}
use Rattle.std.specs.Ordering.{nat_cmp}
use Rattle.az_base.specs.declared.block_id.BlockId.{BlockId}
use Rattle.az_base.specs.declared.numbers.Key.{Key}
use Rattle.az_base.specs.Id.{coded_id}

-- the values by the numbers of their keys, and for how many more there is room
pub record Values : Type 0 where
  pub values : FinMap nat_cmp BlockId
  pub spare : ℕ

-- as a pair
abbrev pub coded_values : Coded Values
coded_values = code_by (FinMap nat_cmp BlockId × ℕ) (coded× (finite.code coded_ℕ coded_id) coded_ℕ) (λ v. (v.values, v.spare)) (λ p. record { values = p.0; spare = p.1 }) (λ _. refl)

-- pairs with the numbers of their keys
abbrev pub numbered : List (Key × BlockId) → List (ℕ × BlockId)
numbered es = map (λ (e : Key × BlockId). let r : ℕ × BlockId = (e.0.0, e.1) in r) es

-- a pair with its key
abbrev pub shown_pair : ℕ × BlockId → Key × BlockId
shown_pair e = let key : Key = record { 0 = e.0 } in (key, e.1)

-- the n-th pair in ascending keys
abbrev pub nth_pair : Values → ℕ → Option (Key × BlockId)
nth_pair v n = option_map shown_pair (slice_get (entries v.values) n)

-- the keys before this place are below the key, and those from there on are not
abbrev pub IsPlace : ℕ → List (ℕ × BlockId) → ℕ → Type 0
IsPlace k es i = (j : ℕ) (e : ℕ × BlockId) → slice_get es j ≡ Some e → (j < i → e.0 < k) × (i ≤ j → k ≤ e.0)

-- a search ends at the key, or where it would stand
abbrev pub Finds : ℕ → List (ℕ × BlockId) → Result ℕ ℕ → Type 0
Finds k es (Ok i) = IsPlace k es i × (v : BlockId) × (slice_get es i ≡ Some (k, v))
Finds k es (Err i) = IsPlace k es i × (i ≤ length es) × ((v : BlockId) → ¬ (slice_get es i ≡ Some (k, v)))
