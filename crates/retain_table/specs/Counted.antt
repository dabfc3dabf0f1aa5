-- Positive counts by block
use Rattle.std.specs.Prelude.{◌≡◌, ℕ, ◌<◌, Bool, true, false, not, ◌||◌, if◌then◌else◌, List, Option, None, Some, IfSome, refl, zero, suc}
use Rattle.std.specs.Coded.{Coded, code_by, coded×, coded_list, coded_ℕ}
use Rattle.std.specs.FinMap as map
use Rattle.std.specs.FinMap.{FinMap, get, contains_key, insert, remove}
use Rattle.std.specs.List.{IsDistinct}
use Rattle.std.specs.Option.{unwrap_or}
use Rattle.std.specs.Ordering.{is_lt}
use Rattle.az_base.specs.declared.block_id.BlockId.{BlockId}
use Rattle.az_base.specs.Id.{coded_id}
use Rattle.az_base.specs.Ids.{id_cmp, same_id, among}

-- the counts, the counted blocks in the order of their positions, and for how many more blocks room was taken
pub record Counted : Type 0 where
  pub counts : FinMap id_cmp ℕ
  pub order : List BlockId
  pub spare : ℕ

-- as a pair of pairs
abbrev pub coded_counted : Coded Counted
coded_counted =
    code_by (FinMap id_cmp ℕ × (List BlockId × ℕ)) (coded× (map.code coded_id coded_ℕ) (coded× (coded_list coded_id) coded_ℕ))
    (λ c. (c.counts, (c.order, c.spare))) (λ p. record { counts = p.0; order = p.1.0; spare = p.1.1 }) (λ _. refl)

-- a block's count, 0 where it has none
abbrev pub count_of : FinMap id_cmp ℕ → BlockId → ℕ
count_of counts id = unwrap_or (get counts id) 0

-- the counts where the block has this one; a count of 0 is taken away
abbrev pub with_count : FinMap id_cmp ℕ → BlockId → ℕ → FinMap id_cmp ℕ
with_count counts id zero = remove counts id
with_count counts id (suc n) = insert counts id (suc n)

-- no count is 0
abbrev pub IsPositive : FinMap id_cmp ℕ → Type 0
IsPositive counts = (q : BlockId) → IfSome (get counts q) (λ n. 0 < n)

-- the list has each counted block once, and no other
pub record IsOrder (counts : FinMap id_cmp ℕ) (order : List BlockId) : Type 0 where
  pub once : IsDistinct same_id order
  pub counted : (q : BlockId) → among order q ≡ contains_key counts q

-- the first id comes before the second
abbrev pub comes_before : BlockId → BlockId → Bool
comes_before a b = is_lt (id_cmp a b)

-- it is the least counted block that isn't below this one; None where there is none
abbrev pub IsNextHeld : FinMap id_cmp ℕ → BlockId → Option BlockId → Type 0
IsNextHeld counts from None = (q : BlockId) → contains_key counts q ≡ true → comes_before q from ≡ true
IsNextHeld counts from (Some id) =
    (contains_key counts id ≡ true) × (comes_before id from ≡ false) × ((q : BlockId) → contains_key counts q ≡ true → comes_before q from ≡ false → comes_before q id ≡ false)

-- the lesser of both, without those below the first
abbrev pub nearer_of : BlockId → Option BlockId → BlockId → Option BlockId
nearer_of from None id = if comes_before id from then None else Some id
nearer_of from (Some other) id = if comes_before id from || not (comes_before id other) then Some other else Some id
