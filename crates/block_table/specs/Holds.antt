-- How often threads hold a block
use Rattle.std.specs.Prelude.{ℕ, ◌<◌, nat_lt, Bool, List, [], ◌∷◌, Option, Some, None, unwrap_or}
use Rattle.std.specs.Ordering.{nat_cmp}
use Rattle.std.specs.FinMap.{FinMap, empty, get, values}
use Rattle.std.specs.List.{list_any}
use Rattle.az_base.specs.WithValue.{with_value}
use Rattle.zone_model.specs.State.{positive_count}

-- the threads that hold a block, and how often each does
abbrev pub Holds : Type 0
Holds = FinMap nat_cmp ℕ

-- how often the thread holds the block
abbrev pub times : Holds → ℕ → ℕ
times m t = unwrap_or (get m t) 0

-- the thread holds the block so often
abbrev pub with_times : Holds → ℕ → ℕ → Holds
with_times m t n = with_value m t (positive_count n)

-- the thread, if there is one, holds the block once, and no other does
abbrev pub held_once : Option ℕ → Holds
held_once None = empty
held_once (Some t) = with_times empty t 1

-- a thread holds the block
abbrev pub is_held_by : Holds → Bool
is_held_by m = list_any (λ n. nat_lt 0 n) (values m)

-- each number of the list is positive
abbrev pub ArePositive : List (ℕ × ℕ) → Type 0
ArePositive [] = Unit {0}
ArePositive (x ∷ xs) = (0 < x.1) × ArePositive xs
