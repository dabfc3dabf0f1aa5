-- Three threads that take turns at one core
use Rattle.std.specs.Prelude.{◌≡◌}
use Rattle.local_set.specs.LocalSets.{LocalSet}
use Rattle.zone_escape.specs.Cores.{CoreShown, IsCore, BelongsTo, IsOfOther}

-- the sets are those of three threads, and belong to the core
pub record AreOf (k : CoreShown) (a b c : LocalSet) : Type 0 where
  pub state : IsCore k
  pub first : BelongsTo a k
  pub second : BelongsTo b k
  pub third : BelongsTo c k
  pub first_second : IsOfOther a.thread b
  pub first_third : IsOfOther a.thread c
  pub second_first : IsOfOther b.thread a
  pub second_third : IsOfOther b.thread c
  pub third_first : IsOfOther c.thread a
  pub third_second : IsOfOther c.thread b

-- a thread took its turn: its set and those of the others belong to the core
pub record Turned (l m : LocalSet) (k n : CoreShown) : Type 0 where
  pub thread : m.thread ≡ l.thread
  pub state : IsCore n
  pub belongs : BelongsTo m n
  pub others : (x : LocalSet) → IsOfOther l.thread x → BelongsTo x k → BelongsTo x n
