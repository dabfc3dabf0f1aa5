-- What a count of faults says of an answer.
use Rattle.std.specs.Prelude.{Bool, ℕ, ◌+◌, ◌-◌, ◌^◌, ◌≤◌, if◌then◌else◌, min, Result, OnErr}

-- a count of 64 bits after one more; at its last value it stays
abbrev pub one_more : ℕ → ℕ
one_more count = min (count + 1) (2 ^ 64 - 1)

-- the count rose, or stands at its last value
abbrev pub Rose : ℕ → ℕ → Type 0
Rose before now = one_more before ≤ now

-- the count never falls, and a refusal comes only where it rose
pub record HasCause {T E : Type 0} (before now : ℕ) (result : Result T E) : Type 0 where
  pub later : before ≤ now
  pub failed : OnErr result (Rose before now)

-- a count of failures after one more call
abbrev pub count_after : ℕ → Bool → ℕ
count_after before failed = if failed then one_more before else before
