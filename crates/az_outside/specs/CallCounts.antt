-- Which calls of an end in memory fail, and how they are counted.
use Rattle.std.specs.Prelude.{Bool, ℕ, ◌==◌, List}
use Rattle.std.specs.List.{list_any}
use Rattle.az_outside.specs.Causes.{one_more, count_after}

-- the numbers from 1 of the calls that fail, how many calls were made, and how many failed
pub record CallCounts : Type 0 where
  pub failing : List ℕ
  pub made : ℕ
  pub faults : ℕ

-- before any call
abbrev pub no_call : List ℕ → CallCounts
no_call failing = record { failing = failing; made = 0; faults = 0 }

-- whether the next call's number is one of those that fail
abbrev pub next_fails : CallCounts → Bool
next_fails c = list_any (λ n. n == one_more c.made) c.failing

-- after one call more, which failed or not
abbrev pub after_call : CallCounts → Bool → CallCounts
after_call c failed = record { failing = c.failing; made = one_more c.made; faults = count_after c.faults failed }
