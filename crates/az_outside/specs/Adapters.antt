-- What the ends over std's readers and writers are seen as.
use Rattle.std.specs.Prelude.{ℕ, List}
use Rattle.std.specs.declared.option.Option.{Option}

-- the bytes that the reader has left, where it tells them, and how many reads failed
pub record Reading : Type 0 where
  pub left : Option (List ℕ)
  pub faults : ℕ

-- the bytes that the writer holds, where it tells them, and how many writes failed
pub record Writing : Type 0 where
  pub contents : Option (List ℕ)
  pub faults : ℕ
