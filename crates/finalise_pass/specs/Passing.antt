-- How far a pass over condemned blocks has come
use Rattle.std.specs.Prelude.{◌≡◌, ◌+◌, ℕ, Bool, List, Some, None, find, take, drop, slice_get}
use Rattle.az_base.specs.declared.block_id.BlockId.{BlockId}
use Rattle.finalise_pass.specs.Finalisers.{Finalisers, awaits}

-- a pass: the condemned blocks, and how many of them it has gone past
pub record Passing : Type 0 where
  pub condemned : List BlockId
  pub passed : ℕ

-- none of those that it has gone past has an action that isn't done
abbrev pub HasPassed : Passing → Finalisers → Type 0
HasPassed p f = find (awaits f) (take p.passed p.condemned) ≡ None

-- id is the last of the first n, and no other of them passes the test, where none did of those that the pass has gone past
pub record GoesPast (test : BlockId → Bool) (p : Passing) (id : BlockId) (n : ℕ) : Type 0 where
  pub place : ℕ
  pub count : n ≡ place + 1
  pub is : slice_get p.condemned place ≡ Some id
  pub before : find test (take p.passed p.condemned) ≡ None → find test (take place p.condemned) ≡ None

-- the first block that passes the test, from where the pass has come to, is the last of the first n
pub record EndsAfter (test : BlockId → Bool) (p : Passing) (n : ℕ) : Type 0 where
  pub id : BlockId
  pub found : find test (drop p.passed p.condemned) ≡ Some id
  pub past : GoesPast test p id n
