-- What reads take from the bytes that a source tells, and what writes append.
use Rattle.std.specs.Prelude.{◌≡◌, ℕ, ◌<◌, ◌≤◌, List, [], length, take, Result, IfOk, MatchResult}
use Rattle.std.specs.declared.option.Option.{Option}
use Rattle.std.specs.Io.KnownBytes.{Consumes}

-- at most this many bytes were taken from the front
pub record TakesAtMost (limit : ℕ) (old new : Option (List ℕ)) : Type 0 where
  pub taken : List ℕ
  pub consumed : Consumes old new taken
  pub few : length taken ≤ limit

-- exactly this many bytes were taken from the front
pub record Takes (count : ℕ) (old new : Option (List ℕ)) : Type 0 where
  pub taken : List ℕ
  pub consumed : Consumes old new taken
  pub many : length taken ≡ count

-- a write of something takes something
abbrev pub TakesSome : {E : Type 0} → List ℕ → Result ℕ E → Type 0
TakesSome piece result = IfOk result (λ n. 0 < length piece → 0 < n)

-- a write appends the bytes that it takes, and nothing where it fails
abbrev pub WriteGrows : {E : Type 0} → (List ℕ → Type 0) → Result ℕ E → List ℕ → Type 0
WriteGrows grew result piece = MatchResult result (λ n. grew (take n piece)) (λ _. grew [])

-- a front of the bytes was appended, and not all of them
pub record GrewByFront (grew : List ℕ → Type 0) (bytes : List ℕ) : Type 0 where
  pub count : ℕ
  pub short : count < length bytes
  pub front : grew (take count bytes)
