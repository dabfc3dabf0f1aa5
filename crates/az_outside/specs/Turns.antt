-- What a sink is given, turn by turn.
use Rattle.std.specs.Prelude.{◌≡◌, ◌+◌, ℕ, zero, suc, List, length, drop, Result, Ok, Err}
use Rattle.az_outside.specs.declared.source.Failed.{Failed}

-- so many writes were each given all that was left of the bytes, and then so many bytes were taken
abbrev pub Turns : {S : Type 0} → (S → S → List ℕ → Result ℕ Failed → Type 0) → List ℕ → ℕ → ℕ → S → S → Type 0
Turns wrote bytes zero done old new = (done ≡ 0) × (new ≡ old)
Turns {S} wrote bytes (suc turns) done old new =
    (between : S) × (before : ℕ) × (count : ℕ) × Turns wrote bytes turns before old between × wrote between new (drop before bytes) (Ok count) × (done ≡ before + count)

-- the sink was given the whole rest at each turn, until all was taken or a write failed
abbrev pub GivesRest : {S E : Type 0} → (S → S → List ℕ → Result ℕ Failed → Type 0) → S → S → List ℕ → Result (Unit {0}) E → Type 0
GivesRest wrote old new bytes (Ok x) = (turns : ℕ) × Turns wrote bytes turns (length bytes) old new
GivesRest {S} wrote old new bytes (Err e) =
    (between : S) × (turns : ℕ) × (before : ℕ) × Turns wrote bytes turns before old between × wrote between new (drop before bytes) (Err (record {}))
