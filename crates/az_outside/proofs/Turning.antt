-- Writes of the whole rest, one after the other.
use Rattle.std.proofs.Common.{◌≡◌, ℕ, suc, ◌+◌, ◌-◌, List, length, take, drop, Result, Ok, Err, arith, refl, subst, take_all, length-drop}
use Rattle.az_outside.specs.declared.source.Failed.{Failed}
use Rattle.az_outside.specs.Turns.{Turns, GivesRest}

-- a slice from a place on is all that comes after that place
rest_of : (bytes : List ℕ) (done : ℕ) → take (length bytes - done) (drop done bytes) ≡ drop done bytes
rest_of bytes done = take_all (length bytes - done) (drop done bytes) (omega (arith, length-drop done bytes))

module _ {S : Type 0} (wrote : S → S → List ℕ → Result ℕ Failed → Type 0) where
  pub one_turn : (bytes : List ℕ) (done count : ℕ) (old between new : S) → ((turns : ℕ) × Turns wrote bytes turns done old between)
      → wrote between new (take (length bytes - done) (drop done bytes)) (Ok count) → (turns : ℕ) × Turns wrote bytes turns (done + count) old new
  one_turn bytes done count old between new so_far last =
      (suc so_far.0, (between, done, count, so_far.1, subst (λ piece. wrote between new piece (Ok count)) (rest_of bytes done) last, refl))

  pub last_turn : {E : Type 0} (e : E) (bytes : List ℕ) (done : ℕ) (old between new : S) (failed : Failed) → ((turns : ℕ) × Turns wrote bytes turns done old between)
      → wrote between new (take (length bytes - done) (drop done bytes)) (Err failed) → GivesRest {E = E} wrote old new bytes (Err e)
  last_turn e bytes done old between new failed so_far last =
      (between, so_far.0, done, so_far.1, subst (λ piece. wrote between new piece (Err failed)) (rest_of bytes done) last)

  pub all_turns : (bytes : List ℕ) (done : ℕ) (old new : S) → done ≡ length bytes → ((turns : ℕ) × Turns wrote bytes turns done old new)
      → (turns : ℕ) × Turns wrote bytes turns (length bytes) old new
  all_turns bytes done old new all so_far = (so_far.0, subst (λ n. Turns wrote bytes so_far.0 n old new) all so_far.1)
