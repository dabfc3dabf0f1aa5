-- How often a call of a reader or a writer is tried.
use Rattle.std.specs.Prelude.{◌≡◌, ◌⊎◌, ℕ, zero, suc, ◌≤◌, Result, Ok, Err}
use Rattle.az_outside.specs.declared.source.Failed.{Failed}
use Rattle.az_outside.specs.declared.tries.Stopped.{Stopped}
use Rattle.az_outside.specs.declared.tries.Stopped.TheVariants as stopped

-- so many tries, one after the other, were interrupted
abbrev pub WereInterrupted : {S : Type 0} → (S → S → Result ℕ Stopped → Type 0) → ℕ → S → S → Type 0
WereInterrupted tried zero old new = new ≡ old
WereInterrupted {S} tried (suc times) old new = (between : S) × WereInterrupted tried times old between × tried between new (Err stopped.Interrupted)

-- the answer is that of one try more, which wasn't interrupted; or 1,001 were
abbrev pub IsLast : {S : Type 0} → (S → S → Result ℕ Stopped → Type 0) → ℕ → S → S → Result ℕ Failed → Type 0
IsLast tried times between new (Ok n) = (times ≤ 1000) × tried between new (Ok n)
IsLast tried times between new (Err e) = ((times ≤ 1000) × tried between new (Err stopped.Failed)) ⊎ ((times ≡ 1001) × (new ≡ between))

-- the call was tried again as often as it was interrupted, at most 1,000 times, and never after another answer
pub record IsPatient {S : Type 0} (tried : S → S → Result ℕ Stopped → Type 0) (old new : S) (result : Result ℕ Failed) : Type 0 where
  pub times : ℕ
  pub between : S
  pub interrupted : WereInterrupted tried times old between
  pub last : IsLast tried times between new result
