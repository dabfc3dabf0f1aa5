-- The calls on associations
use Rattle.std.proofs.Common.{◌≡◌, ℕ, Bool, cond, ◌⊎◌, Option, Some, None, refl, subst}
use Rattle.az_base.specs.declared.block_id.BlockId.{BlockId}
use Rattle.az_base.specs.declared.misuse.Misuse.TheVariants as misuse
use Rattle.az_base.specs.declared.numbers.Key.{Key}
use Rattle.zone_model.specs.declared.call.Call.TheVariants as call
use Rattle.zone_model.specs.State.{State}
use Rattle.zone_model.specs.Escape.{Need, EscOf, Tells}
use Rattle.zone_model.specs.Misuses.{misuse_of, is_overfull}
use Rattle.zone_model.specs.Quanta.{quanta_needed}

module _ (z : State) (t : ℕ) (need : BlockId → Bool) (object value : ℕ) (key : Key) where
  -- what the call makes escape
  pub assoc_tells : (a v : Option BlockId) → a ≡ z.registers t object → v ≡ z.registers t value → Tells need (λ c. EscOf z a c ⊎ EscOf z v c) → Tells need (Need z t (call.SetAssoc object key value))
  assoc_tells a v at is tells = subst (λ v. Tells need (λ c. EscOf z (z.registers t object) c ⊎ EscOf z v c)) is (subst (λ a. Tells need (λ c. EscOf z a c ⊎ EscOf z v c)) at tells)

  -- without an object it is a misuse
  pub assoc_null : None ≡ z.registers t object → misuse_of z t (call.SetAssoc object key value) need ≡ Some misuse.NullBlock
  assoc_null at = rw (← at) refl

  -- and with one only where the blocks would be too many
  pub assoc_full : (a : BlockId) → Some a ≡ z.registers t object → misuse_of z t (call.SetAssoc object key value) need ≡ cond (is_overfull z (quanta_needed z need)) (Some misuse.ZoneFull) None
  assoc_full a at = rw (← at) refl
