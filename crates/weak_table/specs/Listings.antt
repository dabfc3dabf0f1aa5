-- What contracts see of where a location is listed
use Rattle.std.specs.Prelude.{ℕ, refl}
use Rattle.std.specs.Coded.{Coded, code_by, coded×, coded_ℕ}
use Rattle.az_base.specs.declared.block_id.BlockId.{BlockId}
use Rattle.az_base.specs.Id.{coded_id}

-- a group, and a place in its list
pub record Listed : Type 0 where
  pub group : BlockId
  pub at : ℕ

-- as a pair
abbrev pub coded_listed : Coded Listed
coded_listed = code_by (BlockId × ℕ) (coded× coded_id coded_ℕ) (λ p. (p.group, p.at)) (λ p. record { group = p.0; at = p.1 }) (λ _. refl)
