-- For which calls a heap has room
use Rattle.std.specs.Prelude.{ℕ, Option, None, max, refl}
use Rattle.std.specs.Coded.{Coded, code_by, coded×, coded_ℕ, coded_option}
use Rattle.std.specs.Option.{option_or}
use Rattle.az_base.specs.declared.block_id.BlockId.{BlockId}
use Rattle.az_base.specs.Id.{coded_id}

-- the room that was taken beforehand
pub record Ready : Type 0 where
  -- for how many more blocks with a count
  pub counts : ℕ
  -- the object that may get one more association
  pub object : Option BlockId
  -- the block that one more weak location may show
  pub value : Option BlockId

-- no room
abbrev pub unready : Ready
unready = record { counts = 0; object = None; value = None }

-- room for one more block with a count, and for the object and the value where they are given
abbrev pub with_room : Ready → Option BlockId → Option BlockId → Ready
with_room r object value = record { counts = max 1 r.counts; object = option_or object r.object; value = option_or value r.value }

-- as a pair of pairs
abbrev pub coded_ready : Coded Ready
coded_ready =
    code_by (ℕ × (Option BlockId × Option BlockId)) (coded× coded_ℕ (coded× (coded_option coded_id) (coded_option coded_id)))
    (λ r. (r.counts, (r.object, r.value))) (λ p. record { counts = p.0; object = p.1.0; value = p.1.1 }) (λ _. refl)
