-- A list of ids, and how many more there is room for
use Rattle.std.specs.Prelude.{ℕ, List}
use Rattle.az_base.specs.declared.block_id.BlockId.{BlockId}

pub record WithRoom : Type 0 where
  pub list : List BlockId
  pub spare : ℕ
