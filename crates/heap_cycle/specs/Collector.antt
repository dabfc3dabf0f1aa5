-- What a heap shows of its collections
use Rattle.std.specs.Prelude.{ℕ, List, [], Option, None, unwrap_or}
use Rattle.std.specs.FinMap.{FinMap, get}
use Rattle.az_base.specs.declared.action.Mode.{Mode}
use Rattle.az_base.specs.declared.block_id.BlockId.{BlockId}
use Rattle.az_base.specs.Ids.{id_cmp}
use Rattle.quantum_space.specs.declared.shade.Shade.{Shade}
use Rattle.quantum_space.specs.declared.shade.Shade.TheVariants as shade

-- an open cycle
pub record Collecting : Type 0 where
  pub owner : ℕ
  pub mode : Mode
  -- the blocks that had escaped as it began
  pub start : List BlockId
  -- how far marking has come with them; empty once it is condemned
  pub shades : FinMap id_cmp Shade
  -- the condemned blocks, ascending, once there are any
  pub condemned : Option (List BlockId)
  -- how many finalisers it has to run yet: until it is condemned at most so many, and then exactly
  pub left : ℕ
  -- how many lists can still be lent
  pub rooms : ℕ

-- the remembered blocks, and the open cycle
pub record Collector : Type 0 where
  pub cards : List BlockId
  pub cycle : Option Collecting

-- no block is remembered, and no cycle is open
abbrev pub no_collector : Collector
no_collector = record { cards = []; cycle = None }

-- the shade of a block
abbrev pub shade_in : Collecting → BlockId → Shade
shade_in g b = unwrap_or (get g.shades b) shade.White
