-- How a slice ends
use Rattle.std.specs.Prelude.{◌≡◌, List}
use Rattle.az_base.specs.declared.block_id.BlockId.{BlockId}
use Rattle.quantum_space.specs.declared.shade.Shade.TheVariants as shade
use Rattle.quantum_space.specs.Shapes.{Shades, Has}
use Rattle.gen_marker.specs.declared.scanning.Progress.{Progress}
use Rattle.gen_marker.specs.declared.scanning.Progress.TheVariants as progress
use Rattle.gen_marker.specs.Marking.{NoGrey}

-- a block is grey
pub record SomeGrey (blocks : List BlockId) (f : Shades) : Type 0 where
  pub id : BlockId
  pub block : Has blocks id
  pub grey : f id ≡ shade.Grey

-- Done: no block is grey. More: one is, and the whole budget was used
abbrev pub Ends : Progress → List BlockId → Shades → Type 0 → Type 0
Ends progress.Done blocks f all = NoGrey blocks f
Ends progress.More blocks f all = SomeGrey blocks f × all
