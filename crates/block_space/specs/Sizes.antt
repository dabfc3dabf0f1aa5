-- How long blocks are, in a byte by quantum
use Rattle.std.specs.Prelude.{◌≡◌, ℕ, ◌+◌, ◌*◌, ◌≤◌, List, Option, Some, None, get_or, length, min}
use Rattle.block_layouts.specs.declared.layout.Layout.{Layout}
use Rattle.block_layouts.specs.Layouts.{len_of}
use Rattle.quantum_space.specs.Regions.{Region'}

-- the byte of a quantum: 0 where no block begins, and else one more than the block's words, at most 255
abbrev pub size_byte : Option Layout → ℕ
size_byte None = 0
size_byte (Some l) = min 255 (len_of l + 1)

-- the bytes tell the sizes of the blocks in a region whose subzones have so many quanta
pub record AreSizes (quanta : ℕ) (sizes : List ℕ) (r : Region') : Type 0 where
  pub quanta_are : quanta ≡ r.map.size
  pub enough : r.map.subzones * r.map.size ≤ length sizes
  pub each : (at : ℕ) → get_or sizes at 0 ≡ size_byte (get_or r.layouts at None)
