-- Which shapes a block may have
use Rattle.std.specs.Prelude.{◌≤◌, ◌<◌, length}
use Rattle.block_layouts.specs.declared.layout.Shape.{Shape}
use Rattle.block_layouts.specs.declared.layout.Shape.TheVariants as shape

-- at most 4,096 words, and an object has at least one
abbrev pub IsShape : Shape → Type 0
IsShape (shape.Scanned n) = n ≤ 4096
IsShape (shape.Unscanned n) = n ≤ 4096
IsShape (shape.Object classes) = (0 < length classes) × (length classes ≤ 4096)
