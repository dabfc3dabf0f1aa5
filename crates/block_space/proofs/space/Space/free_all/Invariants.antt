use Rattle.std.proofs.Common.{take}
use Rattle.quantum_space.specs.Regions.{IsRegion}
use Rattle.block_space.specs.Tables.{IsTable}
use Rattle.block_space.specs.Spaces.{IsSpace, space_of}
use Rattle.block_space.specs.Maps.{AreTakenOff, HasBlocksLess}
use Rattle.block_space.proofs.Fewer.{Fewer}
use Rattle.block_space.proofs.space.Space.free_all.Given as goal

abbrev pub invariant-loop-place : goal.invariant-loop-place
invariant-loop-place l = record {
  freed : AreTakenOff l.fn.self (take l.place-index l.places) (space_of l.self-inside.small l.self-inside.medium l.self-inside.table l.self-inside.spare l.self-inside.used);
  less : HasBlocksLess l.fn.self (space_of l.self-inside.small l.self-inside.medium l.self-inside.table l.self-inside.spare l.self-inside.used) (take l.place-index l.places);
  fewer : Fewer l.fn.self (take l.place-index l.places) (space_of l.self-inside.small l.self-inside.medium l.self-inside.table l.self-inside.spare l.self-inside.used);
  space : IsSpace (space_of l.self-inside.small l.self-inside.medium l.self-inside.table l.self-inside.spare l.self-inside.used);
  table : IsTable l.self-inside.table;
  small : IsRegion l.self-inside.small;
  medium : IsRegion l.self-inside.medium;
}
