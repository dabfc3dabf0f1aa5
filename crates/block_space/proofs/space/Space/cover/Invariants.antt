use Rattle.std.proofs.Common.{◌≡◌, ◌≤◌}
use Rattle.quantum_space.specs.Regions.{room_of}
use Rattle.block_space.specs.Spaces.{IsRoomierSpace, region}
use Rattle.block_space.proofs.space.Space.cover.Given as goal

abbrev pub invariant-loop-grown : goal.invariant-loop-grown
invariant-loop-grown l = record {
  near : l.grown ≤ room_of (region l.self l.kind);
  same : IsRoomierSpace l.fn.self l.self;
  spare : l.self.spare ≡ l.fn.self.spare;
}
