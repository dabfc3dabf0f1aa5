use Rattle.std.proofs.Common.{◌≤◌}
use Rattle.quantum_space.specs.Regions.{IsRoomier, room_of}
use Rattle.quantum_space.proofs.region.Region.reserve.Given as goal

abbrev pub invariant-loop-grown : goal.invariant-loop-grown
invariant-loop-grown l = record {
  near : l.grown ≤ room_of l.self;
  same : IsRoomier l.fn.self l.self;
}
