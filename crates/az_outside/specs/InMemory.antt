-- What the sources and sinks in memory are seen as.
use Rattle.std.specs.Prelude.{Bool, true, false, ℕ, ◌+◌, ◌||◌, ◌++◌, [], min, max, nat_lt, List, length, if◌then◌else◌}
use Rattle.az_outside.specs.CallCounts.{CallCounts, no_call, next_fails}

-- the bytes that a source has left, and how many a read gives at most
pub record SureFeed : Type 0 where
  pub left : List ℕ
  pub piece : ℕ

-- the same, with its failing calls
pub record FaultyFeed : Type 0 where
  pub left : List ℕ
  pub piece : ℕ
  pub calls : CallCounts

-- the bytes that a sink holds, how many a write takes at most, its room, and its failing calls
pub record FaultyStore : Type 0 where
  pub bytes : List ℕ
  pub piece : ℕ
  pub room : ℕ
  pub calls : CallCounts

-- the bytes that a sink holds, its room, and whether a write went past it
pub record SureStore : Type 0 where
  pub bytes : List ℕ
  pub room : ℕ
  pub over : Bool

-- a source before its first read
abbrev pub sure_feed : List ℕ → ℕ → SureFeed
sure_feed bytes piece = record { left = bytes; piece = max 1 piece }

-- a source with failing reads, before its first read
abbrev pub faulty_feed : List ℕ → ℕ → List ℕ → FaultyFeed
faulty_feed bytes piece failing = record { left = bytes; piece = max 1 piece; calls = no_call failing }

-- a sink with failing writes, before its first write
abbrev pub empty_faulty_store : ℕ → List ℕ → ℕ → FaultyStore
empty_faulty_store piece failing room = record { bytes = []; piece = max 1 piece; room = room; calls = no_call failing }

-- a sink that never fails, before its first write
abbrev pub empty_sure_store : ℕ → SureStore
empty_sure_store room = record { bytes = []; room = room; over = false }

-- how many bytes a read gives: a piece, what the buffer has room for, or all that is left
abbrev pub part_length : ℕ → List ℕ → List ℕ → ℕ
part_length piece buffer left = min (min piece (length buffer)) (length left)

-- how many bytes a write takes, where it doesn't fail
abbrev pub taken_length : FaultyStore → List ℕ → ℕ
taken_length store piece = min store.piece (length piece)

-- whether the next write fails: it would go past the room, or its number is one of those that fail
abbrev pub write_fails : FaultyStore → List ℕ → Bool
write_fails store piece = nat_lt store.room (length store.bytes + taken_length store piece) || next_fails store.calls

-- a sink that never fails, after a write: within the room the bytes are held, and past it none ever is
abbrev pub store_after : SureStore → List ℕ → SureStore
store_after store piece = if store.over || nat_lt store.room (length store.bytes + length piece) then record store { over = true } else record store { bytes = store.bytes ++ piece }
