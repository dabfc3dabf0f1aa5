-- The phases of a collection, as its barrier sees them
use Rattle.write_barrier.specs.declared.effects.Phase.{Phase}
use Rattle.write_barrier.specs.declared.effects.Phase.TheVariants.{Idle, Marking, Settling}

-- it has begun, and hasn't condemned yet
abbrev pub IsMarking : Phase → Type 0
IsMarking Idle = ⊥
IsMarking (Marking mode) = Unit {0}
IsMarking Settling = ⊥

-- it has condemned, and hasn't reclaimed yet
abbrev pub IsSettling : Phase → Type 0
IsSettling Idle = ⊥
IsSettling (Marking mode) = ⊥
IsSettling Settling = Unit {0}
