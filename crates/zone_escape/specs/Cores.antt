-- A core: the heap, and the journal of the entries that made it what it is
use Rattle.std.specs.Prelude.{◌≡◌, ◌==◌, ◌+◌, ℕ, false, [], IfSome, is_some, if◌then◌else◌}
use Rattle.std.specs.Option.{option_map_or}
use Rattle.zone_model.specs.History.{Ends}
use Rattle.zone_model.specs.InRange.{InRange}
use Rattle.zone_model.specs.Part.{opening_part}
use Rattle.zone_model.specs.State.{State}
use Rattle.az_base.specs.declared.options.Options.{Options}
use Rattle.heap_cycle.specs.Collector.{Collecting}
use Rattle.shared_heap.specs.Shared.{Shared}
use Rattle.zone_history.specs.Journals.{Recorded}
use Rattle.local_set.specs.LocalSets.{LocalSet, part_in}
use Rattle.escape_plan.specs.Together.{Belongs, IsHeapOf, OthersStay}

-- what a core is seen as
pub record CoreShown : Type 0 where
  pub heap : Shared
  pub journal : Recorded

-- how many entries of an open cycle are still to come: a Condemn and a Reclaim, and a Finalise for each block that may wait for its finaliser
abbrev pub steps_of : Collecting → ℕ
steps_of g = if is_some g.condemned then g.left + 1 else g.left + 2

-- how many there are where a cycle is open, and 0 where none is
abbrev pub steps_left : Shared → ℕ
steps_left h = option_map_or steps_of h.gc.cycle 0

-- how many lists the replies of these entries have
abbrev pub lists_of : Collecting → ℕ
lists_of g = if is_some g.condemned then 2 else 3

-- the open cycle has as many lists to lend
abbrev pub HasLists : Shared → Type 0
HasLists h = IfSome h.gc.cycle (λ g. g.rooms ≡ lists_of g)

-- the journal ends in the state, which is in range, and the heap is that of the state; no room is left over from an escape, and the open cycle has the room that its entries need
pub record IsCoreOf (k : CoreShown) (z : State) : Type 0 where
  pub ends : Ends k.heap.options k.journal.entries z
  pub heap : IsHeapOf k.heap z
  pub range : InRange z
  pub room : k.heap.room ≡ []
  pub owed : k.journal.owed ≡ steps_left k.heap
  pub lists : HasLists k.heap

-- there is such a state
abbrev pub IsCore : CoreShown → Type 0
IsCore k = (z : State) × IsCoreOf k z

-- a thread's own set belongs to the state of the core
abbrev pub BelongsTo : LocalSet → CoreShown → Type 0
BelongsTo l k = (z : State) → IsCoreOf k z → Belongs l z

-- from one core to the next the parts of the other threads stay
abbrev pub PartsStay : ℕ → CoreShown → CoreShown → Type 0
PartsStay t k m = (z a : State) → IsCoreOf k z → IsCoreOf m a → OthersStay t z a

-- the set of a thread that has done nothing
pub record IsUnused (l : LocalSet) (o : Options) : Type 0 where
  pub part : part_in l ≡ opening_part o
  pub out : l.waiting ≡ []
  pub published : l.published ≡ l.registers

-- the set of another thread than this one
abbrev pub IsOfOther : ℕ → LocalSet → Type 0
IsOfOther t l = (t == l.thread) ≡ false
