-- What contracts see of a session, and of the core in the gate's slot
use Rattle.std.specs.Prelude.{ℕ, Bool, true, false, List, [], Option, Some, None, count_by}
use Rattle.az_base.specs.declared.block_id.BlockId.{BlockId}
use Rattle.az_base.specs.OptionRanges.{usual_options}
use Rattle.quantum_space.specs.declared.shade.Shade.{Shade}
use Rattle.quantum_space.specs.declared.shade.Shade.TheVariants as shade
use Rattle.quantum_space.specs.Shapes.{Shades}
use Rattle.zone_model.specs.History.{Ends}
use Rattle.zone_model.specs.State.{State}
use Rattle.heap_cycle.specs.Collector.{shade_in}
use Rattle.shared_heap.specs.Cycles.{marked_by}
use Rattle.shared_heap.specs.Shared.{Shared}
use Rattle.atomic_table.specs.Seated.{TableId}
use Rattle.zone_gate.specs.Shown.{SeatShown, new_seat}
use Rattle.local_set.specs.LocalSets.{LocalSet}
use Rattle.zone_escape.specs.Cores.{CoreShown}

-- a seat at the gate, and what the thread has for itself
pub record SessionShown : Type 0 where
  pub seat : SeatShown
  pub local : LocalSet

-- no gate's seat: what stands for the seat of a session while it is away
abbrev no_gate : TableId
no_gate = record { words = 0; slots = 0; views_name = 0; atom = 0; block = 0; offset = 0; slot_names = [] }

-- the seat, where it is there
abbrev pub seat_in : Option SeatShown → SeatShown
seat_in None = new_seat no_gate usual_options 0
seat_in (Some s) = s

-- the state is that of the core's journal
abbrev pub StateOf : CoreShown → State → Type 0
StateOf k z = Ends k.heap.options k.journal.entries z

-- the shade is grey
abbrev pub is_grey : Shade → Bool
is_grey shade.Grey = true
is_grey _ = false

-- how many of the blocks are grey
abbrev pub greys : List BlockId → Shades → ℕ
greys blocks f = count_by (λ b. is_grey (f b)) blocks

-- how many blocks of the start are grey, while a cycle is open and not condemned; else 0
abbrev pub grey_in : Shared → ℕ
grey_in h = marked_by (λ g. greys g.start (shade_in g)) h.gc.cycle
