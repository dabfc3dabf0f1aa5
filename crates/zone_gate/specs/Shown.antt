-- What contracts see of a gate, of its seats and of a turn
use Rattle.std.specs.Prelude.{◌≡◌, ℕ, ◌-◌, List, [], ◌++◌, length, map, All, Contains}
use Rattle.az_base.specs.declared.options.Options.{Options}
use Rattle.zone_model.specs.declared.entry.Entry.{Entry}
use Rattle.atomic_table.specs.Seated.{TableId}
use Rattle.zone_gate.specs.declared.cut.Cut.{Cut}

-- a gate
pub record GateShown : Type 0 where
  pub id : TableId
  pub options : Options
  pub threads : List ℕ

-- a thread's seat: its own entries, what it has seen, and its turns
pub record SeatShown : Type 0 where
  pub gate : TableId
  pub options : Options
  pub thread : ℕ
  pub own : List Entry
  pub seen : List Entry
  pub cuts : List Cut

-- a note of what a seat has seen
pub record NoteShown : Type 0 where
  pub gate : TableId
  pub options : Options
  pub seen : List Entry

-- the value in a turn of a seat, as it was when the turn began and as it is
pub record HeldShown (V : Type 0) : Type 0 where
  pub gate : TableId
  pub thread : ℕ
  pub own : List Entry
  pub cuts : List Cut
  pub was : V
  pub value : V

-- the seat is of this gate
abbrev pub IsSeatOf : GateShown → SeatShown → Type 0
IsSeatOf g s = (s.gate ≡ g.id) × (s.options ≡ g.options)

-- the note is of this gate
abbrev pub IsNoteOf : GateShown → NoteShown → Type 0
IsNoteOf g n = (n.gate ≡ g.id) × (n.options ≡ g.options)

-- the held value is of this gate
abbrev pub IsHeldOf : {V : Type 0} → (V → Options) → GateShown → HeldShown V → Type 0
IsHeldOf options_of g h = (h.gate ≡ g.id) × (options_of h.was ≡ g.options)

-- the turn is that of this seat
abbrev pub KeepsSeat : {V : Type 0} → SeatShown → HeldShown V → Type 0
KeepsSeat s h = (h.gate ≡ s.gate) × (h.thread ≡ s.thread) × (h.own ≡ s.own) × (h.cuts ≡ s.cuts)

-- the list has grown by entries of this thread, if at all
abbrev pub GrewBy : ℕ → List Entry → List Entry → Type 0
GrewBy t before after = (new : List Entry) × (after ≡ before ++ new) × All (λ e. e.thread ≡ t) new

-- the cut of a turn from `was` to `value`, after which these are the thread's own entries
abbrev pub cut_of : {V : Type 0} → (V → ℕ) → (V → ℕ) → V → V → List Entry → Cut
cut_of black grey was value own = record { length = length own; scanned = black value - black was; grey = grey value }

-- the seat of a thread that has made no entry
abbrev pub new_seat : TableId → Options → ℕ → SeatShown
new_seat id o t = record { gate = id; options = o; thread = t; own = []; seen = []; cuts = [] }

-- each thread of the gate has a seat among these
abbrev pub HasAllThreads : GateShown → List SeatShown → Type 0
HasAllThreads g seats = (t : ℕ) → Contains g.threads t → Contains (map (λ s. s.thread) seats) t
