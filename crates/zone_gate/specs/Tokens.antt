-- Seats of the table, as the gate has them between two calls
use Rattle.std.specs.Prelude.{◌≡◌, ℕ, List, [], ◌∷◌, Option, None, true}
use Rattle.az_base.specs.declared.options.Options.{Options}
use Rattle.zone_model.specs.declared.entry.Entry.{Entry}
use Rattle.zone_model.specs.History.{entries_of}
use Rattle.atomic_table.specs.Table.{Me}
use Rattle.atomic_table.specs.Seated.{TableId}
use Rattle.atomic_table.specs.declared.shared.Seat.{Seat}
use Rattle.zone_gate.specs.declared.view.View.{View}
use Rattle.zone_gate.specs.declared.view.Owned.{Owned}
use Rattle.zone_gate.specs.Owning.{owned}
use Rattle.zone_gate.specs.Views.{resting, spent}

-- a table with two words and one slot
abbrev pub IsSized : TableId → Type 0
IsSized id = (id.words ≡ 2) × (id.slots ≡ 1)

-- the view of a badge
abbrev pub view_in : List View → View
view_in [] = spent
view_in (v ∷ vs) = v

-- the entries of a map of one thread
abbrev pub entries_in : List Owned → List Entry
entries_in [] = []
entries_in (x ∷ xs) = x.entries

-- it has no ticket and no slot
pub record AtRest {X : Type 0} (me : Me (Option X) View) : Type 0 where
  pub view : me.0 ≡ resting me.0.options me.0.seen me.0.own
  pub slots : me.1 ≡ []

-- it has this one thread
abbrev pub IsOfThread : {X : Type 0} → ℕ → Me (Option X) View → Type 0
IsOfThread t me = me.0.own ≡ owned t (entries_in me.0.own) ∷ []

-- one token, before and after
abbrev pub SameToken : {X : Type 0} → Seat (Option X) View → Seat (Option X) View → Type 0
SameToken p q = (q.table_id ≡ p.table_id) × (q.id ≡ p.id)

-- it has the slot, out of which this value was taken, for this thread
module _ {X : Type 0} (list_of : X → List Entry) (options_of : X → Options) where
  pub record IsOut (thread : ℕ) (was : X) (me : Me (Option X) View) : Type 0 where
    pub live : me.0.live ≡ true
    pub holds : me.0.holds ≡ true
    pub options_are : options_of was ≡ me.0.options
    pub list_is : me.0.seen ≡ list_of was
    pub own : me.0.own ≡ owned thread (entries_in me.0.own) ∷ []
    pub mine : entries_in me.0.own ≡ entries_of thread (list_of was)
    pub slots : me.1 ≡ (0, None) ∷ []
