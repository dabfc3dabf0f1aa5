-- What each kind of step tells the seat that makes it: of the step, what the seat knew and had, the number found, and what it
-- knows and has then
use Rattle.std.specs.Prelude.{◌≡◌, ◌≢◌, ℕ, List, [], ◌∷◌, Option, Some, None, true}
use mathlib.Core.List.{IsPrefix}
use Rattle.az_base.specs.declared.options.Options.{Options}
use Rattle.zone_model.specs.declared.entry.Entry.{Entry}
use Rattle.zone_model.specs.History.{entries_of}
use Rattle.atomic_table.specs.Table.{Step, Me}
use Rattle.zone_gate.specs.declared.view.View.{View}
use Rattle.zone_gate.specs.Owning.{OwnIn, owned}
use Rattle.zone_gate.specs.Views.{resting}

-- the seat with this ticket
abbrev pub waiting : View → ℕ → View
waiting v n = record v { ticket = Some n }

-- the seat with the slot, at this list
abbrev pub holding : View → List Entry → View
holding v list = record v { seen = list; holds = true }

module _ {X : Type 0} (list_of : X → List Entry) (options_of : X → Options) where
  abbrev pub M : Type 0
  M = Me (Option X) View

  -- draw: the seat gets the ticket that was found
  abbrev pub Draws : Step (Option X) → M → ℕ → M → Type 0
  Draws step m found m' = m' ≡ (waiting m.0 found, m.1)

  -- the slot was taken: the list of its value begins with what was seen, and has the seat's own entries
  pub record Taken (m m' : M) : Type 0 where
    pub value : X
    pub view : m'.0 ≡ holding m.0 (list_of value)
    pub slots : m'.1 ≡ (0, Some value) ∷ m.1
    pub begins : IsPrefix m.0.seen (list_of value)
    pub own : OwnIn (list_of value) m.0.own
    pub options_are : m.0.live ≡ true → options_of value ≡ m.0.options

  -- the seat was told: of two lists that it joined the shorter begins the longer, and its own entries are those in that one
  pub record Told (m m' : M) : Type 0 where
    pub view : m' ≡ (record m.0 { untold = [] }, m.1)
    pub begins : IsPrefix m.0.untold m.0.seen
    pub own : OwnIn m.0.seen m.0.own

  -- look: a seat with a ticket takes the slot where that is served; one without is told what it has joined
  abbrev pub Looks : Step (Option X) → M → ℕ → M → Type 0
  Looks step m found m' = ((n : ℕ) → m.0.ticket ≡ Some n → (found ≡ n → Taken m m') × (found ≢ n → m' ≡ m))
      × (m.0.ticket ≡ None → Told m m')

  -- give back: the slot goes home, what was seen is the value's list, and the thread's own entries are those in it
  abbrev pub GivesBack : Step (Option X) → M → ℕ → M → Type 0
  GivesBack step m found m' = (y : X) (t : ℕ) (es : List Entry) → m.1 ≡ (0, Some y) ∷ [] → m.0.own ≡ owned t es ∷ []
      → m' ≡ (resting m.0.options (list_of y) (owned t (entries_of t (list_of y)) ∷ []), [])
