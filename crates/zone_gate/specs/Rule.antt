-- The rule of the gate's table: what holds between any two atomic steps, whoever makes them
use Rattle.std.specs.Prelude.{◌≡◌, ◌⊎◌, ◌≤◌, ◌<◌, ◌^◌, ◌%◌, ℕ, ◌+◌, true, List, [], ◌∷◌, Option, Some, All, Contains}
use mathlib.Core.Option.{some, none}
use mathlib.Core.Option as maybe
use mathlib.Core.List.{IsPrefix}
use lib.ListN.{get_elem?}
use Rattle.az_base.specs.declared.options.Options.{Options}
use Rattle.zone_model.specs.declared.entry.Entry.{Entry}
use Rattle.atomic_table.specs.Table.{State}
use Rattle.zone_gate.specs.declared.view.View.{View}
use Rattle.zone_gate.specs.Owning.{HasThread, Distinct, OwnIn, most_threads}
use Rattle.zone_gate.specs.Views.{Shares, tickets_in, threads_in, total}

-- the words `ticket` and `serving`, where so many tickets are out
abbrev pub words_at : ℕ → ℕ → List ℕ
words_at serving out = (serving + out) % 2 ^ 64 ∷ serving ∷ []

-- the ticket is one of so many from `serving` on
abbrev pub IsOneFrom : ℕ → ℕ → ℕ → Type 0
IsOneFrom serving out n = (k : ℕ) × (k < out) × (n ≡ (serving + k) % 2 ^ 64)

-- what a view says is so, where this is the gate's list, and so many tickets are out
pub record Fits (options : Options) (threads : List ℕ) (list : List Entry) (serving out : ℕ) (v : View) : Type 0 where
  -- its options are the gate's
  pub options_are : v.live ≡ true → v.options ≡ options
  -- what it has seen begins the list, and what it hasn't been told of begins that
  pub seen : IsPrefix v.seen list
  pub untold : IsPrefix v.untold v.seen
  -- the entries of its threads are all that the list has of them, and it has seen these
  pub own : OwnIn list v.own
  pub own_seen : OwnIn v.seen v.own
  -- its threads are threads of the gate, none twice
  pub distinct : Distinct v.own
  pub listed : (t : ℕ) → HasThread t v.own → Contains threads t
  -- a view with a ticket has a thread, and its ticket is one of those that are out
  pub waits : (n : ℕ) → v.ticket ≡ Some n → (0 < threads_in v) × IsOneFrom serving out n
  -- who has the slot has the ticket that is served, and has seen the whole list
  pub holder : v.holds ≡ true → (v.ticket ≡ Some serving) × (v.seen ≡ list)

-- no two views have a thread or a ticket in common
abbrev pub Apart : List View → Type 0
Apart views = (i j : ℕ) (v w : View) → get_elem? views i ≡ some v → get_elem? views j ≡ some w → Shares v w → i ≡ j

-- what each slot has at home, where no seat has it out
abbrev pub Homes : Type 0 → Type 0
Homes X = List (maybe.Option (Option X))

module _ {X : Type 0} where
  -- the slot is out with a seat that holds it
  pub record Away (homes : Homes X) (views : List View) : Type 0 where
    pub at : get_elem? homes 0 ≡ some none
    pub id : ℕ
    pub view : View
    pub there : get_elem? views id ≡ some view
    pub holds : view.holds ≡ true

module _ {X : Type 0} (list_of : X → List Entry) (options_of : X → Options) where
  -- the slot is at home, and its value has this list and these options
  pub record Home (options : Options) (list : List Entry) (homes : Homes X) : Type 0 where
    pub value : X
    pub at : get_elem? homes 0 ≡ some (some (Some value))
    pub list_is : list_of value ≡ list
    pub options_are : options_of value ≡ options

  -- there is one list, that of the value at home or else what the holder saw, and each view fits it
  pub record RuleHolds (options : Options) (threads : List ℕ) (s : State (Option X) View) : Type 0 where
    pub list : List Entry
    pub serving : ℕ
    pub low : serving < 2 ^ 64
    -- the words are that far apart as tickets are out
    pub words : s.words ≡ words_at serving (total tickets_in s.views)
    pub each : (id : ℕ) (v : View) → get_elem? s.views id ≡ some v → Fits options threads list serving (total tickets_in s.views) v
    pub apart : Apart s.views
    -- all views together have no more threads than a gate may have, so no more tickets are out
    pub few : total threads_in s.views ≤ most_threads
    -- each entry names a thread of the gate
    pub named : All (λ e. Contains threads e.thread) list
    pub slot : Home options list s.homes ⊎ Away s.homes s.views
