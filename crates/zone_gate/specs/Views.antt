-- What the seats of a gate know
use Rattle.std.specs.Prelude.{◌≡◌, ◌⊎◌, ℕ, ◌+◌, Bool, true, false, List, [], ◌∷◌, ◌++◌, length, leb, Option, Some, None}
use Rattle.az_base.specs.declared.options.Options.{Options}
use Rattle.az_base.specs.OptionRanges.{usual_options}
use Rattle.zone_model.specs.declared.entry.Entry.{Entry}
use Rattle.zone_gate.specs.declared.view.View.{View}
use Rattle.zone_gate.specs.declared.view.Owned.{Owned}
use Rattle.zone_gate.specs.Owning.{HasThread}

-- a seat at rest: it has no ticket, and nothing is still to be told
abbrev pub resting : Options → List Entry → List Owned → View
resting o seen own = record { live = true; options = o; seen = seen; untold = []; own = own; ticket = None; holds = false }

-- a seat that another one has taken in: it says nothing
abbrev pub spent : View
spent = record { live = false; options = usual_options; seen = []; untold = []; own = []; ticket = None; holds = false }

-- the first list if the answer is true, and else the second
abbrev pub chosen_list : Bool → List Entry → List Entry → List Entry
chosen_list true xs ys = xs
chosen_list false xs ys = ys

-- the longer of two lists, and the first where they are as long
abbrev pub longer : List Entry → List Entry → List Entry
longer xs ys = chosen_list (leb (length ys) (length xs)) xs ys

-- the other one
abbrev pub shorter : List Entry → List Entry → List Entry
shorter xs ys = chosen_list (leb (length ys) (length xs)) ys xs

-- a seat that has taken in another one, before it is told that the shorter list begins the longer
abbrev pub joined : View → View → View
joined v w = record v { seen = longer v.seen w.seen; untold = shorter v.seen w.seen; own = v.own ++ w.own }

-- one ticket, or none
abbrev pub count_ticket : Option ℕ → ℕ
count_ticket None = 0
count_ticket (Some n) = 1

-- how many tickets a view has: one or none
abbrev pub tickets_in : View → ℕ
tickets_in v = count_ticket v.ticket

-- how many threads it has
abbrev pub threads_in : View → ℕ
threads_in v = length v.own

-- a number of each view, added up
abbrev pub total : (View → ℕ) → List View → ℕ
total f [] = 0
total f (v ∷ vs) = f v + total f vs

-- two views have a thread or a ticket in common
abbrev pub Shares : View → View → Type 0
Shares v w = ((t : ℕ) × HasThread t v.own × HasThread t w.own) ⊎ ((n : ℕ) × (v.ticket ≡ Some n) × (w.ticket ≡ Some n))
