-- Waiting entries of several threads
use Rattle.std.specs.Prelude.{◌≡◌, ◌==◌, ℕ, false, List, [], ◌∷◌, ◌++◌}
use Rattle.zone_model.specs.declared.entry.Entry.{Entry}
use Rattle.zone_model.specs.State.{State}
use Rattle.zone_model.specs.Part.{Part, part_of}
use Rattle.zone_model.specs.LocalSteps.{LocalRun}

-- a thread and its waiting entries
abbrev pub Waiter : Type 0
Waiter = ℕ × List Entry

-- the waiting entries of these threads, one thread after the other
abbrev pub waiting_of : List Waiter → List Entry
waiting_of [] = []
waiting_of (w ∷ ws) = w.1 ++ waiting_of ws

-- none of them is of this thread
abbrev pub Others : ℕ → List Waiter → Type 0
Others t [] = Unit {0}
Others t (w ∷ ws) = ((t == w.0) ≡ false) × Others t ws

-- each thread stands once, and its waiting entries are local from its part on
abbrev pub Waits : State → List Waiter → Type 0
Waits z [] = Unit {0}
Waits z (w ∷ ws) = ((last : Part) × LocalRun (part_of z w.0) w.0 w.1 last) × Others w.0 ws × Waits z ws
