-- Which threads have ended
use Rattle.std.specs.Prelude.{◌==◌, ℕ, Bool, List}
use Rattle.std.specs.List.{list_any, list_all}
use Rattle.zone_gate.specs.Shown.{SeatShown}

-- one of the seats is of the thread
abbrev pub has_thread : List SeatShown → ℕ → Bool
has_thread seats t = list_any (λ s. s.thread == t) seats

-- each of the threads has one
abbrev pub have_threads : List SeatShown → List ℕ → Bool
have_threads seats ts = list_all (has_thread seats) ts
