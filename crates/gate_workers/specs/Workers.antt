-- What workers leave
use Rattle.std.specs.Prelude.{◌≡◌, ⊤, ℕ, zero, suc, List, [], ◌∷◌, ◌++◌, Result, Ok, Err, map}
use Rattle.zone_model.specs.declared.call.Call.TheVariants as call
use Rattle.zone_model.specs.declared.entry.Reply.TheVariants as reply
use Rattle.zone_model.specs.declared.entry.Entry.{Entry}
use Rattle.zone_model.specs.History.{entries_of}
use Rattle.zone_gate.specs.Shown.{GateShown, SeatShown, IsSeatOf}
use Rattle.gate_workers.specs.declared.worker.Job.{Job}

-- the entries of a thread that writes these lines
abbrev pub written : ℕ → List ℕ → List Entry
written t lines = map (λ n. record { thread = t; call = call.Stats; reply = reply.Number n }) lines

-- the numbers 1 to `n`
abbrev pub first_numbers : ℕ → List ℕ
first_numbers zero = []
first_numbers (suc n) = first_numbers n ++ suc n ∷ []

-- what a worker leaves of its job: the seat, with the lines behind its own entries
abbrev pub Does : {E : Type 0} → GateShown → Job → Result SeatShown E → Type 0
Does g j (Ok s) = IsSeatOf g s × (s.thread ≡ j.seat.thread) × (s.own ≡ j.seat.own ++ written j.seat.thread j.lines.items)
Does g j (Err e) = ⊤

-- each of these is what a worker leaves of the job at its place
abbrev pub EachDoes : {E : Type 0} → GateShown → List Job → List (Result SeatShown E) → Type 0
EachDoes g [] [] = ⊤
EachDoes g [] (r ∷ rs) = ⊥
EachDoes g (j ∷ js) [] = ⊥
EachDoes g (j ∷ js) (r ∷ rs) = Does g j r × EachDoes g js rs

-- the list has of each thread its own lines, once and in order
abbrev pub HoldsLines : {A : Type 0} → (A → List ℕ) → List ℕ → List A → List Entry → Type 0
HoldsLines items [] lines list = ⊤
HoldsLines items (t ∷ ts) [] list = ⊤
HoldsLines items (t ∷ ts) (l ∷ ls) list = (entries_of t list ≡ written t (items l)) × HoldsLines items ts ls list
