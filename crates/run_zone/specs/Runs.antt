-- What workers do
use Rattle.std.specs.Prelude.{◌≡◌, ◌==◌, ⊤, List, [], ◌∷◌, Result, Ok, Err, filter}
use Rattle.heap_script.specs.declared.line.Line.{Line}
use Rattle.heap_script.specs.Scripts.{AllNamed}
use Rattle.zone_gate.specs.Shown.{GateShown, IsSeatOf, SeatShown}
use Rattle.run_zone.specs.Works.{acts_of, Worked}
use Rattle.run_zone.specs.declared.job.Job.{Job}

-- the job has the lines of its thread
abbrev pub IsDealt : List Line → Job → Type 0
IsDealt lines j = j.lines.items ≡ filter (λ line. line.thread == j.session.seat.thread) lines

-- a job of this zone that can be done
abbrev pub CanDo : GateShown → Job → Type 0
CanDo z j = IsSeatOf z j.session.seat × AllNamed j.lines.items

-- what a worker leaves of its job
abbrev pub Does : {E : Type 0} → Job → Result SeatShown E → Type 0
Does j (Ok s) = Worked j.session.seat s j.session.local (acts_of j.lines.items)
Does j (Err e) = ⊤

-- each of these is what a worker leaves of the job at its place
abbrev pub EachDoes : {E : Type 0} → List Job → List (Result SeatShown E) → Type 0
EachDoes [] [] = ⊤
EachDoes [] (r ∷ rs) = ⊥
EachDoes (j ∷ js) [] = ⊥
EachDoes (j ∷ js) (r ∷ rs) = Does j r × EachDoes js rs
