-- What a thread's work is
use Rattle.std.specs.Prelude.{◌≡◌, ◌≤◌, ◌+◌, ◌⊎◌, ⊤, ℕ, false, List, [], ◌∷◌, ◌++◌, length, map}
use mathlib.Core.List.{IsPrefix}
use Rattle.az_base.specs.declared.options.Options.{Options}
use Rattle.zone_model.specs.declared.act.Act.{Act}
use Rattle.zone_model.specs.declared.entry.Entry.{Entry}
use Rattle.zone_model.specs.History.{IsGroup, Matches}
use Rattle.zone_model.specs.Part.{Part, Solo, is_local}
use Rattle.zone_gate.specs.declared.cut.Cut.{Cut}
use Rattle.zone_gate.specs.Shown.{SeatShown}
use Rattle.local_set.specs.LocalSets.{LocalSet}
use Rattle.heap_script.specs.declared.line.Line.{Line}
use Rattle.auto_zone.specs.Sessions.{SamePlace}

-- what lines ask for
abbrev pub acts_of : List Line → List Act
acts_of lines = map (λ (line : Line). line.act) lines

-- the n-th own entry, counted from 1, is a call that isn't local at the part before it
abbrev pub SharedAt : Options → List Entry → ℕ → Type 0
SharedAt o own n = (front : List Entry) × (e : Entry) × (rest : List Entry) × (p : Part) × (own ≡ front ++ e ∷ rest) × (length front + 1 ≡ n) × Solo o front p × (is_local p e.call ≡ false)

-- each cut ends with such an entry, or follows the one before it by at least as many entries as may wait
abbrev pub CutsFit : Options → List Entry → ℕ → List Cut → Type 0
CutsFit o own m [] = ⊤
CutsFit o own m (x ∷ xs) = (SharedAt o own x.length ⊎ (m + o.pending ≤ x.length)) × CutsFit o own x.length xs

-- the length of the last cut
abbrev pub last_length : ℕ → List Cut → ℕ
last_length m [] = m
last_length m (x ∷ xs) = last_length x.length xs

-- the cuts that followed
abbrev pub NewCuts : SeatShown → SeatShown → Type 0
NewCuts s u = (xs : List Cut) × (u.cuts ≡ s.cuts ++ xs) × CutsFit s.options u.own (length s.own) xs × (last_length (length s.own) xs ≡ length u.own)

-- the entries are, in order, one group for each line
abbrev pub Groups : List Entry → List Act → Type 0
Groups es [] = es ≡ []
Groups es (a ∷ acts) = (group : List Entry) × (rest : List Entry) × (es ≡ group ++ rest) × IsGroup a group × Groups rest acts

-- a session has done these lines, each once and in their order
pub record Lines (s u : SeatShown) (l m : LocalSet) (acts : List Act) : Type 0 where
  pub place : SamePlace s u
  pub entries : List Entry
  pub groups : Groups entries acts
  pub own : u.own ++ m.waiting ≡ (s.own ++ l.waiting) ++ entries
  pub grows : IsPrefix s.own u.own
  pub begins : IsPrefix s.seen u.seen
  pub cuts : NewCuts s u

-- and has done no more than a front of them before memory ran out
pub record Stopped (s u : SeatShown) (l m : LocalSet) (acts : List Act) : Type 0 where
  pub place : SamePlace s u
  pub front : List Act
  pub rest : List Act
  pub parts : acts ≡ front ++ rest
  pub entries : List Entry
  pub groups : Groups entries front
  pub own : u.own ++ m.waiting ≡ (s.own ++ l.waiting) ++ entries
  pub begins : IsPrefix s.seen u.seen

-- and has left
pub record Worked (s u : SeatShown) (l : LocalSet) (acts : List Act) : Type 0 where
  pub place : SamePlace s u
  pub entries : List Entry
  pub matches : Matches entries acts
  pub own : u.own ≡ (s.own ++ l.waiting) ++ entries
  pub begins : IsPrefix s.seen u.seen
  pub cuts : NewCuts s u
