-- What a collection of a session does
use Rattle.std.specs.Prelude.{◌≡◌, ◌≤◌, ◌<◌, ◌+◌, zero, suc, ⊤, ℕ, Bool, true, false, List, [], ◌∷◌, ◌++◌, length, map, replicate}
use mathlib.Core.List.{IsPrefix}
use Rattle.az_base.specs.declared.action.Mode.{Mode}
use Rattle.zone_model.specs.declared.act.Act.TheVariants as act
use Rattle.zone_model.specs.declared.call.Call.{Call}
use Rattle.zone_model.specs.declared.call.Call.TheVariants as call
use Rattle.zone_model.specs.declared.entry.Entry.{Entry}
use Rattle.zone_model.specs.declared.entry.Reply.{Reply}
use Rattle.zone_model.specs.declared.entry.Reply.TheVariants as reply
use Rattle.zone_model.specs.History.{calls_of, IsGroup}
use Rattle.zone_model.specs.Part.{Solo}
use Rattle.zone_gate.specs.declared.cut.Cut.{Cut}
use Rattle.zone_gate.specs.Shown.{SeatShown}
use Rattle.local_set.specs.LocalSets.{LocalSet, part_in}
use Rattle.local_set.specs.Calls.{entry_of}
use Rattle.auto_zone.specs.Stages.{IsSettled}
use Rattle.auto_zone.specs.Sessions.{SamePlace}

-- a hold with so many own entries, in which at most `budget` blocks were scanned
abbrev pub IsSlice : ℕ → ℕ → Cut → Type 0
IsSlice n budget x = (x.length ≡ n) × (x.scanned ≤ budget)

abbrev pub Greyless : Bool → Cut → Type 0
Greyless true x = x.grey ≡ 0
Greyless false x = ⊤

-- slices, at least one; where marking is done, no block is grey at the last
abbrev pub Slices : ℕ → ℕ → Bool → List Cut → Type 0
Slices n budget done [] = ⊥
Slices n budget done (x ∷ []) = IsSlice n budget x × Greyless done x
Slices n budget done (x ∷ y ∷ ys) = IsSlice n budget x × Slices n budget done (y ∷ ys)

-- the numbers from n on, so many
abbrev pub from_on : ℕ → ℕ → List ℕ
from_on n zero = []
from_on n (suc k) = n ∷ from_on (n + 1) k

-- the lengths of cuts
abbrev pub lengths : List Cut → List ℕ
lengths xs = map (λ (x : Cut). x.length) xs

-- a stretch of a session's way: what was published, and the cuts
pub record Went (s u : SeatShown) (es : List Entry) (xs : List Cut) : Type 0 where
  pub place : SamePlace s u
  pub own : u.own ≡ s.own ++ es
  pub begins : IsPrefix s.seen u.seen
  pub cuts : u.cuts ≡ s.cuts ++ xs

-- one hold without an entry, in which the marker made a slice
abbrev pub OneSlice : SeatShown → SeatShown → ℕ → Bool → Type 0
OneSlice s u budget done = (x : Cut) × Went s u [] (x ∷ []) × IsSlice (length s.own) budget x × Greyless done x

abbrev pub NewSlices : SeatShown → SeatShown → ℕ → Bool → Type 0
NewSlices s u budget done = (xs : List Cut) × Went s u [] xs × Slices (length s.own) budget done xs

-- the cut of a Begin that was answered Begun scanned nothing
abbrev pub IsNarrow : Bool → SeatShown → SeatShown → Type 0
IsNarrow begun s u = begun ≡ true → (x : Cut) × (u.cuts ≡ s.cuts ++ x ∷ []) × (x.length ≡ length u.own) × (x.scanned ≡ 0)

-- holds with one entry each, of these calls in their order
pub record Steps (s u : SeatShown) (cs : List Call) : Type 0 where
  pub entries : List Entry
  pub cuts : List Cut
  pub went : Went s u entries cuts
  pub calls : calls_of entries ≡ cs
  pub lengths_are : lengths cuts ≡ from_on (length s.own + 1) (length cs)

-- the rest of a collection that has begun: its slices, and then its other entries
pub record Closes (s u : SeatShown) (budget : ℕ) (r : Reply) : Type 0 where
  pub left : ℕ
  pub more : List Entry
  pub first : List Cut
  pub rest : List Cut
  pub went : Went s u more (first ++ rest)
  pub calls : calls_of more ≡ call.Condemn ∷ replicate left call.Finalise ++ call.Reclaim ∷ []
  pub slices : Slices (length s.own) budget true first
  pub lengths_are : lengths rest ≡ from_on (length s.own + 1) (length more)
  pub ends : (front back : List Entry) × (u.seen ≡ front ++ entry_of s.thread call.Reclaim r ∷ []) × (more ≡ back ++ entry_of s.thread call.Reclaim r ∷ [])
  pub settled : IsSettled r

-- Turns: the cuts of a collection that settled, with b entries before it and n in its group. `begun` is the hold of Begin,
-- and `first` are the slices
pub record Turns (s u : SeatShown) (b n budget : ℕ) : Type 0 where
  pub begun : Cut
  pub first : List Cut
  pub rest : List Cut
  pub cuts : u.cuts ≡ s.cuts ++ (begun ∷ (first ++ rest))
  pub begin : IsSlice (b + 1) budget begun
  pub slices : Slices (b + 1) budget true first
  pub steps : (k : ℕ) × (k + 1 ≡ n) × (lengths rest ≡ from_on (b + 2) k)

-- and of one that was refused
abbrev pub OneTurn : SeatShown → SeatShown → ℕ → Type 0
OneTurn s u b = (x : Cut) × (u.cuts ≡ s.cuts ++ x ∷ []) × (x.length ≡ b + 1)

-- what the cuts are, by the reply
abbrev pub TurnsOf : SeatShown → SeatShown → ℕ → ℕ → ℕ → Reply → Type 0
TurnsOf s u b n budget reply.Busy = OneTurn s u b
TurnsOf s u b n budget (reply.Settled gone kept) = Turns s u b n budget
TurnsOf s u b n budget _ = ⊥

-- each cut ends with an entry of the group
abbrev pub PlacesIn : ℕ → ℕ → List Cut → Type 0
PlacesIn b n [] = ⊤
PlacesIn b n (x ∷ xs) = (b < x.length) × (x.length ≤ b + n) × PlacesIn b n xs

-- the length of the last cut
abbrev pub last_of : ℕ → List Cut → ℕ
last_of m [] = m
last_of m (x ∷ xs) = last_of x.length xs

-- a collection was made, or was refused since another is open
pub record Collected (s u : SeatShown) (l m : LocalSet) (mode : Mode) (budget : ℕ) (r : Reply) : Type 0 where
  pub group : List Entry
  pub is_group : IsGroup (act.Collect mode) group
  pub own : u.own ≡ (s.own ++ l.waiting) ++ group
  pub out : m.waiting ≡ []
  pub begins : IsPrefix s.seen u.seen
  -- what was seen ends with the last entry of the group, whose reply is the answer
  pub ends : (front back : List Entry) × (c : Call) × (u.seen ≡ front ++ entry_of s.thread c r ∷ []) × (group ≡ back ++ entry_of s.thread c r ∷ [])
  -- at least one cut, each at an entry of the group, the last at its end
  pub cuts : (x : Cut) × (xs : List Cut) × (u.cuts ≡ s.cuts ++ (x ∷ xs)) × PlacesIn (length (s.own ++ l.waiting)) (length group) (x ∷ xs) × (last_of x.length xs ≡ length u.own)
  pub turns : TurnsOf s u (length (s.own ++ l.waiting)) (length group) budget r
  -- the part at which it began, and the part at its end, are those of the thread's own entries alone
  pub solo : Solo s.options (s.own ++ l.waiting) (part_in l)
  pub solo_after : Solo s.options u.own (part_in m)
