-- Threads with their entries: the maps that views have, as lists
use Rattle.az_base.specs.declared.numbers.TheConstants.{MOST_THREADS}
use Rattle.std.specs.Prelude.{◌≡◌, ◌⊎◌, ⊤, ℕ, List, [], ◌∷◌, map}
use Rattle.zone_model.specs.declared.entry.Entry.{Entry}
use Rattle.zone_model.specs.History.{entries_of}
use Rattle.zone_gate.specs.declared.view.Owned.{Owned}

-- how many threads a gate has at most
abbrev pub most_threads : ℕ
most_threads = MOST_THREADS

-- a thread with its entries
abbrev pub owned : ℕ → List Entry → Owned
owned t es = record { thread = t; entries = es }

-- the thread is one of the map's
abbrev pub HasThread : ℕ → List Owned → Type 0
HasThread t [] = ⊥
HasThread t (x ∷ xs) = (x.thread ≡ t) ⊎ HasThread t xs

-- this thread with these entries is in the map
abbrev pub Has : Owned → List Owned → Type 0
Has x [] = ⊥
Has x (y ∷ ys) = (y ≡ x) ⊎ Has x ys

-- no thread is twice in the map
abbrev pub Distinct : List Owned → Type 0
Distinct [] = ⊤
Distinct (x ∷ xs) = ¬ HasThread x.thread xs × Distinct xs

-- the map gives each of its threads that thread's entries in the list
abbrev pub OwnIn : List Entry → List Owned → Type 0
OwnIn list [] = ⊤
OwnIn list (x ∷ xs) = (x.entries ≡ entries_of x.thread list) × OwnIn list xs

-- the map of threads none of which has made an entry
abbrev pub fresh : List ℕ → List Owned
fresh ts = map (λ t. owned t []) ts

-- the first thread of a map
abbrev pub first_only : List Owned → List Owned
first_only [] = []
first_only (x ∷ xs) = x ∷ []

-- the others
abbrev pub after_first : List Owned → List Owned
after_first [] = []
after_first (x ∷ xs) = xs
