-- A world in which nothing has happened
use Rattle.std.specs.Prelude.{◌≡◌, ℕ, List, [], ◌∷◌}
use Rattle.az_base.specs.declared.options.Options.{Options}
use Rattle.zone_model.specs.Part.{opening_part}
use Rattle.local_set.specs.LocalSets.{LocalSet}
use Rattle.zone_escape.specs.Cores.{IsUnused}
use Rattle.play_order.specs.Playing.{Seen}

-- nothing was published, and nothing waits
abbrev pub opening_seen : Options → Seen
opening_seen o = record { options = o; queues = record { journal = []; waits = λ t. [] }; parts = λ t. opening_part o }

-- the set of a thread that has done nothing
pub record IsNew (o : Options) (t : ℕ) (l : LocalSet) : Type 0 where
  pub thread : l.thread ≡ t
  pub unused : IsUnused l o

-- the sets of these threads, none of which has done anything
abbrev pub AreNew : Options → List ℕ → List LocalSet → Type 0
AreNew o [] [] = Unit {0}
AreNew o (t ∷ ts) (l ∷ ls) = IsNew o t l × AreNew o ts ls
AreNew o _ _ = ⊥
