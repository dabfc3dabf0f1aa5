-- What tables keep that doesn't speak of shades, nor of how many blocks a cycle began with
use Rattle.std.proofs.Common.{◌≡◌, sym, subst}
use Rattle.heap_tables.specs.Unshaded.{unshaded}
use Rattle.heap_tables.specs.declared.tables.Tables.{Tables}
use Rattle.heap_cycle.specs.Collects.{KeepsCards}
use Rattle.heap_cycle.specs.Phases.{at_begin}

-- what is kept of cards doesn't speak of shades
pub cards_unshaded : (a b : Tables) → unshaded b ≡ unshaded a → KeepsCards a → KeepsCards b
cards_unshaded a b same k = of_bare b (subst KeepsCards (sym same) (bare a k))
  where
    bare : (t : Tables) → KeepsCards t → KeepsCards (unshaded t)
    bare t k = record { rooted = k.rooted; covered = k.covered; there = k.there; room = k.room }

    of_bare : (t : Tables) → KeepsCards (unshaded t) → KeepsCards t
    of_bare t k = record { rooted = k.rooted; covered = k.covered; there = k.there; room = k.room }

-- nor of how many blocks a cycle began with
pub cards_begun : (t : Tables) → KeepsCards t → KeepsCards (at_begin t)
cards_begun t k = record { rooted = k.rooted; covered = k.covered; there = k.there; room = k.room }
