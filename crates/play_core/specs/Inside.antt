-- What the fields of a world keep
use Rattle.std.specs.Prelude.{◌≡◌, ◌≤◌, ℕ, List, Some, slice_get}
use Rattle.local_set.specs.LocalSets.{LocalSet}
use Rattle.zone_escape.specs.Cores.{CoreShown, BelongsTo}
use Rattle.play_core.specs.Worlds.{Ascending, threads_in}
use Rattle.play_core.specs.declared.world.World.TheInside.{Inside}

-- each thread has one set, in ascending order, which belongs to the core
pub record Keeps (k : CoreShown) (locals : List LocalSet) : Type 0 where
  pub ascending : Ascending (threads_in locals)
  pub belongs : (at : ℕ) (l : LocalSet) → slice_get locals at ≡ Some l → BelongsTo l k
  pub pending : 1 ≤ k.heap.options.pending

abbrev pub IsWorld : Inside → Type 0
IsWorld w = Keeps w.core w.locals.items
