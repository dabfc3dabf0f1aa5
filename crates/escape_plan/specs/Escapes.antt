-- What an escape makes of a thread's own set and a heap
use Rattle.std.specs.Prelude.{◌≡◌, ◌<◌, ◌⊎◌, ℕ, Bool, not, Option, Some, IfSome, if◌then◌else◌, option_map}
use Rattle.az_base.specs.declared.block_id.BlockId.{BlockId}
use Rattle.zone_model.specs.Escape.{Tells, EscOf, with_escaped}
use Rattle.zone_model.specs.Misuses.{is_overfull}
use Rattle.zone_model.specs.Quanta.{quanta_needed}
use Rattle.zone_model.specs.Sound.{Knows}
use Rattle.zone_model.specs.State.{State}
use Rattle.heap_cycle.specs.Livening.{unshaded}
use Rattle.shared_heap.specs.Ready.{Ready}
use Rattle.shared_heap.specs.Shared.{Shared}
use Rattle.local_set.specs.LocalSets.{LocalSet}
use Rattle.escape_plan.specs.Together.{Together}

-- the thread knows the block, if there is one
abbrev pub IsKnown : State → ℕ → Option BlockId → Type 0
IsKnown z t v = (b : BlockId) → v ≡ Some b → Knows z t b

-- what the two blocks lead to has escaped, where it fits (`fit`); where it doesn't, nothing has
abbrev pub Escapes : LocalSet → LocalSet → Shared → Shared → Option BlockId → Option BlockId → Bool → Type 0
Escapes l m h k object value fit = (z : State) → Together l h z → IsKnown z l.thread object → IsKnown z l.thread value
    → (need : BlockId → Bool) × Tells need (λ c. EscOf z object c ⊎ EscOf z value c) × (is_overfull z (quanta_needed z need) ≡ not fit)
    × Together m k (if fit then with_escaped z need else z)

-- an escape changes the blocks of a set, and what is noted of its holds, and nothing else
abbrev pub KeepsRest : LocalSet → LocalSet → Type 0
KeepsRest l m = m ≡ record l { blocks = m.blocks; published = m.published; changed = m.changed }

-- of the open cycle nothing but the shades has changed
abbrev pub KeepsCycle : Shared → Shared → Type 0
KeepsCycle h k = option_map unshaded k.gc.cycle ≡ option_map unshaded h.gc.cycle

-- the heap has room for one more count, for an association of the object and for a weak location that shows the value
pub record HasRoom (r : Ready) (a v : Option BlockId) : Type 0 where
  pub counts : 0 < r.counts
  pub object : IfSome a (λ b. r.object ≡ Some b)
  pub value : IfSome v (λ b. r.value ≡ Some b)
