-- What escapes at a call
-- A block is first known to its thread alone. Where a reference to it becomes visible to others it escapes, and with it
-- all that it leads to: so no escaped block refers to one that has not escaped.
use Rattle.std.specs.Prelude.{ℕ, Bool, List, Option, Some, None, if◌then◌else◌, IsTrue, ◌↔◌, ◌⊎◌}
use Rattle.az_base.specs.declared.block_id.BlockId.{BlockId}
use Rattle.az_base.specs.Ids.{id_cmp, among}
use Rattle.zone_model.specs.declared.call.Call.{Call}
use Rattle.zone_model.specs.declared.call.Call.TheVariants as call
use Rattle.zone_model.specs.declared.call.Loc.{Loc}
use Rattle.zone_model.specs.declared.call.Loc.TheVariants as loc
use Rattle.zone_model.specs.Maps.{map_values}
use Rattle.zone_model.specs.State.{State, is_escaped, is_unescaped}
use Rattle.zone_model.specs.Reach.{Edge, Leads}

-- the unescaped blocks at the end of a list of edges that begins at b, b itself included where it is unescaped
abbrev pub Esc : State → BlockId → BlockId → Type 0
Esc z b c = IsTrue (is_unescaped z c) × Leads (Edge z) b c

-- those of all blocks of a list
abbrev pub EscFrom : State → List BlockId → BlockId → Type 0
EscFrom z first c = (b : BlockId) × IsTrue (among first b) × Esc z b c

-- those of the block, if there is one
abbrev pub EscOf : State → Option BlockId → BlockId → Type 0
EscOf z None c = ⊥
EscOf z (Some b) c = Esc z b c

-- there is a block, and it has escaped
abbrev pub HoldsEscaped : State → Option BlockId → Type 0
HoldsEscaped z None = ⊥
HoldsEscaped z (Some a) = IsTrue (is_escaped z a)

-- the block whose word a weak call names
abbrev pub block_named : State → ℕ → Loc → Option BlockId
block_named z t (loc.Root w) = None
block_named z t (loc.Word a at) = z.registers t a

-- the blocks that the call makes escape
abbrev pub Need : State → ℕ → Call → BlockId → Type 0
Need z t (call.Store into at from) c = HoldsEscaped z (z.registers t into) × EscOf z (z.registers t from) c
Need z t (call.SetRoot root from) c = EscOf z (z.registers t from) c
Need z t (call.Retain reg) c = EscOf z (z.registers t reg) c
Need z t (call.SetAssoc object key value) c = EscOf z (z.registers t object) c ⊎ EscOf z (z.registers t value) c
Need z t (call.SetWeak loc from) c = EscOf z (z.registers t from) c ⊎ EscOf z (block_named z t loc) c
Need z t _ c = ⊥

-- a test that says which blocks these are
abbrev pub Tells : (BlockId → Bool) → (BlockId → Type 0) → Type 0
Tells test P = (id : BlockId) → IsTrue (test id) ↔ P id

-- these blocks become escaped
abbrev pub with_escaped : State → (BlockId → Bool) → State
with_escaped z need = record z { blocks = map_values id_cmp (λ id b. if need id then record b { since = Some z.reclaims } else b) z.blocks }
