-- Who refers to whom, and what is reached from where
use Rattle.std.specs.Prelude.{◌≡◌, ℕ, ◌-◌, ◌<◌, ◌==◌, nat_lt, min, Bool, true, false, List, [], ◌∷◌, Some, slice_get, ◌⊎◌, IsTrue}
use Rattle.std.specs.Option.{option_map_or}
use Rattle.std.specs.FinMap.{FinMap, get}
use Rattle.az_base.specs.declared.block_id.BlockId.{BlockId}
use Rattle.az_base.specs.declared.action.Mode.{Mode}
use Rattle.az_base.specs.declared.action.Mode.TheVariants as mode
use Rattle.az_base.specs.declared.word.Word.TheVariants as word
use Rattle.az_base.specs.Ids.{id_cmp}
use Rattle.zone_model.specs.State.{Zone, Block, since_of, is_unescaped, count_of}

-- a word of a holds b (a Strong one: no other ever holds a block)
abbrev pub WordEdge : FinMap id_cmp Block → BlockId → BlockId → Type 0
WordEdge blocks a b = (block : Block) × (i : ℕ) × (get blocks a ≡ Some block) × (slice_get block.words i ≡ Some (word.Block b))

-- an association with object a has the value b
abbrev pub AssocEdge : {C : Type 0} → Zone C → BlockId → BlockId → Type 0
AssocEdge z a b = (key : ℕ) × (get z.assocs (a, key) ≡ Some b)

-- an edge leads from a to b where a Strong word of a holds b, or an association with object a has the value b
abbrev pub Edge : {C : Type 0} → Zone C → BlockId → BlockId → Type 0
Edge z a b = WordEdge z.blocks a b ⊎ AssocEdge z a b

-- a and the blocks of the list are each joined to the next by an edge, and the last of them is b
abbrev pub Path : (BlockId → BlockId → Type 0) → BlockId → List BlockId → BlockId → Type 0
Path E a [] b = a ≡ b
Path E a (c ∷ more) b = E a c × Path E c more b

-- b stands at the end of a list of edges, possibly empty, that begins at a
abbrev pub Leads : (BlockId → BlockId → Type 0) → BlockId → BlockId → Type 0
Leads E a b = (steps : List BlockId) × Path E a steps b

-- b stands at the end of a list of edges whose first block is one of these
abbrev pub ReachedFrom : {C : Type 0} → Zone C → (BlockId → Type 0) → BlockId → Type 0
ReachedFrom z First b = (a : BlockId) × First a × Leads (Edge z) a b

-- the block is in a register of any thread
abbrev pub InRegister : {C : Type 0} → Zone C → BlockId → Type 0
InRegister z a = (t : ℕ) × (r : ℕ) × (z.registers t r ≡ Some a)

-- the block is in a root
abbrev pub InRoot : {C : Type 0} → Zone C → BlockId → Type 0
InRoot z a = (g : ℕ) × (z.roots g ≡ Some a)

-- the block is in a register, is in a root, or has a positive count
abbrev pub IsHeld : {C : Type 0} → Zone C → BlockId → Type 0
IsHeld z a = InRegister z a ⊎ (InRoot z a ⊎ (0 < count_of z a))

-- a block is live where it is reached from a block that is held
abbrev pub Live : {C : Type 0} → Zone C → BlockId → Type 0
Live z = ReachedFrom z (IsHeld z)

-- the age of a block that escaped when there had been so many Reclaims: those since then, at most 3
abbrev pub age : {C : Type 0} → Zone C → ℕ → ℕ
age z since = min (z.reclaims - since) 3

-- an escaped block is old at age 3
abbrev pub is_old : {C : Type 0} → Zone C → BlockId → Bool
is_old z id = option_map_or (λ since. age z since == 3) (since_of z id) false

-- other escaped blocks are young
abbrev pub is_young : {C : Type 0} → Zone C → BlockId → Bool
is_young z id = option_map_or (λ since. nat_lt (age z since) 3) (since_of z id) false

-- the blocks that anchor for a collection of this mode: those that are held or unescaped, and for a young one the old ones, too
abbrev pub Anchors : {C : Type 0} → Mode → Zone C → BlockId → Type 0
Anchors mode.Full z a = IsHeld z a ⊎ IsTrue (is_unescaped z a)
Anchors mode.Young z a = IsHeld z a ⊎ (IsTrue (is_unescaped z a) ⊎ IsTrue (is_old z a))

-- a block is anchored where it is reached from a block that anchors
abbrev pub AnchoredFor : {C : Type 0} → Mode → Zone C → BlockId → Type 0
AnchoredFor mode z = ReachedFrom z (Anchors mode z)

-- a collection of this mode may take the block: a full one any, a young one a young block
abbrev pub in_scope : {C : Type 0} → Mode → Zone C → BlockId → Bool
in_scope mode.Full z id = true
in_scope mode.Young z id = is_young z id
