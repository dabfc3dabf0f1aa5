-- Plans of escapes: which blocks escape together, and whether they fit
use Rattle.std.specs.Prelude.{◌≡◌, ◌≤◌, ◌<◌, ◌+◌, ℕ, true, List, [], ◌∷◌, Option, Some, None, IsTrue, map}
use Rattle.std.specs.Option.{option_map_or}
use Rattle.std.specs.FinMap.{FinMap, get}
use Rattle.std.specs.List.Sorted.{IsStrictlySortedBy}
use Rattle.az_base.specs.declared.block_id.BlockId.{BlockId}
use Rattle.az_base.specs.Ids.{id_cmp, among}
use Rattle.block_layouts.specs.Layouts.{len_of, quanta}
use Rattle.zone_model.specs.State.{Block}
use Rattle.zone_model.specs.Reach.{WordEdge}
use Rattle.zone_model.specs.Part.{Part, EscWithin, is_in}
use Rattle.block_table.specs.Table.{used_by}
use Rattle.shared_heap.specs.Shared.{Shared}

-- what a plan is seen as: the ids of its blocks, ascending, and the quanta of these
pub record Plan : Type 0 where
  pub ids : List BlockId
  pub quanta : ℕ

-- the length of a block in words, and its quanta; 0 where it isn't there
abbrev pub length_at : FinMap id_cmp Block → BlockId → ℕ
length_at m id = option_map_or (λ b. len_of b.layout) (get m id) 0

abbrev pub quanta_at : FinMap id_cmp Block → BlockId → ℕ
quanta_at m id = option_map_or (λ b. quanta (len_of b.layout)) (get m id) 0

-- the lengths of the blocks, in their order
abbrev pub lengths_of : FinMap id_cmp Block → List BlockId → List ℕ
lengths_of m ids = map (length_at m) ids

-- the quanta of the blocks
abbrev pub sum_of : FinMap id_cmp Block → List BlockId → ℕ
sum_of m [] = 0
sum_of m (id ∷ ids) = quanta_at m id + sum_of m ids

-- the blocks of the part to which these lead
abbrev pub LedFrom : Part → List BlockId → BlockId → Type 0
LedFrom p first c = (b : BlockId) × IsTrue (among first b) × EscWithin p (Some b) c

-- the plan's quanta fit into the heap
abbrev pub PlanFits : Plan → Shared → Type 0
PlanFits plan h = used_by h.blocks + plan.quanta ≤ h.options.heap_quanta

-- what is planned where these blocks are to escape: where it fits, it is all to which they lead
pub record Plans (p : Part) (first : List BlockId) (h : Shared) (plan : Plan) : Type 0 where
  pub ascending : IsStrictlySortedBy id_cmp plan.ids
  pub quanta : plan.quanta ≡ sum_of p.blocks plan.ids
  pub led : (c : BlockId) → among plan.ids c ≡ true → LedFrom p first c
  pub whole : PlanFits plan h → (c : BlockId) → LedFrom p first c → among plan.ids c ≡ true

-- the plan's blocks are unescaped ones of the part, with all to which they lead, and their quanta are the plan's
pub record IsWhole (p : Part) (plan : Plan) : Type 0 where
  pub ascending : IsStrictlySortedBy id_cmp plan.ids
  pub quanta : plan.quanta ≡ sum_of p.blocks plan.ids
  pub own : (c : BlockId) → among plan.ids c ≡ true → is_in p c ≡ true
  pub closed : (a b : BlockId) → among plan.ids a ≡ true → WordEdge p.blocks a b → is_in p b ≡ true → among plan.ids b ≡ true

-- the blocks that are there
abbrev pub firsts : Option BlockId → Option BlockId → List BlockId
firsts None None = []
firsts None (Some v) = v ∷ []
firsts (Some a) None = a ∷ []
firsts (Some a) (Some v) = a ∷ v ∷ []
