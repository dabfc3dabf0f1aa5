-- A walk along the references of blocks
use Rattle.std.specs.Prelude.{◌≡◌, ℕ, true, false, List, [], ◌∷◌, ◌++◌, map, Option, Some, None, IsTrue, ◌↔◌, ◌⊎◌, slice_get}
use Rattle.std.specs.Option.{option_map_or}
use Rattle.std.specs.FinMap.{FinMap, get, contains_key}
use Rattle.az_base.specs.declared.block_id.BlockId.{BlockId}
use Rattle.az_base.specs.declared.word.Word.{Word}
use Rattle.az_base.specs.Ids.{id_cmp, among}
use Rattle.zone_model.specs.State.{Block, referent}
use Rattle.zone_model.specs.Reach.{WordEdge, Leads}
use Rattle.local_set.specs.Tables.{Distinct}

-- unescaped blocks by id
abbrev pub Map : Type 0
Map = FinMap id_cmp Block

-- to which block each of the words refers
abbrev pub referents_of : List Word → List (Option BlockId)
referents_of ws = map (λ w. referent (Some w)) ws

-- the words of a block; none where it isn't there
abbrev pub words_at : Map → BlockId → List Word
words_at m id = option_map_or (λ b. b.words) (get m id) []

-- the list has the block at its end where it is one of these and wasn't in it
abbrev pub Visits : Map → List BlockId → List BlockId → Option BlockId → Type 0
Visits m old new None = new ≡ old
Visits m old new (Some id) = ((new ≡ old) × (contains_key m id ≡ true → among old id ≡ true)) ⊎ ((new ≡ old ++ id ∷ []) × (contains_key m id ≡ true) × (among old id ≡ false))

-- so it was with each of these blocks, one after another
pub record VisitsAll (m : Map) (old new : List BlockId) (helds : List (Option BlockId)) : Type 0 where
  pub kept : (k : ℕ) (q : BlockId) → slice_get old k ≡ Some q → slice_get new k ≡ Some q
  pub added : (q : BlockId) → among new q ≡ true → (among old q ≡ true) ⊎ ((contains_key m q ≡ true) × (i : ℕ) × (slice_get helds i ≡ Some (Some q)))
  pub closed : (i : ℕ) (q : BlockId) → slice_get helds i ≡ Some (Some q) → contains_key m q ≡ true → among new q ≡ true
  pub stays : (q : BlockId) → among old q ≡ true → among new q ≡ true
  pub distinct : Distinct old → Distinct new

-- a register holds the block
abbrev pub IsIn : List (Option BlockId) → BlockId → Type 0
IsIn registers f = (r : ℕ) × (slice_get registers r ≡ Some (Some f))

-- the list has exactly the blocks that the registers lead to
abbrev pub IsReached : Map → List (Option BlockId) → List BlockId → Type 0
IsReached m registers ids = (q : BlockId) → IsTrue (among ids q) ↔ ((contains_key m q ≡ true) × (f : BlockId) × IsIn registers f × Leads (WordEdge m) f q)
