-- How the counts of references change
use Rattle.std.specs.Prelude.{◌≡◌, ◌<◌, ◌≤◌, ℕ, ◌+◌, true, List, [], ◌∷◌, ◌++◌, Option, Some, None, MatchOption, filter_map}
use Rattle.az_base.specs.declared.block_id.BlockId.{BlockId}
use Rattle.az_base.specs.declared.word.Word.{Word}
use Rattle.retain_table.specs.Counted.{count_of}
use Rattle.zone_model.specs.State.{referent}
use Rattle.zone_model.specs.Quanta.{quanta_where}
use Rattle.local_set.specs.LocalSets.{blocks_of}
use Rattle.zone_model.specs.Holds.{one_if, word_holds}
use Rattle.local_set.specs.declared.references.References.{References}
use Rattle.local_set.specs.declared.blocks.Blocks.TheInside.{Inside}

-- how many words refer to the block, as counted
abbrev pub count_in : References → BlockId → ℕ
count_in r q = count_of r.counts.counts q

-- the block, if there is one, is counted
abbrev pub IsCounted : References → Option BlockId → Type 0
IsCounted r held = MatchOption held (Unit {0}) (λ b. 0 < count_in r b)

-- the block, if there is one
abbrev pub list_of : Option BlockId → List BlockId
list_of None = []
list_of (Some b) = b ∷ []

-- the blocks to which the words refer
abbrev pub referents : List Word → List BlockId
referents ws = filter_map (λ w. referent (Some w)) ws

-- nothing has changed but the room
abbrev pub SameCounts : References → References → Type 0
SameCounts old new = (new.counts.counts ≡ old.counts.counts) × (new.changed.items ≡ old.changed.items)

-- a word refers to another block, or to none
pub record Replaced (old new : References) (from to : Option BlockId) : Type 0 where
  pub counts : (q : BlockId) → count_in new q + one_if q from ≡ count_in old q + one_if q to
  pub changed : new.changed.items ≡ old.changed.items ++ list_of from ++ list_of to

-- no count is above the words that a thread's unescaped blocks may have, with one more while a store is under way
abbrev pub IsBounded : References → Type 0
IsBounded r = (q : BlockId) → count_in r q ≤ 131073

-- what the fields of a table of blocks keep
pub record IsTable (b : Inside) : Type 0 where
  pub quanta : quanta_where (λ id k. true) (blocks_of b.stored.entries) ≡ b.quanta
  pub fits : b.quanta ≤ 65536
  pub counted : (q : BlockId) → count_in b.references q ≡ word_holds (blocks_of b.stored.entries) q
  pub bounded : IsBounded b.references
