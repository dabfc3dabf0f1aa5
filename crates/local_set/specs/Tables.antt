-- Changes of a table of blocks
use Rattle.std.specs.Prelude.{◌≡◌, ◌<◌, true, false, List, [], ◌∷◌, Some}
use Rattle.std.specs.FinMap.{get, contains_key}
use Rattle.az_base.specs.declared.block_id.BlockId.{BlockId}
use Rattle.az_base.specs.Ids.{among}
use Rattle.zone_model.specs.State.{Block}
use Rattle.local_set.specs.LocalSets.{Table, blocks_of}
use Rattle.zone_model.specs.Holds.{words_to, word_holds}

-- no id stands twice
abbrev pub Distinct : List BlockId → Type 0
Distinct [] = Unit {0}
Distinct (id ∷ ids) = (among ids id ≡ false) × Distinct ids

-- the ids are those of different blocks that are there
pub record AreThere (es : List (BlockId × Block)) (ids : List BlockId) : Type 0 where
  pub distinct : Distinct ids
  pub there : (q : BlockId) → among ids q ≡ true → contains_key (blocks_of es) q ≡ true

-- what was noted as changed stays so, and of every other block as many words refer to it as before
pub record NotesChange (old new : Table) : Type 0 where
  pub kept : (q : BlockId) → among old.changed q ≡ true → among new.changed q ≡ true
  pub others : (q : BlockId) → among new.changed q ≡ false → word_holds (blocks_of new.list) q ≡ word_holds (blocks_of old.list) q

-- what was noted as changed stays so, and so is each block to which a word of these refers
pub record NotesReferents (old new : Table) (ids : List BlockId) : Type 0 where
  pub kept : (q : BlockId) → among old.changed q ≡ true → among new.changed q ≡ true
  pub more : (id q : BlockId) (b : Block) → among ids id ≡ true → get (blocks_of old.list) id ≡ Some b → 0 < words_to q b.words → among new.changed q ≡ true
