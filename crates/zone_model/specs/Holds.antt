-- How often a thread's part holds a block
use Rattle.std.specs.Prelude.{ℕ, ◌+◌, zero, suc, Bool, false, if◌then◌else◌, List, [], ◌∷◌, Option, Some, None}
use Rattle.std.specs.FinMap.{FinMap}
use Rattle.az_base.specs.declared.block_id.BlockId.{BlockId}
use Rattle.az_base.specs.declared.word.Word.{Word}
use Rattle.az_base.specs.Ids.{id_cmp, same_id}
use Rattle.zone_model.specs.Maps.{total}
use Rattle.zone_model.specs.State.{Block, referent}
use Rattle.zone_model.specs.Part.{Part}

-- this is the block
abbrev pub is_block : BlockId → Option BlockId → Bool
is_block q (Some b) = same_id b q
is_block q None = false

-- 1 where it is this block, and else 0
abbrev pub one_if : BlockId → Option BlockId → ℕ
one_if q held = if is_block q held then 1 else 0

-- how many of the words refer to the block
abbrev pub words_to : BlockId → List Word → ℕ
words_to q [] = 0
words_to q (w ∷ ws) = one_if q (referent (Some w)) + words_to q ws

-- in how many words of the blocks it stands
abbrev pub word_holds : FinMap id_cmp Block → BlockId → ℕ
word_holds blocks q = total (λ id b. words_to q b.words) blocks

-- in how many of the first n registers it stands
abbrev pub register_holds : (ℕ → Option BlockId) → BlockId → ℕ → ℕ
register_holds registers q zero = 0
register_holds registers q (suc n) = register_holds registers q n + one_if q (registers n)

-- in how many of its sixteen registers, and words of its unescaped blocks, the part holds the block
abbrev pub holds_of : Part → BlockId → ℕ
holds_of p q = register_holds p.registers q 16 + word_holds p.blocks q
