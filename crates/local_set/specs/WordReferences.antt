-- How many words of a block refer to one
use Rattle.std.specs.Prelude.{ℕ, ◌+◌, List, [], ◌∷◌, Option, Some, None}
use Rattle.az_base.specs.declared.block_id.BlockId.{BlockId}
use Rattle.az_base.specs.declared.word.Word.{Word}
use Rattle.zone_model.specs.State.{referent}

-- 1 where it is a block, and else 0
abbrev pub one_if_some : Option BlockId → ℕ
one_if_some None = 0
one_if_some (Some b) = 1

-- how many of the words refer to a block
abbrev pub references_in : List Word → ℕ
references_in [] = 0
references_in (w ∷ ws) = one_if_some (referent (Some w)) + references_in ws
