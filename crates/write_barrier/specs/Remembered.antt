-- The blocks that are remembered
use Rattle.std.specs.Prelude.{ℕ, not, List, [], ◌∷◌, filter, refl}
use Rattle.std.specs.Coded.{Coded, code_by, coded×, coded_list, coded_ℕ}
use Rattle.std.specs.declared.cmp.Ordering.{Ordering}
use Rattle.std.specs.declared.cmp.Ordering.TheVariants.{Less, Equal, Greater}
use Rattle.az_base.specs.declared.block_id.BlockId.{BlockId}
use Rattle.az_base.specs.Id.{coded_id}
use Rattle.az_base.specs.Ids.{id_cmp, same_id}

-- the blocks in ascending order, and for how many more there is room
pub record Remembered : Type 0 where
  pub list : List BlockId
  pub spare : ℕ

-- as a pair
abbrev pub coded_remembered : Coded Remembered
coded_remembered = code_by (List BlockId × ℕ) (coded× (coded_list coded_id) coded_ℕ) (λ r. (r.list, r.spare)) (λ p. record { list = p.0; spare = p.1 }) (λ _. refl)

-- where an id comes, by how it compares with the first of the list: before it, as it, or among the rest
abbrev pub placed : Ordering → BlockId → BlockId → List BlockId → List BlockId → List BlockId
placed Less id first rest more = id ∷ first ∷ rest
placed Equal id first rest more = first ∷ rest
placed Greater id first rest more = first ∷ more

-- an ascending list with the block
abbrev pub with_block : BlockId → List BlockId → List BlockId
with_block id [] = id ∷ []
with_block id (first ∷ rest) = placed (id_cmp id first) id first rest (with_block id rest)

-- a list without the block
abbrev pub without_block : BlockId → List BlockId → List BlockId
without_block id list = filter (λ b. not (same_id id b)) list
