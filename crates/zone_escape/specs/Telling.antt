-- What the heap is told at a publication, and at the end of a thread
use Rattle.std.specs.Prelude.{◌≡◌, ◌||◌, ℕ, zero, suc, Bool, true, false, not, List, [], length, Option, if◌then◌else◌}
use Rattle.std.specs.List.{list_any}
use Rattle.az_base.specs.declared.block_id.BlockId.{BlockId}
use Rattle.az_base.specs.Ids.{among}
use Rattle.zone_model.specs.Holds.{is_block, holds_of}
use Rattle.shared_heap.specs.Shared.{Shared}
use Rattle.local_set.specs.LocalSets.{LocalSet, part_in, held_in}
use Rattle.local_set.specs.Walks.{words_at}
use Rattle.escape_plan.specs.Moving.{Told, CanTell, refer_to}

-- the test is true at one of the numbers below n
unfoldable pub below : (ℕ → BlockId → Bool) → ℕ → BlockId → Bool
below test zero q = false
below test (suc n) q = below test n q || test n q

-- it is one of the two, and not both
abbrev pub moved_of : BlockId → Option BlockId → Option BlockId → Bool
moved_of q before now = if is_block q before then not (is_block q now) else is_block q now

-- the block came into the register since the thread's holds were last published, or left it
abbrev pub moved_at : LocalSet → ℕ → BlockId → Bool
moved_at l r q = moved_of q (held_in l.published r) (held_in l.registers r)

-- how often the thread holds the block may have changed since then
abbrev pub is_noted : LocalSet → BlockId → Bool
is_noted l q = below (moved_at l) 16 q || among l.changed q

-- the heap can be told of each of its blocks without memory, where sixteen registers were published
abbrev pub CanTellAll : LocalSet → Shared → Type 0
CanTellAll l h = length l.published ≡ 16 → CanTell l h (λ q. true)

-- the set of a thread that holds nothing
abbrev pub emptied : LocalSet → LocalSet
emptied l = record l { registers = []; blocks = [] }

-- the block is in the register
abbrev pub stands_at : LocalSet → ℕ → BlockId → Bool
stands_at l r q = is_block q (held_in l.registers r)

-- a word of these blocks refers to the block
abbrev pub refer_from : LocalSet → List BlockId → BlockId → Bool
refer_from l ids q = list_any (λ id. refer_to (words_at (part_in l).blocks id) q) ids

-- the heap was told of each of its blocks that the thread holds that it no longer does, and nothing that is wrong of others
abbrev pub LetsGo : LocalSet → Shared → Shared → Type 0
LetsGo l old new = (test : BlockId → Bool) × ((q : BlockId) → test q ≡ false → holds_of (part_in l) q ≡ 0) × Told (emptied l) old new test
