-- What the fields of a heap keep
use Rattle.std.specs.Prelude.{◌≡◌, ◌≤◌, unwrap_or}
use Rattle.std.specs.FinMap.{get}
use Rattle.az_base.specs.declared.block_id.BlockId.{BlockId}
use Rattle.block_table.specs.Table.{used_by}
use Rattle.heap_cycle.specs.Collects.{Collects}
use Rattle.heap_cycle.specs.Waiting.{unfinalised_by}
use Rattle.shared_heap.specs.declared.heap.Heap.TheInside.{Inside}

pub record IsHeap (h : Inside) : Type 0 where
  pub fits : used_by h.tables.blocks.blocks ≤ h.options.heap_quanta
  pub unfinalised : unfinalised_by h.tables.blocks.blocks ≡ h.unfinalised
  -- a block takes at least one quantum, and at most one finaliser
  pub some_wait : h.unfinalised ≤ used_by h.tables.blocks.blocks
  -- what its collections keep
  pub collects : Collects h.tables h.open_cycle
  -- no count is above the option
  pub counts : (q : BlockId) → unwrap_or (get h.tables.counts.counts q) 0 ≤ h.options.counts
