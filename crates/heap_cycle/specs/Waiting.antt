-- Which blocks wait for their finaliser
use Rattle.std.specs.Prelude.{ℕ, ◌&&◌, Bool, false, not, if◌then◌else◌}
use Rattle.std.specs.Option.{option_map_or}
use Rattle.std.specs.FinMap.{FinMap, get}
use Rattle.az_base.specs.declared.block_id.BlockId.{BlockId}
use Rattle.az_base.specs.Ids.{id_cmp}
use Rattle.block_table.specs.Stored.{HeapBlock}
use Rattle.zone_model.specs.Maps.{total}
use Rattle.zone_model.specs.State.{is_nil}

-- the block has actions and isn't finalised
abbrev pub waits : HeapBlock → Bool
waits k = not (is_nil k.actions) && not k.finalised

-- a block of the heap has actions and isn't finalised
abbrev pub awaits_in : FinMap id_cmp HeapBlock → BlockId → Bool
awaits_in blocks id = option_map_or waits (get blocks id) false

-- how many blocks have actions and aren't finalised
abbrev pub unfinalised_by : FinMap id_cmp HeapBlock → ℕ
unfinalised_by blocks = total (λ id k. if waits k then 1 else 0) blocks
