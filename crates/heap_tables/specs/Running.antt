-- The tables as what a pass over condemned blocks runs finalisers of
use Rattle.std.specs.Prelude.{false, List, [], None, get_or, slice_get, option_and_then}
use Rattle.std.specs.Option.{option_map_or}
use Rattle.std.specs.FinMap.{FinMap, get}
use Rattle.az_base.specs.declared.action.Action.{Action}
use Rattle.az_base.specs.declared.block_id.BlockId.{BlockId}
use Rattle.az_base.specs.Ids.{id_cmp}
use Rattle.block_table.specs.Places.{in_word}
use Rattle.block_table.specs.Stored.{HeapBlock}
use Rattle.block_table.specs.Table.{words_in}
use Rattle.finalise_pass.specs.Finalisers.{Finalisers}
use Rattle.zone_model.specs.Maps.{map_values}
use Rattle.heap_tables.specs.declared.tables.Tables.{Tables}

-- the actions of a block, and none where it isn't there
abbrev pub actions_in : FinMap id_cmp HeapBlock → BlockId → List Action
actions_in blocks id = option_map_or (λ (k : HeapBlock). k.actions) (get blocks id) []

-- the roots, and of each block its actions, what its words refer to, and whether its finaliser has run
abbrev pub finals_of : Tables → Finalisers
finals_of t = record {
  roots = λ g. get_or t.roots g None;
  actions = actions_in t.blocks.blocks;
  strong = λ id at. option_and_then in_word (slice_get (words_in t.blocks.blocks id) at);
  done = λ id. option_map_or (λ (k : HeapBlock). k.finalised) (get t.blocks.blocks id) false;
}

-- the blocks but for whether their finalisers have run
abbrev pub unrun_blocks : FinMap id_cmp HeapBlock → FinMap id_cmp HeapBlock
unrun_blocks blocks = map_values id_cmp (λ id (k : HeapBlock). record k { finalised = false }) blocks

-- all that the tables mean but the roots, and but for whether finalisers have run
abbrev pub unrun : Tables → Tables
unrun t = record t { roots = []; blocks = record t.blocks { blocks = unrun_blocks t.blocks.blocks } }
