-- Changes of tables
use Rattle.std.specs.Prelude.{ℕ, slice_set}
use Rattle.az_base.specs.declared.block_id.BlockId.{BlockId}
use Rattle.az_base.specs.declared.word.Word.{Word}
use Rattle.block_table.specs.Stored.{HeapBlock}
use Rattle.zone_model.specs.State.{with_edit}
use Rattle.heap_tables.specs.declared.tables.Tables.{Tables}

-- a word of a block is written
abbrev pub written : Tables → BlockId → ℕ → Word → Tables
written t id at w = record t { blocks = record t.blocks { blocks = with_edit t.blocks.blocks id (λ (k : HeapBlock). record k { words = slice_set k.words at w }) } }
