-- What walks leave as it is
use Rattle.std.specs.FinMap.{empty}
use Rattle.block_table.specs.Table.{Table}
use Rattle.heap_tables.specs.declared.tables.Tables.{Tables}

-- all that a table means but its shades
abbrev pub unshaded_table : Table → Table
unshaded_table b = record b { shades = empty }

-- all that the tables mean but the shades
abbrev pub unshaded : Tables → Tables
unshaded t = record t { blocks = unshaded_table t.blocks }
