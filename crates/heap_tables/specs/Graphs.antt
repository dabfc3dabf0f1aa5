-- The tables of a heap as a graph that a collection walks
-- Blocks and counted blocks have positions, which stay while a cycle is open but for blocks that come to the end. So the
-- blocks at Begin are the first ones, and what came since stands after them. Anchors and edges are each one list of
-- places, some of which hold nothing: a cursor goes on to the next that does.
use Rattle.std.specs.Prelude.{◌++◌, List, Option, Some, None, if◌then◌else◌, map, take, drop}
use Rattle.std.specs.FinMap.{FinMap}
use Rattle.az_base.specs.declared.block_id.BlockId.{BlockId}
use Rattle.az_base.specs.declared.numbers.Key.{Key}
use Rattle.az_base.specs.Ids.{id_cmp}
use Rattle.assoc_refs.specs.Table.{pairs_of}
use Rattle.block_table.specs.Holds.{Holds}
use Rattle.block_table.specs.Places.{somes, in_word}
use Rattle.block_table.specs.Table.{is_held_in, is_young_at, shades_in, words_in}
use Rattle.quantum_space.specs.Shapes.{Shape, Shades}
use Rattle.heap_tables.specs.declared.tables.Tables.{Tables}

-- the block, where a thread holds it
abbrev pub if_held_in : FinMap id_cmp Holds → BlockId → Option BlockId
if_held_in holds id = if is_held_in holds id then Some id else None

-- a place that holds the block
abbrev pub some_block : BlockId → Option BlockId
some_block b = Some b

-- where anchors stand after the roots: the counted blocks, and the blocks that a thread holds
abbrev pub late_places : Tables → List (Option BlockId)
late_places t = map some_block t.counts.order ++ map (if_held_in t.blocks.holds) t.blocks.order

-- where anchors stand
abbrev pub anchor_places : Tables → List (Option BlockId)
anchor_places t = t.roots ++ late_places t

-- the value of an association
abbrev pub value_of : Key × BlockId → Option BlockId
value_of p = Some p.1

-- where a block's edges stand: its words, and the values of its associations
abbrev pub edge_places : Tables → BlockId → List (Option BlockId)
edge_places t id = map in_word (words_in t.blocks.blocks id) ++ map value_of (pairs_of t.assocs.pairs id)

-- the graph: its blocks are those at Begin; what came since is remembered, too
abbrev pub graph_of : Tables → Shape
graph_of t = record {
  blocks = take t.blocks.began t.blocks.order;
  anchors_from = λ place. somes (drop place (anchor_places t));
  remembered = t.cards.list ++ drop t.blocks.began t.blocks.order;
  edges_from = λ id place. somes (drop place (edge_places t id));
  young = is_young_at t.blocks.blocks;
}

-- its shades
abbrev pub shades_of : Tables → Shades
shades_of t = shades_in t.blocks.shades
