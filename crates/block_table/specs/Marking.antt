-- The table as a graph that a collection marks
use Rattle.std.specs.Prelude.{[], map, take, drop}
use Rattle.quantum_space.specs.Shapes.{Shape, Shades}
use Rattle.block_table.specs.Places.{somes, in_word}
use Rattle.block_table.specs.Table.{Table, is_young_at, shades_in, words_in}

-- the blocks as the last cycle began, and edges along words; nothing anchors a block, and none is remembered
abbrev pub graph_in : Table → Shape
graph_in t = record {
  blocks = take t.began t.order;
  anchors_from = λ place. [];
  remembered = [];
  edges_from = λ id place. somes (drop place (map in_word (words_in t.blocks id)));
  young = is_young_at t.blocks;
}

-- its shades
abbrev pub marks_in : Table → Shades
marks_in t = shades_in t.shades
