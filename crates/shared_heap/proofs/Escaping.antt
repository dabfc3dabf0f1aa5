-- What a block's words hold was anchored before the block escapes
use Rattle.std.proofs.Common.{false, List, [], Option, None, IsTrue, is_none, ap, inl}
use Rattle.std.specs.Option.{option_map_or}
use Rattle.az_base.specs.declared.block_id.BlockId.{BlockId}
use Rattle.az_base.specs.declared.word.Word.{Word}
use Rattle.az_base.specs.Ids.{same_id}
use Rattle.block_layouts.specs.declared.layout.Layout.{Layout}
use Rattle.zone_model.specs.Escape.{with_escaped}
use Rattle.zone_model.specs.Reached.{OpenReached}
use Rattle.zone_model.specs.State.{State, Block, is_unescaped}
use Rattle.zone_model.proofs.Anchoring.{anchored_edge, unescaped_anchored}
use Rattle.heap_cycle.specs.Collector.{Collector}
use Rattle.heap_cycle.specs.Livening.{Livens, blocks_in}
use Rattle.shared_heap.specs.Shared.{Shared, admitted, with_gc}
use Rattle.shared_heap.specs.Stands.{Stands}
use Rattle.shared_heap.specs.Steps.{IsUnescaped}
use Rattle.shared_heap.proofs.Collecting.{live_still, word_of}
use Rattle.shared_heap.proofs.Standing.{admit_stands}

pub admit_lives : (h : Shared) (z : State) (id : BlockId) (layout : Layout) (words : List Word) (gc : Collector) → Livens h.gc gc (blocks_in words) [] → Stands h z → OpenReached z → IsUnescaped z id layout words → Stands (with_gc (admitted h id layout words) gc) (with_escaped z (same_id id))
admit_lives h z id layout words gc lives s reached is =
    live_still (admitted h id layout words) (with_escaped z (same_id id)) gc (blocks_in words) [] lives
    (λ c b e n i live. let w = word_of words b live in (reached c e n).now b i (anchored_edge c.mode z id b (unescaped_anchored c.mode z id inside) (inl (block, w.0, is, w.1))))
    (admit_stands h z id layout words is s)
  where
    block : Block
    block = record { layout = layout; words = words; actions = []; finalised = false; since = None }

    inside : IsTrue (is_unescaped z id)
    inside = ap (λ (o : Option Block). option_map_or (λ b. is_none b.since) o false) is
