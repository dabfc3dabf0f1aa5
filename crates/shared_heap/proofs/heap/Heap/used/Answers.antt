use Rattle.std.proofs.Common.{◌∙◌, ap, sym}
use Rattle.block_table.specs.Table.{used_by}
use Rattle.shared_heap.specs.Shared.{Shared}
use Rattle.shared_heap.proofs.Sums.{used_stands}
use Rattle.shared_heap.proofs.heap.Heap.used.Goals as goal

pub returns-clause-stands : goal.returns-clause-stands
returns-clause-stands c = λ z s. c.used.ensures ∙ ap (λ (h : Shared). used_by h.blocks) c.self.view_is ∙ sym (used_stands _ z s)
