use Rattle.std.proofs.Common.{◌∙◌, sym, subst}
use Rattle.shared_heap.proofs.Wholes.{plain_word, HoldsNumber}
use Rattle.shared_heap.proofs.heap.Heap.number_at.Goals as goal

pub number-requires : goal.number-requires
number-requires c =
    subst HoldsNumber (sym c.word.ensures.word ∙ c.in-Some.is) (plain_word c.self.inside.tables.blocks.blocks c.args.id c.args.at (rw (← c.self.view_is) at c.requires) c.word.ensures.whole)

pub unreachable-requires : goal.unreachable-requires
unreachable-requires c =
    subst HoldsNumber (sym c.word.ensures.word ∙ c.in-None.is) (plain_word c.self.inside.tables.blocks.blocks c.args.id c.args.at (rw (← c.self.view_is) at c.requires) c.word.ensures.whole)
