use Rattle.std.specs.FinMap.{len}
use Rattle.weak_table.specs.Shows.{is_word_of}
use Rattle.weak_table.proofs.Showing.{Dropped}
use Rattle.weak_table.proofs.weak.Weak.forget_in.Given as goal

abbrev pub invariant-loop-word : goal.invariant-loop-word
invariant-loop-word l = Dropped (is_word_of l.block) l.fn.self.shown l.self.shown

abbrev pub decreases-loop-word : goal.decreases-loop-word
decreases-loop-word l = len l.self.shown
