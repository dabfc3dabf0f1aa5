use Rattle.weak_table.proofs.Showing.{empty-weak}
use Rattle.weak_table.proofs.weak.Weak.new.Goals as goal

pub invariant_of-result : goal.invariant_of-result
invariant_of-result c = empty-weak c.new.result c.new-2.result c.new.ensures.groups c.new-2.ensures.groups
