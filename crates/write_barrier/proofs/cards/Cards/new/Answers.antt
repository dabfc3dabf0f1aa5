use Rattle.std.proofs.Common.{subst, sym}
use Rattle.std.specs.List.Sorted.{IsStrictlySortedBy}
use Rattle.az_base.specs.Ids.{id_cmp}
use Rattle.write_barrier.proofs.cards.Cards.new.Goals as goal

pub invariant_of-result : goal.invariant_of-result
unfolding IsStrictlySortedBy
invariant_of-result c = subst (IsStrictlySortedBy id_cmp) (sym c.new.ensures.items) tt
