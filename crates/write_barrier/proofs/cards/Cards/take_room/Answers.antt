use Rattle.std.specs.List.Sorted.{IsStrictlySortedBy}
use Rattle.write_barrier.proofs.cards.Cards.take_room.Goals as goal

pub invariant_of-self : goal.invariant_of-self
unfolding IsStrictlySortedBy
invariant_of-self c = rw (c.replace-ids.ensures.after, c.new.ensures.items) tt
