use Rattle.write_barrier.proofs.Once.{once_among, once_sorted}
use Rattle.write_barrier.proofs.cards.Cards.from_vec.Goals as goal

pub invariant_of-result : goal.invariant_of-result
invariant_of-result c = once_sorted c.sort_unstable.new.self.items c.dedup.new.self.items c.sort_unstable.ensures.sorted c.dedup.ensures.filtered

pub returns-clause-blocks : goal.returns-clause-blocks
returns-clause-blocks c = once_among c.args.ids.items c.sort_unstable.new.self.items c.dedup.new.self.items c.sort_unstable.ensures.permutation c.dedup.ensures.filtered

pub returns-clause-ascends : goal.returns-clause-ascends
returns-clause-ascends c = once_sorted c.sort_unstable.new.self.items c.dedup.new.self.items c.sort_unstable.ensures.sorted c.dedup.ensures.filtered
