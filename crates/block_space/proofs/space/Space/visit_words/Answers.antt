use Rattle.std.proofs.Common.{sym, subst}
use Rattle.quantum_space.specs.declared.spot.Kind.{Kind}
use Rattle.quantum_space.specs.PlacedWords.{spot_at}
use Rattle.block_space.specs.Marking.{VisitsFrom}
use Rattle.block_space.proofs.space.Space.visit_words.Goals as goal

pub returns-in-Small-clause-visits : goal.returns-in-Small-clause-visits
returns-in-Small-clause-visits c =
    subst (λ (k : Kind). VisitsFrom c.args.mode (spot_at k c.args.spot.at) c.args.from c.args.self.now c.args.stack.now c.visit_from.new.self c.visit_from.new.stack c.visit_from.result) (sym c.in-Small.is) c.visit_from.ensures.visits

pub returns-in-Medium-clause-visits : goal.returns-in-Medium-clause-visits
returns-in-Medium-clause-visits c =
    subst (λ (k : Kind). VisitsFrom c.args.mode (spot_at k c.args.spot.at) c.args.from c.args.self.now c.args.stack.now c.visit_from-in-Medium.new.self c.visit_from-in-Medium.new.stack c.visit_from-in-Medium.result) (sym c.in-Medium.is) c.visit_from-in-Medium.ensures.visits
