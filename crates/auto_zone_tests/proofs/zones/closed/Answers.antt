use Rattle.std.proofs.Common.{subst}
use Rattle.zone_gate.specs.Shown.{HasAllThreads}
use Rattle.auto_zone_tests.proofs.zones.closed.Goals as goal

pub close-requires-clause-all : goal.close-requires-clause-all
close-requires-clause-all c = subst (HasAllThreads c.args.zone) c.deref.ensures.value (c.all_in.ensures.0 c.if-all_in.true)
