use Rattle.std.proofs.Common.{sym, ◌∙◌}
use Rattle.finalise_pass.proofs.tests.finalises_one.Goals as goal

pub apply-requires : goal.apply-requires
apply-requires c = sym c.next.ensures.further ∙ c.in-Some.is
