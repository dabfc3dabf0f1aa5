use Rattle.std.proofs.Common.{ap}
use Rattle.zone_escape.specs.Cores.{CoreShown}
use Rattle.auto_zone.proofs.Slicing.{done_grey, scanned_within}
use Rattle.auto_zone.proofs.gated.slice_uncounted.Goals as goal

pub returns-clause-journal : goal.returns-clause-journal
returns-clause-journal g c = ap (λ (k : CoreShown). k.journal) c.slice.ensures.value

pub returns-clause-options : goal.returns-clause-options
returns-clause-options g c = ap (λ (k : CoreShown). k.heap.options) c.slice.ensures.value

pub returns-clause-scanned : goal.returns-clause-scanned
returns-clause-scanned g c = scanned_within c.new-steps.result c.slice.new.steps _ _ c.args.budget c.new-steps.ensures c.slice.ensures.ticks c.slice.ensures.within

pub returns-clause-grey : goal.returns-clause-grey
returns-clause-grey g c = done_grey _ c.slice.new.core.heap.gc.cycle c.slice.result c.slice.ensures.ends
