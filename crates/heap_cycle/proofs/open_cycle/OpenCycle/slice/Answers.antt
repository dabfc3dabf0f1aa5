use Rattle.heap_cycle.proofs.Slicing.{is_sliced, sliced_collects}
use Rattle.heap_cycle.proofs.open_cycle.OpenCycle.slice.Goals as goal

pub returns-clause-sliced : goal.returns-clause-sliced
returns-clause-sliced g c =
    let s = c.slice.ensures in
    is_sliced c.args.tables.now c.slice.new.graph c.args.self.now c.in-Marking.marker c.slice.new.self c.in-Marking.reply c.in-Marking.kept c.requires.collects c.in-Marking.is s.only.rest s.tracks s.mode s.shut s.spreads

pub returns-clause-collects : goal.returns-clause-collects
returns-clause-collects g c = sliced_collects c.args.tables.now c.slice.new.graph c.args.self.now _ c.requires.marking (returns-clause-sliced g c) c.requires.collects
