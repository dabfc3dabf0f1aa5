use Rattle.heap_cycle.proofs.Opening.{is_opened, opened_collects}
use Rattle.heap_cycle.proofs.open_cycle.OpenCycle.begin.Goals as goal

pub returns-clause-ok : goal.returns-clause-ok
returns-clause-ok c =
    let l = c.in_ok-lists.ensures in
    let m = c.in_ok-marker.ensures in
    is_opened c.args.tables.now c.begin-2.new.graph c.begin.new.self c.args.mode c.args.owner c.args.left c.len.result c.in_ok-lists.lists c.in_ok-marker.marker c.into_cycle.result c.requires.collects c.requires.left
    c.begin.ensures.value c.begin.ensures.table c.len.ensures.value l.reply l.kept l.three l.lent m.only.rest m.begun m.tracks m.mode c.into_cycle.ensures

pub returns-clause-collects : goal.returns-clause-collects
returns-clause-collects c = opened_collects c.args.tables.now c.begin-2.new.graph c.args.mode c.into_cycle.result c.requires.collects.cards c.requires.collects.old (returns-clause-ok c)
