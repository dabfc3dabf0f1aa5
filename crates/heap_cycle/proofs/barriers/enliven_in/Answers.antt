use Rattle.std.proofs.Common.{refl}
use Rattle.heap_cycle.proofs.Enlivening.{enlivened_collects, enlivened_livens}
use Rattle.heap_cycle.proofs.barriers.enliven_in.Goals as goal

pub returns-in-Marking-clause-collects : goal.returns-in-Marking-clause-collects
returns-in-Marking-clause-collects c =
    enlivened_collects c.args.tables.now c.enliven.new.graph c.args.cycle.now _ c.in-Marking.marker c.enliven.new.self c.in-Marking.reply c.in-Marking.kept c.args.id c.in-Marking.is refl
    c.enliven.ensures.only.rest c.enliven.ensures.tracks c.enliven.ensures.mode c.enliven.ensures.shade c.requires

pub returns-in-Marking-clause-livens : goal.returns-in-Marking-clause-livens
returns-in-Marking-clause-livens c =
    enlivened_livens c.args.tables.now c.enliven.new.graph c.args.cycle.now _ c.in-Marking.marker c.enliven.new.self c.in-Marking.reply c.in-Marking.kept c.args.id c.in-Marking.is refl
    c.enliven.ensures.only.rest c.enliven.ensures.tracks c.enliven.ensures.mode c.enliven.ensures.shade
