use Rattle.std.proofs.Common.{sym, arith, length, subst}
use Rattle.az_base.specs.Ids.{id_of}
use Rattle.quantum_space.specs.Shapes.{Has}
use Rattle.finalise_pass.specs.SmallGraphs.{numbered}
use Rattle.finalise_pass.proofs.Numbered.{has_numbered, set_small, set_none}
use Rattle.finalise_pass.proofs.small_graph.SmallGraphGraph.set_shade.Goals as goal

pub returns-then-at-len-clause-shade : goal.returns-then-at-len-clause-shade
returns-then-at-len-clause-shade c = rw (← c.id.view_is)
    (let has : Has (numbered c.args.self.now.thread 0 (length c.args.self.now.shades.items)) (id_of c.id.inside.thread c.id.inside.serial) = subst (Has (numbered c.args.self.now.thread 0 (length c.args.self.now.shades.items))) (sym c.id.view_is) c.requires in
    let r = has_numbered c.args.self.now.thread (length c.args.self.now.shades.items) (id_of c.id.inside.thread c.id.inside.serial) has in
    set_small c.args.self.now.thread c.args.self.now.shades.items (id_of c.id.inside.thread c.id.inside.serial) c.args.s r.0 r.1)

pub returns-else-at-len-clause-shade : goal.returns-else-at-len-clause-shade
returns-else-at-len-clause-shade c =
    (let has : Has (numbered c.args.self.now.thread 0 (length c.args.self.now.shades.items)) (id_of c.id.inside.thread c.id.inside.serial) = subst (Has (numbered c.args.self.now.thread 0 (length c.args.self.now.shades.items))) (sym c.id.view_is) c.requires in
    absurd (set_none c.args.self.now.thread c.args.self.now.shades.items (id_of c.id.inside.thread c.id.inside.serial) c.args.s has (omega arith)))
