use Rattle.std.proofs.Common.{sym, arith, length}
use Rattle.std.proofs.lemmas.Bool.{eqb-true}
use Rattle.az_base.specs.Ids.{id_of}
use Rattle.finalise_pass.proofs.Numbered.{has_test, has_not}
use Rattle.finalise_pass.proofs.small_graph.SmallGraphGraph.has_block.Goals as goal

pub returns-then-eq : goal.returns-then-eq
returns-then-eq c = rw (← c.id.view_is) (has_test c.args.self.now.thread (length c.args.self.now.shades.items) c.len.result (id_of c.id.inside.thread c.id.inside.serial) (omega (arith, c.len.ensures)) (eqb-true c.id.inside.thread c.args.self.now.thread (sym c.if-eq.ensures)))

pub returns-else-eq : goal.returns-else-eq
returns-else-eq c = rw (← c.id.view_is) (has_not c.args.self.now.thread (length c.args.self.now.shades.items) (id_of c.id.inside.thread c.id.inside.serial) c.eq.result c.if-eq.false (sym c.if-eq.ensures))
