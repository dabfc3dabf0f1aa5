use Rattle.std.proofs.Common.{sym, subst, take, ◌+◌}
use Rattle.retain_table.proofs.Nearest.{IsNearest, nearest-next}
use Rattle.retain_table.proofs.counts.Counts.next_held.Goals as goal

pub loop-n-preserved : goal.loop-n-preserved
loop-n-preserved c =
    subst (IsNearest c.args.from (take (c.loop-n.n + 1) c.args.self.now.order)) (sym c.nearer-next.ensures)
    (nearest-next c.args.from c.args.self.now.order c.loop-n.n c.loop-n.next c.in-Some.id (sym c.in-Some.ensures) c.loop-n.invariant)
