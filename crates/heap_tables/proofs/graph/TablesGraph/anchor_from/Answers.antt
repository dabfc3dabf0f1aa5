use Rattle.std.proofs.Common.{◌≡◌, ◌+◌, ap, length, arith}
use Rattle.heap_tables.specs.Graphs.{late_places}
use Rattle.block_table.proofs.Somes.{first_of_two, second_of_two, none_of_two}
use Rattle.heap_tables.proofs.graph.TablesGraph.anchor_from.Goals as goal

pub returns-in-Some : goal.returns-in-Some
returns-in-Some c =
    let t = c.args.self.now in
    let late = late_places t in
    (first_of_two t.roots late c.args.place c.in-Some.found (rw c.as_slice-places.ensures.roots at c.in-Some.ensures)).0

pub returns-in-Some-late_anchor_from : goal.returns-in-Some-late_anchor_from
returns-in-Some-late_anchor_from c =
    let t = c.args.self.now in
    let late = late_places t in
    let long : length c.as_slice-places.result.now ≡ length t.roots = ap length c.as_slice-places.ensures.roots in
    (second_of_two t.roots late c.args.place c.saturating_sub.result c.in-Some-late_anchor_from.found.0 c.in-Some-late_anchor_from.found.1 (c.in-Some-late_anchor_from.found.1 + length c.as_slice-places.result.now)
    (rw c.as_slice-places.ensures.roots at c.in-None.ensures) (omega (arith, c.saturating_sub.ensures, long)) (omega (arith, long)) c.in-Some-late_anchor_from.ensures.next).0

pub returns-in-None-late_anchor_from : goal.returns-in-None-late_anchor_from
returns-in-None-late_anchor_from c =
    let t = c.args.self.now in
    let late = late_places t in
    let long : length c.as_slice-places.result.now ≡ length t.roots = ap length c.as_slice-places.ensures.roots in
    none_of_two t.roots late c.args.place c.saturating_sub.result
    (rw c.as_slice-places.ensures.roots at c.in-None.ensures) (omega (arith, c.saturating_sub.ensures, long)) c.in-None-late_anchor_from.ensures.next
