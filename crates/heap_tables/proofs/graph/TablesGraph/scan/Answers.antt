use Rattle.std.proofs.Common.{List, map, refl, ap, sym, subst}
use Rattle.assoc_refs.specs.Table.{pairs_of}
use Rattle.az_base.specs.declared.block_id.BlockId.{BlockId}
use Rattle.quantum_space.specs.Shapes.{VisitsAll}
use Rattle.block_table.specs.Marking.{graph_in, marks_in}
use Rattle.block_table.specs.Places.{somes, in_word}
use Rattle.block_table.specs.Table.{Table, refs_in, words_in}
use Rattle.block_table.proofs.Somes.{somes_append}
use Rattle.block_table.proofs.Visits.{all_alike, visits_both}
use Rattle.heap_tables.specs.Graphs.{graph_of, value_of}
use Rattle.heap_tables.proofs.graph.TablesGraph.scan.Goals as goal

pub scan-requires : goal.scan-requires
scan-requires c = c.requires

pub returns-clause-scans : goal.returns-clause-scans
returns-clause-scans c =
    let t = c.args.self.now in
    let b : Table = c.scan.new.self in
    let n : Table = c.visit_values.new.blocks in
    let m = c.args.mode in
    let words = refs_in t.blocks.blocks c.args.id in
    let values = somes (map value_of (pairs_of t.assocs.pairs c.args.id)) in
    let scans = c.scan.ensures.scans in
    let first : VisitsAll m (graph_of t) words scans.mid c.args.stack.now (marks_in b) c.scan.new.stack = all_alike m (graph_in t.blocks) (graph_of t) words scans.mid c.args.stack.now (marks_in b) c.scan.new.stack refl refl scans.visits in
    let second : VisitsAll m (graph_of t) values (marks_in b) c.scan.new.stack (marks_in n) c.visit_values.new.stack = all_alike m (graph_in b) (graph_of t) values (marks_in b) c.scan.new.stack (marks_in n) c.visit_values.new.stack
    (ap (λ (x : Table). (graph_in x).blocks) c.scan.ensures.rest) (ap (λ (x : Table). (graph_in x).young) c.scan.ensures.rest) c.visit_values.ensures.visits in
    record {
      mid = scans.mid;
      black = scans.black;
      visits = subst (λ (l : List BlockId). VisitsAll m (graph_of t) l scans.mid c.args.stack.now (marks_in n) c.visit_values.new.stack) (sym (somes_append (map in_word (words_in t.blocks.blocks c.args.id)) (map value_of (pairs_of t.assocs.pairs c.args.id))))
          (visits_both m (graph_of t) words values scans.mid c.args.stack.now (marks_in b) c.scan.new.stack (marks_in n) c.visit_values.new.stack first second);
    }
