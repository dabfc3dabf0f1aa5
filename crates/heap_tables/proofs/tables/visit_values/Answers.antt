use Rattle.std.proofs.Common.{◌≡◌, ◌+◌, ◌∷◌, List, [], drop, map, refl, ap, sym, ◌∙◌, subst, arith}
use Rattle.az_base.specs.declared.block_id.BlockId.{BlockId}
use Rattle.assoc_refs.specs.Table.{pairs_of}
use Rattle.quantum_space.specs.Shapes.{VisitsAll, VisitsOnto}
use Rattle.block_table.specs.Marking.{graph_in, marks_in}
use Rattle.block_table.specs.Places.{somes}
use Rattle.block_table.specs.Table.{Table}
use Rattle.block_table.proofs.Somes.{mapped_at, mapped_past, none_past, within_list}
use Rattle.block_table.proofs.Visits.{onto_alike}
use Rattle.heap_tables.specs.Graphs.{value_of}
use Rattle.heap_tables.proofs.tables.visit_values.Goals as goal

pub returns-then-not-may_have-clause-visits : goal.returns-then-not-may_have-clause-visits
returns-then-not-may_have-clause-visits c = rw (c.may_have.ensures.none c.if-not-may_have.true) (refl, refl)

pub loop-found-smaller : goal.loop-found-smaller
loop-found-smaller c = let l = within_list (pairs_of c.args.assocs.now.pairs c.args.id) c.loop-found.n _ (sym c.nth_of.ensures.value ∙ c.in-Some.is) in omega (arith, l)

pub loop-found-preserved : goal.loop-found-preserved
loop-found-preserved c =
    let t : Table = c.args.blocks.now in
    let cur : Table = c.loop-found.blocks in
    let new : Table = c.visit_onto.new.self in
    let m = c.args.mode in
    let i = c.loop-found.invariant in
    let pairs = pairs_of c.args.assocs.now.pairs c.args.id in
    let values = map value_of pairs in
    let split : somes (drop c.loop-found.n values) ≡ c.in-Some.found.1 ∷ somes (drop (c.loop-found.n + 1) values) = mapped_at value_of pairs c.loop-found.n _ c.in-Some.found.1 (sym c.nth_of.ensures.value ∙ c.in-Some.is) refl in
    let one : VisitsOnto m (graph_in t) c.in-Some.found.1 (marks_in cur) c.loop-found.stack (marks_in new) c.visit_onto.new.stack = onto_alike m (graph_in cur) (graph_in t) c.in-Some.found.1 (marks_in cur) c.loop-found.stack (marks_in new) c.visit_onto.new.stack
    (ap (λ (x : Table). (graph_in x).blocks) i.rest) (ap (λ (x : Table). (graph_in x).young) i.rest) c.visit_onto.ensures.visits in
    record {
      rest = c.visit_onto.ensures.rest ∙ ap (λ (x : Table). let y : Table = record x { shades = new.shades } in y) i.rest;
      on = λ after onto v. i.on after onto (subst (λ (l : List BlockId). VisitsAll m (graph_in t) l (marks_in cur) c.loop-found.stack after onto) (sym split) (marks_in new, c.visit_onto.new.stack, one, v));
    }

pub returns-clause-visits : goal.returns-clause-visits
returns-clause-visits c =
    let t : Table = c.args.blocks.now in
    let cur : Table = c.loop-found.blocks in
    let pairs = pairs_of c.args.assocs.now.pairs c.args.id in
    let none : somes (drop c.loop-found.n (map value_of pairs)) ≡ [] = mapped_past value_of pairs c.loop-found.n (none_past pairs c.loop-found.n (sym c.nth_of.ensures.value ∙ c.in_default.is)) in
    c.loop-found.invariant.on (marks_in cur) c.loop-found.stack (subst (λ (l : List BlockId). VisitsAll c.args.mode (graph_in t) l (marks_in cur) c.loop-found.stack (marks_in cur) c.loop-found.stack) (sym none) (refl, refl))
