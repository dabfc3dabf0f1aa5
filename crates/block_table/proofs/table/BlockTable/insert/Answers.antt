use Rattle.std.proofs.Common.{◌≡◌, ◌≤◌, ◌+◌, Some, None, slice_get, length, ap, ◌∙◌, sym, subst, arith}
use Rattle.block_layouts.specs.Fitting.{Fits}
use Rattle.block_layouts.specs.Layouts.{len_of}
use Rattle.space_graph.specs.Graphs.{spot_for}
use Rattle.block_table.specs.Lying.{IsPutWith, Kept'}
use Rattle.block_table.specs.Stored.{newly}
use Rattle.block_table.specs.Table.{Table, with_block}
use Rattle.block_table.proofs.Comings.{fewer}
use Rattle.block_table.proofs.Coming.{lying_come, table_come}
use Rattle.block_table.proofs.Told.{absent_spot}
use Rattle.block_table.proofs.table.BlockTable.insert.Goals as goal

pub put_words-requires-clause-next : goal.put_words-requires-clause-next
put_words-requires-clause-next c = ap (λ (t : Table). slice_get t.room 0) c.self.view_is ∙ c.requires.room

pub put_words-requires-clause-absent : goal.put_words-requires-clause-absent
put_words-requires-clause-absent c = absent_spot _ c.self.inside.graph c.self.inside.kept.entries c.self.view_is c.args.id c.requires.absent

pub put_words-requires-clause-fits : goal.put_words-requires-clause-fits
put_words-requires-clause-fits c = subst (λ ws. Fits c.args.layout ws) (sym c.deref.ensures.value) c.requires.fits

pub invariant_of-self : goal.invariant_of-self
invariant_of-self c =
    let g = c.self.inside.graph in
    let none : spot_for g.rows c.args.id ≡ None = absent_spot _ g c.self.inside.kept.entries c.self.view_is c.args.id c.requires.absent in
    let put : IsPutWith g c.args.id c.args.layout c.args.words.items c.put_words.new.graph = subst (λ ws. IsPutWith g c.args.id c.args.layout ws c.put_words.new.graph) c.deref.ensures.value c.put_words.ensures in
    let room : slice_get g.space.spare 0 ≡ Some (len_of c.args.layout) = ap (λ (t : Table). slice_get t.room 0) c.self.view_is ∙ c.requires.room in
    lying_come _ g c.self.inside.kept.entries c.insert.new.self.entries c.self.view_is c.is_graph.ensures c.args.id c.args.layout c.args.words.items c.put_words.new.graph c.born-kept.result none put c.in-Ok.ensures.updates.0
    (ap (λ (k : Kept'). k.finalised) c.born-kept.ensures) (subst (λ l. length l ≤ 8) (sym (ap (λ (k : Kept'). k.actions) c.born-kept.ensures)) c.requires.few) c.requires.fits
    c.self.inside.used (c.self.inside.used + c.from.result) _ _ (let v = c.quanta.ensures.value in let f = c.from.ensures in omega (arith, v, f)) (let v = c.quanta.ensures.value in let r = c.quanta.ensures.range in omega (arith, v, r)) c.in-Ok.ensures.spare (fewer g.space.spare _ room) c.requires.absent c.self.invariant

pub returns : goal.returns
returns c =
    let g = c.self.inside.graph in
    let none : spot_for g.rows c.args.id ≡ None = absent_spot _ g c.self.inside.kept.entries c.self.view_is c.args.id c.requires.absent in
    let put : IsPutWith g c.args.id c.args.layout c.args.words.items c.put_words.new.graph = subst (λ ws. IsPutWith g c.args.id c.args.layout ws c.put_words.new.graph) c.deref.ensures.value c.put_words.ensures in
    table_come _ g c.self.inside.kept.entries c.insert.new.self.entries c.self.view_is c.is_graph.ensures c.args.id c.args.layout c.args.words.items c.put_words.new.graph c.born-kept.result none put c.in-Ok.ensures.updates.0 (ap (λ (k : Kept'). k.finalised) c.born-kept.ensures)
    ∙ ap (λ (k : Kept'). with_block c.args.self.now c.args.id (newly c.args.layout c.args.words.items k.actions) k.holds) c.born-kept.ensures
