use Rattle.std.proofs.Common.{◌∙◌, ap, subst, sym}
use Rattle.std.specs.Option.{option_map}
use Rattle.std.specs.FinMap.{get}
use Rattle.block_space.specs.Maps.{IsSound}
use Rattle.space_graph.specs.Graphs.{Graph'}
use Rattle.block_table.specs.Lying.{entries_of, lying_table}
use Rattle.block_table.specs.Stored.{Row, older}
use Rattle.block_table.specs.Table.{Table, each_of}
use Rattle.block_table.proofs.Ageing.{older_each, aged_table}
use Rattle.block_table.proofs.Grown.{aged_entries, aged_lying, aged_lying_table}
use Rattle.block_table.proofs.table.BlockTable.age_all.Goals as goal

pub returns-clause-blocks : goal.returns-clause-blocks
returns-clause-blocks c =
    let g = c.self.inside.graph in
    let ks = c.self.inside.kept.entries in
    λ b. ap (λ (y : Graph'). get (each_of (λ (r : Row). r.kept) (entries_of y ks)) b) c.age_all.ensures.rest
    ∙ ap (λ es. get (each_of (λ (r : Row). r.kept) es) b) (aged_entries g c.age_all.new.self.space ks c.is_graph.ensures (subst IsSound c.space.ensures c.is_sound.ensures) c.age_all.ensures.aged)
    ∙ older_each (entries_of g ks) b ∙ ap (λ (t : Table). option_map older (get t.blocks b)) c.self.view_is

pub returns-clause-rest : goal.returns-clause-rest
returns-clause-rest c =
    let g = c.self.inside.graph in
    let ks = c.self.inside.kept.entries in
    let es = ap (λ (y : Graph'). entries_of y ks) c.age_all.ensures.rest ∙ aged_entries g c.age_all.new.self.space ks c.is_graph.ensures (subst IsSound c.space.ensures c.is_sound.ensures) c.age_all.ensures.aged in
    ap (λ (y : Graph'). lying_table y ks) c.age_all.ensures.rest ∙ aged_lying_table g c.age_all.new.self.space ks c.is_graph.ensures (subst IsSound c.space.ensures c.is_sound.ensures) c.age_all.ensures.aged
    ∙ aged_table _ (entries_of g ks) _ _ c.self.view_is
    ∙ ap (λ es. let y : Table = record c.args.self.now { blocks = each_of (λ (r : Row). r.kept) es } in y) (sym es)

pub invariant_of-self : goal.invariant_of-self
invariant_of-self c = rw c.age_all.ensures.rest (aged_lying c.self.inside.graph c.age_all.new.self.space c.self.inside.kept.entries _ _ c.is_graph.ensures (subst IsSound c.space.ensures c.is_sound.ensures) c.age_all.ensures.aged c.self.invariant)
