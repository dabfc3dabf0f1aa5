use Rattle.std.proofs.Common.{refl, sym, ap, ◌∙◌, arith}
use Rattle.block_layouts.specs.Layouts.{len_of, quanta}
use Rattle.block_space.specs.Spaces.{Space'}
use Rattle.block_table.specs.Lying.{entries_of, layout_at}
use Rattle.block_table.proofs.Comings.{gone_used}
use Rattle.block_table.proofs.Going.{its_quanta, lying_gone, none_less, one_less, row_gone, still_forgotten}
use Rattle.block_table.proofs.table.take_out.Goals as goal

pub returns-in_default-clause-less : goal.returns-in_default-clause-less
returns-in_default-clause-less c = none_less _ c.args.graph.now c.args.kept.now.entries c.args.id refl (sym c.find.ensures.value ∙ c.in_default.is)

pub returns-clause-less : goal.returns-clause-less
returns-clause-less c = one_less c.args.graph.now c.remove.new.self c.is_graph.ensures c.args.kept.now.entries c.swap_remove.new.self.entries c.args.id c.remove.ensures c.swap_remove.ensures.updates.0

pub returns-clause-forgotten : goal.returns-clause-forgotten
returns-clause-forgotten c = λ b f. still_forgotten c.args.graph.now c.remove.new.self c.is_graph.ensures c.args.kept.now.entries c.swap_remove.new.self.entries c.args.id c.remove.ensures c.swap_remove.ensures.updates.0 b f

pub overflow_sub-used : goal.overflow_sub-used
overflow_sub-used c =
    let g = c.args.graph.now in
    let ks = c.args.kept.now.entries in
    let x = c.in-Some.spot in
    let n = its_quanta g ks c.args.id x c.from-gone.result (sym c.in-Some.ensures.value) (c.from-gone.ensures ∙ c.quanta.ensures ∙ ap (λ (s : Space'). quanta (len_of (layout_at s x))) c.space.ensures) in
    let less = row_gone g c.remove.new.self c.is_graph.ensures ks c.swap_remove.new.self.entries c.args.id c.remove.ensures c.swap_remove.ensures.updates.0 in
    let e = gone_used (entries_of g ks) (entries_of c.remove.new.self c.swap_remove.new.self.entries) c.args.id less c.args.used.now c.from-gone.result n c.requires.lying.kept.used in
    omega (arith, e)

pub returns-clause-lying : goal.returns-clause-lying
returns-clause-lying c =
    let g = c.args.graph.now in
    let ks = c.args.kept.now.entries in
    let x = c.in-Some.spot in
    let n = its_quanta g ks c.args.id x c.from-gone.result (sym c.in-Some.ensures.value) (c.from-gone.ensures ∙ c.quanta.ensures ∙ ap (λ (s : Space'). quanta (len_of (layout_at s x))) c.space.ensures) in
    lying_gone g c.remove.new.self c.is_graph.ensures ks c.swap_remove.new.self.entries c.args.id c.remove.ensures c.swap_remove.ensures.updates.0 c.args.used.now c.from-gone.result _ _ n c.swap_remove.ensures.room.0 c.requires.lying
