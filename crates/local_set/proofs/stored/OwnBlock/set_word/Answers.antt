use Rattle.std.proofs.Common.{◌≡◌, ◌∙◌, ◌+◌, ◌≤◌, [], ◌∷◌, Some, length, slice_get, slice_set, ap, sym, subst, arith}
use Rattle.block_layouts.specs.Fitting.{FitsAt}
use Rattle.block_layouts.proofs.Fitting.{set_fits}
use Rattle.local_set.specs.WordReferences.{references_in}
use Rattle.local_set.proofs.Quantities.{references_set, references_there, references_within}
use Rattle.local_set.proofs.Editing.{stood_there}
use Rattle.local_set.proofs.stored.OwnBlock.set_word.Goals as goal

pub overflow_sub-self : goal.overflow_sub-self
overflow_sub-self c =
    let ws = c.self.inside.words.items in
    let fits : FitsAt c.self.inside.layout c.args.at c.args.word = rw (← c.self.view_is) at c.requires in
    let there : slice_get ws c.args.at ≡ Some c.replace.result =
    subst (λ w. slice_get ws c.args.at ≡ Some w) (sym c.replace.ensures.value) (stood_there c.self.inside.layout ws c.args.at c.args.word c.index_mut.result.now c.self.invariant.0 fits c.index_mut.ensures.value) in
    let least : references_in (c.replace.result ∷ []) ≤ references_in ws = references_there ws c.args.at c.replace.result there in
    let counted : c.references_of.result ≡ references_in (c.replace.result ∷ []) = c.references_of.ensures in
    omega (arith, c.self.invariant.1, least, counted)

pub overflow_add-self : goal.overflow_add-self
overflow_add-self c =
    let ws = c.self.inside.words.items in
    let all : references_in ws ≤ length ws = references_within ws in
    let one : references_in (c.args.word ∷ []) ≤ 1 = references_within (c.args.word ∷ []) in
    let more : c.references_of-2.result ≡ references_in (c.args.word ∷ []) = c.references_of-2.ensures in
    omega (arith, c.self.invariant.1, all, one, more, c.self.inside.words.ok, c.self.inside.words.small)

pub invariant_of-self : goal.invariant_of-self
invariant_of-self c =
    let ws = c.self.inside.words.items in
    let fits : FitsAt c.self.inside.layout c.args.at c.args.word = rw (← c.self.view_is) at c.requires in
    let now : FitsAt c.self.inside.layout c.args.at c.replace.new.dest = subst (FitsAt c.self.inside.layout c.args.at) (sym c.replace.ensures.after) fits in
    let there : slice_get ws c.args.at ≡ Some c.replace.result =
    subst (λ w. slice_get ws c.args.at ≡ Some w) (sym c.replace.ensures.value) (stood_there c.self.inside.layout ws c.args.at c.args.word c.index_mut.result.now c.self.invariant.0 fits c.index_mut.ensures.value) in
    let least : references_in (c.replace.result ∷ []) ≤ references_in ws = references_there ws c.args.at c.replace.result there in
    let gone : c.references_of.result ≡ references_in (c.replace.result ∷ []) = c.references_of.ensures in
    let more : c.references_of-2.result ≡ references_in (c.replace.new.dest ∷ []) = c.references_of-2.ensures ∙ ap (λ w. references_in (w ∷ [])) (sym c.replace.ensures.after) in
    let set : references_in (slice_set ws c.args.at c.replace.new.dest) + references_in (c.replace.result ∷ []) ≡ references_in ws + references_in (c.replace.new.dest ∷ []) = references_set ws c.args.at c.replace.result c.replace.new.dest there in
    (set_fits c.self.inside.layout ws c.args.at c.replace.new.dest c.self.invariant.0 now, omega (arith, c.self.invariant.1, least, gone, more, set))

pub returns-clause-old : goal.returns-clause-old
returns-clause-old c =
    let ws = c.self.inside.words.items in
    let fits : FitsAt c.self.inside.layout c.args.at c.args.word = rw (← c.self.view_is) at c.requires in
    rw (← c.self.view_is) (subst (λ w. slice_get ws c.args.at ≡ Some w) (sym c.replace.ensures.value) (stood_there c.self.inside.layout ws c.args.at c.args.word c.index_mut.result.now c.self.invariant.0 fits c.index_mut.ensures.value))

pub returns-clause-fit : goal.returns-clause-fit
returns-clause-fit c =
    let ws = c.self.inside.words.items in
    let fits : FitsAt c.self.inside.layout c.args.at c.args.word = rw (← c.self.view_is) at c.requires in
    rw (← c.self.view_is) (c.self.invariant.0.suit c.args.at c.replace.result (subst (λ w. slice_get ws c.args.at ≡ Some w) (sym c.replace.ensures.value) (stood_there c.self.inside.layout ws c.args.at c.args.word c.index_mut.result.now c.self.invariant.0 fits c.index_mut.ensures.value)))
