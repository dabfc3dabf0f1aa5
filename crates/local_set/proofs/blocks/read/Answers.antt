use Rattle.std.proofs.Common.{◌<◌, ap, length, sym, subst, ◌∙◌, option_and_then, slice_get, MatchOption, refl, arith}
use Rattle.std.proofs.lemmas.Option.{slice_get_read}
use Rattle.block_layouts.specs.Layouts.{len_of}
use Rattle.zone_model.specs.State.{Block}
use Rattle.block_layouts.specs.Fitting.{FitsAt}
use Rattle.local_set.proofs.blocks.read.Goals as goal

pub bounds-words-at : goal.bounds-words-at
bounds-words-at c =
    let within = subst (λ o. MatchOption o ⊥ (λ (b : Block). c.args.at < len_of b.layout)) c.block_near.ensures c.requires in
    let all = c.words.ensures.fit.all in
    rw (c.words.ensures.words) (omega (arith, within, all))

pub returns-clause-fit : goal.returns-clause-fit
returns-clause-fit c =
    let within : c.args.at < len_of c.block_near.result.now.layout = subst (λ o. MatchOption o ⊥ (λ (b : Block). c.args.at < len_of b.layout)) c.block_near.ensures c.requires in
    let all = c.words.ensures.fit.all in
    let bound : c.args.at < length c.words.result.now = rw (c.words.ensures.words) (omega (arith, within, all)) in
    subst (λ o. MatchOption o ⊥ (λ (b : Block). FitsAt b.layout c.args.at c.index-words-at.result)) (sym c.block_near.ensures)
    (c.words.ensures.fit.suit c.args.at c.index-words-at.result (ap (λ ws. slice_get ws c.args.at) (sym c.words.ensures.words) ∙ slice_get_read c.words.result.now (length c.words.result.now) c.args.at c.index-words-at.result refl bound c.index-words-at.is))

pub returns-clause-word : goal.returns-clause-word
returns-clause-word c =
    let within : c.args.at < len_of c.block_near.result.now.layout = subst (λ o. MatchOption o ⊥ (λ (b : Block). c.args.at < len_of b.layout)) c.block_near.ensures c.requires in
    let all = c.words.ensures.fit.all in
    let bound : c.args.at < length c.words.result.now = rw (c.words.ensures.words) (omega (arith, within, all)) in
    ap (option_and_then (λ (b : Block). slice_get b.words c.args.at)) c.block_near.ensures
    ∙ ap (λ ws. slice_get ws c.args.at) (sym c.words.ensures.words)
    ∙ slice_get_read c.words.result.now (length c.words.result.now) c.args.at c.index-words-at.result refl bound c.index-words-at.is
