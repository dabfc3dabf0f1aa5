use Rattle.std.proofs.Common.{◌≡◌, ap, ◌∙◌, sym, subst, ◌<◌, is_some, true}
use Rattle.std.specs.FinMap.{get, len}
use Rattle.weak_table.specs.Shows.{Shows, is_word_of}
use Rattle.weak_table.proofs.Showing.{dropped-more, dropped-all, Dropped, word-passes, word-none, word-shows, shorter-some}
use Rattle.weak_table.proofs.weak.Weak.forget_in.Goals as goal

pub loop-word-smaller : goal.loop-word-smaller
loop-word-smaller c =
    let there : is_some (get c.loop-word.self.shown c.in-Some.word) ≡ true =
    ap (λ (s : Shows). is_some (get s.shown c.in-Some.word)) (sym c.self.view_is) ∙ word-shows c.self.inside.shown c.self.inside.words c.self.inside.ready c.self.invariant c.args.block c.in-Some.word c.in-Some.ensures in
    subst (λ m. len m < len c.loop-word.self.shown) (sym c.clear.ensures.shown) (shorter-some c.loop-word.self.shown c.in-Some.word there)

pub loop-word-preserved : goal.loop-word-preserved
loop-word-preserved c =
    subst (Dropped (is_word_of c.args.block) c.args.self.now.shown) (sym c.clear.ensures.shown)
    (dropped-more (is_word_of c.args.block) c.args.self.now.shown c.loop-word.self.shown c.in-Some.word c.loop-word.invariant
    (word-passes c.self.inside.shown c.self.inside.words c.self.inside.ready c.self.invariant c.args.block c.in-Some.word c.in-Some.ensures))

pub returns-clause-shown : goal.returns-clause-shown
returns-clause-shown c =
    ap (λ (s : Shows). s.shown) c.self-2.view_is
    ∙ dropped-all (is_word_of c.args.block) c.args.self.now.shown c.loop-word.self.shown c.loop-word.invariant
    (λ q e. ap (λ (s : Shows). get s.shown q) (sym c.self.view_is) ∙ word-none c.self.inside.shown c.self.inside.words c.self.inside.ready c.self.invariant c.args.block c.in_default.ensures q e)
