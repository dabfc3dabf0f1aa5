use Rattle.std.proofs.Common.{◌≡◌, ◌-◌, [], ◌∷◌, ◌++◌, false, cond, filter, get_or, sym, ap, ap₂, subst, ◌∙◌, arith}
use Rattle.std.specs.List.{range_with_len}
use Rattle.zone_history.specs.Histories.{is_asked}
use Rattle.play_core.specs.Playing.{requests}
use Rattle.play_core.proofs.Lines.{asked_is, threads_more}
use Rattle.play_core.proofs.playing.threads_of.Goals as goal

pub loop-n-init : goal.loop-n-init
loop-n-init c = c.new-threads.ensures.items

pub loop-n-preserved : goal.loop-n-preserved
loop-n-preserved c =
    let p = is_asked (requests c.args.lines.now) in
    let thread = c.in-Some.thread in
    let asked : get_or c.asked-asked.result c.loop-n.n false ≡ p thread =
    c.asked-asked.ensures.at c.loop-n.n (let few = c.loop-n.auto.n-end in let low = c.loop-n-test.true in omega (arith, few, low)) ∙ sym (asked_is c.args.lines.now c.loop-n.n) ∙ ap p (sym c.in-Some.ensures.1) in
    c.in_ok-add_asked.ensures ∙ ap₂ (λ xs b. xs ++ cond b (thread ∷ []) []) c.loop-n.invariant asked ∙ ap (λ t. filter p (range_with_len 1 (c.loop-n.n - 1)) ++ filter p (t ∷ [])) c.in-Some.ensures.1 ∙ threads_more p c.loop-n.n c.loop-n.auto.n

pub returns : goal.returns
returns c =
    let last : c.loop-n.n - 1 ≡ 16 = (let low = c.loop-n-test.false in let high = c.loop-n.auto.n-end in omega (arith, low, high)) in
    subst (λ n. c.loop-n.threads.items ≡ filter (is_asked (requests c.args.lines.now)) (range_with_len 1 n)) last c.loop-n.invariant
