use Rattle.std.proofs.Common.{◌≤◌, sym, subst, OnOk}
use Rattle.std.proofs.lemmas.Result.{on_ok_weaker}
use Rattle.zone_model.specs.declared.act.Act.{Act}
use Rattle.call_words.specs.Ranges.{IsNamed}
use Rattle.play_core.specs.Playing.{requests, PlaysLine}
use Rattle.play_core.proofs.Collections.{collection_plays, collection_lasts}
use Rattle.play_core.proofs.Lines.{can_go, can_still}
use Rattle.play_core.proofs.playing.play_line.Goals as goal

pub step-requires-clause-running : goal.step-requires-clause-running
step-requires-clause-running c =
    can_go c.args.world.now (requests c.args.lines.now) c.args.thread c.requires.running c.requires.asked (subst (λ n. (1 ≤ n) × (n ≤ 16)) c.get-number.ensures.value c.get-number.ensures.range)

pub returns-in_ok-step-in-Call-clause-running : goal.returns-in_ok-step-in-Call-clause-running
returns-in_ok-step-in-Call-clause-running c =
    let run = can_go c.args.world.now (requests c.args.lines.now) c.args.thread c.requires.running c.requires.asked (subst (λ n. (1 ≤ n) × (n ≤ 16)) c.get-number.ensures.value c.get-number.ensures.range) in
    let made = c.in_ok-step-in-Call.ensures in
    can_still c.args.world.now c.step.new.self (requests c.args.lines.now) c.args.thread c.in-Call.call c.in_ok-step-in-Call.field-0 c.requires.running run (subst IsNamed c.in-Call.is c.requires.named) made.ok made.cycle made.threads

pub collect-requires-clause-running : goal.collect-requires-clause-running
collect-requires-clause-running c =
    can_go c.args.world.now (requests c.args.lines.now) c.args.thread c.requires.running c.requires.asked (subst (λ n. (1 ≤ n) × (n ≤ 16)) c.get-number.ensures.value c.get-number.ensures.range)

pub returns-in-Collect-clause-turn : goal.returns-in-Collect-clause-turn
returns-in-Collect-clause-turn c =
    let plays = on_ok_weaker c.collect.result (collection_plays c.args.world.now c.collect.new.world c.args.thread c.in-Collect.mode c.collect.ensures.told) c.collect.ensures.ok in
    subst (λ (a : Act). OnOk c.collect.result (PlaysLine c.args.world.now c.collect.new.world (c.args.thread, a))) (sym c.in-Collect.is) plays

pub returns-in-Collect-clause-running : goal.returns-in-Collect-clause-running
returns-in-Collect-clause-running c =
    let run = can_go c.args.world.now (requests c.args.lines.now) c.args.thread c.requires.running c.requires.asked (subst (λ n. (1 ≤ n) × (n ≤ 16)) c.get-number.ensures.value c.get-number.ensures.range) in
    collection_lasts c.args.world.now c.collect.new.world (requests c.args.lines.now) c.args.thread c.in-Collect.mode c.collect.result c.requires.running run c.collect.ensures.ok c.collect.ensures.quiet
