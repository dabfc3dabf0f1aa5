use Rattle.std.proofs.Common.{All, take, refl, sym, subst, ◌∙◌}
use Rattle.std.proofs.lemmas.List.{take_all}
use Rattle.std.proofs.lemmas.List.Elements.{All-push, All-nil}
use Rattle.play_order.specs.Play.{IsProper}
use Rattle.play_order.specs.Playing.{SoFar}
use Rattle.play_order.proofs.Playing.{so_far_more}
use Rattle.play_core.specs.Playing.{requests}
use Rattle.play_core.specs.Worlds.{seen}
use Rattle.play_core.proofs.Lines.{asked_at, requests_more}
use Rattle.play_core.proofs.playing.play_lines.Goals as goal

pub loop-line-init : goal.loop-line-init
loop-line-init c = record { so_far = c.requires.opened; proper = All-nil IsProper; running = c.requires.running; options = refl }

pub play_line-requires-clause-asked : goal.play_line-requires-clause-asked
play_line-requires-clause-asked c = asked_at c.args.lines.now c.loop-line.line-index c.line-item.result c.loop-line-test.true c.line-item.is

pub play_line-requires-clause-running : goal.play_line-requires-clause-running
play_line-requires-clause-running c = c.loop-line.invariant.running

pub loop-line-preserved : goal.loop-line-preserved
loop-line-preserved c =
    let i = c.loop-line.invariant in
    let line = c.line-item.result in
    let before = requests (take c.loop-line.line-index c.args.lines.now) in
    let more = requests_more c.args.lines.now c.loop-line.line-index line c.loop-line-test.true c.line-item.is in
    let played = c.in_ok-play_line.ensures in
    record {
      so_far = subst (λ rs. SoFar rs (seen c.play_line.new.world)) (sym more) (so_far_more before (seen c.loop-line.world) (seen c.play_line.new.world) (line.thread, line.act) played.turn.1 played.turn.0 i.so_far played.turn.2);
      proper = subst (All IsProper) (sym more) (All-push IsProper before (line.thread, line.act) i.proper played.proper);
      running = played.running;
      options = played.options ∙ i.options;
    }

pub returns-clause-so_far : goal.returns-clause-so_far
returns-clause-so_far c = subst (λ ls. SoFar (requests ls) (seen c.loop-line.world)) (take_all c.loop-line.line-index c.args.lines.now c.loop-line-test.false) c.loop-line.invariant.so_far

pub returns-clause-proper : goal.returns-clause-proper
returns-clause-proper c = subst (λ ls. All IsProper (requests ls)) (take_all c.loop-line.line-index c.args.lines.now c.loop-line-test.false) c.loop-line.invariant.proper
