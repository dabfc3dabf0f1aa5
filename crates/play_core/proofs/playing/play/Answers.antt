use Rattle.std.proofs.Common.{◌==◌, All, List, sym, ap, subst, ◌∙◌}
use Rattle.std.specs.List.{list_any}
use Rattle.heap_script.specs.declared.line.Line.{Line}
use Rattle.play_order.specs.Play.{IsProper}
use Rattle.play_order.specs.Playing.{Seen}
use Rattle.play_order.proofs.Whole.{play_history}
use Rattle.play_core.specs.Playing.{requests, requests_of}
use Rattle.play_core.specs.Worlds.{Ascending}
use Rattle.play_core.proofs.Lines.{threads_ascend, so_far_opened, quiet_opened, play_is}
use Rattle.play_core.proofs.playing.play.Goals as goal

pub new-requires-clause-ascending : goal.new-requires-clause-ascending
new-requires-clause-ascending c = subst Ascending (sym (c.deref.ensures.value ∙ c.in_ok-threads.ensures)) (threads_ascend (requests c.as_slice-lines.result.now))

pub play_all-played-requires-clause-opened : goal.play_all-played-requires-clause-opened
play_all-played-requires-clause-opened c = so_far_opened c.in_ok-world.world c.args.script.now.options c.in_ok-world.ensures.seen

pub play_all-played-requires-clause-running : goal.play_all-played-requires-clause-running
play_all-played-requires-clause-running c =
    let asked = c.deref.ensures.value ∙ c.in_ok-threads.ensures in
    record { threads = c.in_ok-world.ensures.threads ∙ asked; running = λ t. c.in_ok-world.ensures.running t ∙ ap (list_any (λ u. u == t)) asked; quiet = quiet_opened c.in_ok-world.world c.args.script.now.options c.in_ok-world.ensures.seen }

pub returns-in-Ok-clause-ordered : goal.returns-in-Ok-clause-ordered
returns-in-Ok-clause-ordered c =
    play_is c.args.script.now.options c.play_all-played.new.world.options c.as_slice-lines.result.now c.args.script.now.lines c.play_all-played.new.world.journal c.into_vec-entries.result.items c.in-Ok.stats
    (c.in-Ok.ensures.options ∙ ap (λ (s : Seen). s.options) c.in_ok-world.ensures.seen) c.as_slice-lines.ensures (c.into_vec-entries.ensures ∙ c.into_journal.ensures.entries) c.in-Ok.ensures.play

pub returns-in-Ok-clause-history : goal.returns-in-Ok-clause-history
returns-in-Ok-clause-history c =
    let proper = subst (λ (ls : List Line). All IsProper (requests ls)) c.as_slice-lines.ensures c.in-Ok.ensures.proper in
    play_history c.args.script.now.options (requests_of c.args.script.now) c.into_vec-entries.result.items c.in-Ok.stats proper (returns-in-Ok-clause-ordered c)
