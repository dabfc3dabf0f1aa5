use Rattle.play_core.specs.Playing.{requests, ends_of}
use Rattle.play_core.proofs.Lines.{play_of, options_of}
use Rattle.play_core.proofs.playing.play_all.Goals as goal

pub returns-clause-play : goal.returns-clause-play
returns-clause-play c =
    let lines = c.in_ok-play_lines.ensures in
    let end = c.end.ensures in
    play_of (requests c.args.lines.now) c.play_lines.new.world c.end.new.self c.end.result lines.so_far lines.running end.ok end.stats end.legal

pub returns-clause-options : goal.returns-clause-options
returns-clause-options c = options_of c.play_lines.new.world c.end.new.self (ends_of c.play_lines.new.world) c.args.world.now.options c.end.result c.in_ok-play_lines.ensures.options c.end.ensures.ok
