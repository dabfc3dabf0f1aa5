use Rattle.std.proofs.Common.{sym, subst}
use Rattle.heap_script.specs.declared.script.Script.{Script}
use Rattle.heap_script.specs.Scripts.{AllNamed}
use Rattle.zone_commands.proofs.soak.play_soak.Goals as goal

pub play-requires-clause-named : goal.play-requires-clause-named
play-requires-clause-named c = subst (λ (s : Script). AllNamed s.lines) (sym c.in_ok-script.ensures) (c.soak_scripts_can_be_played.ensures c.args.start c.args.calls).named
