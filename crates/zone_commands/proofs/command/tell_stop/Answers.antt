use Rattle.std.proofs.Common.{refl, sym, subst}
use Rattle.zone_commands.specs.declared.status.Status.TheVariants as status
use Rattle.zone_commands.specs.Answers.{ToldStop}
use Rattle.zone_commands.proofs.command.tell_stop.Goals as goal

pub returns-in-ReadFault : goal.returns-in-ReadFault
returns-in-ReadFault g c =
    subst (λ stop. ToldStop stop status.ReadFault (g.E.Sink.grew c.args.err.now c.say-in-ReadFault.new.err) (g.E.Sink.faults c.args.err.now) (g.E.Sink.faults c.say-in-ReadFault.new.err))
    (sym c.in-ReadFault.is) (refl, c.say-in-ReadFault.ensures)

pub returns-in-WriteFault : goal.returns-in-WriteFault
returns-in-WriteFault g c =
    subst (λ stop. ToldStop stop status.WriteFault (g.E.Sink.grew c.args.err.now c.say-in-WriteFault.new.err) (g.E.Sink.faults c.args.err.now) (g.E.Sink.faults c.say-in-WriteFault.new.err))
    (sym c.in-WriteFault.is) (refl, c.say-in-WriteFault.ensures)
