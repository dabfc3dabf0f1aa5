use Rattle.zone_commands.proofs.laws.texts_are_read_as_run.Goals as goal

pub returns : goal.returns
returns c = λ bytes text answer p reads. c.texts_are_read_back.ensures text p.script.options p.history p.stats answer p.fixed reads
