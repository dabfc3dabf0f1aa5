use Rattle.play_core.proofs.world.World.into_journal.Goals as goal

pub returns-clause-legal : goal.returns-clause-legal
returns-clause-legal c = rw (← c.self.view_is) c.into_journal.ensures.legal
