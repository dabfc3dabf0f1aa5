use Rattle.play_core.proofs.Stepping.{told_there}
use Rattle.play_core.proofs.Legal.{all_legal}
use Rattle.play_core.proofs.world.World.journal.Goals as goal

pub returns-clause-legal : goal.returns-clause-legal
returns-clause-legal c = rw (← c.self.view_is) (all_legal c.self.inside.core c.self.inside.locals.items c.entries.ensures.state c.self.invariant)

pub returns-clause-told : goal.returns-clause-told
returns-clause-told c = rw (← c.self.view_is) (told_there c.self.inside.core c.self.inside.locals.items c.entries.ensures.state c.self.invariant)
