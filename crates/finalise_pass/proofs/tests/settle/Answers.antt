use Rattle.finalise_pass.proofs.Numbered.{all_watched}
use Rattle.finalise_pass.proofs.tests.settle.Goals as goal

pub settle-requires : goal.settle-requires
settle-requires c = rw c.remember_all.ensures.all (all_watched _ _ _ _ _ c.remember_all.new.self.some_remembered.items _)
