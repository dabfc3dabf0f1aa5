use Rattle.weak_table.proofs.Showing.{cleared-weak}
use Rattle.weak_table.proofs.weak.Weak.clear.Goals as goal

pub invariant_of-self : goal.invariant_of-self
invariant_of-self c =
    cleared-weak c.self.inside.shown c.self.inside.words c.self.inside.ready c.self.invariant c.remove.new.self c.remove-2.new.self c.args.loc
    c.remove.ensures.groups c.remove-2.ensures.groups c.remove.ensures.room c.remove-2.ensures.room
