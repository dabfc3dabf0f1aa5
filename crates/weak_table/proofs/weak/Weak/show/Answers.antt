use Rattle.weak_table.proofs.Showing.{word-weak, root-weak}
use Rattle.weak_table.proofs.weak.Weak.show.Goals as goal

pub invariant_of-self : goal.invariant_of-self
invariant_of-self c =
    word-weak c.self.inside.shown c.self.inside.words _ c.self.invariant c.add.new.self c.add-in-Word.new.self c.args.loc c.args.value c.in-Word.block _ c.in-Word.is c.add.ensures.groups c.add-in-Word.ensures.groups

pub invariant_of-self-in_default : goal.invariant_of-self-in_default
invariant_of-self-in_default c =
    root-weak c.self.inside.shown c.self.inside.words _ c.self.invariant c.add.new.self c.self.inside.words c.args.loc c.args.value c.in_default.not-Word c.add.ensures.groups
