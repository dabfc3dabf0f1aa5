use Rattle.block_layouts.specs.Layouts.{NoStrongWithin}
use Rattle.block_layouts.specs.declared.layout.Shape.TheVariants.{Object}
use Rattle.block_layouts.proofs.classes.strong_from.Given as goal

abbrev pub invariant-loop-at : goal.invariant-loop-at
invariant-loop-at l = NoStrongWithin (Object l.classes) l.from l.at
