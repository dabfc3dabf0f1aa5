use Rattle.std.proofs.Common.{subst, sym}
use Rattle.quantum_space.specs.declared.placed.PlacedWord.{PlacedWord}
use Rattle.block_space.specs.Spaces.{IsRight}
use Rattle.block_space.proofs.Right.{knowing_right}
use Rattle.block_space.proofs.space.Space.knowing.Goals as goal

pub returns-clause-right : goal.returns-clause-right
returns-clause-right c =
    let s = c.args.self.now in
    subst (λ (w : PlacedWord). IsRight s.small.layouts s.medium.layouts s.small.ids s.medium.ids w) (sym c.knowing.ensures)
    (knowing_right s c.args.to c.id_in.result c.requires c.id_in.ensures)
