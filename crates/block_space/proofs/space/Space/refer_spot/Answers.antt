use Rattle.std.proofs.Common.{subst, sym}
use Rattle.block_space.specs.Spaces.{IsRight, Space'}
use Rattle.block_space.proofs.Right.{written_medium, written_small}
use Rattle.block_space.proofs.space.Space.refer_spot.Goals as goal

pub invariant_of-self : goal.invariant_of-self
invariant_of-self c =
    let w = c.knowing-word.result in
    let right = subst (λ (v : Space'). IsRight v.small.layouts v.medium.layouts v.small.ids v.medium.ids w) (sym c.self.view_is) c.knowing-word.ensures.right in
    rw c.set_word.ensures (written_small _ _ _ w c.self.invariant right)

pub invariant_of-self-in-Medium : goal.invariant_of-self-in-Medium
invariant_of-self-in-Medium c =
    let w = c.knowing-word.result in
    let right = subst (λ (v : Space'). IsRight v.small.layouts v.medium.layouts v.small.ids v.medium.ids w) (sym c.self.view_is) c.knowing-word.ensures.right in
    rw c.set_word-in-Medium.ensures (written_medium _ _ _ w c.self.invariant right)
