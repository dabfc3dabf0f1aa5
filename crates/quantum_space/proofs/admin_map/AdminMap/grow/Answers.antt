use Rattle.std.proofs.Common.{refl, ◌+◌, ◌∙◌, ap, length, get_or, List, ℕ}
use Rattle.quantum_space.proofs.Cursors.{cursors_grown}
use Rattle.quantum_space.proofs.admin_map.AdminMap.grow.Goals as goal

pub invariant_of-self-2 : goal.invariant_of-self-2
invariant_of-self-2 c =
    cursors_grown (record { size = c.self.inside.size; subzones = c.self.inside.subzones; bytes = c.self.inside.bytes.items }) _ c.self.inside.low.items c.append-2.new.list.items c.self.inside.first c.self.invariant refl refl
    (c.append.ensures.length ∙ ap (λ (xs : List ℕ). length xs + c.self.inside.size) c.reserve.ensures.items)
    (c.append-2.ensures.length ∙ ap (λ (xs : List ℕ). length xs + 33) c.reserve-2.ensures.items)
    (λ k. c.append.ensures.same k ∙ ap (λ (xs : List ℕ). get_or xs k 0) c.reserve.ensures.items)
    (λ k. c.append-2.ensures.same k ∙ ap (λ (xs : List ℕ). get_or xs k 0) c.reserve-2.ensures.items)
