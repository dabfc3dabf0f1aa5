use Rattle.std.proofs.Common.{ap, ◌∙◌, refl, arith}
use Rattle.weak_table.specs.Lists.{members_at}
use Rattle.weak_table.proofs.Grouping.{kept-index, ready-index, same_roomy}
use Rattle.weak_table.proofs.groups.Groups.reserve_one.Goals as goal

pub invariant_of-self : goal.invariant_of-self
invariant_of-self c =
    kept-index c.self.inside.places c.self.inside.lists c.self.inside.tight c.self.inside.room c.self.invariant c.reserve.new.self c.self.inside.lists
    c.reserve.ensures.entries c.reserve.ensures.room.0 (λ b. refl) c.self.invariant.roomy (omega arith)

pub invariant_of-self-in_err-reserve-2 : goal.invariant_of-self-in_err-reserve-2
invariant_of-self-in_err-reserve-2 c =
    kept-index c.self.inside.places c.self.inside.lists c.self.inside.tight c.self.inside.room c.self.invariant c.reserve.new.self c.reserve-2.new.self
    c.reserve.ensures.entries c.reserve.ensures.room.0 (λ b. ap (λ es. members_at es b) c.reserve-2.ensures.entries) (same_roomy _ _ _ c.reserve-2.ensures.entries c.self.invariant.roomy) c.reserve-2.ensures.room.0

pub invariant_of-self-in_err-widen : goal.invariant_of-self-in_err-widen
invariant_of-self-in_err-widen c =
    kept-index c.self.inside.places c.self.inside.lists c.self.inside.tight c.self.inside.room c.self.invariant c.reserve.new.self c.widen.new.lists
    c.reserve.ensures.entries c.reserve.ensures.room.0 (λ b. c.widen.ensures.members b ∙ ap (λ es. members_at es b) c.reserve-2.ensures.entries) c.widen.ensures.err
    (let same = c.widen.ensures.spare in let more = c.reserve-2.ensures.room.0 in omega (arith, same, more))

pub invariant_of-self-2 : goal.invariant_of-self-2
invariant_of-self-2 c =
    ready-index c.self.inside.places c.self.inside.lists c.self.inside.tight c.self.inside.room c.self.invariant c.reserve.new.self c.widen.new.lists
    c.reserve.ensures.entries (let one = c.in_ok-reserve.ensures.ok in omega (arith, one)) (λ b. c.widen.ensures.members b ∙ ap (λ es. members_at es b) c.reserve-2.ensures.entries) c.in_ok-widen.ensures.ok
    (let same = c.widen.ensures.spare in let one = c.in_ok-reserve-2.ensures.ok in omega (arith, same, one))
