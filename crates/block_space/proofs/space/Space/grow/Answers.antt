use Rattle.std.proofs.Common.{arith, ap}
use Rattle.quantum_space.specs.declared.spot.Kind.TheVariants as kind
use Rattle.block_space.specs.Tables.{Table', numbers}
use Rattle.block_space.proofs.Keeping.{kept, kind_grown}
use Rattle.block_space.proofs.Right.{keeps_roomier, none_roomier, whole_medium, whole_small}
use Rattle.block_space.proofs.space.Space.grow.Goals as goal

pub overflow_add-unopened : goal.overflow_add-unopened
overflow_add-unopened c = omega (arith, c.unopened.ensures.value, c.unopened-2.ensures.value, c.self.invariant.space.unopened, c.self.invariant.space.rooms)

pub overflow_add-unopened-2 : goal.overflow_add-unopened-2
overflow_add-unopened-2 c = omega (arith, c.unopened.ensures.value, c.unopened-2.ensures.value, c.self.invariant.space.unopened, c.self.invariant.space.rooms)

pub invariant_of-self-in-Small : goal.invariant_of-self-in-Small
invariant_of-self-in-Small c =
    let i = c.self.inside in
    let same = c.in_ok-reserve.ensures.same in
    whole_small _ _ _ _ _ c.self.invariant (keeps_roomier _ _ c.grow.ensures.same) (none_roomier _ _ c.grow.ensures.same) (kept _ kind.Small c.grow.new.self c.reserve.new.self i.spare i.used c.self.invariant.space
    (kind_grown _ kind.Small c.grow.new.self c.reserve.new.self c.self.invariant.space c.grow.ensures.same c.grow.ensures.one (ap (λ (x : Table'). numbers x kind.Small) same) (ap (λ (x : Table'). numbers x kind.Medium) same)
    (omega (arith, c.in_ok-reserve.ensures.ok, c.in-Ok.ensures, c.unopened.ensures.value, c.unopened-2.ensures.value)) c.in_ok-reserve.ensures.range))

pub invariant_of-self-in-Medium : goal.invariant_of-self-in-Medium
invariant_of-self-in-Medium c =
    let i = c.self.inside in
    let same = c.in_ok-reserve.ensures.same in
    whole_medium _ _ _ _ _ c.self.invariant (keeps_roomier _ _ c.grow-in-Medium.ensures.same) (none_roomier _ _ c.grow-in-Medium.ensures.same) (kept _ kind.Medium c.grow-in-Medium.new.self c.reserve.new.self i.spare i.used c.self.invariant.space
    (kind_grown _ kind.Medium c.grow-in-Medium.new.self c.reserve.new.self c.self.invariant.space c.grow-in-Medium.ensures.same c.grow-in-Medium.ensures.one (ap (λ (x : Table'). numbers x kind.Medium) same) (ap (λ (x : Table'). numbers x kind.Small) same)
    (omega (arith, c.in_ok-reserve.ensures.ok, c.in-Ok.ensures, c.unopened.ensures.value, c.unopened-2.ensures.value)) c.in_ok-reserve.ensures.range))
