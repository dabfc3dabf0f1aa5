use Rattle.std.proofs.Common.{◌+◌, ap, sym, ◌∙◌}
use Rattle.quantum_space.specs.declared.spot.Kind.TheVariants as kind
use Rattle.block_space.specs.Spaces.{Space', kind_quanta}
use Rattle.block_space.proofs.Keeping.{both_covered, roomier_space_more}
use Rattle.block_space.proofs.space.Space.reserve.Goals as goal

pub extend-requires-clause-covered : goal.extend-requires-clause-covered
extend-requires-clause-covered c =
    both_covered c.cover.new.self c.cover-2.new.self c.as_slice-spare.result.now c.args.lengths.now _ _ c.cover-2.ensures.same (c.cover-2.ensures.spare ∙ c.cover.ensures.spare ∙ sym (ap (λ (v : Space'). v.spare) c.self.view_is) ∙ sym c.as_slice-spare.ensures)
    c.in_ok-cover.ensures.room c.in_ok-cover-2.ensures.room (ap (λ n. n + c.kind_quanta-2.result) c.kind_quanta.ensures.value ∙ ap (λ n. kind_quanta kind.Small c.as_slice-spare.result.now + n) c.kind_quanta-2.ensures.value)
    (ap (λ n. n + c.kind_quanta-4.result) c.kind_quanta-3.ensures.value ∙ ap (λ n. kind_quanta kind.Medium c.as_slice-spare.result.now + n) c.kind_quanta-4.ensures.value)

pub returns-clause-same : goal.returns-clause-same
returns-clause-same c = roomier_space_more _ _ _ (roomier_space_more _ _ _ c.cover.ensures.same c.cover-2.ensures.same) c.extend.ensures.same
