use Rattle.std.proofs.Common.{◌≡◌, ◌≤◌, arith, ap, sym, subst, Some, slice_get, ◌∙◌}
use Rattle.block_layouts.specs.Layouts.{len_of}
use Rattle.quantum_space.specs.Regions.{IsRegion, quanta_in}
use Rattle.quantum_space.specs.declared.spot.Kind.TheVariants as kind
use Rattle.block_space.specs.Spaces.{Space', kind_of}
use Rattle.block_space.proofs.Keeping.{first_room, placed_kept}
use Rattle.block_space.proofs.Right.{more_medium, more_small}
use Rattle.block_space.proofs.Sums.{few_quanta, first_list}
use Rattle.block_space.proofs.space.Space.place_first.Goals as goal

pub overflow_add-self : goal.overflow_add-self
overflow_add-self c =
    let first : slice_get c.self.inside.spare 0 ≡ Some (len_of c.args.layout) = subst (λ (v : Space'). slice_get v.spare 0 ≡ Some (len_of c.args.layout)) (sym c.self.view_is) c.requires in
    omega (arith, c.self.invariant.space.few, first_list c.self.inside.spare (len_of c.args.layout) first, c.quanta.ensures.value)

pub place_in-requires-clause-few : goal.place_in-requires-clause-few
place_in-requires-clause-few c =
    let own : kind.Small ≡ kind_of (len_of c.args.layout) = c.in-Small.ensures ∙ ap kind_of c.len.ensures.value in
    subst (λ w. quanta_in w (len_of c.args.layout) ≤ 32) (sym (c.self.invariant.space.width kind.Small)) (few_quanta kind.Small (len_of c.args.layout) (omega (arith, c.len.ensures.value, c.len.ensures.range)) (sym own))

pub place_in-requires-clause-room : goal.place_in-requires-clause-room
place_in-requires-clause-room c =
    let first : slice_get c.self.inside.spare 0 ≡ Some (len_of c.args.layout) = subst (λ (v : Space'). slice_get v.spare 0 ≡ Some (len_of c.args.layout)) (sym c.self.view_is) c.requires in
    first_room _ kind.Small (len_of c.args.layout) c.self.invariant.space first (c.in-Small.ensures ∙ ap kind_of c.len.ensures.value)

pub place_in-requires-clause-size : goal.place_in-requires-clause-size
place_in-requires-clause-size c = omega (arith, c.self.invariant.space.size kind.Small)

pub invariant_of-self : goal.invariant_of-self
invariant_of-self c =
    let first : slice_get c.self.inside.spare 0 ≡ Some (len_of c.args.layout) = subst (λ (v : Space'). slice_get v.spare 0 ≡ Some (len_of c.args.layout)) (sym c.self.view_is) c.requires in
    let sound : IsRegion c.self.inside.small = subst (λ (v : Space'). IsRegion v.small) (sym c.self.view_is) (c.is_sound.ensures.regions kind.Small) in
    more_small _ _ _ _ _ _ _ _ _ c.self.invariant sound c.place_in.ensures.placed.placed (placed_kept _ kind.Small c.args.id c.args.layout c.place_in.new.region c.place_in.new.table c.place_in.result c.take_first.new.self c.quanta.result c.self.invariant.space (c.in-Small.ensures ∙ ap kind_of c.len.ensures.value) first
    c.place_in.ensures.placed c.place_in.ensures.room c.take_first.ensures c.quanta.ensures.value)

pub place_in-requires-in-Medium-clause-few : goal.place_in-requires-in-Medium-clause-few
place_in-requires-in-Medium-clause-few c =
    let own : kind.Medium ≡ kind_of (len_of c.args.layout) = c.in-Medium.ensures ∙ ap kind_of c.len.ensures.value in
    subst (λ w. quanta_in w (len_of c.args.layout) ≤ 32) (sym (c.self.invariant.space.width kind.Medium)) (few_quanta kind.Medium (len_of c.args.layout) (omega (arith, c.len.ensures.value, c.len.ensures.range)) (sym own))

pub place_in-requires-in-Medium-clause-room : goal.place_in-requires-in-Medium-clause-room
place_in-requires-in-Medium-clause-room c =
    let first : slice_get c.self.inside.spare 0 ≡ Some (len_of c.args.layout) = subst (λ (v : Space'). slice_get v.spare 0 ≡ Some (len_of c.args.layout)) (sym c.self.view_is) c.requires in
    first_room _ kind.Medium (len_of c.args.layout) c.self.invariant.space first (c.in-Medium.ensures ∙ ap kind_of c.len.ensures.value)

pub place_in-requires-in-Medium-clause-size : goal.place_in-requires-in-Medium-clause-size
place_in-requires-in-Medium-clause-size c = omega (arith, c.self.invariant.space.size kind.Medium)

pub invariant_of-self-in-Medium : goal.invariant_of-self-in-Medium
invariant_of-self-in-Medium c =
    let first : slice_get c.self.inside.spare 0 ≡ Some (len_of c.args.layout) = subst (λ (v : Space'). slice_get v.spare 0 ≡ Some (len_of c.args.layout)) (sym c.self.view_is) c.requires in
    let sound : IsRegion c.self.inside.medium = subst (λ (v : Space'). IsRegion v.medium) (sym c.self.view_is) (c.is_sound.ensures.regions kind.Medium) in
    more_medium _ _ _ _ _ _ _ _ _ c.self.invariant sound c.place_in-in-Medium.ensures.placed.placed (placed_kept _ kind.Medium c.args.id c.args.layout c.place_in-in-Medium.new.region c.place_in-in-Medium.new.table c.place_in-in-Medium.result c.take_first.new.self c.quanta.result c.self.invariant.space (c.in-Medium.ensures ∙ ap kind_of c.len.ensures.value) first
    c.place_in-in-Medium.ensures.placed c.place_in-in-Medium.ensures.room c.take_first.ensures c.quanta.ensures.value)

pub place_in-requires-clause-opened : goal.place_in-requires-clause-opened
place_in-requires-clause-opened c = c.self.invariant.space.opened kind.Small

pub place_in-requires-in-Medium-clause-opened : goal.place_in-requires-in-Medium-clause-opened
place_in-requires-in-Medium-clause-opened c = c.self.invariant.space.opened kind.Medium
