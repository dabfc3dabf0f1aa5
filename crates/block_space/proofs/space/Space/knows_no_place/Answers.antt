use Rattle.std.proofs.Common.{List, subst, sym}
use Rattle.quantum_space.specs.declared.place.Place.{Place}
use Rattle.block_space.specs.Maps.{IsSound, KnowsNone, MayFree}
use Rattle.quantum_space.specs.declared.spot.Kind.TheVariants as kind
use Rattle.block_space.specs.Spaces.{Space', space_of}
use Rattle.block_space.proofs.Fewer.{nothing_leads}
use Rattle.block_space.proofs.space.Space.knows_no_place.Goals as goal

pub returns-then-knows_none-clause-may : goal.returns-then-knows_none-clause-may
returns-then-knows_none-clause-may c = λ t.
    (let i = c.self.inside in
    let s : Space' = space_of i.small i.medium i.table i.spare i.used in
    let sound : IsSound s = subst (λ (v : Space'). IsSound v) (sym c.self.view_is) c.is_sound.ensures in
    subst (λ (v : Space'). (ps : List Place) → MayFree v ps) c.self.view_is (nothing_leads s sound (c.knows_none.ensures.none c.if-knows_none.true) (c.knows_none-then-knows_none.ensures.none t)))

pub returns-then-knows_none-clause-exact : goal.returns-then-knows_none-clause-exact
returns-then-knows_none-clause-exact c = λ h. (let k = subst (λ (v : Space'). KnowsNone v) (sym c.self.view_is) h in c.knows_none-then-knows_none.ensures.exact (k.none kind.Medium))

pub returns-else-knows_none-clause-exact : goal.returns-else-knows_none-clause-exact
returns-else-knows_none-clause-exact c = λ h. (let k = subst (λ (v : Space'). KnowsNone v) (sym c.self.view_is) h in let t = c.knows_none.ensures.exact (k.none kind.Small) in let f = c.if-knows_none.false in cc)
