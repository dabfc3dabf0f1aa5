use Rattle.std.proofs.Common.{◌≡◌, [], List, take, sym, subst, arith}
use Rattle.quantum_space.specs.declared.place.Place.{Place}
use Rattle.quantum_space.specs.Regions.{IsRegion}
use Rattle.quantum_space.specs.declared.spot.Kind.TheVariants as kind
use Rattle.block_space.specs.Tables.{IsTable}
use Rattle.block_space.specs.Spaces.{IsWhole, Space', space_of}
use Rattle.block_space.specs.Maps.{AreTakenOff, HasBlocksLess, IsSound}
use Rattle.block_space.proofs.Fewer.{Fewer, fewer_more, fewer_none, may_less, space_freed, whole_freed}
use Rattle.block_space.proofs.Freeing.{none_less, one_more_less, one_more_off, take_all, take_more}
use Rattle.block_space.proofs.Mapping.{sound_of}
use Rattle.block_space.proofs.space.Space.free_all.Goals as goal

pub loop-place-init : goal.loop-place-init
loop-place-init c =
    let i = c.self.inside in
    let s : Space' = space_of i.small i.medium i.table i.spare i.used in
    record {
      freed = c.self.view_is;
      less = subst (λ (v : Space'). HasBlocksLess v s []) c.self.view_is (none_less s);
      fewer = subst (λ (v : Space'). Fewer v [] s) c.self.view_is (fewer_none s);
      space = c.self.invariant.space;
      table = subst (λ (v : Space'). IsTable v.table) (sym c.self.view_is) c.is_sound.ensures.table;
      small = subst (λ (v : Space'). IsRegion v.small) (sym c.self.view_is) (c.is_sound.ensures.regions kind.Small);
      medium = subst (λ (v : Space'). IsRegion v.medium) (sym c.self.view_is) (c.is_sound.ensures.regions kind.Medium);
    }

pub free_there-requires : goal.free_there-requires
free_there-requires c = c.loop-place.invariant.space.used

pub loop-place-preserved : goal.loop-place-preserved
loop-place-preserved c =
    let i = c.loop-place.self-inside in
    let v = c.loop-place.invariant in
    let n = c.free_there.new in
    let mid : Space' = space_of i.small i.medium i.table i.spare i.used in
    let new : Space' = space_of n.small n.medium i.table i.spare n.used in
    let e = take_more c.args.places.now c.loop-place.place-index _ c.loop-place-test.true in
    let off = c.free_there.ensures.freed i.spare in
    let sound : IsSound mid = sound_of mid v.space v.table v.small v.medium in
    record {
      freed = subst (λ (ps : List Place). AreTakenOff c.args.self.now ps new) (sym e) (one_more_off c.args.self.now mid new _ _ v.freed off);
      less = subst (λ (ps : List Place). HasBlocksLess c.args.self.now new ps) (sym e) (one_more_less c.args.self.now mid new _ _ v.less (may_less mid new _ sound off));
      fewer = subst (λ (ps : List Place). Fewer c.args.self.now ps new) (sym e) (fewer_more c.args.self.now _ mid new _ v.fewer off);
      space = space_freed mid new _ v.space off;
      table = v.table;
      small = c.free_there.ensures.whole.0.1;
      medium = c.free_there.ensures.whole.1.1;
    }

pub invariant_of-self : goal.invariant_of-self
invariant_of-self c =
    let i = c.loop-place.self-inside in
    let v = c.loop-place.invariant in
    let cur : Space' = space_of i.small i.medium i.table i.spare i.used in
    let e : take c.loop-place.place-index c.args.places.now ≡ c.args.places.now = take_all c.args.places.now c.loop-place.place-index (omega (arith, c.loop-place-test.false)) in
    let whole : IsWhole c.args.self.now = subst (λ (x : Space'). IsWhole x) c.self.view_is c.self.invariant in
    whole_freed c.args.self.now cur c.args.places.now c.is_sound.ensures c.requires (subst (λ (ps : List Place). HasBlocksLess c.args.self.now cur ps) e v.less) (subst (λ (ps : List Place). Fewer c.args.self.now ps cur) e v.fewer) whole v.space

pub returns-clause-freed : goal.returns-clause-freed
returns-clause-freed c =
    let i = c.loop-place.self-inside in
    let cur : Space' = space_of i.small i.medium i.table i.spare i.used in
    let e : take c.loop-place.place-index c.args.places.now ≡ c.args.places.now = take_all c.args.places.now c.loop-place.place-index (omega (arith, c.loop-place-test.false)) in
    subst (λ (ps : List Place). AreTakenOff c.args.self.now ps cur) e c.loop-place.invariant.freed

pub returns-clause-less : goal.returns-clause-less
returns-clause-less c =
    let i = c.loop-place.self-inside in
    let cur : Space' = space_of i.small i.medium i.table i.spare i.used in
    let e : take c.loop-place.place-index c.args.places.now ≡ c.args.places.now = take_all c.args.places.now c.loop-place.place-index (omega (arith, c.loop-place-test.false)) in
    subst (λ (ps : List Place). HasBlocksLess c.args.self.now cur ps) e c.loop-place.invariant.less
