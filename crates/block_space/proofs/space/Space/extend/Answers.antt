use Rattle.std.proofs.Common.{◌+◌, ◌<◌, ◌^◌, sym, subst, ℕ, List}
use Rattle.quantum_space.specs.declared.spot.Kind.{Kind}
use Rattle.block_space.specs.Spaces.{Space', IsCovered, IsRoomierSpace, IsSpace, kind_quanta, list_quanta, region}
use Rattle.block_space.proofs.Keeping.{more_come, roomier_spare}
use Rattle.block_space.proofs.space.Space.extend.Goals.{in-Ok, in-Err}
use Rattle.block_space.proofs.space.Space.extend.Goals as goal

pub invariant_of-self : goal.invariant_of-self
invariant_of-self c =
    let i = c.self.inside in
    let few = subst (λ (v : Space'). v.used + list_quanta v.spare + list_quanta c.args.lengths.now < 2 ^ 32) (sym c.self.view_is) c.requires.few in
    let covered = subst (λ (v : Space'). (k : Kind) → IsCovered (kind_quanta k v.spare + kind_quanta k c.args.lengths.now) (region v k)) (sym c.self.view_is) c.requires.covered in
    record {
      small = c.self.invariant.small;
      medium = c.self.invariant.medium;
      space = elim c.match-extend.branch [
        | in-Ok w ↦ more_come _ c.args.lengths.now c.extend.new.self c.self.invariant.space c.requires.lengths few w.in-Ok.ensures.ok covered
        | in-Err w ↦ subst (λ (x : List ℕ). IsSpace (record { small = i.small; medium = i.medium; table = i.table; spare = x; used = i.used })) (sym w.in-Err.ensures.err) c.self.invariant.space
      ];
    }

pub returns-clause-same : goal.returns-clause-same
returns-clause-same c =
    let i = c.self.inside in
    let s : Space' = record { small = i.small; medium = i.medium; table = i.table; spare = i.spare; used = i.used } in
    subst (λ (v : Space'). IsRoomierSpace v (record { small = i.small; medium = i.medium; table = i.table; spare = c.extend.new.self; used = i.used })) c.self.view_is (roomier_spare s c.extend.new.self)
