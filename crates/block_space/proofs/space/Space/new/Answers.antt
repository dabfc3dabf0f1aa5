use Rattle.std.proofs.Common.{◌≡◌, ℕ, None, get_or}
use Rattle.quantum_space.specs.declared.spot.Kind.{Kind}
use Rattle.quantum_space.specs.declared.spot.Kind.TheVariants as kind
use Rattle.block_space.specs.Spaces.{region, space_of}
use Rattle.block_space.proofs.Keeping.{space_none}
use Rattle.block_space.proofs.Right.{no_words}
use Rattle.block_space.proofs.space.Space.new.Goals as goal

pub invariant_of-result : goal.invariant_of-result
invariant_of-result c = record {
  small = no_words c.new.result c.new.result c.new-2.result c.new.ensures.none;
  medium = no_words c.new-2.result c.new.result c.new-2.result c.new-2.ensures.none;
  space = space_none c.new.result c.new-2.result c.new-3.result c.new-4.result c.new.ensures.size c.new-2.ensures.size c.new.ensures.width c.new-2.ensures.width c.new.ensures.none c.new-2.ensures.none c.new.ensures.opened c.new-2.ensures.opened
      c.new.ensures.subzones c.new-2.ensures.subzones c.new-3.ensures.small c.new-3.ensures.medium c.new-3.ensures.room c.new-4.ensures;
}

pub returns-clause-by_quantum : goal.returns-clause-by_quantum
returns-clause-by_quantum c = λ x. go x.kind x.at
  where
    go : (k : Kind) (at : ℕ) → get_or (region (space_of c.new.result c.new-2.result c.new-3.result c.new-4.result 0) k).layouts at None ≡ None
    go kind.Small at = c.new.ensures.none at
    go kind.Medium at = c.new-2.ensures.none at
