use Rattle.std.proofs.Common.{◌≤◌, sym, subst, arith, length, List}
use Rattle.std.specs.List.Sorted.{IsStrictlySortedBy}
use Rattle.std.proofs.lemmas.List.Kept.{IsStrictlySortedBy-filter}
use Rattle.az_base.specs.declared.block_id.BlockId.{BlockId}
use Rattle.az_base.specs.Ids.{id_cmp}
use Rattle.finalise_pass.specs.Kept.{IsWithin}
use Rattle.finalise_pass.proofs.Keeping.{inside_within, inside_length}
use Rattle.finalise_pass.proofs.pass.Pass.settle.Goals as goal

pub settle_lists-requires-clause-ascending : goal.settle_lists-requires-clause-ascending
settle_lists-requires-clause-ascending g c = subst (IsStrictlySortedBy id_cmp) (sym c.those_inside-settled.ensures) (IsStrictlySortedBy-filter _ _ _ c.self.invariant.0)

pub settle_lists-requires-clause-room : goal.settle_lists-requires-clause-room
settle_lists-requires-clause-room g c = subst (λ (xs : List BlockId). length xs ≤ c.self.inside.room.spare) (sym c.those_inside-settled.ensures) (omega (arith, c.self.invariant.1, inside_length (g.G.Graph.shape c.args.graph.now) c.self.inside.condemned.list))

pub settle_lists-requires-clause-within : goal.settle_lists-requires-clause-within
settle_lists-requires-clause-within g c = subst (λ (xs : List BlockId). IsWithin xs (g.G.Graph.shape c.args.graph.now).blocks) (sym c.those_inside-settled.ensures) (inside_within (g.G.Graph.shape c.args.graph.now) c.self.inside.condemned.list)
