use Rattle.std.proofs.Common.{◌∙◌, ap, sym}
use Rattle.quantum_space.specs.PlacedWords.{known}
use Rattle.block_space.specs.Spaces.{placed_at}
use Rattle.block_space.proofs.Referring.{Knows, knows, refers, right_at}
use Rattle.block_space.proofs.space.Space.referent.Goals as goal

pub place_of-requires : goal.place_of-requires
place_of-requires c =
    let s = c.args.self.now in
    let k : Knows s (placed_at s c.args.p c.args.i) c.in-Some.spot =
    knows s (placed_at s c.args.p c.args.i) c.in-Some.spot (right_at s c.args.p c.args.i c.is_whole.ensures c.requires) (sym (c.known.ensures ∙ ap known c.placed.ensures) ∙ c.in-Some.is) in
    k.block

pub returns-in-Some-clause-there : goal.returns-in-Some-clause-there
returns-in-Some-clause-there c =
    let s = c.args.self.now in
    let k : Knows s (placed_at s c.args.p c.args.i) c.in-Some.spot =
    knows s (placed_at s c.args.p c.args.i) c.in-Some.spot (right_at s c.args.p c.args.i c.is_whole.ensures c.requires) (sym (c.known.ensures ∙ ap known c.placed.ensures) ∙ c.in-Some.is) in
    refers s (placed_at s c.args.p c.args.i) c.in-Some.spot c.place_of.result k c.place_of.ensures
