use Rattle.std.proofs.Common.{◌≡◌, List, sym, ap, subst, ◌∙◌}
use Rattle.az_base.specs.declared.block_id.BlockId.{BlockId}
use Rattle.quantum_space.specs.Shapes.{VisitsAll, edges}
use Rattle.block_space.specs.Marking.{ends_from, len_in, unmarked}
use Rattle.space_graph.specs.Graphs.{shades_of, shape_of}
use Rattle.space_graph.proofs.Steps.{edges_all, follows_rest, len_rest}
use Rattle.space_graph.proofs.graph.SpaceGraph.scan_at.Goals as goal

pub returns-clause-scans : goal.returns-clause-scans
returns-clause-scans c =
    let g = c.args.self.now in
    let b = c.shade_at.new.self in
    let x = c.args.spot in
    let follows = follows_rest c.args.mode b g x 0 (len_in b.space x) (shades_of b) c.args.stack.now (shades_of c.follow_words.new.self) c.follow_words.new.stack c.shade_at.ensures.rest c.follow_words.ensures.follows in
    let all : edges (shape_of g) c.args.id ≡ ends_from (unmarked g.space) x 0 (len_in b.space x) =
    edges_all g c.args.id x c.requires.there ∙ ap (ends_from (unmarked g.space) x 0) (sym (len_rest b g x c.shade_at.ensures.rest)) in
    record {
      mid = shades_of b;
      black = c.shade_at.ensures.shade;
      visits = subst (λ (l : List BlockId). VisitsAll c.args.mode (shape_of g) l (shades_of b) c.args.stack.now (shades_of c.follow_words.new.self) c.follow_words.new.stack) (sym all) follows;
    }
