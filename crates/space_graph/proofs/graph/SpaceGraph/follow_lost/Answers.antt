use Rattle.std.proofs.Common.{◌≡◌, Bool, true, false, sym, ap, ◌∙◌, subst}
use Rattle.az_base.specs.declared.word.Word.TheVariants as plain
use Rattle.quantum_space.specs.Shapes.{Shades, Shape, Visits}
use Rattle.quantum_space.specs.PlacedWords.{word_of}
use Rattle.block_space.specs.Marking.{word_in}
use Rattle.space_graph.specs.Graphs.{Graph', plain_shape, shades_of, shape_of}
use Rattle.space_graph.proofs.Steps.{follows_one, puts_none, visits_none}
use Rattle.space_graph.proofs.graph.SpaceGraph.follow_lost.Goals as goal

pub returns-in_default-find-clause-follows : goal.returns-in_default-find-clause-follows
returns-in_default-find-clause-follows c =
    let g = c.args.self.now in
    let word : word_of (word_in g.space c.args.spot c.args.i) ≡ plain.Block c.in-Block.id = ap (λ (y : Graph'). word_of (word_in y.space c.args.spot c.args.i)) (sym c.self.view_is) ∙ ap word_of (sym c.word_in.ensures.value) ∙ sym c.word.ensures ∙ c.in-Block.is in
    follows_one c.args.mode g g c.args.spot c.args.i c.in-Block.id false c.args.stack.now c.args.stack.now word (visits_none c.args.mode g c.in-Block.id (sym c.find.ensures.value ∙ c.in_default-find.is)) (puts_none c.in-Block.id c.args.stack.now)

pub returns-then-grey_at-clause-follows : goal.returns-then-grey_at-clause-follows
returns-then-grey_at-clause-follows c =
    let g = c.args.self.now in
    let new = c.grey_at.new.self in
    let id = c.in-Block.id in
    let word : word_of (word_in g.space c.args.spot c.args.i) ≡ plain.Block id = ap (λ (y : Graph'). word_of (word_in y.space c.args.spot c.args.i)) (sym c.self.view_is) ∙ ap word_of (sym c.word_in.ensures.value) ∙ sym c.word.ensures ∙ c.in-Block.is in
    let shape : shape_of c.refer_at.new.self ≡ shape_of g = ap plain_shape c.refer_at.ensures.rest in
    let visits : Visits c.args.mode (shape_of g) id true (shades_of g) (shades_of new) =
    subst (λ (b : Bool). Visits c.args.mode (shape_of g) id b (shades_of g) (shades_of new)) c.if-grey_at.true
    (subst (λ (f : Shades). Visits c.args.mode (shape_of g) id c.grey_at.result f (shades_of new)) c.refer_at.ensures.shades
    (subst (λ (s : Shape). Visits c.args.mode s id c.grey_at.result (shades_of c.refer_at.new.self) (shades_of new)) shape c.grey_at.ensures.visits)) in
    follows_one c.args.mode g new c.args.spot c.args.i id true c.args.stack.now c.push_within.new.self word visits
    (record { room = c.push_within.ensures.room; put = λ e l. c.push_within.ensures.list l; same = λ e. (let no : true ≡ false = e in cc) })

pub returns-else-grey_at-clause-follows : goal.returns-else-grey_at-clause-follows
returns-else-grey_at-clause-follows c =
    let g = c.args.self.now in
    let new = c.grey_at.new.self in
    let id = c.in-Block.id in
    let word : word_of (word_in g.space c.args.spot c.args.i) ≡ plain.Block id = ap (λ (y : Graph'). word_of (word_in y.space c.args.spot c.args.i)) (sym c.self.view_is) ∙ ap word_of (sym c.word_in.ensures.value) ∙ sym c.word.ensures ∙ c.in-Block.is in
    let shape : shape_of c.refer_at.new.self ≡ shape_of g = ap plain_shape c.refer_at.ensures.rest in
    let visits : Visits c.args.mode (shape_of g) id false (shades_of g) (shades_of new) =
    subst (λ (b : Bool). Visits c.args.mode (shape_of g) id b (shades_of g) (shades_of new)) c.if-grey_at.false
    (subst (λ (f : Shades). Visits c.args.mode (shape_of g) id c.grey_at.result f (shades_of new)) c.refer_at.ensures.shades
    (subst (λ (s : Shape). Visits c.args.mode s id c.grey_at.result (shades_of c.refer_at.new.self) (shades_of new)) shape c.grey_at.ensures.visits)) in
    follows_one c.args.mode g new c.args.spot c.args.i id false c.args.stack.now c.args.stack.now word visits (puts_none id c.args.stack.now)
