use Rattle.std.proofs.Common.{◌∙◌, sym}
use Rattle.shared_heap.proofs.Stepping.{three, misuse_found}
use Rattle.shared_heap.proofs.heap.Heap.word_misuse.Goals as goal

pub returns-clause-stands : goal.returns-clause-stands
returns-clause-stands c = λ z t call reg s holds needs.
    c.err.ensures.value ∙ misuse_found c.args.self.now c.args.id c.args.at c.args.class c.find_word.result c.find_word.ensures
    ∙ sym (three c.args.self.now z t call reg c.args.at c.args.class c.args.id s c.requires.given holds needs)
