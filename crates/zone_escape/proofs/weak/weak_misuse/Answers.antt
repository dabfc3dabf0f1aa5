use Rattle.std.proofs.Common.{sym, ◌∙◌}
use Rattle.az_base.specs.declared.word.Class.TheVariants as class
use Rattle.escape_plan.proofs.Belonging.{part_is}
use Rattle.zone_escape.proofs.WeakLocations.{own_three, own_layout, known_there}
use Rattle.zone_escape.proofs.weak.weak_misuse.Goals as goal

pub word_misuse-requires : goal.word_misuse-requires
word_misuse-requires c =
    let l = c.args.local.now in
    let z = c.requires.held.0 in
    let t = c.requires.held.1 in
    record { given = known_there l z (part_is l z t.local c.requires.out) c.args.id c.args.heap.now t.heap.stands c.requires.held.2 (sym c.is_own.ensures ∙ c.if-is_own.false) }

pub returns-then-is_own : goal.returns-then-is_own
returns-then-is_own c = λ z t the_call reg holds needs.
    let l = c.args.local.now in
    let own = sym c.is_own.ensures ∙ c.if-is_own.true in
    let layout = own_layout l z (part_is l z t.local c.requires.out) c.args.id c.layout_of.result.now own c.layout_of.ensures in
    c.layout_misuse.ensures ∙ sym (own_three z l.thread reg c.args.at the_call class.Weak c.args.id c.layout_of.result.now holds layout needs)
