use Rattle.std.proofs.Common.{◌≡◌, ◌+◌, ap, sym, ◌∙◌, arith}
use Rattle.std.specs.FinMap.{insert}
use Rattle.block_layouts.specs.Layouts.{len_of, quanta}
use Rattle.zone_model.specs.Part.{own_block}
use Rattle.local_set.specs.LocalSets.{blocks_of}
use Rattle.zone_model.specs.Holds.{word_holds}
use Rattle.local_set.proofs.Tables.{inserted}
use Rattle.local_set.proofs.Quantities.{quanta_in, quanta_added, holds_born}
use Rattle.local_set.proofs.blocks.Blocks.add.Goals as goal

pub invariant_of-self-2 : goal.invariant_of-self-2
invariant_of-self-2 c =
    let es = c.self.inside.stored.entries in
    let b = c.in_ok-block.block in
    let absent = rw (← c.self.view_is) at c.requires.absent in
    let map = inserted es c.insert.new.self.entries c.args.id b c.in_ok-insert.ensures.updates.0 in
    let born : b ≡ own_block c.args.layout.now = c.in_ok-block.ensures in
    let now : blocks_of c.insert.new.self.entries ≡ insert (blocks_of es) c.args.id (own_block c.args.layout.now) = map ∙ ap (insert (blocks_of es) c.args.id) born in
    let sum : quanta_in (insert (blocks_of es) c.args.id (own_block c.args.layout.now)) ≡ quanta_in (blocks_of es) + quanta (len_of c.args.layout.now) = quanta_added (blocks_of es) c.args.id (own_block c.args.layout.now) absent in
    let all : quanta_in (blocks_of c.insert.new.self.entries) ≡ quanta_in (insert (blocks_of es) c.args.id (own_block c.args.layout.now)) = ap quanta_in now in
    let fits = rw (← c.self.view_is) at c.requires.fits in
    record {
      quanta = omega (arith, all, sum, c.self.invariant.quanta, c.quanta-quanta.ensures.value);
      fits = omega (arith, fits, c.self.invariant.quanta, c.quanta-quanta.ensures.value);
      counted = λ q. c.self.invariant.counted q ∙ sym (ap (λ m. word_holds m q) now ∙ holds_born (blocks_of es) c.args.id c.args.layout.now q absent);
      bounded = c.self.invariant.bounded;
    }

pub returns-clause-blocks : goal.returns-clause-blocks
returns-clause-blocks c =
    let es = c.self.inside.stored.entries in
    rw (← c.self.view_is) (inserted es c.insert.new.self.entries c.args.id c.in_ok-block.block c.in_ok-insert.ensures.updates.0 ∙ ap (insert (blocks_of es) c.args.id) c.in_ok-block.ensures)

pub returns-clause-holds : goal.returns-clause-holds
returns-clause-holds c = λ q.
    let es = c.self.inside.stored.entries in
    let absent = rw (← c.self.view_is) at c.requires.absent in
    rw (← c.self.view_is) (ap (λ m. word_holds m q) (inserted es c.insert.new.self.entries c.args.id c.in_ok-block.block c.in_ok-insert.ensures.updates.0 ∙ ap (insert (blocks_of es) c.args.id) c.in_ok-block.ensures) ∙ holds_born (blocks_of es) c.args.id c.args.layout.now q absent)
