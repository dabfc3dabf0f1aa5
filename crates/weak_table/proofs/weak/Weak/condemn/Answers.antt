use Rattle.std.proofs.Common.{ap, ◌∙◌, not, take}
use Rattle.std.specs.FinMap.{get, retain_keys}
use Rattle.weak_table.specs.Shows.{shows_one}
use Rattle.weak_table.proofs.Showing.{condemned-none, condemned-more, take-next}
use Rattle.weak_table.proofs.weak.Weak.condemn.Goals as goal

pub loop-id-init : goal.loop-id-init
loop-id-init c = condemned-none c.args.self.now.shown

pub loop-id-preserved : goal.loop-id-preserved
loop-id-preserved c =
    c.turn_null.ensures.shown
    ∙ condemned-more c.args.self.now.shown (take c.loop-id.id-index c.args.ids.now) c.id-item.result c.loop-id.self.shown c.loop-id.invariant
    ∙ ap (λ xs. retain_keys c.args.self.now.shown (λ q. not (shows_one xs (get c.args.self.now.shown q)))) (take-next c.args.ids.now c.loop-id.id-index c.id-item.result c.loop-id-test.true c.id-item.is)
