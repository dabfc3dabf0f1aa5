use Rattle.std.proofs.Common.{◌≡◌, ap, ◌∙◌, sym, subst, Some, ◌<◌}
use Rattle.std.specs.FinMap.{get, len}
use Rattle.weak_table.specs.Shows.{Shows, shows}
use Rattle.weak_table.proofs.Showing.{dropped-more, dropped-all, Dropped, shows-passes, shows-none, shorter}
use Rattle.weak_table.proofs.weak.Weak.turn_null.Goals as goal

pub loop-loc-smaller : goal.loop-loc-smaller
loop-loc-smaller c =
    let there : get c.loop-loc.self.shown c.in-Some.loc ≡ Some c.args.id = ap (λ (s : Shows). get s.shown c.in-Some.loc) (sym c.self.view_is) ∙ c.in-Some.ensures in
    subst (λ m. len m < len c.loop-loc.self.shown) (sym c.clear.ensures.shown) (shorter c.loop-loc.self.shown c.in-Some.loc c.args.id there)

pub loop-loc-preserved : goal.loop-loc-preserved
loop-loc-preserved c =
    let there : get c.loop-loc.self.shown c.in-Some.loc ≡ Some c.args.id = ap (λ (s : Shows). get s.shown c.in-Some.loc) (sym c.self.view_is) ∙ c.in-Some.ensures in
    record {
      dropped =
          subst (Dropped (λ l. shows c.args.id (get c.args.self.now.shown l)) c.args.self.now.shown) (sym c.clear.ensures.shown)
          (dropped-more (λ l. shows c.args.id (get c.args.self.now.shown l)) c.args.self.now.shown c.loop-loc.self.shown c.in-Some.loc c.loop-loc.invariant.dropped
          (shows-passes c.args.id c.args.self.now.shown c.loop-loc.self.shown c.loop-loc.invariant.dropped c.in-Some.loc there));
      ready = c.clear.ensures.ready ∙ c.loop-loc.invariant.ready;
    }

pub returns-clause-shown : goal.returns-clause-shown
returns-clause-shown c =
    dropped-all (λ l. shows c.args.id (get c.args.self.now.shown l)) c.args.self.now.shown c.loop-loc.self.shown c.loop-loc.invariant.dropped
    (shows-none c.args.id c.args.self.now.shown c.loop-loc.self.shown c.loop-loc.invariant.dropped
    (λ q e. c.in_default.ensures q (ap (λ (s : Shows). get s.shown q) c.self.view_is ∙ e)))
