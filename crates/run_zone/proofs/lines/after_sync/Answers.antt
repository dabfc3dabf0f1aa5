use Rattle.std.proofs.Common.{[], ◌∷◌, refl}
use Rattle.zone_model.specs.declared.act.Act.TheVariants as act
use Rattle.run_zone.proofs.Working.{on_err, lines_synced, lines_on, stopped_not_synced, stopped_on, stopped_local}
use Rattle.run_zone.proofs.lines.after_sync.Goals as goal

pub returns-in_err-sync-clause-err : goal.returns-in_err-sync-clause-err
returns-in_err-sync-clause-err g c = on_err c.from_residual.result (stopped_not_synced c.args.session.now.seat c.sync.new.self.seat c.args.session.now.local c.sync.new.self.local c.sync.ensures.place c.in_err-sync.ensures.err)

pub returns-in_default-clause-err : goal.returns-in_default-clause-err
returns-in_default-clause-err g c =
    let first = lines_synced c.args.session.now.seat c.sync.new.self.seat c.args.session.now.local c.sync.new.self.local c.sync.ensures.place c.requires.full c.in_ok-sync.ensures.ok in
    stopped_on c.args.session.now.seat c.sync.new.self.seat c.locally.new.session.seat c.args.session.now.local c.sync.new.self.local c.locally.new.session.local [] [] [] first
    (stopped_local c.sync.new.self.seat c.locally.new.session.seat c.sync.new.self.local c.locally.new.session.local c.args.call.now c.in_default.field-0 c.in_default.ensures.err) refl

pub returns-clause-ok : goal.returns-clause-ok
returns-clause-ok g c =
    let first = lines_synced c.args.session.now.seat c.sync.new.self.seat c.args.session.now.local c.sync.new.self.local c.sync.ensures.place c.requires.full c.in_ok-sync.ensures.ok in
    lines_on c.args.session.now.seat c.sync.new.self.seat c.locally.new.session.seat c.args.session.now.local c.sync.new.self.local c.locally.new.session.local [] (act.Call c.args.call.now ∷ []) first c.in-Ok.ensures.ok
