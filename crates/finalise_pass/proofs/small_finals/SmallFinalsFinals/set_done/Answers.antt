use Rattle.std.proofs.Common.{◌≡◌, ◌==◌, false, [], sym, arith, subst, if◌then◌else◌, unwrap_or, slice_get}
use Rattle.az_base.specs.declared.block_id.BlockId.{BlockId}
use Rattle.az_base.specs.Ids.{id_of}
use Rattle.zone_model.specs.State.{is_nil}
use Rattle.finalise_pass.proofs.Numbered.{done_small, done_below}
use Rattle.finalise_pass.proofs.small_finals.SmallFinalsFinals.set_done.Goals as goal

pub returns-then-at-len-clause-done : goal.returns-then-at-len-clause-done
returns-then-at-len-clause-done c = rw (← c.id.view_is)
    (done_small c.args.self.now.thread c.args.self.now.roots.items c.args.self.now.actions.items c.args.self.now.words.items c.args.self.now.done.items (id_of c.id.inside.thread c.id.inside.serial)
    (subst (λ (b : BlockId). is_nil (if b.thread == c.args.self.now.thread then unwrap_or (slice_get c.args.self.now.actions.items b.serial) [] else []) ≡ false) (sym c.id.view_is) c.requires) c.args.self.now.alike)

pub returns-else-at-len-clause-done : goal.returns-else-at-len-clause-done
returns-else-at-len-clause-done c =
    absurd (done_below c.args.self.now.thread c.args.self.now.actions.items c.args.self.now.done.items (id_of c.id.inside.thread c.id.inside.serial)
    (subst (λ (b : BlockId). is_nil (if b.thread == c.args.self.now.thread then unwrap_or (slice_get c.args.self.now.actions.items b.serial) [] else []) ≡ false) (sym c.id.view_is) c.requires) c.args.self.now.alike (omega arith))
