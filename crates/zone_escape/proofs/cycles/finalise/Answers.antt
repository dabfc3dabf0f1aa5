use Rattle.std.proofs.Common.{refl, sym, ap, subst, ◌∙◌}
use Rattle.zone_model.specs.declared.call.Call.TheVariants as call
use Rattle.zone_model.specs.declared.entry.Reply.{Reply}
use Rattle.shared_heap.specs.Cycles.{IsSettling}
use Rattle.shared_heap.specs.Shared.{Shared}
use Rattle.shared_heap.proofs.Leaving.{leaves_holds}
use Rattle.zone_escape.specs.Cycles.{Advances}
use Rattle.zone_escape.proofs.Advancing.{serves, advanced}
use Rattle.zone_escape.proofs.Closing.{LeavesLess, finalises, finalised_less}
use Rattle.zone_escape.proofs.cycles.finalise.Goals as goal

pub finalise_next-reply-requires-clause-settling : goal.finalise_next-reply-requires-clause-settling
finalise_next-reply-requires-clause-settling c = subst (IsSettling c.args.heap.now) (sym c.thread.ensures) c.requires.goes.0

pub twice-requires : goal.twice-requires
twice-requires c = (finalises c.args.heap.now c.finalise_next-reply.new.self c.finalise_next-reply.result c.finalise_next-reply.ensures.after).0

pub returns-clause-makes : goal.returns-clause-makes
returns-clause-makes c =
    let l = c.args.local.now in
    let h = c.args.heap.now in
    let k = c.finalise_next-reply.new.self in
    let r = c.finalise_next-reply.result in
    let can = c.requires.can in
    let value = (finalises h k r c.finalise_next-reply.ensures.after).3 in
    subst (λ (x : Reply). Advances l h k call.Finalise x) (sym c.twice.ensures.reply)
    (advanced l h call.Finalise can k r c.thread.result c.thread.ensures refl (ap (λ (s : Shared). s.room) value ∙ can.together.1.room) (ap (λ (s : Shared). s.options) value)
    (λ z t range. c.finalise_next-reply.ensures.step z (serves l h call.Finalise can h c.thread.result c.thread.ensures (λ y s. s) refl z t range))
    (λ z a t step. leaves_holds h k z a l.thread call.Finalise r tt t.heap.sound t.heap.holds (ap (λ (s : Shared). s.holds) value) step))

-- one entry less is still to come
less : (c : goal.After-twice) → LeavesLess c.args.heap.now c.finalise_next-reply.new.self
less c =
    let h = c.args.heap.now in
    let k = c.finalise_next-reply.new.self in
    let done = finalises h k c.finalise_next-reply.result c.finalise_next-reply.ensures.after in
    finalised_less h k c.args.local.now.thread c.requires.goes.0 c.requires.lists done.1 done.3 c.requires.goes.1

pub returns-clause-left : goal.returns-clause-left
returns-clause-left c = (less c).left

pub returns-clause-closing : goal.returns-clause-closing
returns-clause-closing c = (less c).closing

pub returns-clause-lists : goal.returns-clause-lists
returns-clause-lists c = (less c).lists
