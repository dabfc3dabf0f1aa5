use Rattle.std.proofs.Common.{◌≡◌, ◌+◌, ◌++◌, ◌∷◌, [], cond, refl, sym, ap, subst, ◌∙◌}
use Rattle.zone_model.specs.declared.call.Call.TheVariants as call
use Rattle.zone_model.specs.declared.entry.Reply.{Reply}
use Rattle.zone_model.specs.Bare.{bare_reply}
use Rattle.zone_model.specs.Part.{Part}
use Rattle.zone_history.specs.Journals.{Recorded}
use Rattle.shared_heap.specs.Shared.{Shared}
use Rattle.heap_cycle.specs.Waiting.{unfinalised_by}
use Rattle.shared_heap.proofs.Leaving.{leaves_holds}
use Rattle.zone_escape.specs.Cores.{CoreShown, IsCore, HasLists, steps_left}
use Rattle.zone_escape.specs.Cycles.{Advances, is_begun}
use Rattle.zone_escape.specs.Making.{CanMake}
use Rattle.zone_escape.specs.Publications.{Flushed, Stepped}
use Rattle.zone_escape.proofs.Advancing.{serves, advanced}
use Rattle.zone_escape.proofs.Beginning.{begin_plain, begun_lists, begun_owed, begun_white}
use Rattle.zone_escape.proofs.Cores.{core_legal}
use Rattle.zone_escape.proofs.Stepped.{can_make, own_free, advanced_at, entry_same}
use Rattle.zone_escape.proofs.cycles.begin.Goals as goal

pub begin-requires : goal.begin-requires
begin-requires c =
    let k : CoreShown = record { heap = c.core-2.inside.heap; journal = c.core-2.inside.journal } in
    record {
      own = own_free c.args.local.now c.take_steps.new.local c.args.core.now k c.args.mode c.thread.result c.thread.ensures (subst IsCore c.core.view_is c.core.invariant) c.core-2.invariant c.requires.belongs
          (subst (λ (k : CoreShown). Flushed c.args.local.now c.take_steps.new.local c.args.core.now k) (sym c.core-2.view_is) c.in_ok-steps.ensures.ok) c.requires.may;
    }

pub invariant_of-core : goal.invariant_of-core
invariant_of-core c = subst (λ (h : Shared). IsCore (record { heap = h; journal = c.core-2.inside.journal })) (sym c.in_err-reply.ensures.err) c.core-2.invariant

pub returns-in_err-reply-clause-legal : goal.returns-in_err-reply-clause-legal
returns-in_err-reply-clause-legal c = core_legal _ (invariant_of-core c)

pub returns-in_err-reply-clause-state : goal.returns-in_err-reply-clause-state
returns-in_err-reply-clause-state c = invariant_of-core c

pub twice-answer-requires : goal.twice-answer-requires
twice-answer-requires c = begin_plain c.core-2.inside.heap c.begin.new.self c.thread.result c.args.mode c.in_ok-reply.reply c.in_ok-reply.ensures.cycle

-- the cycle was begun, or another is open
made : (c : goal.After-owe_steps) → Advances c.take_steps.new.local c.core-2.inside.heap c.begin.new.self (call.Begin c.args.mode) c.twice-answer.result.reply
made c =
    let l = c.take_steps.new.local in
    let k : CoreShown = record { heap = c.core-2.inside.heap; journal = c.core-2.inside.journal } in
    let h = k.heap in
    let n = c.begin.new.self in
    let r = c.in_ok-reply.reply in
    let e = c.in_ok-reply.ensures in
    let can : CanMake l h (call.Begin c.args.mode) = can_make c.args.local.now l c.args.core.now k (call.Begin c.args.mode) (subst IsCore c.core.view_is c.core.invariant) c.core-2.invariant c.requires.belongs
    (subst (λ (k : CoreShown). Flushed c.args.local.now l c.args.core.now k) (sym c.core-2.view_is) c.in_ok-steps.ensures.ok) c.requires.running refl c.requires.may in
    subst (λ (x : Reply). Advances l h n (call.Begin c.args.mode) x) (sym c.twice-answer.ensures.reply)
    (advanced l h (call.Begin c.args.mode) can n r c.thread.result c.thread.ensures refl (ap (λ (s : Shared). s.room) e.value ∙ c.core-2.invariant.1.room) (ap (λ (s : Shared). s.options) e.value)
    (λ z t range. e.step z (serves l h (call.Begin c.args.mode) can h c.thread.result c.thread.ensures (λ y s. s) refl z t range))
    (λ z a t step. leaves_holds h n z a l.thread (call.Begin c.args.mode) r tt t.heap.sound t.heap.holds (ap (λ (s : Shared). s.holds) e.value) step))

pushed : (c : goal.After-owe_steps) → let n : CoreShown = record { heap = c.begin.new.self; journal = c.owe_steps.new.journal } in IsCore n × Stepped c.args.local.now c.take_steps.new.local c.args.core.now n (call.Begin c.args.mode) c.twice-answer.result.reply
pushed c =
    let l = c.take_steps.new.local in
    let k : CoreShown = record { heap = c.core-2.inside.heap; journal = c.core-2.inside.journal } in
    let h = k.heap in
    let n = c.begin.new.self in
    let r = c.in_ok-reply.reply in
    let e = c.in_ok-reply.ensures in
    let flushed = subst (λ (k : CoreShown). Flushed c.args.local.now l c.args.core.now k) (sym c.core-2.view_is) c.in_ok-steps.ensures.ok in
    let own = own_free c.args.local.now l c.args.core.now k c.args.mode c.thread.result c.thread.ensures (subst IsCore c.core.view_is c.core.invariant) c.core-2.invariant c.requires.belongs flushed c.requires.may in
    let steps = c.in_ok-steps.ensures.steps ∙ ap (λ (k : CoreShown). unfinalised_by k.heap.blocks + 2) (sym c.core-2.view_is) in
    let owed = begun_owed h n c.thread.result c.args.mode r e.cycle c.push_reserved.new.self.owed c.in_ok-steps.steps own e.reply (c.push_reserved.ensures.owed ∙ c.core-2.invariant.1.owed) steps in
    let left : steps_left n ≡ c.owe_steps.new.journal.owed = owed ∙ ap (λ (x : Reply). cond (is_begun x) (c.push_reserved.new.self.owed + c.in_ok-steps.steps) c.push_reserved.new.self.owed) (sym c.twice-answer.ensures.reply) ∙ ap (λ (j : Recorded). j.owed) (sym c.owe_steps.ensures) in
    let lists : HasLists n = begun_lists h n c.thread.result c.args.mode r e.cycle c.core-2.invariant.1.lists in
    let entry = entry_same l.thread c.thread-2.result (call.Begin c.args.mode) (call.Begin c.args.mode) c.twice-answer.result.reply c.twice-answer.result.copy c.thread-2.ensures refl (ap bare_reply (c.twice-answer.ensures.copy ∙ sym c.twice-answer.ensures.reply)) in
    advanced_at c.args.local.now l l c.args.core.now k n c.core-2.invariant flushed (call.Begin c.args.mode) c.twice-answer.result.reply c.owe_steps.new.journal refl tt left lists (made c)
    (ap (λ (j : Recorded). j.entries) c.owe_steps.ensures ∙ c.push_reserved.ensures.entries ∙ ap (λ e. k.journal.entries ++ e ∷ []) entry) (ap (λ (p : Part). p.ended) flushed.part ∙ c.requires.running)

pub invariant_of-core-2 : goal.invariant_of-core-2
invariant_of-core-2 c = (pushed c).0

pub returns-clause-ok : goal.returns-clause-ok
returns-clause-ok c = (pushed c).1

pub returns-clause-white : goal.returns-clause-white
returns-clause-white c = λ says. begun_white c.core-2.inside.heap c.begin.new.self c.thread.result c.args.mode c.in_ok-reply.reply c.in_ok-reply.ensures.cycle (sym c.twice-answer.ensures.reply ∙ says)

pub returns-clause-state : goal.returns-clause-state
returns-clause-state c = (pushed c).0

pub returns-clause-legal : goal.returns-clause-legal
returns-clause-legal c = core_legal _ (pushed c).0
