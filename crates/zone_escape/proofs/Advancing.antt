-- A step of a cycle, as a call of a thread of which nothing waits
use Rattle.std.proofs.Common.{◌≡◌, ℕ, true, [], refl, sym, ap, subst, ◌∙◌, ◌⊎◌, inl, inr, true≢false}
use Rattle.zone_model.specs.declared.call.Call.{Call}
use Rattle.zone_model.specs.declared.call.Call.TheVariants as call
use Rattle.zone_model.specs.declared.entry.Reply.{Reply}
use Rattle.zone_model.specs.declared.entry.Reply.TheVariants as reply
use Rattle.zone_model.specs.Effect.{Effect}
use Rattle.zone_model.specs.History.{is_cycle_step}
use Rattle.zone_model.specs.InRange.{InRange}
use Rattle.zone_model.specs.Part.{Part, part_of, part_after}
use Rattle.zone_model.specs.Sound.{Sound}
use Rattle.zone_model.specs.State.{State}
use Rattle.zone_model.specs.Step.{Step, Happens, seen_now}
use Rattle.zone_model.proofs.IntactSteps.{next_free}
use Rattle.zone_model.proofs.PartEffects.{effect_part}
use Rattle.zone_model.proofs.Soundness.{sound_intact, sound_made, step_sound}
use Rattle.zone_model.proofs.Steps.{plain_happens}
use Rattle.shared_heap.specs.Holding.{HoldsAgree, Serves}
use Rattle.shared_heap.specs.Shared.{Shared, held}
use Rattle.shared_heap.specs.Stands.{Stands}
use Rattle.shared_heap.specs.Steps as shared
use Rattle.local_set.specs.LocalSets.{LocalSet}
use Rattle.escape_plan.specs.Together.{Together}
use Rattle.zone_escape.specs.Cycles.{Advances}
use Rattle.zone_escape.specs.Making.{CanMake}
use Rattle.zone_escape.proofs.Making.{bare_step}
use Rattle.zone_escape.proofs.Shown.{belongs_still, running}

busy_or : (z : State) (t : ℕ) (c : Call) (r : Reply) (a : State) → Happens z t c r a → (a ≡ z) ⊎ ((mid : State) × Effect z t c r mid × (a ≡ seen_now mid))
busy_or z t c reply.Busy a h = inl h.1
busy_or z t c r a h = inr (h.0, h.1, h.2)

quiet_part : (p : Part) (c : Call) (r : Reply) → is_cycle_step c ≡ true → part_after p c r ≡ p
quiet_part p (call.Begin mode) r h = refl
quiet_part p call.Condemn r h = refl
quiet_part p call.Finalise r h = refl
quiet_part p call.Reclaim r h = refl
quiet_part p _ r h = absurd (true≢false (sym h))

-- such a call is no misuse, and makes nothing escape
pub happens_of : (z : State) (t : ℕ) (c : Call) (r : Reply) (a : State) → is_cycle_step c ≡ true → Step z (record { thread = t; call = c; reply = r }) a → Happens z t c r a
happens_of z t (call.Begin mode) r a h step = plain_happens z _ a step (λ id n. n) refl
happens_of z t call.Condemn r a h step = plain_happens z _ a step (λ id n. n) refl
happens_of z t call.Finalise r a h step = plain_happens z _ a step (λ id n. n) refl
happens_of z t call.Reclaim r a h step = plain_happens z _ a step (λ id n. n) refl
happens_of z t _ r a h step = absurd (true≢false (sym h))

-- it leaves its thread's part
cycle_part : (z : State) → Sound z → (t : ℕ) (c : Call) (r : Reply) (a : State) → is_cycle_step c ≡ true → Step z (record { thread = t; call = c; reply = r }) a → part_of a t ≡ part_of z t
cycle_part z s t c r a cycle step = elim (busy_or z t c r a (happens_of z t c r a cycle step)) [
  | inl same ↦ ap (λ x. part_of x t) same
  | inr h ↦ ap (λ x. part_of x t) h.2 ∙ effect_part z (sound_intact z s) t c r h.0 (next_free z (sound_made z s) t) h.1 ∙ quiet_part (part_of z t) c r cycle
]

module _ (l : LocalSet) (h : Shared) (c : Call) (can : CanMake l h c) where
  -- the heap, or one like it, serves the thread
  pub serves : (g : Shared) (u : ℕ) → u ≡ l.thread → ((z : State) → Stands h z → Stands g z) → g.holds ≡ h.holds → (z : State) → Together l h z → InRange z → Serves g z u
  serves g u thread lends same z t range = record {
    stands = lends z t.heap.stands;
    holds = λ v q out. ap (λ m. held (record h { holds = m }) v q) same ∙ t.heap.holds v q out;
    sound = t.heap.sound;
    range = range;
    running = ap z.ended thread ∙ running l h c can z t;
  }

  -- and then the set belongs to the state after the step, as it is
  pub advanced : (k : Shared) (r : Reply) (u : ℕ) → u ≡ l.thread → is_cycle_step c ≡ true → k.room ≡ [] → k.options ≡ h.options → ((z : State) → Together l h z → InRange z → shared.Stepped k z u c r)
      → ((z a : State) → Together l h z → Step z (record { thread = l.thread; call = c; reply = r }) a → HoldsAgree k a) → Advances l h k c r
  advanced k r u thread cycle room options steps holds = record {
    step = λ z t range.
        let s = subst (λ x. shared.Stepped k z x c r) thread (steps z t range) in
        let a = s.0 in (
          a,
          bare_step z l.thread c r a s.1,
          record {
            local = belongs_still l z a (cycle_part z t.heap.sound l.thread c r a cycle s.1) t.local;
            heap = record { stands = s.2; holds = holds z a t s.1; sound = step_sound z _ a t.heap.sound s.1 };
            room = room;
          },
        );
    options = options;
  }
