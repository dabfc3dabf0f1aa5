-- A thread's part is what its own entries make of it
use Rattle.std.proofs.Common.{◌≡◌, ℕ, ◌==◌, Bool, true, false, cond, List, [], ◌∷◌, Option, Some, None, MatchOption, refl, sym, ap, subst, ◌∙◌, eqb-true}
use Rattle.std.specs.FinMap.{get, get-empty}
use Rattle.az_base.specs.declared.block_id.BlockId.{BlockId}
use Rattle.az_base.specs.declared.misuse.Misuse.{Misuse}
use Rattle.az_base.specs.declared.options.Options.{Options}
use Rattle.az_base.specs.Ids.{id_cmp, id_of}
use Rattle.zone_model.specs.declared.call.Call.{Call}
use Rattle.zone_model.specs.declared.call.Call.TheVariants as call
use Rattle.zone_model.specs.declared.entry.Reply.{Reply}
use Rattle.zone_model.specs.declared.entry.Reply.TheVariants as reply
use Rattle.zone_model.specs.declared.entry.Entry.{Entry}
use Rattle.zone_model.specs.State.{State, opening}
use Rattle.zone_model.specs.Escape.{Need, Tells, with_escaped}
use Rattle.zone_model.specs.Misuses.{misuse_of}
use Rattle.zone_model.specs.Effect.{Effect}
use Rattle.zone_model.specs.Step.{Step, Happens, FindsBusy}
use Rattle.zone_model.specs.History.{Run, Ends, entries_of}
use Rattle.zone_model.specs.Part.{part_of, opening_part, part_after, PartStep, PartRun, Solo}
use Rattle.zone_model.proofs.Steps.{none_escaped, tells_none}
use Rattle.zone_model.proofs.Made.{AllMade, step_made, opening_made}
use Rattle.zone_model.proofs.Intact.{Intact}
use Rattle.zone_model.proofs.Blocks.{own_thread}
use Rattle.zone_model.proofs.IntactEscapes.{escape_intact}
use Rattle.zone_model.proofs.IntactSteps.{next_free, escaped_made, step_intact, opening_intact}
use Rattle.zone_model.proofs.PartChanges.{shown_in, are_blocks, escaped_part, escaped_others}
use Rattle.zone_model.proofs.PartNeeds.{tells_within, need_own}
use Rattle.zone_model.proofs.PartEffects.{effect_part, effect_others}

-- no effect replies a misuse
pub no_misuse : (z : State) (t : ℕ) (c : Call) (m : Misuse) (a : State) → Effect z t c (reply.Misuse m) a → ⊥
no_misuse z t call.Stats m a h = absurd h
no_misuse z t _ m a h = absurd h

-- nothing escapes at a call that is busy
pub busy_needs : (y z : State) (t : ℕ) (c : Call) (need : BlockId → Bool) → FindsBusy y t c → Tells need (Need z t c) → need ≡ (λ _. false)
busy_needs y z t (call.Begin mode) need busy tells = tells_none need _ tells (λ id n. n)
busy_needs y z t _ need busy tells = absurd busy

module _ (z : State) (s : Intact z) (t : ℕ) (need : BlockId → Bool) where
  abbrev y : State
  y = with_escaped z need

  happens_own : (c : Call) (r : Reply) (a : State) → Intact y → Tells need (Need z t c) → get y.blocks (id_of t (y.serials t)) ≡ None → Happens y t c r a → PartStep (part_of z t) c r (part_of a t)
  happens_own c reply.Busy a sound tells free h = ap (λ x. part_of x t) (h.1 ∙ ap (with_escaped z) (busy_needs y z t c need h.0 tells) ∙ none_escaped z)
  happens_own c (reply.Misuse m) a sound tells free h = absurd (no_misuse y t c m h.0 h.1)
  happens_own c r a sound tells free h =
      (need, tells_within z s t c need tells, ap (λ x. part_of x t) h.2 ∙ effect_part y sound t c r h.0 free h.1 ∙ ap (λ p. part_after p c r) (escaped_part z need t))

  happens_others : (c : Call) (r : Reply) (a : State) (u : ℕ) → (t == u) ≡ false → Intact y → Happens y t c r a → part_of a u ≡ part_of y u
  happens_others c reply.Busy a u other sound h = ap (λ x. part_of x u) h.1
  happens_others c r a u other sound h = ap (λ x. part_of x u) h.2 ∙ effect_others y sound t c r h.0 u other h.1

module _ (z : State) (e : Entry) (after : State) (s : Intact z) (made : AllMade z) (k : Step z e after) where
  pub step_own : PartStep (part_of z e.thread) e.call e.reply (part_of after e.thread)
  step_own = by_misuse (misuse_of z e.thread e.call k.need) refl k.does
    where
      by_misuse : (m : Option Misuse) → misuse_of z e.thread e.call k.need ≡ m → MatchOption m (Happens (with_escaped z k.need) e.thread e.call e.reply after) (λ m. (e.reply ≡ reply.Misuse m) × (after ≡ z)) → PartStep (part_of z e.thread) e.call e.reply (part_of after e.thread)
      by_misuse None right h =
          happens_own z s e.thread k.need e.call e.reply after (escape_intact z s e.thread e.call k.need k.needed right) k.needed (escaped_made z k.need e.thread (next_free z made e.thread)) h
      by_misuse (Some m) right h = subst (λ r. PartStep (part_of z e.thread) e.call r (part_of after e.thread)) (sym h.0) (ap (λ x. part_of x e.thread) h.1)

  pub step_others : (u : ℕ) → (e.thread == u) ≡ false → part_of after u ≡ part_of z u
  step_others u other = by_misuse (misuse_of z e.thread e.call k.need) refl k.does
    where
      need_other : (q : BlockId) → k.need q ≡ true → (q.thread == u) ≡ false
      need_other q h =
          let mine = own_thread z e.thread q (need_own z s e.thread e.call q ((k.needed q).0 h)) in
          ap (λ n. n == u) mine ∙ other

      by_misuse : (m : Option Misuse) → misuse_of z e.thread e.call k.need ≡ m → MatchOption m (Happens (with_escaped z k.need) e.thread e.call e.reply after) (λ m. (e.reply ≡ reply.Misuse m) × (after ≡ z)) → part_of after u ≡ part_of z u
      by_misuse None right h =
          happens_others z s e.thread k.need e.call e.reply after u other (escape_intact z s e.thread e.call k.need k.needed right) h
          ∙ escaped_others z k.need u need_other
      by_misuse (Some m) right h = ap (λ x. part_of x u) h.1

pub run_part : (z : State) (es : List Entry) (after : State) (t : ℕ) → Intact z → AllMade z → Run z es after → PartRun (part_of z t) (entries_of t es) (part_of after t)
run_part z [] after t s made run = ap (λ x. part_of x t) run
run_part z (e ∷ es) after t s made run = by_thread (e.thread == t) refl (run_part run.0 es after t (step_intact z e run.0 s made run.1) (step_made z e run.0 run.1 made) run.2)
  where
    by_thread : (b : Bool) → (e.thread == t) ≡ b → PartRun (part_of run.0 t) (entries_of t es) (part_of after t) → PartRun (part_of z t) (cond b (e ∷ entries_of t es) (entries_of t es)) (part_of after t)
    by_thread true is rest = (part_of run.0 t, subst (λ u. PartStep (part_of z u) e.call e.reply (part_of run.0 u)) (eqb-true e.thread t is) (step_own z e run.0 s made run.1), rest)
    by_thread false is rest = subst (λ p. PartRun p (entries_of t es) (part_of after t)) (step_others z e run.0 s made run.1 t is) rest

opening_is : (o : Options) (t : ℕ) → part_of (opening o) t ≡ opening_part o
opening_is o t = ap (λ m. record (opening_part o) { blocks = m }) (are_blocks (opening o) t _ (λ q. ap (shown_in (q.thread == t)) (get-empty id_cmp q) ∙ nothing (q.thread == t) ∙ sym (get-empty id_cmp q)))
  where
    nothing : (m : Bool) → shown_in m None ≡ None
    nothing true = refl
    nothing false = refl

-- over a whole history
pub parts_law : (o : Options) (history : List Entry) (z : State) (t : ℕ) → Ends o history z → Solo o (entries_of t history) (part_of z t)
parts_law o history z t ends = subst (λ p. PartRun p (entries_of t history) (part_of z t)) (opening_is o t) (run_part (opening o) history z t (opening_intact o) (opening_made o) ends)
