-- A step's reply determines the state after it
use Rattle.std.proofs.Common.{◌≡◌, ℕ, Bool, true, false, Option, Some, None, List, [], ◌∷◌, MatchOption, IsTrue, refl, sym, ap, subst, ◌∙◌, unwrap_or}
use Rattle.az_base.specs.declared.block_id.BlockId.{BlockId}
use Rattle.az_base.specs.declared.misuse.Misuse.{Misuse}
use Rattle.zone_model.specs.declared.call.Call.{Call}
use Rattle.zone_model.specs.declared.call.Call.TheVariants as call
use Rattle.zone_model.specs.declared.entry.Reply.{Reply}
use Rattle.zone_model.specs.declared.entry.Reply.TheVariants as reply
use Rattle.zone_model.specs.declared.entry.Entry.{Entry}
use Rattle.zone_model.specs.State.{State}
use Rattle.zone_model.specs.Escape.{Need, Tells, with_escaped}
use Rattle.zone_model.specs.Misuses.{misuse_of}
use Rattle.zone_model.specs.Collection.{with_condemned}
use Rattle.zone_model.specs.Effect.{Effect}
use Rattle.zone_model.specs.Step.{Step, Happens, seen_now}
use Rattle.zone_model.specs.History.{Run}

same_test : (a b : Bool) → (IsTrue a → IsTrue b) → (IsTrue b → IsTrue a) → a ≡ b
same_test true true f g = refl
same_test false false f g = refl
same_test true false f g = sym (f refl)
same_test false true f g = g refl

-- a set has one test
pub one_test : (P : BlockId → Type 0) (s t : BlockId → Bool) → Tells s P → Tells t P → s ≡ t
one_test P s t h k i id = same_test (s id) (t id) (λ e. (k id).1 ((h id).0 e)) (λ e. (h id).1 ((k id).0 e)) i

same_value : {X : Type 0} (o : Option X) (x y : X) → o ≡ Some x → o ≡ Some y → x ≡ y
same_value o x y h k = ap (λ p. unwrap_or p x) (sym h ∙ k)

effect_determined : (z : State) (t : ℕ) (c : Call) (r : Reply) (a b : State) → Effect z t c r a → Effect z t c r b → a ≡ b
effect_determined z t (call.New to layout actions) (reply.Block id) a b h k = h.1 ∙ sym k.1
effect_determined z t (call.Load to from at) (reply.Block id) a b h k = h.1 ∙ sym k.1
effect_determined z t (call.Store into at from) reply.Done a b h k = h ∙ sym k
effect_determined z t (call.Put into at number) reply.Done a b h k = h ∙ sym k
effect_determined z t (call.Get from at) (reply.Number n) a b h k = h.1 ∙ sym k.1
effect_determined z t (call.Copy to from) reply.Done a b h k = h ∙ sym k
effect_determined z t (call.DropReg reg) reply.Done a b h k = h ∙ sym k
effect_determined z t call.CollectLocal (reply.Reclaimed gone) a b h k = h.1 ∙ sym k.1
effect_determined z t (call.SetRoot root from) reply.Done a b h k = h ∙ sym k
effect_determined z t (call.GetRoot to root) (reply.Block id) a b h k = h.1 ∙ sym k.1
effect_determined z t (call.Retain reg) (reply.Number n) a b h k = h.1 ∙ sym k.1
effect_determined z t (call.Release reg) (reply.Number n) a b h k = h.1 ∙ sym k.1
effect_determined z t (call.Count reg) (reply.Number n) a b h k = h.1 ∙ sym k.1
effect_determined z t (call.Take to id) (reply.Block i) a b h k = h.1 ∙ sym k.1
effect_determined z t (call.SetAssoc object key value) (reply.Block id) a b h k = h.1 ∙ sym k.1
effect_determined z t (call.GetAssoc to object key) (reply.Block id) a b h k = h.1 ∙ sym k.1
effect_determined z t (call.SetWeak loc from) (reply.Block id) a b h k = h.1 ∙ sym k.1
effect_determined z t (call.ReadWeak to loc) (reply.Block id) a b h k = h.1 ∙ sym k.1
effect_determined z t call.Stats (reply.Stats s) a b h k = h.1 ∙ sym k.1
effect_determined z t (call.Begin mode) reply.Begun a b h k = h.1 ∙ sym k.1
effect_determined z t call.Condemn (reply.Condemned r) a b h k = h.4 ∙ ap (λ c. with_condemned z c r.list) (same_value z.cycle h.0 k.0 h.1.0 k.1.0) ∙ sym k.4
effect_determined z t call.Finalise (reply.Finalised id) a b h k = h.3 ∙ sym k.3
effect_determined z t call.Reclaim (reply.Settled gone kept) a b h k = h.does ∙ sym k.does
effect_determined z t call.Leave (reply.Reclaimed gone) a b h k = h.does ∙ sym k.does
effect_determined z t _ _ a b h k = absurd h

happens_determined : (z : State) (t : ℕ) (c : Call) (r : Reply) (a b : State) → Happens z t c r a → Happens z t c r b → a ≡ b
happens_determined z t c reply.Busy a b h k = h.1 ∙ sym k.1
happens_determined z t c r a b h k = h.2 ∙ ap seen_now (effect_determined z t c r h.0 k.0 h.1 k.1) ∙ sym k.2

abbrev Does : State → Entry → (BlockId → Bool) → State → Type 0
Does z e need after = MatchOption (misuse_of z e.thread e.call need) (Happens (with_escaped z need) e.thread e.call e.reply after) (λ m. (e.reply ≡ reply.Misuse m) × (after ≡ z))

-- each step's entry determines the state after it
pub step_determined : (z : State) (e : Entry) (a b : State) → Step z e a → Step z e b → a ≡ b
step_determined z e a b s t =
    by_misuse (misuse_of z e.thread e.call s.need) s.does (subst (λ n. Does z e n b) (sym (one_test (Need z e.thread e.call) s.need t.need s.needed t.needed)) t.does)
  where
    by_misuse : (m : Option Misuse) → MatchOption m (Happens (with_escaped z s.need) e.thread e.call e.reply a) (λ m. (e.reply ≡ reply.Misuse m) × (a ≡ z))
        → MatchOption m (Happens (with_escaped z s.need) e.thread e.call e.reply b) (λ m. (e.reply ≡ reply.Misuse m) × (b ≡ z)) → a ≡ b
    by_misuse None h k = happens_determined (with_escaped z s.need) e.thread e.call e.reply a b h k
    by_misuse (Some m) h k = h.1 ∙ sym k.1

-- a history has one last state
pub run_determined : (z : State) (es : List Entry) (a b : State) → Run z es a → Run z es b → a ≡ b
run_determined z [] a b h k = h ∙ sym k
run_determined z (e ∷ es) a b h k = run_determined h.0 es a b h.2 (subst (λ y. Run y es b) (step_determined z e k.0 h.0 k.1 h.1) k.2)
