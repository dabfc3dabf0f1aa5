-- Calls that show blocks to others: these escape, and then the heap makes the call
use Rattle.std.proofs.Common.{◌≡◌, ℕ, Bool, true, false, not, cond, Option, Some, None, IfSome, IsSome, IsTrue, refl, sym, ap, subst, ◌∙◌}
use Rattle.std.specs.FinMap.{get}
use Rattle.az_base.specs.declared.block_id.BlockId.{BlockId}
use Rattle.az_base.specs.declared.misuse.Misuse.{Misuse}
use Rattle.az_base.specs.declared.misuse.Misuse.TheVariants as misuse
use Rattle.zone_model.specs.declared.call.Call.{Call}
use Rattle.zone_model.specs.declared.call.Call.TheVariants as call
use Rattle.zone_model.specs.declared.entry.Entry.{Entry}
use Rattle.zone_model.specs.declared.entry.Reply.{Reply}
use Rattle.zone_model.specs.declared.entry.Reply.TheVariants as reply
use Rattle.zone_model.specs.Bare.{bare_reply}
use Rattle.zone_model.specs.Escape.{Need, Tells, with_escaped}
use Rattle.zone_model.specs.History.{is_cycle_step}
use Rattle.zone_model.specs.LocalSteps.{LocalRun}
use Rattle.zone_model.specs.Misuses.{misuse_of}
use Rattle.zone_model.specs.Part.{Part, part_of, part_after}
use Rattle.zone_model.specs.Sound.{Sound}
use Rattle.zone_model.specs.State.{State, is_escaped}
use Rattle.zone_model.specs.Step.{Step, FindsBusy}
use Rattle.zone_model.proofs.IntactSteps.{next_free}
use Rattle.zone_model.proofs.LocalCalls.{happens_effect, plain_refused}
use Rattle.zone_model.proofs.PartEffects.{effect_part}
use Rattle.zone_model.proofs.Soundness.{sound_intact, sound_made, step_sound}
use Rattle.zone_model.proofs.Steps.{plain_happens}
use Rattle.shared_heap.specs.Holding.{IsShared, LeavesParts}
use Rattle.shared_heap.specs.Shared.{Shared}
use Rattle.shared_heap.specs.Stands.{Stands}
use Rattle.shared_heap.specs.Steps as shared
use Rattle.shared_heap.proofs.Agreeing.{here_escaped}
use Rattle.shared_heap.proofs.Leaving.{leaves_holds}
use Rattle.local_set.specs.Calls.{entry_of}
use Rattle.zone_model.specs.Holds.{word_holds}
use Rattle.local_set.specs.LocalSets.{LocalSet, part_in}
use Rattle.escape_plan.specs.Escapes.{IsKnown}
use Rattle.escape_plan.specs.Together.{Belongs, Together}
use Rattle.escape_plan.proofs.Belonging.{part_is}
use Rattle.zone_escape.specs.Making.{CanMake, Makes}
use Rattle.zone_escape.proofs.Needs.{refused, composed}

-- a set belongs to a state by its thread's part alone
pub belongs_still : (l : LocalSet) (z a : State) → part_of a l.thread ≡ part_of z l.thread → Belongs l z → Belongs l a
belongs_still l z a same b = record {
  options = b.options ∙ ap (λ (p : Part). p.options) (sym same);
  run = subst (λ p. LocalRun p l.thread l.waiting (part_in l)) (sym same) b.run;
  published = λ r. b.published r ∙ ap (λ (p : Part). p.registers r) (sym same);
  unchanged = λ q no. b.unchanged q no ∙ ap (λ (p : Part). word_holds p.blocks q) (sym same);
}

-- a misuse changes no part
after_misuse : (p : Part) (c : Call) (m : Misuse) → part_after p c (reply.Misuse m) ≡ p
after_misuse p call.Stats m = refl
after_misuse p _ m = refl

-- a call that is no step of a cycle is never busy
never_busy : (z : State) (t : ℕ) (c : Call) → is_cycle_step c ≡ false → FindsBusy z t c → ⊥
never_busy z t (call.Begin mode) n busy = cc (n)
never_busy z t _ n busy = absurd busy

-- the thread's part after a step at which nothing escapes
pub part_stepped : (y : State) (e : Entry) (after : State) → Sound y → ((id : BlockId) → Need y e.thread e.call id → ⊥) → is_cycle_step e.call ≡ false → Step y e after → part_of after e.thread ≡ part_after (part_of y e.thread) e.call e.reply
part_stepped y e after sound none quiet step = go (misuse_of y e.thread e.call (λ _. false)) refl
  where
    go : (m : Option Misuse) → misuse_of y e.thread e.call (λ _. false) ≡ m → part_of after e.thread ≡ part_after (part_of y e.thread) e.call e.reply
    go None right =
        let effect = happens_effect y e.thread e.call e.reply after (never_busy y e.thread e.call quiet) (plain_happens y e after step none right) in
        ap (λ x. part_of x e.thread) effect.2 ∙ effect_part y (sound_intact y sound) e.thread e.call e.reply effect.0 (next_free y (sound_made y sound) e.thread) effect.1
    go (Some m) wrong =
        let refused = plain_refused y e after m step none wrong in
        ap (λ x. part_of x e.thread) refused.1 ∙ sym (ap (part_after (part_of y e.thread) e.call) refused.0 ∙ after_misuse (part_of y e.thread) e.call m)

-- what has escaped is shared, and one of the heap's blocks
pub is_shared : (z : State) (v : Option BlockId) → IfSome v (λ id. IsTrue (is_escaped z id)) → IsShared z v
is_shared z None out = tt
is_shared z (Some id) out = out

pub all_in_heap : (h : Shared) (z : State) (v : Option BlockId) → Stands h z → IfSome v (λ id. IsTrue (is_escaped z id)) → IfSome v (λ id. IsSome (get h.blocks id))
all_in_heap h z None s out = tt
all_in_heap h z (Some id) s out = here_escaped h z id s out

-- the block, if there is one, has escaped
abbrev pub is_out : State → Option BlockId → Type 0
is_out z v = IfSome v (λ id. IsTrue (is_escaped z id))

-- where the blocks fit, they have escaped
pub did_fit : (m : LocalSet) (g : Shared) (z : State) (need : BlockId → Bool) (fit : Bool) → fit ≡ true → Together m g (cond fit (with_escaped z need) z) → Together m g (with_escaped z need)
did_fit m g z need fit fits t = subst (λ b. Together m g (cond b (with_escaped z need) z)) fits t

-- the misuse where the blocks would be too many
pub full_if : (b fit : Bool) → b ≡ not fit → fit ≡ false → cond b (Some misuse.ZoneFull) None ≡ Some misuse.ZoneFull
full_if b fit e f = ap (λ t. cond t (Some misuse.ZoneFull) None) (e ∙ ap not f)

pub fits_if : (b fit : Bool) → b ≡ not fit → fit ≡ true → cond b (Some misuse.ZoneFull) None ≡ None
fits_if b fit e f = ap (λ t. cond t (Some misuse.ZoneFull) None) (e ∙ ap not f)

-- what is known of a call that the heap makes after an escape
pub record Follows (l m : LocalSet) (g k : Shared) (c : Call) (r : Reply) (z : State) : Type 0 where
  pub need : BlockId → Bool
  pub tells : Tells need (Need z l.thread c)
  pub right : misuse_of z l.thread c need ≡ None
  pub together : Together m g (with_escaped z need)
  pub none : (id : BlockId) → Need (with_escaped z need) l.thread c id → ⊥
  pub leaves : LeavesParts (with_escaped z need) l.thread c
  pub still : part_after (part_of (with_escaped z need) l.thread) c r ≡ part_of (with_escaped z need) l.thread
  pub fine : (w : Misuse) → r ≡ reply.Misuse w → ⊥
  pub stepped : shared.Stepped k (with_escaped z need) l.thread c r

module _ (l : LocalSet) (h : Shared) (c : Call) (can : CanMake l h c) where
  module _ (z : State) (t : Together l h z) where
    pub part : part_in l ≡ part_of z l.thread
    part = part_is l z t.local can.out

    pub running : z.ended l.thread ≡ false
    running = ap (λ (p : Part). p.ended) (sym part) ∙ can.running

    -- what a register of the set holds
    pub held : (r : ℕ) (v : Option BlockId) → v ≡ (part_in l).registers r → v ≡ z.registers l.thread r
    held r v is = is ∙ ap (λ (p : Part). p.registers r) part

    pub known : (r : ℕ) (v : Option BlockId) → v ≡ (part_in l).registers r → IsKnown z l.thread v
    known r v is b e = t.heap.sound.names.registers l.thread r b (sym (held r v is) ∙ e)

  -- the options stay where some state goes on
  same_options : (m : LocalSet) (k : Shared) → ((z : State) → Together l h z → (a : State) × (a.options ≡ z.options) × Together m k a) → k.options ≡ h.options
  same_options m k goes =
      let z = can.together.0 in
      let t = can.together.1 in
      let a = goes z t in
      sym a.2.heap.stands.options ∙ a.1 ∙ t.heap.stands.options

  pub misused : (m : LocalSet) (k : Shared) (w : Misuse) → m.thread ≡ l.thread → m.waiting ≡ l.waiting
      → ((z : State) → Together l h z → (need : BlockId → Bool) × Tells need (Need z l.thread c) × (misuse_of z l.thread c need ≡ Some w) × Together m k z)
      → Makes l m h k c (reply.Misuse w)
  misused m k w thread waiting wrong = record {
    step = λ z t. let x = wrong z t in (z, refused z (entry_of l.thread c (reply.Misuse w)) x.0 w (running z t) x.1 x.2 refl, x.3);
    thread = thread;
    waiting = waiting ∙ can.out;
    options = same_options m k (λ z t. (z, refl, (wrong z t).3));
  }

  made_at : (m : LocalSet) (g k : Shared) (r : Reply) (z : State) → m.thread ≡ l.thread → k.holds ≡ g.holds → k.room ≡ g.room → is_cycle_step c ≡ false → bare_reply r ≡ r → Together l h z → Follows l m g k c r z
      → (a : State) × Step z (entry_of l.thread c r) a × Together m k a
  made_at m g k r z thread holds room quiet bare t f =
      let y = with_escaped z f.need in
      let e : Entry = record { thread = l.thread; call = c; reply = r } in
      let sound = f.together.heap.sound in
      let a = f.stepped.0 in
      let part = part_stepped y e a sound f.none quiet f.stepped.1 ∙ f.still in (
        a,
        subst (λ x. Step z (record { thread = l.thread; call = c; reply = x }) a) (sym bare) (composed z e f.need a (running z t) f.tells f.right f.none f.fine f.stepped.1),
        record {
          local = belongs_still m y a (subst (λ u. part_of a u ≡ part_of y u) (sym thread) part) f.together.local;
          heap = record { stands = f.stepped.2; holds = leaves_holds g k y a l.thread c r f.leaves sound f.together.heap.holds holds f.stepped.1; sound = step_sound y e a sound f.stepped.1 };
          room = room ∙ f.together.room;
        },
      )

  pub made : (m : LocalSet) (g k : Shared) (r : Reply) → m.thread ≡ l.thread → m.waiting ≡ l.waiting → k.holds ≡ g.holds → k.room ≡ g.room → k.options ≡ g.options → is_cycle_step c ≡ false → bare_reply r ≡ r
      → ((z : State) → Together l h z → Follows l m g k c r z) → Makes l m h k c r
  made m g k r thread waiting holds room options quiet bare follows = record {
    step = λ z t. made_at m g k r z thread holds room quiet bare t (follows z t);
    thread = thread;
    waiting = waiting ∙ can.out;
    options = options ∙ same_options m g (λ z t. let f = follows z t in (with_escaped z f.need, refl, f.together));
  }
