-- A call of a thread of which nothing waits, as a step of the definitions
use Rattle.std.proofs.Common.{◌≡◌, ℕ, Bool, false, List, [], MatchOption, Option, Some, None, refl, sym, ap, subst, ◌∙◌, arith}
use Rattle.az_base.specs.declared.block_id.BlockId.{BlockId}
use Rattle.az_base.specs.declared.misuse.Misuse.{Misuse}
use Rattle.zone_model.specs.declared.call.Call.{Call}
use Rattle.zone_model.specs.declared.call.Call.TheVariants as call
use Rattle.zone_model.specs.declared.entry.Entry.{Entry}
use Rattle.zone_model.specs.declared.entry.Reply.{Reply}
use Rattle.zone_model.specs.declared.entry.Reply.TheVariants as reply
use Rattle.zone_model.specs.Bare.{bare_list}
use Rattle.zone_model.specs.Effect.{Effect}
use Rattle.zone_model.specs.Escape.{Need, with_escaped}
use Rattle.zone_model.specs.History.{is_cycle_step}
use Rattle.zone_model.specs.LocalSteps.{LocalRun}
use Rattle.zone_model.specs.Misuses.{misuse_of}
use Rattle.zone_model.specs.Part.{Part, part_of, part_after, put_register}
use Rattle.zone_model.specs.Room.{WithRoom}
use Rattle.zone_model.specs.State.{State}
use Rattle.zone_model.specs.Step.{Step, Happens}
use Rattle.zone_model.proofs.Soundness.{step_sound}
use Rattle.shared_heap.specs.Holding.{HoldsMore, HoldsOnceMore, LeavesParts, ReadsTo, replaced}
use Rattle.shared_heap.specs.Shared.{Shared, with_gc}
use Rattle.shared_heap.specs.Steps.{after_read}
use Rattle.shared_heap.specs.Steps as shared
use Rattle.shared_heap.proofs.Agreeing.{once_more}
use Rattle.shared_heap.proofs.Leaving.{leaves_holds}
use Rattle.local_set.specs.Calls.{entry_of}
use Rattle.zone_model.specs.Holds.{word_holds}
use Rattle.local_set.specs.LocalSets.{LocalSet, part_in, held_in}
use Rattle.escape_plan.specs.Together.{Belongs, Together}
use Rattle.zone_escape.specs.Making.{CanMake, Makes, Stays}
use Rattle.zone_escape.specs.Receiving.{received, Receives}
use Rattle.zone_escape.proofs.Shown.{belongs_still, part_stepped, part, running, held}

-- where nothing waits, the set belongs to the state of which it has its thread's part, once its registers are noted as published
pub belongs_now : (l : LocalSet) (z : State) → l.waiting ≡ [] → part_in l ≡ part_of z l.thread → ((r : ℕ) → held_in l.published r ≡ held_in l.registers r) → Belongs l z
belongs_now l z out part published = record {
  options = ap (λ (p : Part). p.options) part;
  run = subst (λ (es : List Entry). LocalRun (part_of z l.thread) l.thread es (part_in l)) (sym out) part;
  published = λ r. published r ∙ ap (λ (p : Part). p.registers r) part;
  unchanged = λ q same. ap (λ (p : Part). word_holds p.blocks q) part;
}

module _ (z : State) (t : ℕ) (c : Call) (need : BlockId → Bool) (a : State) where
  -- a reply with lists says the same without their room
  does_bare : (r s : Reply) → ((m : Misuse) → r ≡ reply.Misuse m → ⊥) → (Happens (with_escaped z need) t c r a → Happens (with_escaped z need) t c s a) → (o : Option Misuse)
      → MatchOption o (Happens (with_escaped z need) t c r a) (λ m. (r ≡ reply.Misuse m) × (a ≡ z)) → MatchOption o (Happens (with_escaped z need) t c s a) (λ m. (s ≡ reply.Misuse m) × (a ≡ z))
  does_bare r s fine goes None h = goes h
  does_bare r s fine goes (Some m) h = absurd (fine m h.0)

condemned_bare : (y : State) (t : ℕ) (c : Call) (l : WithRoom) (mid : State) → Effect y t c (reply.Condemned l) mid → Effect y t c (reply.Condemned (bare_list l)) mid
condemned_bare y t call.Condemn l mid e = e
condemned_bare y t _ l mid e = absurd e

reclaimed_bare : (y : State) (t : ℕ) (c : Call) (l : WithRoom) (mid : State) → Effect y t c (reply.Reclaimed l) mid → Effect y t c (reply.Reclaimed (bare_list l)) mid
reclaimed_bare y t call.CollectLocal l mid e = e
reclaimed_bare y t call.Leave l mid e = e
reclaimed_bare y t _ l mid e = absurd e

settled_bare : (y : State) (t : ℕ) (c : Call) (l k : WithRoom) (mid : State) → Effect y t c (reply.Settled l k) mid → Effect y t c (reply.Settled (bare_list l) (bare_list k)) mid
settled_bare y t call.Reclaim l k mid e = e
settled_bare y t _ l k mid e = absurd e

-- so the step of a call is that of its entry
pub bare_step : (z : State) (t : ℕ) (c : Call) (r : Reply) (a : State) → Step z (record { thread = t; call = c; reply = r }) a → Step z (entry_of t c r) a
bare_step z t c (reply.Condemned l) a s = record {
  running = s.running;
  need = s.need;
  needed = s.needed;
  does = does_bare z t c s.need a (reply.Condemned l) (reply.Condemned (bare_list l)) (λ m e. cc (e)) (λ h. (h.0, condemned_bare (with_escaped z s.need) t c l h.0 h.1, h.2)) (misuse_of z t c s.need) s.does;
}
bare_step z t c (reply.Reclaimed l) a s = record {
  running = s.running;
  need = s.need;
  needed = s.needed;
  does = does_bare z t c s.need a (reply.Reclaimed l) (reply.Reclaimed (bare_list l)) (λ m e. cc (e)) (λ h. (h.0, reclaimed_bare (with_escaped z s.need) t c l h.0 h.1, h.2)) (misuse_of z t c s.need) s.does;
}
bare_step z t c (reply.Settled l k) a s = record {
  running = s.running;
  need = s.need;
  needed = s.needed;
  does = does_bare z t c s.need a (reply.Settled l k) (reply.Settled (bare_list l) (bare_list k)) (λ m e. cc (e)) (λ h. (h.0, settled_bare (with_escaped z s.need) t c l k h.0 h.1, h.2)) (misuse_of z t c s.need) s.does;
}
bare_step z t c _ a s = s

-- a call that reads into a register: the part after it, and that it makes nothing escape and is no step of a cycle
put_same : (p : Part) (a to : ℕ) (v : Option BlockId) → a ≡ to → put_register p a v ≡ put_register p to v
put_same p a to v same = ap (λ r. put_register p r v) same

reads_part : (p : Part) (c : Call) (to : ℕ) (r : Reply) → ReadsTo c to → part_after p c r ≡ received p to r
reads_part p (call.Load a from at) to (reply.Block v) same = put_same p a to v same
reads_part p (call.Load a from at) to _ same = refl
reads_part p (call.GetRoot a root) to (reply.Block v) same = put_same p a to v same
reads_part p (call.GetRoot a root) to _ same = refl
reads_part p (call.Take a id) to (reply.Block v) same = put_same p a to v same
reads_part p (call.Take a id) to _ same = refl
reads_part p (call.GetAssoc a object key) to (reply.Block v) same = put_same p a to v same
reads_part p (call.GetAssoc a object key) to _ same = refl
reads_part p (call.ReadWeak a loc) to (reply.Block v) same = put_same p a to v same
reads_part p (call.ReadWeak a loc) to _ same = refl
reads_part p _ to r same = absurd same

reads_need : (z : State) (t : ℕ) (c : Call) (to : ℕ) → ReadsTo c to → (id : BlockId) → Need z t c id → ⊥
reads_need z t (call.Load a from at) to same id n = n
reads_need z t (call.GetRoot a root) to same id n = n
reads_need z t (call.Take a i) to same id n = n
reads_need z t (call.GetAssoc a object key) to same id n = n
reads_need z t (call.ReadWeak a loc) to same id n = n
reads_need z t _ to same id n = absurd same

reads_quiet : (c : Call) (to : ℕ) → ReadsTo c to → is_cycle_step c ≡ false
reads_quiet (call.Load a from at) to same = refl
reads_quiet (call.GetRoot a root) to same = refl
reads_quiet (call.Take a i) to same = refl
reads_quiet (call.GetAssoc a object key) to same = refl
reads_quiet (call.ReadWeak a loc) to same = refl
reads_quiet _ to same = absurd same

-- a read changes neither the options of the heap nor the room for an escape
read_options : (h : Shared) (t : ℕ) (r : Reply) → (after_read h t r).options ≡ h.options
read_options h t (reply.Block None) = refl
read_options h t (reply.Block (Some b)) = refl
read_options h t _ = refl

read_room : (h : Shared) (t : ℕ) (r : Reply) → (after_read h t r).room ≡ h.room
read_room h t (reply.Block None) = refl
read_room h t (reply.Block (Some b)) = refl
read_room h t _ = refl

module _ (l : LocalSet) (h : Shared) (c : Call) (can : CanMake l h c) where
  pub runs : (u : ℕ) → u ≡ l.thread → (z : State) → Together l h z → shared.Runs h z u
  runs u thread z t = record { stands = t.heap.stands; running = ap z.ended thread ∙ running l h c can z t }

  -- what the register of a call holds
  pub in_register : (u : ℕ) → u ≡ l.thread → (reg : ℕ) (v : Option BlockId) → v ≡ (part_in l).registers reg → (z : State) → Together l h z → z.registers u reg ≡ v
  in_register u thread reg v holds z t = ap (λ x. z.registers x reg) thread ∙ sym (held l h c can z t reg v holds)

  -- a refused call has changed nothing
  pub refused_call : (k : Shared) → k ≡ h → Stays l l h k
  refused_call k same = record { together = λ z t. subst (λ s. Together l s z) (sym same) t; thread = refl; waiting = can.out; options = ap (λ (s : Shared). s.options) same }

  -- a call that the heap answered, and that leaves the parts of the threads as they are
  pub answered : (k : Shared) (r : Reply) (u : ℕ) → u ≡ l.thread → k.holds ≡ h.holds → k.room ≡ h.room → k.options ≡ h.options → is_cycle_step c ≡ false
      → ((z : State) → Together l h z → LeavesParts z l.thread c × ((id : BlockId) → Need z l.thread c id → ⊥) × (part_after (part_of z l.thread) c r ≡ part_of z l.thread) × shared.Stepped k z u c r) → Makes l l h k c r
  answered k r u thread holds room options quiet says = record {
    step = λ z t.
        let s = says z t in
        let e : Entry = record { thread = l.thread; call = c; reply = r } in
        let stepped = subst (λ x. shared.Stepped k z x c r) thread s.3 in
        let a = stepped.0 in
        let step = stepped.1 in (
          a,
          bare_step z l.thread c r a step,
          record {
            local = belongs_still l z a (part_stepped z e a t.heap.sound s.1 quiet step ∙ s.2) t.local;
            heap = record { stands = stepped.2; holds = leaves_holds h k z a l.thread c r s.0 t.heap.sound t.heap.holds holds step; sound = step_sound z e a t.heap.sound step };
            room = room ∙ t.room;
          },
        );
    thread = refl;
    waiting = can.out;
    options = options;
  }

  module _ (k : Shared) (to : ℕ) (r : Reply) (u : ℕ) (reads : ReadsTo c to) (thread : u ≡ l.thread) (more : HoldsMore h k u r) (read : k ≡ with_gc (after_read h u r) k.gc) (steps : (z : State) → Together l h z → shared.Stepped k z u c r) where
    -- what a read leaves to be received
    pub read_at : (z : State) → Together l h z → (a : State) × Step z (entry_of l.thread c r) a × Receives l k to r a
    read_at z t =
        let e : Entry = record { thread = l.thread; call = c; reply = r } in
        let s = subst (λ x. shared.Stepped k z x c r) thread (steps z t) in
        let a = s.0 in
        let own = part l h c can z t in (
          a,
          bare_step z l.thread c r a s.1,
          record {
            part = part_stepped z e a t.heap.sound (reads_need z l.thread c to reads) (reads_quiet c to reads) s.1 ∙ reads_part (part_of z l.thread) c to r reads ∙ ap (λ p. received p to r) (sym own);
            published = λ q. t.local.published q ∙ ap (λ (p : Part). p.registers q) (sym own);
            stands = s.2;
            holds = λ few. subst (λ v. HoldsOnceMore k a l.thread (replaced r v)) (ap (λ (p : Part). p.registers to) (sym own)) (once_more h k z a l.thread to c r reads (omega (arith, few)) t.heap.stands t.heap.holds (subst (λ x. HoldsMore h k x r) thread more) s.1);
            sound = step_sound z e a t.heap.sound s.1;
            room = ap (λ (x : Shared). x.room) read ∙ read_room h u r ∙ t.room;
          },
        )

    pub can_receive : (a : State) × Receives l k to r a
    can_receive = let x = read_at can.together.0 can.together.1 in (x.0, x.2)

    -- and once it was received, the call is made
    pub makes_read : (m : LocalSet) (n : Shared) → ((a : State) → Receives l k to r a → Together m n a) → m ≡ record l { registers = m.registers; published = m.published; changed = m.changed } → n ≡ record k { holds = n.holds } → Makes l m h n c r
    makes_read m n together rest told = record {
      step = λ z t. let x = read_at z t in (x.0, x.1, together x.0 x.2);
      thread = ap (λ (s : LocalSet). s.thread) rest;
      waiting = ap (λ (s : LocalSet). s.waiting) rest ∙ can.out;
      options = ap (λ (x : Shared). x.options) told ∙ ap (λ (x : Shared). x.options) read ∙ read_options h u r;
    }
