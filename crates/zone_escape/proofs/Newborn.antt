-- Blocks that are born escaped
use Rattle.std.proofs.Common.{◌≡◌, ◌+◌, ◌==◌, ◌&&◌, ◌||◌, ℕ, Bool, true, false, cond, not, MatchOption, List, Option, Some, None, refl, sym, ap, subst, ◌∙◌, arith}
use Rattle.az_base.specs.declared.action.Action.{Action}
use Rattle.az_base.specs.declared.block_id.BlockId.{BlockId}
use Rattle.az_base.specs.declared.misuse.Misuse.{Misuse}
use Rattle.az_base.specs.Ids.{id_of}
use Rattle.block_layouts.specs.declared.layout.Layout.{Layout}
use Rattle.zone_model.specs.declared.call.Call.{Call}
use Rattle.zone_model.specs.declared.call.Call.TheVariants as call
use Rattle.zone_model.specs.declared.entry.Entry.{Entry}
use Rattle.zone_model.specs.declared.entry.Reply.{Reply}
use Rattle.zone_model.specs.declared.entry.Reply.TheVariants as reply
use Rattle.zone_model.specs.Escape.{Need}
use Rattle.zone_model.specs.Misuses.{misuse_of}
use Rattle.zone_model.specs.Part.{Part, part_of, part_after, put_new, put_register, passes_local, is_local}
use Rattle.zone_model.specs.Quanta.{is_born_escaped}
use Rattle.zone_model.specs.State.{State, is_nil}
use Rattle.zone_model.specs.Step.{Step, Happens}
use Rattle.zone_model.proofs.PartChanges.{born_in_part}
use Rattle.zone_model.proofs.PartSteps.{no_misuse}
use Rattle.zone_model.proofs.Soundness.{step_sound}
use Rattle.shared_heap.specs.Holding.{HoldsBorn, HoldsOnceMore, replaced}
use Rattle.shared_heap.specs.Shared.{Shared}
use Rattle.shared_heap.specs.Steps.{after_birth, next_id}
use Rattle.shared_heap.specs.Steps as shared
use Rattle.shared_heap.specs.Words.{reply_or}
use Rattle.shared_heap.proofs.Agreeing.{outcome}
use Rattle.shared_heap.proofs.Shut.{holds_its_own, next_unused}
use Rattle.shared_heap.proofs.Unheld.{born_once_more}
use Rattle.local_set.specs.Calls.{entry_of, next_of}
use Rattle.local_set.specs.LocalSets.{LocalSet, part_in, held_in}
use Rattle.escape_plan.specs.Together.{Together}
use Rattle.zone_escape.specs.Making.{CanMake, Makes}
use Rattle.zone_escape.specs.Receiving.{received, Receives}
use Rattle.zone_escape.proofs.Shown.{part, running, part_stepped}

-- a call that isn't local bears a block that has escaped
born_shared : (nil passes : Bool) → (nil && not passes) ≡ false → (not nil || passes) ≡ true
born_shared true true h = refl
born_shared true false h = cc
born_shared false passes h = refl

-- what the heap replies to a birth
pub born_id : (o : Option Misuse) (id v : Option BlockId) → reply_or o (reply.Block id) ≡ reply.Block v → v ≡ id
born_id None id v h = cc
born_id (Some m) id v h = cc

pub unborn : (o : Option Misuse) (id : Option BlockId) (r : Reply) → r ≡ reply_or o (reply.Block id) → ((v : Option BlockId) → r ≡ reply.Block v → ⊥) → (m : Misuse) × (r ≡ reply.Misuse m)
unborn None id r says none = absurd (none id says)
unborn (Some m) id r says none = (m, says)

-- a misuse leaves the state
misuse_stays : (z : State) (t : ℕ) (c : Call) (m : Misuse) (a : State) → ((id : BlockId) → Need z t c id → ⊥) → Step z (record { thread = t; call = c; reply = reply.Misuse m }) a → a ≡ z
misuse_stays z t c m a none step = go (misuse_of z t c (λ _. false)) (outcome z (record { thread = t; call = c; reply = reply.Misuse m }) a none step)
  where
    go : (o : Option Misuse) → MatchOption o (Happens z t c (reply.Misuse m) a) (λ k. (reply.Misuse m ≡ reply.Misuse k) × (a ≡ z)) → a ≡ z
    go None h = absurd (no_misuse z t c m h.0 h.1)
    go (Some k) h = h.1

-- a birth leaves the options, and the room for an escape
birth_options : (h : Shared) (t : ℕ) (layout : Layout) (actions : List Action) (v : Option BlockId) → (after_birth h t layout actions (reply.Block v)).options ≡ h.options
birth_options h t layout actions None = refl
birth_options h t layout actions (Some b) = refl

birth_room : (h : Shared) (t : ℕ) (layout : Layout) (actions : List Action) (v : Option BlockId) → (after_birth h t layout actions (reply.Block v)).room ≡ h.room
birth_room h t layout actions None = refl
birth_room h t layout actions (Some b) = refl

module _ (l : LocalSet) (h : Shared) (to : ℕ) (layout : Layout) (actions : List Action) (can : CanMake l h (call.New to layout actions)) where
  abbrev the_call : Call
  the_call = call.New to layout actions

  module _ (z : State) (t : Together l h z) where
    own : part_in l ≡ part_of z l.thread
    own = part l h the_call can z t

    passes : (not (is_nil actions) || passes_local (part_of z l.thread) layout) ≡ true
    passes = ap (λ p. not (is_nil actions) || passes_local p layout) (sym own) ∙ born_shared (is_nil actions) (passes_local (part_in l) layout) can.shared

    pub born_escaped : is_born_escaped z l.thread layout actions ≡ true
    born_escaped = born_in_part z l.thread to layout actions ∙ passes

    pub next_is : (id : Option BlockId) → id ≡ next_of l → id ≡ next_id z l.thread
    next_is id is = is ∙ ap (λ (p : Part). cond (p.serials == p.options.serials) None (Some (id_of l.thread p.serials))) own

    -- the part after the birth
    pub born_part : (id : Option BlockId) → part_after (part_of z l.thread) the_call (reply.Block id) ≡ put_register (record (part_in l) { serials = l.serials + 1 }) to id
    born_part id = ap (λ b. put_register (record (part_of z l.thread) { serials = z.serials l.thread + 1; blocks = cond b (part_of z l.thread).blocks (Rattle.std.specs.Option.option_map_or (λ id. Rattle.std.specs.FinMap.insert (part_of z l.thread).blocks id (Rattle.zone_model.specs.Part.own_block layout)) id (part_of z l.thread).blocks) }) to id) passes
        ∙ ap (λ (p : Part). put_register (record p { serials = p.serials + 1 }) to id) (sym own)

  module _ (k : Shared) (r : Reply) (u : ℕ) (id : Option BlockId) (thread : u ≡ l.thread) (next : id ≡ next_of l) (value : k ≡ after_birth h u layout actions r)
      (steps : (z : State) (to : ℕ) → shared.Runs h z u → is_born_escaped z u layout actions ≡ true → id ≡ next_id z u → shared.Stepped k z u (call.New to layout actions) r) where
    stepped : (z : State) → Together l h z → shared.Stepped k z l.thread the_call r
    stepped z t = subst (λ x. shared.Stepped k z x the_call r) thread (steps z to record { stands = t.heap.stands; running = ap z.ended thread ∙ running l h the_call can z t } (ap (λ x. is_born_escaped z x layout actions) thread ∙ born_escaped z t) (next_is z t id next ∙ ap (next_id z) (sym thread)))

    -- no block was born
    pub makes_none : (m : Misuse) → r ≡ reply.Misuse m → Makes l l h k the_call r
    makes_none m says = subst (Makes l l h k the_call) (sym says) record {
      step = λ z t.
          let s = stepped z t in
          let step = subst (λ x. Step z (record { thread = l.thread; call = the_call; reply = x }) s.0) says s.1 in
          (z, subst (Step z (entry_of l.thread the_call (reply.Misuse m))) (misuse_stays z l.thread the_call m s.0 (λ id n. n) step) step, subst (λ x. Together l x z) (sym same) t);
      thread = refl;
      waiting = can.out;
      options = ap (λ (x : Shared). x.options) same;
    }
      where
        same : k ≡ h
        same = value ∙ ap (after_birth h u layout actions) says

    module _ (n : LocalSet) (used : n ≡ record l { serials = l.serials + 1 }) (says : r ≡ reply.Block id) (born : HoldsBorn h k u r) where
      pub born_at : (z : State) → Together l h z → (a : State) × Step z (entry_of l.thread the_call r) a × Receives n k to r a
      born_at z t =
          let s = stepped z t in
          let a = s.0 in
          let e : Entry = record { thread = l.thread; call = the_call; reply = r } in
          let same = ap (λ (x : LocalSet). x.thread) used in
          let registers = ap (λ (x : LocalSet). x.registers) used in (
            a,
            subst (λ x. Step z (entry_of l.thread the_call x) a) (sym says) (subst (λ x. Step z (record { thread = l.thread; call = the_call; reply = x }) a) says s.1),
            record {
              part = ap (part_of a) same ∙ part_stepped z e a t.heap.sound (λ id n. n) refl s.1 ∙ ap (part_after (part_of z l.thread) the_call) says ∙ born_part z t id ∙ sym (ap (received (part_in n) to) says ∙ ap (λ (x : LocalSet). put_register (part_in x) to id) used);
              published = λ q. ap (λ (x : LocalSet). held_in x.published q) used ∙ t.local.published q ∙ ap (λ (p : Part). p.registers q) (sym (own z t)) ∙ sym (ap (λ (x : LocalSet). held_in x.registers q) used);
              stands = s.2;
              holds = λ few. subst (λ x. HoldsOnceMore k a x (replaced r (held_in n.registers to))) (sym same) (subst (λ v. HoldsOnceMore k a l.thread (replaced r v)) (ap (λ (p : Part). p.registers to) (sym (own z t)) ∙ sym (ap (λ (x : LocalSet). held_in x.registers to) used))
                  (born_once_more z a l.thread to layout actions h k r (omega (arith, few)) (holds_its_own z t.heap.sound) (next_unused z l.thread t.heap.sound) (born_escaped z t) t.heap.holds (subst (λ x. HoldsBorn h k x r) thread born) s.1));
              sound = step_sound z e a t.heap.sound s.1;
              room = ap (λ (x : Shared). x.room) value ∙ ap (λ x. (after_birth h u layout actions x).room) says ∙ birth_room h u layout actions id ∙ t.room;
            },
          )

      pub can_bear : (a : State) × Receives n k to r a
      can_bear = let x = born_at can.together.0 can.together.1 in (x.0, x.2)

      pub makes_born : (m : LocalSet) (g : Shared) → ((a : State) → Receives n k to r a → Together m g a) → m ≡ record n { registers = m.registers; published = m.published; changed = m.changed } → g ≡ record k { holds = g.holds } → Makes l m h g the_call r
      makes_born m g together rest told = record {
        step = λ z t. let x = born_at z t in (x.0, x.1, together x.0 x.2);
        thread = ap (λ (x : LocalSet). x.thread) rest ∙ ap (λ (x : LocalSet). x.thread) used;
        waiting = ap (λ (x : LocalSet). x.waiting) rest ∙ ap (λ (x : LocalSet). x.waiting) used ∙ can.out;
        options = ap (λ (x : Shared). x.options) told ∙ ap (λ (x : Shared). x.options) value ∙ ap (λ x. (after_birth h u layout actions x).options) says ∙ birth_options h u layout actions id;
      }
