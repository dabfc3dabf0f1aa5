-- A core after what waits was published
use Rattle.std.proofs.Common.{◌≡◌, ℕ, ◌==◌, ◌&&◌, ◌||◌, zero, suc, Bool, true, false, cond, not, List, [], ◌++◌, Option, Some, None, IsTrue, is_some, length, refl, sym, ap, subst, ◌∙◌, arith}
use Rattle.std.proofs.lemmas.Bool.Decides.{nat_tests}
use Rattle.std.specs.FinMap.{get}
use Rattle.az_base.specs.declared.block_id.BlockId.{BlockId}
use Rattle.az_base.specs.declared.options.Options.{Options}
use Rattle.az_base.specs.Ids.{among}
use Rattle.zone_model.specs.declared.entry.Entry.{Entry}
use Rattle.zone_model.specs.History.{Ends}
use Rattle.zone_model.specs.Part.{Part, part_of}
use Rattle.zone_model.specs.SameShared.{SameShared}
use Rattle.zone_model.specs.State.{State, opening, is_escaped}
use Rattle.zone_model.proofs.Determined.{run_determined}
use Rattle.zone_model.proofs.SoundLaws.{waiting_run}
use Rattle.zone_model.proofs.Soundness.{ends_sound}
use Rattle.zone_model.proofs.Waiting.{run_append}
use Rattle.zone_model.specs.Holds.{is_block, holds_of, one_if, register_holds, word_holds}
use Rattle.shared_heap.specs.Holding.{HoldsAgree}
use Rattle.shared_heap.specs.Shared.{Shared, held}
use Rattle.shared_heap.proofs.Agreeing.{here_escaped}
use Rattle.shared_heap.proofs.Alike.{stands_same}
use Rattle.local_set.specs.LocalSets.{LocalSet, part_in, held_in, blocks_of}
use Rattle.escape_plan.specs.Moving.{Told}
use Rattle.escape_plan.specs.Together.{Belongs, IsHeapOf, OthersStay}
use Rattle.zone_escape.specs.Cores.{CoreShown, IsCore, IsCoreOf, BelongsTo, steps_left, HasLists}
use Rattle.zone_escape.specs.Publications.{Flushed}
use Rattle.zone_escape.specs.Telling.{below, moved_of, moved_at, is_noted}
use Rattle.zone_escape.proofs.Held.{escaped_alike}
use Rattle.zone_escape.proofs.StatesInRange.{waiting_ranges}

-- a core has one state
pub core_once : (k : CoreShown) (z a : State) → IsCoreOf k z → IsCoreOf k a → z ≡ a
core_once k z a is also = run_determined (opening k.heap.options) k.journal.entries z a is.ends also.ends

either_false : (a b : Bool) → (a || b) ≡ false → (a ≡ false) × (b ≡ false)
either_false true b h = cc
either_false false b h = (refl, h)

-- a register that the block neither came into nor left counts it as before
still_counted : (q : BlockId) (before now : Option BlockId) → moved_of q before now ≡ false → one_if q before ≡ one_if q now
still_counted q before now h = go (is_block q before) (is_block q now) refl refl
  where
    go : (s t : Bool) → is_block q before ≡ s → is_block q now ≡ t → cond {A = ℕ} (is_block q before) 1 0 ≡ cond (is_block q now) 1 0
    go true true e f = ap (λ b. cond {A = ℕ} b 1 0) (e ∙ sym f)
    go false false e f = ap (λ b. cond {A = ℕ} b 1 0) (e ∙ sym f)
    go true false e f = let no : true ≡ false = sym (ap (λ b. cond b (not (is_block q now)) (is_block q now)) e ∙ ap not f) ∙ h in cc (no)
    go false true e f = let no : true ≡ false = sym (ap (λ b. cond b (not (is_block q now)) (is_block q now)) e ∙ f) ∙ h in cc (no)

registers_still : (l : LocalSet) (f : ℕ → Option BlockId) (q : BlockId) (n : ℕ) → ((r : ℕ) → held_in l.published r ≡ f r) → below (moved_at l) n q ≡ false → register_holds f q n ≡ register_holds (held_in l.registers) q n
unfolding below
registers_still l f q zero same h = refl
registers_still l f q (suc n) same h =
    let b = either_false (below (moved_at l) n q) (moved_at l n q) h in
    let rest : register_holds f q n ≡ register_holds (held_in l.registers) q n = registers_still l f q n same b.0 in
    let one : one_if q (f n) ≡ one_if q (held_in l.registers n) = ap (one_if q) (sym (same n)) ∙ still_counted q (held_in l.published n) (held_in l.registers n) b.1 in
    omega (arith, rest, one)

-- what isn't noted the thread holds as often as in the state
not_noted : (l : LocalSet) (z : State) (q : BlockId) → Belongs l z → is_noted l q ≡ false → holds_of (part_of z l.thread) q ≡ holds_of (part_in l) q
not_noted l z q b h =
    let e = either_false (below (moved_at l) 16 q) (among l.changed q) h in
    let registers : register_holds (z.registers l.thread) q 16 ≡ register_holds (held_in l.registers) q 16 = registers_still l (z.registers l.thread) q 16 b.published e.0 in
    let words : word_holds (blocks_of l.blocks) q ≡ word_holds (part_of z l.thread).blocks q = b.unchanged q e.1 in
    omega (arith, registers, words)

-- the heap, once told, agrees with the state after the waiting entries
told_agrees : (l : LocalSet) (h k : Shared) (z a : State) → Belongs l z → IsHeapOf h z → Told l h k (is_noted l) → part_of a l.thread ≡ part_in l → OthersStay l.thread z a → SameShared z a → HoldsAgree k a
told_agrees l h k z a b is told part others shared u q out = go (l.thread == u) refl
  where
    was : IsTrue (is_escaped z q)
    was = sym (escaped_alike z a q shared) ∙ out

    here : is_some (get h.blocks q) ≡ true
    here = here_escaped h z q is.stands was

    own : (u : ℕ) → l.thread ≡ u → (n : Bool) → is_noted l q ≡ n → cond (n && is_some (get h.blocks q)) (holds_of (part_in l) q) (held h u q) ≡ holds_of (part_of a u) q
    own u e true m = ap (λ b. cond b (holds_of (part_in l) q) (held h u q)) here ∙ sym (ap (λ t. holds_of (part_of a t) q) (sym e) ∙ ap (λ p. holds_of p q) part)
    own u e false m =
        is.holds u q was ∙ ap (λ t. holds_of (part_of z t) q) (sym e) ∙ not_noted l z q b m
        ∙ sym (ap (λ t. holds_of (part_of a t) q) (sym e) ∙ ap (λ p. holds_of p q) part)

    same : (l.thread == u) ≡ true → l.thread ≡ u
    same e = grind (arith, nat_tests)

    go : (s : Bool) → (l.thread == u) ≡ s → held k u q ≡ holds_of (part_of a u) q
    go true e = told.held u q ∙ ap (λ b. cond (b && (is_noted l q && is_some (get h.blocks q))) (holds_of (part_in l) q) (held h u q)) e ∙ own u (same e) (is_noted l q) refl
    go false e =
        told.held u q ∙ ap (λ b. cond (b && (is_noted l q && is_some (get h.blocks q))) (holds_of (part_in l) q) (held h u q)) e
        ∙ is.holds u q was ∙ ap (λ p. holds_of p q) (sym (others u e))

-- the core after the waiting entries went into the journal, and the heap was told
pub record AfterWaiting (l m : LocalSet) (k n : CoreShown) (z : State) : Type 0 where
  pub after : State
  pub core : IsCoreOf n after
  pub part : part_of after l.thread ≡ part_in l
  pub others : OthersStay l.thread z after

pub published : (l m : LocalSet) (k n : CoreShown) (z : State) → length l.registers ≡ 16 → IsCoreOf k z → Belongs l z → n.journal.entries ≡ k.journal.entries ++ l.waiting → n.journal.owed ≡ k.journal.owed → Told l k.heap n.heap (is_noted l) → AfterWaiting l m k n z
published l m k n z sixteen is b entries owed told =
    let run = waiting_run z is.heap.sound l.thread l.waiting (part_in l) b.run in
    let a = run.0 in
    let options : n.heap.options ≡ k.heap.options = ap (λ (s : Shared). s.options) told.rest in
    let ends : Ends n.heap.options n.journal.entries a = subst (λ (es : List Entry). Ends n.heap.options es a) (sym entries) (subst (λ (o : Options). Ends o (k.journal.entries ++ l.waiting) a) (sym options) (run_append (opening k.heap.options) k.journal.entries z l.waiting a is.ends run.1)) in
    record {
      after = a;
      core = record {
        ends = ends;
        heap = record {
          stands = told.stands a (stands_same k.heap z a is.heap.stands run.4);
          holds = told_agrees l k.heap n.heap z a b is.heap told run.2 run.3 run.4;
          sound = ends_sound n.heap.options n.journal.entries a ends;
        };
        range = waiting_ranges l z a is.range sixteen (ends_sound n.heap.options n.journal.entries a ends) run.2 run.3 run.4;
        room = ap (λ (s : Shared). s.room) told.rest ∙ is.room;
        owed = owed ∙ is.owed ∙ sym (ap steps_left told.rest);
        lists = subst HasLists (sym told.rest) is.lists;
      };
      part = run.2;
      others = run.3;
    }

-- what a publication makes of the set and the core
pub flushed : (l : LocalSet) (s : ℕ) (k n : CoreShown) → length l.registers ≡ 16 → IsCore k → BelongsTo l k → n.journal.entries ≡ k.journal.entries ++ l.waiting → n.journal.owed ≡ k.journal.owed → Told l k.heap n.heap (is_noted l)
    → IsCore n × Flushed l (record l { published = l.registers; changed = []; waiting = []; spare = s }) k n
flushed l s k n sixteen is belongs entries owed told = (
  (p.after, p.core),
  record {
    published = record {
      journal = entries;
      options = ap (λ (h : Shared). h.options) told.rest;
      thread = refl;
      out = refl;
      belongs = λ y c. subst (Belongs m) (core_once n p.after y p.core c) now;
      others = λ y a c d u other. ap (λ x. part_of x u) (core_once n a p.after d p.core) ∙ p.others u other ∙ ap (λ x. part_of x u) (core_once k is.0 y is.1 c);
    };
    part = refl;
  },
)
  where
    m : LocalSet
    m = record l { published = l.registers; changed = []; waiting = []; spare = s }

    p : AfterWaiting l m k n is.0
    p = published l m k n is.0 sixteen is.1 (belongs is.0 is.1) entries owed told

    now : Belongs m p.after
    now = record {
      options = ap (λ (q : Part). q.options) (sym p.part);
      run = sym p.part;
      published = λ r. ap (λ (q : Part). q.registers r) (sym p.part);
      unchanged = λ q same. ap (λ (q' : Part). word_holds q'.blocks q) (sym p.part);
    }
