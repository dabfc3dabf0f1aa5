-- What the heap's calls leave of the agreement between its table of holds and the state
use Rattle.std.proofs.Common.{◌≡◌, ◌<◌, ◌≤◌, ◌+◌, ◌==◌, ◌&&◌, ◌||◌, ◌⊎◌, ℕ, zero, suc, Bool, true, false, cond, List, [], ◌∷◌, MatchOption, Option, Some, None, IsSome, IsTrue, is_some, refl, sym, ap, subst, ◌∙◌, arith, inl, inr}
use Rattle.std.proofs.lemmas.Bool.Decides.{nat_tests}
use Rattle.std.specs.Option.{option_and_then}
use Rattle.std.specs.FinMap.{get}
use Rattle.az_base.specs.declared.block_id.BlockId.{BlockId}
use Rattle.az_base.specs.declared.misuse.Misuse.{Misuse}
use Rattle.az_base.specs.Ids.{id_cmp, same_id, exact_ids}
use Rattle.zone_model.specs.declared.call.Call.{Call}
use Rattle.zone_model.specs.declared.call.Call.TheVariants as call
use Rattle.zone_model.specs.declared.entry.Entry.{Entry}
use Rattle.zone_model.specs.declared.entry.Reply.{Reply}
use Rattle.zone_model.specs.declared.entry.Reply.TheVariants as reply
use Rattle.zone_model.specs.Escape.{Need}
use Rattle.zone_model.specs.Misuses.{misuse_of}
use Rattle.zone_model.specs.Part.{part_of}
use Rattle.zone_model.specs.State.{State, Block, is_escaped, with_register}
use Rattle.zone_model.specs.Step.{Step, Happens, seen_now}
use Rattle.zone_model.proofs.LocalCalls.{plain_refused}
use Rattle.zone_model.proofs.Steps.{plain_happens}
use Rattle.shared_heap.specs.Shared.{Shared, held}
use Rattle.heap_tables.specs.Standing.{kept_of, escaped_view}
use Rattle.shared_heap.specs.Stands.{Stands}
use Rattle.shared_heap.specs.Steps.{names}
use Rattle.zone_model.specs.Holds.{is_block, register_holds, holds_of}
use Rattle.shared_heap.specs.Holding.{is_off, HoldsAgree, HoldsAgreeBut, HoldsMore, HoldsSet, HoldsOnceMore, ReadsTo, pair_of, replaced}

-- a register past those that are counted
registers_past : (n to : ℕ) (v : Option BlockId) (f : ℕ → Option BlockId) (q : BlockId) → n ≤ to → register_holds (λ r. cond (to == r) v (f r)) q n ≡ register_holds f q n
registers_past zero to v f q l = refl
registers_past (suc n) to v f q l =
    let other : (to == n) ≡ false = grind (arith, nat_tests) in
    ap (λ k. k + cond (is_block q (cond (to == n) v (f n))) 1 0) (registers_past n to v f q (omega arith)) ∙ ap (λ b. register_holds f q n + cond (is_block q (cond b v (f n))) 1 0) other

-- what a register held no longer counts, and what it holds does
registers_put : (n to : ℕ) (v : Option BlockId) (f : ℕ → Option BlockId) (q : BlockId) → to < n
    → register_holds (λ r. cond (to == r) v (f r)) q n + cond (is_block q (f to)) 1 0 ≡ register_holds f q n + cond (is_block q v) 1 0
registers_put zero to v f q l = absurd (omega arith)
registers_put (suc n) to v f q l = at (λ k. registers_put n to v f q k) (to == n) refl
  where
    g : ℕ → Option BlockId
    g r = cond (to == r) v (f r)

    before : to ≤ n → (to == n) ≡ false → to < n
    before l e = grind (arith, nat_tests)

    at : (to < n → register_holds g q n + cond (is_block q (f to)) 1 0 ≡ register_holds f q n + cond (is_block q v) 1 0)
        → (b : Bool) → (to == n) ≡ b → register_holds g q (suc n) + cond (is_block q (f to)) 1 0 ≡ register_holds f q (suc n) + cond (is_block q v) 1 0
    at rest true e =
        let same : to ≡ n = grind (arith, nat_tests) in
        let below : register_holds g q n ≡ register_holds f q n = registers_past n to v f q (omega arith) in
        let last : g n ≡ v = ap (λ b. cond b v (f n)) e in
        let was : f to ≡ f n = ap f same in
        rw (below, last, was) (omega arith)
    at rest false e =
        let below = rest (before (omega arith) e) in
        let last : g n ≡ f n = ap (λ b. cond b v (f n)) e in
        rw last (omega (arith, below))

-- the registers of the thread to which a register belongs, and of the others
registers_of : (b : Bool) (to : ℕ) (v : Option BlockId) (f : ℕ → Option BlockId) (q : BlockId) → to < 16
    → register_holds (λ r. cond (b && (to == r)) v (f r)) q 16 + cond (b && is_block q (f to)) 1 0 ≡ register_holds f q 16 + cond (b && is_block q v) 1 0
registers_of true to v f q l = registers_put 16 to v f q l
registers_of false to v f q l = refl

-- what the threads' registers hold, where a register of one was written
pub register_moved : (z : State) (t to u : ℕ) (v : Option BlockId) (q : BlockId) → to < 16
    → register_holds (λ r. cond ((t == u) && (to == r)) v (z.registers u r)) q 16 + cond ((t == u) && is_block q (z.registers t to)) 1 0 ≡ register_holds (z.registers u) q 16 + cond ((t == u) && is_block q v) 1 0
register_moved z t to u v q few = go (t == u) refl
  where
    go : (b : Bool) → (t == u) ≡ b
        → register_holds (λ r. cond ((t == u) && (to == r)) v (z.registers u r)) q 16 + cond ((t == u) && is_block q (z.registers t to)) 1 0 ≡ register_holds (z.registers u) q 16 + cond ((t == u) && is_block q v) 1 0
    go true e = let mine : t ≡ u = grind (arith, nat_tests) in rw mine (registers_of (u == u) to v (z.registers u) q few)
    go false e = rw e (registers_of false to v (z.registers u) q few)

pub moved_sums : (a b w m n : ℕ) → a + m ≡ b + n → (b + w) + n ≡ (a + w) + m
moved_sums a b w m n e = omega (arith, e)

-- an escaped block is one of the heap's
pub here_escaped : (h : Shared) (z : State) (q : BlockId) → Stands h z → IsTrue (is_escaped z q) → IsSome (get h.blocks q)
here_escaped h z q s out = ap is_some (s.blocks q) ∙ shown (get z.blocks q) out
  where
    one : (b : Block) (v : Option ℕ) → b.since ≡ v → IsTrue (is_some b.since) → is_some (kept_of z.reclaims b) ≡ true
    one b None e h = let none : is_some b.since ≡ false = ap is_some e in cc
    one b (Some n) e h = rw e refl

    shown : (o : Option Block) → IsTrue (is_some (option_and_then (λ (b : Block). b.since) o)) → is_some (escaped_view z.reclaims o) ≡ true
    shown None h = cc
    shown (Some b) h = one b b.since refl h

-- what a step is that makes nothing escape
pub outcome : (z : State) (e : Entry) (after : State) → ((id : BlockId) → Need z e.thread e.call id → ⊥) → Step z e after
    → MatchOption (misuse_of z e.thread e.call (λ _. false)) (Happens z e.thread e.call e.reply after) (λ m. (e.reply ≡ reply.Misuse m) × (after ≡ z))
outcome z e after none step = go (misuse_of z e.thread e.call (λ _. false)) refl
  where
    go : (m : Option Misuse) → misuse_of z e.thread e.call (λ _. false) ≡ m → MatchOption m (Happens z e.thread e.call e.reply after) (λ m. (e.reply ≡ reply.Misuse m) × (after ≡ z))
    go None right = plain_happens z e after step none right
    go (Some m) wrong = plain_refused z e after m step none wrong

-- a step of a call that reads: a misuse changes nothing, and else a register holds what is read
abbrev Read : State → ℕ → ℕ → Reply → State → Type 0
Read z t to r after = ((v : Option BlockId) × (r ≡ reply.Block v) × (after ≡ seen_now (with_register z t to v))) ⊎ ((m : Misuse) × (r ≡ reply.Misuse m) × (after ≡ z))

module _ (z after : State) (t to : ℕ) where
  reads : (c : Call) (r : Reply) → ReadsTo c to → Happens z t c r after → Read z t to r after
  reads (call.Load a from at) (reply.Block v) same h = inl (v, refl, h.2 ∙ ap seen_now (h.1.1 ∙ ap (λ k. with_register z t k v) same))
  reads (call.Load a from at) reply.Busy same h = absurd h.0
  reads (call.Load a from at) _ same h = absurd h.1
  reads (call.GetRoot a root) (reply.Block v) same h = inl (v, refl, h.2 ∙ ap seen_now (h.1.1 ∙ ap (λ k. with_register z t k v) same))
  reads (call.GetRoot a root) reply.Busy same h = absurd h.0
  reads (call.GetRoot a root) _ same h = absurd h.1
  reads (call.Take a id) (reply.Block v) same h = inl (v, refl, h.2 ∙ ap seen_now (h.1.1 ∙ ap (λ k. with_register z t k v) same))
  reads (call.Take a id) reply.Busy same h = absurd h.0
  reads (call.Take a id) _ same h = absurd h.1
  reads (call.GetAssoc a object key) (reply.Block v) same h = inl (v, refl, h.2 ∙ ap seen_now (h.1.1 ∙ ap (λ k. with_register z t k v) same))
  reads (call.GetAssoc a object key) reply.Busy same h = absurd h.0
  reads (call.GetAssoc a object key) _ same h = absurd h.1
  reads (call.ReadWeak a loc) (reply.Block v) same h = inl (v, refl, h.2 ∙ ap seen_now (h.1.1 ∙ ap (λ k. with_register z t k v) same))
  reads (call.ReadWeak a loc) reply.Busy same h = absurd h.0
  reads (call.ReadWeak a loc) _ same h = absurd h.1
  reads _ r same h = absurd same

  reads_need_none : (c : Call) → ReadsTo c to → (id : BlockId) → Need z t c id → ⊥
  reads_need_none (call.Load a from at) same id n = n
  reads_need_none (call.GetRoot a root) same id n = n
  reads_need_none (call.Take a i) same id n = n
  reads_need_none (call.GetAssoc a object key) same id n = n
  reads_need_none (call.ReadWeak a loc) same id n = n
  reads_need_none _ same id n = absurd same

  step_reads : (c : Call) (r : Reply) → ReadsTo c to → Step z (record { thread = t; call = c; reply = r }) after → Read z t to r after
  step_reads c r same step = go (misuse_of z t c (λ _. false)) (outcome z _ after (reads_need_none c same) step)
    where
      go : (m : Option Misuse) → MatchOption m (Happens z t c r after) (λ m. (r ≡ reply.Misuse m) × (after ≡ z)) → Read z t to r after
      go None h = reads c r same h
      go (Some m) h = inr (m, h.0, h.1)

names_it : (v : Option BlockId) (q : BlockId) → names (reply.Block v) q ≡ is_block q v
names_it None q = refl
names_it (Some id) q = refl

nothing : (b : Bool) (n : ℕ) → n + cond (b && false) 1 0 ≡ n
nothing true n = omega arith
nothing false n = omega arith

-- a reply that goes to a register: what the register held is counted once more
pub once_more : (h new : Shared) (z after : State) (t to : ℕ) (c : Call) (r : Reply) → ReadsTo c to → to < 16 → Stands h z → HoldsAgree h z → HoldsMore h new t r
    → Step z (record { thread = t; call = c; reply = r }) after → HoldsOnceMore new after t (replaced r (z.registers t to))
once_more h new z after t to c r same few s agree more step = go (step_reads z after t to c r same step)
  where
    go : Read z t to r after → HoldsOnceMore new after t (replaced r (z.registers t to))
    go (inl k) = subst (λ a. HoldsOnceMore new a t (replaced r (z.registers t to))) (sym k.2) (subst (λ x. HoldsOnceMore new (seen_now (with_register z t to k.0)) t (replaced x (z.registers t to))) (sym k.1) (λ u q out.
        let held_now : held new u q ≡ held h u q + cond ((t == u) && names r q) 1 0 = more u q (here_escaped h z q s out) in
        let named : names r q ≡ is_block q k.0 = ap (λ x. names x q) k.1 ∙ names_it k.0 q in
        let was : held h u q ≡ holds_of (part_of z u) q = agree u q out in
        let moved = register_moved z t to u k.0 q few in
        rw (named, was) at held_now ∙ moved_sums _ _ _ _ _ moved))
    go (inr k) = subst (λ a. HoldsOnceMore new a t (replaced r (z.registers t to))) (sym k.2) (subst (λ x. HoldsOnceMore new z t (replaced x (z.registers t to))) (sym k.1) (λ u q out.
        let held_now : held new u q ≡ held h u q + cond ((t == u) && names r q) 1 0 = more u q (here_escaped h z q s out) in
        let unnamed : names r q ≡ false = ap (λ x. names x q) k.1 in
        (rw unnamed at held_now) ∙ nothing (t == u) (held h u q) ∙ agree u q out ∙ sym (nothing (t == u) (holds_of (part_of z u) q))))

-- the number that is said agrees
pub said : (h new : Shared) (z : State) (t : ℕ) (id : BlockId) (off : List (ℕ × BlockId)) → HoldsAgreeBut ((t, id) ∷ off) h z → HoldsSet h new t id (holds_of (part_of z t) id) → HoldsAgreeBut off new z
said h new z t id off agree sets u q out on = sets u q ∙ go (t == u) refl (same_id id q) refl
  where
    same : (r : _) → id_cmp id q ≡ r → Rattle.std.specs.Ordering.is_eq r ≡ true → id ≡ q
    same Rattle.std.specs.declared.cmp.Ordering.TheVariants.Less e h = cc
    same Rattle.std.specs.declared.cmp.Ordering.TheVariants.Equal e h = exact_ids id q e
    same Rattle.std.specs.declared.cmp.Ordering.TheVariants.Greater e h = cc

    go : (a : Bool) → (t == u) ≡ a → (b : Bool) → same_id id q ≡ b → cond (a && b) (holds_of (part_of z t) id) (held h u q) ≡ holds_of (part_of z u) q
    go true e true f = let mine : t ≡ u = grind (arith, nat_tests) in ap (λ k. holds_of (part_of z k) id) mine ∙ ap (holds_of (part_of z u)) (same (id_cmp id q) refl f)
    go true e false f = agree u q out (ap (λ b. b || is_off off u q) (ap (λ x. x && same_id id q) e ∙ f) ∙ on)
    go false e b f = agree u q out (ap (λ b. b || is_off off u q) (ap (λ x. x && same_id id q) e) ∙ on)

-- what is counted once more is one pair, and where there is none, all agrees
pub one_pair : (h : Shared) (z : State) (t : ℕ) (before : Option BlockId) → HoldsOnceMore h z t before → HoldsAgreeBut (pair_of t before) h z
one_pair h z t None once u q out on = once u q out ∙ nothing (t == u) (holds_of (part_of z u) q)
one_pair h z t (Some id) once u q out on = once u q out ∙ go ((t == u) && same_id id q) on
  where
    go : (b : Bool) → (b || false) ≡ false → holds_of (part_of z u) q + cond b 1 0 ≡ holds_of (part_of z u) q
    go true e = cc (e)
    go false e = omega arith

pub no_pair : (h : Shared) (z : State) → HoldsAgreeBut [] h z → HoldsAgree h z
no_pair h z agree u q out = agree u q out refl
