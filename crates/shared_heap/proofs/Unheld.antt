-- What no part holds, and what is left of the agreement where a block is born, where several escape, and where no part changes
use Rattle.std.proofs.Common.{◌≡◌, ◌<◌, ◌+◌, ◌==◌, ◌&&◌, ◌||◌, ◌⊎◌, ℕ, zero, suc, Bool, true, false, cond, List, [], ◌∷◌, ◌++◌, MatchOption, Option, Some, None, IsSome, IsTrue, refl, sym, ap, subst, ◌∙◌, arith, inl, inr, slice_get, eq-eqb, eqb-true}
use Rattle.std.specs.List.{count_by, list_any}
use Rattle.std.specs.Option.{option_map, option_map_or, option_and_then}
use Rattle.std.specs.FinMap.{FinMap, get, get-insert}
use Rattle.az_base.specs.declared.action.Action.{Action}
use Rattle.az_base.specs.declared.block_id.BlockId.{BlockId}
use Rattle.az_base.specs.declared.misuse.Misuse.{Misuse}
use Rattle.az_base.specs.declared.word.Word.{Word}
use Rattle.az_base.specs.declared.word.Word.TheVariants as word
use Rattle.az_base.specs.Ids.{id_cmp, id_of, same_id, ids_total, exact_ids}
use Rattle.block_layouts.specs.declared.layout.Layout.{Layout}
use Rattle.zone_model.specs.declared.call.Call.TheVariants as call
use Rattle.zone_model.specs.declared.entry.Reply.{Reply}
use Rattle.zone_model.specs.declared.entry.Reply.TheVariants as reply
use Rattle.zone_model.specs.Effect.{with_new, new_block}
use Rattle.zone_model.specs.Escape.{with_escaped}
use Rattle.zone_model.specs.Maps.{total}
use Rattle.zone_model.specs.Misuses.{misuse_of}
use Rattle.zone_model.specs.Part.{Part, part_of}
use Rattle.zone_model.specs.Quanta.{is_born_escaped}
use Rattle.zone_model.specs.SameShared.{HoldsRef}
use Rattle.zone_model.specs.Sound.{Knows}
use Rattle.zone_model.specs.State.{State, Block, is_escaped, is_unescaped}
use Rattle.zone_model.specs.Step.{Step, Happens, seen_now}
use Rattle.zone_model.proofs.Blocks.{is_out, is_inside, not_both, there_out, there_inside, own_inside, own_thread, got_escaped, found_escaped, escape_at}
use Rattle.zone_model.proofs.PartChanges.{shown_in, part_get, new_others, new_part, born_in_part}
use Rattle.zone_model.proofs.Sums.{total_split}
use Rattle.az_base.proofs.Ids.{same_turned}
use Rattle.shared_heap.specs.Shared.{Shared, held}
use Rattle.shared_heap.specs.Steps.{IsUnescaped, names}
use Rattle.zone_model.specs.Holds.{is_block, words_to, register_holds, holds_of}
use Rattle.shared_heap.specs.Holding.{refers_to, is_off, HoldsAgree, HoldsAgreeBut, HoldsAdmitted, HoldsBorn, HoldsItsOwn, HoldsOnceMore, pairs_in, replaced}
use Rattle.shared_heap.proofs.Admitting.{same_ids, holds_split, still_out}
use Rattle.shared_heap.proofs.Agreeing.{outcome, register_moved, moved_sums}
use Rattle.shared_heap.proofs.Picks.{total-zero}

no_test : (b : Bool) → (b ≡ true → ⊥) → b ≡ false
no_test true h = absurd (h refl)
no_test false h = refl

-- no register and no word holds the block
no_register : (n : ℕ) (f : ℕ → Option BlockId) (q : BlockId) → ((r : ℕ) → f r ≡ Some q → ⊥) → register_holds f q n ≡ 0
no_register zero f q none = refl
no_register (suc n) f q none =
    let rest : register_holds f q n ≡ 0 = no_register n f q none in
    let last : cond {A = ℕ} (is_block q (f n)) 1 0 ≡ 0 = ap (λ (b : Bool). cond {A = ℕ} b 1 0) (no_test (is_block q (f n)) (found (f n) refl)) in
    omega (arith, rest, last)
  where
    found : (o : Option BlockId) → f n ≡ o → is_block q o ≡ true → ⊥
    found None e h = cc
    found (Some b) e h = none n (e ∙ ap Some (same_ids b q h))

refers : (q : BlockId) (w : Word) → refers_to q w ≡ true → w ≡ word.Block q
refers q word.Null h = cc
refers q (word.Block b) h = ap word.Block (same_ids b q h)
refers q (word.Number n) h = cc

-- one word more
pub word_more : (q : BlockId) (w : Word) (ws : List Word) → words_to q (w ∷ ws) ≡ cond {A = ℕ} (refers_to q w) 1 0 + words_to q ws
word_more q word.Null ws = refl
word_more q (word.Block b) ws = refl
word_more q (word.Number n) ws = refl

no_word : (q : BlockId) (ws : List Word) → ((i : ℕ) → slice_get ws i ≡ Some (word.Block q) → ⊥) → words_to q ws ≡ 0
no_word q [] none = refl
no_word q (w ∷ ws) none =
    let first : cond {A = ℕ} (refers_to q w) 1 0 ≡ 0 = ap (λ (b : Bool). cond {A = ℕ} b 1 0) (no_test (refers_to q w) (λ h. none 0 (ap Some (refers q w h)))) in
    let later : words_to q ws ≡ 0 = no_word q ws (λ i. none (suc i)) in
    let sum = word_more q w ws in
    omega (arith, sum, first, later)

no_sum : (m : FinMap id_cmp Block) (f : BlockId → Block → ℕ) → ((k : BlockId) (b : Block) → get m k ≡ Some b → f k b ≡ 0) → total f m ≡ 0
no_sum m f none = total_split ids_total exact_ids f (λ k b. 0) (λ k b. 0) m none ∙ ap (λ n. n + n) (total-zero m)

pub unheld : (p : Part) (q : BlockId) → (HoldsRef p q → ⊥) → holds_of p q ≡ 0
unheld p q none =
    let registers : register_holds p.registers q 16 ≡ 0 = no_register 16 p.registers q (λ r e. none (inl (r, e))) in
    let words : total (λ id b. words_to q b.words) p.blocks ≡ 0 = no_sum p.blocks (λ id b. words_to q b.words) (λ a b is. no_word q b.words (λ i e. none (inr (a, (b, i, is, e))))) in
    rw (registers, words) refl

-- a block of a part is one of the state, and the thread's own
shown_some : (t : Bool) (o : Option Block) (b : Block) → shown_in t o ≡ Some b → (o ≡ Some b) × (t ≡ true) × IsTrue (is_inside o)
shown_some false o b e = cc
shown_some true o b e = go (is_inside o) refl e
  where
    go : (i : Bool) → is_inside o ≡ i → cond i o None ≡ Some b → (o ≡ Some b) × (true ≡ true) × IsTrue (is_inside o)
    go true f g = (g, refl, f)
    go false f g = cc

-- what a part holds its thread may know
pub held_known : (z : State) (u : ℕ) (q : BlockId) → HoldsItsOwn z → HoldsRef (part_of z u) q → Knows z u q
held_known z u q own (inl register) = own.registers u register.0 q register.1
held_known z u q own (inr word) =
    let mine = shown_some (word.0.thread == u) (get z.blocks word.0) word.1.0 (sym (part_get z u word.0) ∙ word.1.2) in
    subst (λ t. Knows z t q) (eqb-true word.0.thread u mine.1) (own.words word.0 q mine.2 (word.1.0, word.1.1, mine.0, word.1.3))

known_there : (z : State) (u : ℕ) (q : BlockId) → Knows z u q → IsSome (get z.blocks q)
known_there z u q (inl out) = there_out (get z.blocks q) out
known_there z u q (inr own) = there_inside (get z.blocks q) (own_inside z u q own)

-- a birth: what the register held is counted once more
module _ (z after : State) (t to : ℕ) (layout : Layout) (actions : List Action) where
  abbrev id : BlockId
  id = id_of t (z.serials t)

  abbrev Born : Reply → Type 0
  Born r = ((r ≡ reply.Block (Some id)) × (after ≡ seen_now (with_new z t to layout actions))) ⊎ ((m : Misuse) × (r ≡ reply.Misuse m) × (after ≡ z))

  bears : (r : Reply) → Happens z t (call.New to layout actions) r after → Born r
  bears (reply.Block v) h = inl (ap reply.Block h.1.0, h.2 ∙ ap seen_now h.1.1)
  bears reply.Busy h = absurd h.0
  bears _ h = absurd h.1

  step_bears : (r : Reply) → Step z (record { thread = t; call = call.New to layout actions; reply = r }) after → Born r
  step_bears r step = go (misuse_of z t (call.New to layout actions) (λ _. false)) (outcome z _ after (λ k n. n) step)
    where
      go : (m : Option Misuse) → MatchOption m (Happens z t (call.New to layout actions) r after) (λ m. (r ≡ reply.Misuse m) × (after ≡ z)) → Born r
      go None h = bears r h
      go (Some m) h = inr (m, h.0, h.1)

  -- the words of the parts stay
  born_blocks : is_born_escaped z t layout actions ≡ true → get z.blocks id ≡ None → (u : ℕ) → (part_of (with_new z t to layout actions) u).blocks ≡ (part_of z u).blocks
  born_blocks born none u = go (t == u) refl
    where
      go : (b : Bool) → (t == u) ≡ b → (part_of (with_new z t to layout actions) u).blocks ≡ (part_of z u).blocks
      go true e = subst (λ k. (part_of (with_new z t to layout actions) k).blocks ≡ (part_of z k).blocks) (eqb-true t u e)
          (new_part z t to layout actions none ∙ ap (λ b. cond b (part_of z t).blocks (Rattle.std.specs.FinMap.insert (part_of z t).blocks id (Rattle.zone_model.specs.Part.own_block layout))) (sym (born_in_part z t to layout actions) ∙ born))
      go false e = new_others z t to layout actions u e

  pub born_once_more : (h new : Shared) (r : Reply) → to < 16 → HoldsItsOwn z → get z.blocks id ≡ None → is_born_escaped z t layout actions ≡ true → HoldsAgree h z → HoldsBorn h new t r
      → Step z (record { thread = t; call = call.New to layout actions; reply = r }) after → HoldsOnceMore new after t (replaced r (z.registers t to))
  born_once_more h new r few own none born agree bore step = go (step_bears r step)
    where
      -- the new block, and the others
      held_now : (u : ℕ) (q : BlockId) (b : Bool) → same_id id q ≡ b → IsTrue (is_escaped (with_new z t to layout actions) q) → cond b (cond (t == u) 1 0) (held h u q) ≡ holds_of (part_of z u) q + cond ((t == u) && b) 1 0
      held_now u q true e out =
          let nobody : holds_of (part_of z u) q ≡ 0 = unheld (part_of z u) q (λ r. absent (subst (λ o. IsSome o) (ap (get z.blocks) (sym (same_ids id q e)) ∙ none) (known_there z u q (held_known z u q own r)))) in
          rw nobody (one (t == u))
        where
          absent : IsSome (let o : Option Block = None in o) → ⊥
          absent i = cc

          one : (b : Bool) → cond b 1 0 ≡ 0 + cond (b && true) 1 0
          one true = refl
          one false = refl
      held_now u q false e out = agree u q (sym (ap is_out (get-insert ids_total z.blocks id (new_block z t layout actions) q ∙ ap (λ b. cond b (Some (new_block z t layout actions)) (get z.blocks q)) (other q e))) ∙ out) ∙ sym (still (t == u) (holds_of (part_of z u) q))
        where
          other : (q : BlockId) → same_id id q ≡ false → same_id q id ≡ false
          other q e = same_turned q id ∙ e

          still : (b : Bool) (n : ℕ) → n + cond (b && false) 1 0 ≡ n
          still true n = omega arith
          still false n = omega arith

      go : Born r → HoldsOnceMore new after t (replaced r (z.registers t to))
      go (inl k) = subst (λ a. HoldsOnceMore new a t (replaced r (z.registers t to))) (sym k.1) (subst (λ x. HoldsOnceMore new (seen_now (with_new z t to layout actions)) t (replaced x (z.registers t to))) (sym k.0) (λ u q out.
          let is : held new u q ≡ cond (names r q) (cond (t == u) 1 0) (held h u q) = bore u q in
          let named : names r q ≡ same_id id q = ap (λ x. names x q) k.0 in
          let blocks : total (λ i b. words_to q b.words) (part_of (with_new z t to layout actions) u).blocks ≡ total (λ i b. words_to q b.words) (part_of z u).blocks = ap (total (λ i b. words_to q b.words)) (born_blocks born none u) in
          let moved = register_moved z t to u (Some id) q few in
          (rw named at is) ∙ held_now u q (same_id id q) refl out ∙ (rw blocks (moved_sums _ _ _ _ _ moved))))
      go (inr k) = subst (λ a. HoldsOnceMore new a t (replaced r (z.registers t to))) (sym k.2) (subst (λ x. HoldsOnceMore new z t (replaced x (z.registers t to))) (sym k.1) (λ u q out.
          let is : held new u q ≡ cond (names r q) (cond (t == u) 1 0) (held h u q) = bore u q in
          let unnamed : names r q ≡ false = ap (λ x. names x q) k.1 in
          (rw unnamed at is) ∙ agree u q out ∙ sym (none_more (t == u) (holds_of (part_of z u) q))))
        where
          none_more : (b : Bool) (n : ℕ) → n + cond (b && false) 1 0 ≡ n
          none_more true n = omega arith
          none_more false n = omega arith

-- one more block escapes, where some pairs don't agree yet
module _ (z : State) (id : BlockId) (layout : Layout) (words : List Word) (is : IsUnescaped z id layout words) where
  off_other : (t u : ℕ) (q : BlockId) (ws : List Word) (off : List (ℕ × BlockId)) → is_off (pairs_in t ws ++ off) u q ≡ false → ((t == u) ≡ true → words_to q ws ≡ 0) × (is_off off u q ≡ false)
  off_other t u q [] off h = ((λ e. refl), h)
  off_other t u q (word.Null ∷ ws) off h = let rest = off_other t u q ws off h in ((λ e. let none = rest.0 e in omega (arith, none)), rest.1)
  off_other t u q (word.Number n ∷ ws) off h = let rest = off_other t u q ws off h in ((λ e. let none = rest.0 e in omega (arith, none)), rest.1)
  off_other t u q (word.Block b ∷ ws) off h = go (λ k. off_other t u q ws off k) (t == u) refl (same_id b q) refl h
    where
      go : (is_off (pairs_in t ws ++ off) u q ≡ false → ((t == u) ≡ true → words_to q ws ≡ 0) × (is_off off u q ≡ false)) → (x : Bool) → (t == u) ≡ x → (y : Bool) → same_id b q ≡ y → ((x && y) || is_off (pairs_in t ws ++ off) u q) ≡ false → ((x ≡ true → words_to q (word.Block b ∷ ws) ≡ 0) × (is_off off u q ≡ false))
      go more true e true f k = cc (k)
      go more true e false f k = ((λ s. let later = (more k).0 e in let sum = word_more q (word.Block b) ws ∙ ap (λ (y : Bool). cond {A = ℕ} y 1 0 + words_to q ws) f in omega (arith, sum, later)), (more k).1)
      go more false e y f k = ((λ s. cc (s)), (more k).1)

  pub admitted_but : (h new : Shared) (off : List (ℕ × BlockId)) → HoldsItsOwn z → HoldsAgreeBut off h z → HoldsAdmitted h new id → HoldsAgreeBut ((id.thread, id) ∷ (pairs_in id.thread words ++ off)) new (with_escaped z (same_id id))
  admitted_but h new off own agree admitted u q out on = admitted u q ∙ go (id.thread == u) refl (same_id id q) refl on
    where
      inside : IsTrue (is_unescaped z id)
      inside = ap is_inside is

      of_thread : (u : ℕ) → Knows z u id → (id.thread == u) ≡ true
      of_thread u (inl k) = absurd (not_both (get z.blocks id) k inside)
      of_thread u (inr k) = eq-eqb id.thread u (own_thread z u id k)

      go : (x : Bool) → (id.thread == u) ≡ x → (y : Bool) → same_id id q ≡ y → ((x && y) || is_off (pairs_in id.thread words ++ off) u q) ≡ false → cond y 0 (held h u q) ≡ holds_of (part_of (with_escaped z (same_id id)) u) q
      go true e true f k = cc (k)
      go false e true f k =
          let nobody : holds_of (part_of z u) q ≡ 0 = unheld (part_of z u) q (λ r. let known = subst (Knows z u) (sym (same_ids id q f)) (held_known z u q own r) in let mine = of_thread u known in cc) in
          let split = holds_split z id layout words is u q in
          omega (arith, nobody, split)
      go true e false f k =
          let rest = off_other id.thread u q words off k in
          let none : words_to q words ≡ 0 = rest.0 e in
          let split : holds_of (part_of z u) q ≡ holds_of (part_of (with_escaped z (same_id id)) u) q + cond (id.thread == u) (words_to q words) 0 = holds_split z id layout words is u q in
          agree u q (still_out z id layout words is q f out) rest.1 ∙ split ∙ (rw (e, none) (omega arith))
      go false e false f k =
          let rest = off_other id.thread u q words off k in
          let split : holds_of (part_of z u) q ≡ holds_of (part_of (with_escaped z (same_id id)) u) q + cond (id.thread == u) (words_to q words) 0 = holds_split z id layout words is u q in
          agree u q (still_out z id layout words is q f out) rest.1 ∙ split ∙ (rw e (omega arith))

  -- each thread still holds its own alone
  known_still : (u : ℕ) (b : BlockId) → Knows z u b → Knows (with_escaped z (same_id id)) u b
  known_still u b known = go (same_id id b) refl known
    where
      stays : (o : Option Block) → IsTrue (is_out o) → (t : Bool) → IsTrue (is_out (option_map (escape_at z t) o))
      stays None k t = cc
      stays (Some x) k true = refl
      stays (Some x) k false = k

      unmoved : (o : Option Block) → option_map (escape_at z false) o ≡ o
      unmoved None = refl
      unmoved (Some x) = refl

      escapes : (o : Option Block) → IsTrue (is_inside o) → IsTrue (is_out (option_map (escape_at z true) o))
      escapes None k = cc
      escapes (Some x) k = refl

      go : (t : Bool) → same_id id b ≡ t → Knows z u b → Knows (with_escaped z (same_id id)) u b
      go t e (inl k) = inl (ap is_out (got_escaped z (same_id id) b) ∙ stays (get z.blocks b) k (same_id id b))
      go true e (inr k) = inl (ap is_out (got_escaped z (same_id id) b ∙ ap (λ t. option_map (escape_at z t) (get z.blocks b)) e) ∙ escapes (get z.blocks b) (own_inside z u b k))
      go false e (inr k) = inr (ap (λ o. (b.thread == u) && is_inside o) (got_escaped z (same_id id) b ∙ ap (λ t. option_map (escape_at z t) (get z.blocks b)) e ∙ unmoved (get z.blocks b)) ∙ k)

  pub own_still : HoldsItsOwn z → HoldsItsOwn (with_escaped z (same_id id))
  own_still own = record {
    registers = λ u r b e. known_still u b (own.registers u r b e);
    words = λ a b inside word.
        let was = found_escaped z (same_id id) a word.0 word.2 in
        known_still a.thread b (own.words a b (inside_before (get z.blocks a) (same_id id a) (sym (ap is_inside (got_escaped z (same_id id) a)) ∙ inside)) (was.0, word.1, was.1, ap (λ ws. slice_get ws word.1) was.2 ∙ word.3));
  }
    where
      inside_before : (o : Option Block) (t : Bool) → IsTrue (is_inside (option_map (escape_at z t) o)) → IsTrue (is_inside o)
      inside_before None t k = k
      inside_before (Some x) true k = cc
      inside_before (Some x) false k = k
