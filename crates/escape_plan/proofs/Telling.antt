-- The heap is told how often a thread holds what words refer to
use Rattle.std.proofs.Common.{◌≡◌, ℕ, ◌+◌, ◌<◌, ◌==◌, ◌&&◌, ◌||◌, ◌⊎◌, inl, inr, zero, suc, Bool, true, false, cond, List, [], ◌∷◌, ◌++◌, take, Option, Some, None, is_some, slice_get, refl, sym, ap, subst, ◌∙◌, arith}
use Rattle.std.proofs.lemmas.Bool.Decides.{nat_tests}
use Rattle.std.specs.FinMap.{get}
use Rattle.az_base.specs.declared.block_id.BlockId.{BlockId}
use Rattle.az_base.specs.declared.word.Word.{Word}
use Rattle.az_base.specs.declared.word.Word.TheVariants as word
use Rattle.az_base.specs.Ids.{same_id}
use Rattle.az_base.proofs.Ids.{same_is}
use Rattle.zone_model.specs.State.{State}
use Rattle.shared_heap.specs.Holding.{refers_to, HoldsSet}
use Rattle.shared_heap.specs.Shared.{Shared, held, holding}
use Rattle.shared_heap.specs.Stands.{Stands}
use Rattle.zone_model.specs.Holds.{holds_of}
use Rattle.local_set.specs.LocalSets.{LocalSet, part_in}
use Rattle.local_set.proofs.Lists.{next_taken}
use Rattle.escape_plan.specs.Moving.{refer_to, Told, CanTell}
use Rattle.escape_plan.proofs.Counting.{refer_more, refer_at}

-- one block was told
pub told_block : (l : LocalSet) (h k : Shared) (id : BlockId) (w : Word) (t n : ℕ) → w ≡ word.Block id → t ≡ l.thread → n ≡ holds_of (part_in l) id → is_some (get h.blocks id) ≡ true
    → HoldsSet h k t id n → k ≡ holding h t id n → ((z : State) → Stands h z → Stands k z) → Told l h k (λ q. refers_to q w)
told_block l h k id w t n refers thread is there set value stands = record {
  held = λ u q. set u q ∙ ap (λ x. cond ((x == u) && same_id id q) n (held h u q)) thread ∙ go u q (same_id id q) refl ∙ ap (λ (v : Word). cond ((l.thread == u) && (refers_to q v && is_some (get h.blocks q))) (holds_of (part_in l) q) (held h u q)) (sym refers);
  rest = value ∙ ap (λ m. record h { holds = m }) (sym (ap (λ (s : Shared). s.holds) value));
  stands = stands;
}
  where
    none : (b : Bool) (x y v : ℕ) → cond (b && false) x v ≡ cond (b && false) y v
    none true x y v = refl
    none false x y v = refl

    go : (u : ℕ) (q : BlockId) (s : Bool) → same_id id q ≡ s → cond ((l.thread == u) && same_id id q) n (held h u q) ≡ cond ((l.thread == u) && (same_id id q && is_some (get h.blocks q))) (holds_of (part_in l) q) (held h u q)
    go u q false e =
        ap (λ b. cond ((l.thread == u) && b) n (held h u q)) e ∙ none (l.thread == u) n (holds_of (part_in l) q) (held h u q)
        ∙ ap (λ b. cond ((l.thread == u) && (b && is_some (get h.blocks q))) (holds_of (part_in l) q) (held h u q)) (sym e)
    go u q true e =
        let same : id ≡ q = same_is id q e in
        ap (λ b. cond ((l.thread == u) && b) n (held h u q)) e ∙ ap (λ x. cond ((l.thread == u) && true) x (held h u q)) (is ∙ ap (holds_of (part_in l)) same)
        ∙ ap (λ b. cond ((l.thread == u) && b) (holds_of (part_in l) q) (held h u q)) (sym (ap (λ x. is_some (get h.blocks x)) (sym same) ∙ there))
        ∙ ap (λ b. cond ((l.thread == u) && (b && is_some (get h.blocks q))) (holds_of (part_in l) q) (held h u q)) (sym e)

-- none was told
pub told_none : (l : LocalSet) (h : Shared) → Told l h h (refer_to [])
told_none l h = record { held = λ u q. go (l.thread == u) (holds_of (part_in l) q) (held h u q); rest = refl; stands = λ z s. s }
  where
    go : (b : Bool) (x y : ℕ) → y ≡ cond (b && false) x y
    go true x y = refl
    go false x y = refl

-- the same by another test that says the same
pub told_as : (l : LocalSet) (h k : Shared) (f g : BlockId → Bool) → ((q : BlockId) → f q ≡ g q) → Told l h k f → Told l h k g
told_as l h k f g same told = record {
  held = λ u q. told.held u q ∙ ap (λ b. cond ((l.thread == u) && (b && is_some (get h.blocks q))) (holds_of (part_in l) q) (held h u q)) (same q);
  rest = told.rest;
  stands = told.stands;
}

-- one after the other
pub told_both : (l : LocalSet) (h mid k : Shared) (f g : BlockId → Bool) → Told l h mid f → Told l mid k g → Told l h k (λ q. f q || g q)
told_both l h mid k f g first then = record {
  held = λ u q.
      then.held u q
      ∙ ap (λ (s : Shared). cond ((l.thread == u) && (g q && is_some (get s.blocks q))) (holds_of (part_in l) q) (held mid u q)) first.rest
      ∙ ap (cond ((l.thread == u) && (g q && is_some (get h.blocks q))) (holds_of (part_in l) q)) (first.held u q)
      ∙ both (l.thread == u) (f q) (g q) (is_some (get h.blocks q)) (holds_of (part_in l) q) (held h u q);
  rest = then.rest ∙ ap (λ (s : Shared). record s { holds = k.holds }) first.rest;
  stands = λ z s. then.stands z (first.stands z s);
}
  where
    both : (a r s e : Bool) (x y : ℕ) → cond (a && (s && e)) x (cond (a && (r && e)) x y) ≡ cond (a && ((r || s) && e)) x y
    both false r s e x y = refl
    both true true true true x y = refl
    both true true true false x y = refl
    both true true false e x y = refl
    both true false s e x y = refl

-- what can be told can be told after something else was
pub can_still : (l : LocalSet) (h mid : Shared) (f g : BlockId → Bool) → CanTell l h g → Told l h mid f → CanTell l mid g
can_still l h mid f g can first q asked there = go (can q asked was) (f q) refl
  where
    was : is_some (get h.blocks q) ≡ true
    was = ap (λ (s : Shared). is_some (get s.blocks q)) (sym first.rest) ∙ there

    same : (l.thread == l.thread) ≡ true
    same = grind (arith, nat_tests)

    now : (b : Bool) → f q ≡ b → held mid l.thread q ≡ cond b (holds_of (part_in l) q) (held h l.thread q)
    now b e =
        first.held l.thread q ∙ ap (λ x. cond (x && (f q && is_some (get h.blocks q))) (holds_of (part_in l) q) (held h l.thread q)) same
        ∙ ap (λ x. cond (x && is_some (get h.blocks q)) (holds_of (part_in l) q) (held h l.thread q)) e ∙ ap (λ x. cond (b && x) (holds_of (part_in l) q) (held h l.thread q)) was ∙ plain b
      where
        plain : (b : Bool) → cond (b && true) (holds_of (part_in l) q) (held h l.thread q) ≡ cond b (holds_of (part_in l) q) (held h l.thread q)
        plain true = refl
        plain false = refl

    some_or_none : (n : ℕ) → (0 < n) ⊎ (n ≡ 0)
    some_or_none zero = inr refl
    some_or_none (suc n) = inl (omega arith)

    go : (0 < held h l.thread q) ⊎ (holds_of (part_in l) q ≡ 0) → (b : Bool) → f q ≡ b → (0 < held mid l.thread q) ⊎ (holds_of (part_in l) q ≡ 0)
    go (inr none) b e = inr none
    go (inl some) true e = elim (some_or_none (holds_of (part_in l) q)) [ inl k ↦ inl (subst (λ n. 0 < n) (sym (now true e)) k) | inr k ↦ inr k ]
    go (inl some) false e = inl (subst (λ n. 0 < n) (sym (now false e)) some)

-- one word more
pub told_more : (l : LocalSet) (h mid k : Shared) (ws : List Word) (i : ℕ) (w : Word) → slice_get ws i ≡ Some w → Told l h mid (refer_to (take i ws)) → Told l mid k (λ q. refers_to q w) → Told l h k (refer_to (take (i + 1) ws))
told_more l h mid k ws i w at first then =
    told_as l h k (λ q. refer_to (take i ws) q || refers_to q w) (refer_to (take (i + 1) ws)) (λ q. sym (refer_more (take i ws) w q) ∙ ap (λ l. refer_to l q) (next_taken ws i w at))
    (told_both l h mid k (refer_to (take i ws)) (λ q. refers_to q w) first then)

-- the next word can be told
pub can_next : (l : LocalSet) (h mid : Shared) (ws : List Word) (i : ℕ) (w : Word) → slice_get ws i ≡ Some w → CanTell l h (refer_to ws) → Told l h mid (refer_to (take i ws)) → CanTell l mid (λ q. refers_to q w)
can_next l h mid ws i w at can first = can_still l h mid (refer_to (take i ws)) (λ q. refers_to q w) (λ q refers. can q (refer_at ws i w q at refers)) first
