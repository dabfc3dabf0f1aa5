-- A block that is moved to the heap has escaped, and the heap and the set still agree with a state
use Rattle.std.proofs.Common.{◌≡◌, ℕ, ◌+◌, ◌≤◌, ◌<◌, ◌==◌, ◌&&◌, ◌||◌, ◌⊎◌, inl, inr, Bool, true, false, cond, not, List, [], ◌∷◌, ◌++◌, drop, map, Option, Some, None, IsTrue, IsSome, is_some, refl, sym, ap, subst, ◌∙◌, arith}
use Rattle.std.proofs.lemmas.Bool.Decides.{nat_tests}
use Rattle.std.specs.Option.{option_map, option_map_or}
use Rattle.std.specs.FinMap.{FinMap, get, get-insert, same_map}
use Rattle.std.specs.Ordering.{is_eq}
use Rattle.std.specs.Cmp.{tied_itself}
use Rattle.az_base.specs.declared.block_id.BlockId.{BlockId}
use Rattle.az_base.specs.declared.word.Word.{Word}
use Rattle.az_base.specs.Ids.{id_cmp, among, same_id, ids_total, exact_ids}
use Rattle.az_base.proofs.Ids.{same_is, same_self, same_turned, among_more}
use Rattle.block_layouts.specs.declared.layout.Layout.{Layout}
use Rattle.block_layouts.specs.Layouts.{len_of, quanta}
use Rattle.zone_model.specs.Escape.{with_escaped}
use Rattle.zone_model.specs.Part.{Part, part_of, is_in, leave_part}
use Rattle.zone_model.specs.Reached.{OpenReached}
use Rattle.zone_model.proofs.Reaching.{escape_reached}
use Rattle.zone_model.specs.State.{State, Block, is_escaped, is_own}
use Rattle.zone_model.proofs.Blocks.{is_out, left_get, got_escaped, escape_at, own_thread}
use Rattle.zone_model.proofs.PartChanges.{escaped_part}
use Rattle.zone_model.proofs.PartNeeds.{in_part, part_has}
use Rattle.zone_model.specs.Holds.{holds_of, words_to}
use Rattle.shared_heap.specs.Holding.{is_off, pairs_in, HoldsAgree, HoldsAdmitted, HoldsSet}
use Rattle.block_table.specs.Stored.{newly}
use Rattle.shared_heap.specs.Shared.{Shared, held, admitted}
use Rattle.heap_tables.specs.Standing.{escaped_view}
use Rattle.shared_heap.specs.Stands.{Stands}
use Rattle.shared_heap.specs.Steps.{IsUnescaped}
use Rattle.shared_heap.proofs.Admitting.{holds_split, still_out}
use Rattle.shared_heap.proofs.Holding.{held_admitted}
use Rattle.shared_heap.proofs.Unheld.{admitted_but, own_still}
use Rattle.local_set.specs.LocalSets.{LocalSet, part_in}
use Rattle.escape_plan.specs.Moving.{Agree, refer_to, Told, CanTell, CanMove, Moves}
use Rattle.escape_plan.specs.Planning.{length_at, quanta_at, lengths_of, sum_of}
use Rattle.escape_plan.proofs.Counting.{none_refers, some_refers, other_pairs}

-- a block of the heap is one that has escaped
view_out : (n : ℕ) (o : Option Block) → is_some (escaped_view n o) ≡ is_out o
view_out n None = refl
view_out n (Some b) = go b.since refl
  where
    go : (s : Option ℕ) → b.since ≡ s → is_some (escaped_view n (Some b)) ≡ is_out (Some b)
    go None e = rw e refl
    go (Some k) e = rw e refl

pub there_out : (h : Shared) (z : State) (q : BlockId) → Stands h z → is_some (get h.blocks q) ≡ is_escaped z q
there_out h z q s = ap is_some (s.blocks q) ∙ view_out z.reclaims (get z.blocks q)

module _ (l : LocalSet) (h : Shared) (z : State) (id : BlockId) (layout : Layout) (words : List Word) (a : Agree l h z) (own : is_in (part_in l) id ≡ true)
    (block : get (part_in l).blocks id ≡ Some (record { layout = layout; words = words; actions = []; finalised = false; since = None })) where
  abbrev after : State
  after = with_escaped z (same_id id)

  pub mine : IsTrue (is_own z l.thread id)
  mine = sym (in_part z l.thread id) ∙ ap (λ (p : Part). is_in p id) (sym a.part) ∙ own

  pub unescaped : IsUnescaped z id layout words
  unescaped = sym (part_has z l.thread id mine) ∙ ap (λ (p : Part). get p.blocks id) (sym a.part) ∙ block

  pub of_thread : id.thread ≡ l.thread
  of_thread = own_thread z l.thread id mine

  -- it isn't in the heap yet
  pub absent : get h.blocks id ≡ None
  absent = a.stands.blocks id ∙ ap (escaped_view z.reclaims) unescaped

  split : (u : ℕ) (q : BlockId) → IsTrue (is_escaped z q) → held h u q ≡ holds_of (part_of after u) q + cond (id.thread == u) (words_to q words) 0
  split u q out = a.holds u q out ∙ holds_split z id layout words unescaped u q

  -- what its words refer to is held by its thread
  pub can_tell : (m : LocalSet) → m.thread ≡ l.thread → CanTell m h (refer_to words)
  can_tell m same q refers there =
      let out : IsTrue (is_escaped z q) = sym (there_out h z q a.stands) ∙ there in
      let sum = split m.thread q out in
      let this : (id.thread == m.thread) ≡ true = let e : id.thread ≡ m.thread = of_thread ∙ sym same in grind (arith, nat_tests) in
      let some : 0 < words_to q words = some_refers words q refers in
      let all : held h m.thread q ≡ holds_of (part_of after m.thread) q + words_to q words = sum ∙ ap (λ b. holds_of (part_of after m.thread) q + cond b (words_to q words) 0) this in
      inl (omega (arith, some, all))

  module _ (m : LocalSet) (told in_it k : Shared) (thread : m.thread ≡ l.thread) (part : part_in m ≡ leave_part (part_in l) (same_id id)) (t : Told m h told (refer_to words))
      (admitted_it : HoldsAdmitted told in_it id) (set : HoldsSet in_it k m.thread id (holds_of (part_in m) id)) where
    part_after : part_in m ≡ part_of after m.thread
    part_after = part ∙ ap (λ p. leave_part p (same_id id)) a.part ∙ sym (escaped_part z (same_id id) l.thread) ∙ ap (part_of after) (sym thread)

    outs_are : (u : ℕ) (q : BlockId) → (m.thread == u) ≡ true → holds_of (part_in m) q ≡ holds_of (part_of after u) q
    outs_are u q e =
        let same : m.thread ≡ u = grind (arith, nat_tests) in
        ap (λ p. holds_of p q) (part_after ∙ ap (part_of after) same)

    id_turn : (u : ℕ) (b : Bool) → (m.thread == u) ≡ b → (id.thread == u) ≡ b
    id_turn u b e = ap (λ n. n == u) (of_thread ∙ sym thread) ∙ e

    -- another thread doesn't hold it
    unheld : (u : ℕ) → (m.thread == u) ≡ false → IsTrue (is_escaped after id) → holds_of (part_of after u) id ≡ 0
    unheld u e out =
        let but = admitted_but z id layout words unescaped h (admitted h id layout words) [] a.own (λ v q o off. a.holds v q o) (held_admitted h id layout words) in
        let none : held (admitted h id layout words) u id ≡ 0 = held_admitted h id layout words u id ∙ ap (λ b. cond b 0 (held h u id)) (same_self id) in
        sym (but u id out (ap (λ b. (b && same_id id id) || is_off (pairs_in id.thread words ++ []) u id) (id_turn u false e) ∙ other_pairs id.thread u words id (id_turn u false e))) ∙ none

    holds_after : HoldsAgree k after
    holds_after u q out = set u q ∙ by_id (same_id id q) refl (m.thread == u) refl
      where
        one_told : (t : Bool) → (m.thread == u) ≡ t → (r : Bool) → refer_to words q ≡ r → IsTrue (is_escaped z q) → held told u q ≡ holds_of (part_of after u) q
        one_told tt_ e r f was = t.held u q ∙ cases tt_ e r f
          where
            there : is_some (get h.blocks q) ≡ true
            there = there_out h z q a.stands ∙ was

            test : (x y : Bool) → (m.thread == u) ≡ x → refer_to words q ≡ y → cond ((m.thread == u) && (refer_to words q && is_some (get h.blocks q))) (holds_of (part_in m) q) (held h u q) ≡ cond (x && (y && true)) (holds_of (part_in m) q) (held h u q)
            test x y e f = ap (λ b. cond (b && (refer_to words q && is_some (get h.blocks q))) (holds_of (part_in m) q) (held h u q)) e
                ∙ ap (λ b. cond (x && (b && is_some (get h.blocks q))) (holds_of (part_in m) q) (held h u q)) f ∙ ap (λ b. cond (x && (y && b)) (holds_of (part_in m) q) (held h u q)) there

            cases : (x : Bool) → (m.thread == u) ≡ x → (y : Bool) → refer_to words q ≡ y → cond ((m.thread == u) && (refer_to words q && is_some (get h.blocks q))) (holds_of (part_in m) q) (held h u q) ≡ holds_of (part_of after u) q
            cases true e true f = test true true e f ∙ outs_are u q e
            cases true e false f =
                let sum = split u q was ∙ ap (λ b. holds_of (part_of after u) q + cond b (words_to q words) 0) (id_turn u true e) in
                let none : words_to q words ≡ 0 = none_refers words q f in
                test true false e f ∙ sum ∙ (omega (arith, none))
            cases false e y f =
                let sum = split u q was ∙ ap (λ b. holds_of (part_of after u) q + cond b (words_to q words) 0) (id_turn u false e) in
                test false y e f ∙ sum ∙ omega arith

        by_id : (s : Bool) → same_id id q ≡ s → (x : Bool) → (m.thread == u) ≡ x → cond ((m.thread == u) && same_id id q) (holds_of (part_in m) id) (held in_it u q) ≡ holds_of (part_of after u) q
        by_id true s true e =
            ap (λ b. cond (b && same_id id q) (holds_of (part_in m) id) (held in_it u q)) e ∙ ap (λ b. cond b (holds_of (part_in m) id) (held in_it u q)) s
            ∙ outs_are u id e ∙ ap (holds_of (part_of after u)) (same_is id q s)
        by_id true s false e =
            ap (λ b. cond (b && same_id id q) (holds_of (part_in m) id) (held in_it u q)) e ∙ admitted_it u q ∙ ap (λ b. cond b 0 (held told u q)) s
            ∙ sym (unheld u e (subst (λ x. IsTrue (is_escaped after x)) (sym (same_is id q s)) out)) ∙ ap (holds_of (part_of after u)) (same_is id q s)
        by_id false s x e =
            ap (λ b. cond ((m.thread == u) && b) (holds_of (part_in m) id) (held in_it u q)) s ∙ no_test (m.thread == u) (holds_of (part_in m) id) (held in_it u q)
            ∙ admitted_it u q ∙ ap (λ b. cond b 0 (held told u q)) s ∙ one_told (m.thread == u) refl (refer_to words q) refl (still_out z id layout words unescaped q s out)
          where
            no_test : (b : Bool) (n k : ℕ) → cond (b && false) n k ≡ k
            no_test true n k = refl
            no_test false n k = refl

    pub agree_after : ((y : State) → Stands told y → OpenReached y → IsUnescaped y id layout words → Stands in_it (with_escaped y (same_id id))) → ((y : State) → Stands in_it y → Stands k y) → Agree m k after
    agree_after stands_in stands_k = record {
      part = part_after;
      stands = stands_k after (stands_in z (t.stands z a.stands) a.reached unescaped);
      holds = holds_after;
      own = own_still z id layout words unescaped a.own;
      reached = escape_reached z (same_id id) a.reached;
    }

-- the blocks that are left, after the first was moved
same_sum : (m n : FinMap id_cmp Block) (ids : List BlockId) → ((q : BlockId) → among ids q ≡ true → get n q ≡ get m q) → sum_of n ids ≡ sum_of m ids
same_sum m n [] same = refl
same_sum m n (id ∷ ids) same =
    let head : quanta_at n id ≡ quanta_at m id = ap (λ (o : Option Block). option_map_or (λ k. quanta (len_of k.layout)) o 0) (same id (ap (λ b. b || among ids id) (same_self id))) in
    let tail : sum_of n ids ≡ sum_of m ids = same_sum m n ids (λ q h. same q (ap (λ b. same_id q id || b) h ∙ or_true (same_id q id))) in
    omega (arith, head, tail)
  where
    or_true : (b : Bool) → (b || true) ≡ true
    or_true true = refl
    or_true false = refl

same_lengths : (m n : FinMap id_cmp Block) (ids : List BlockId) → ((q : BlockId) → among ids q ≡ true → get n q ≡ get m q) → lengths_of n ids ≡ lengths_of m ids
same_lengths m n [] same = refl
same_lengths m n (id ∷ ids) same =
    ap (λ (o : Option Block). option_map_or (λ k. len_of k.layout) o 0 ∷ lengths_of n ids) (same id (ap (λ b. b || among ids id) (same_self id)))
    ∙ ap (λ l. length_at m id ∷ l) (same_lengths m n ids (λ q h. same q (ap (λ b. same_id q id || b) h ∙ or_true (same_id q id))))
  where
    or_true : (b : Bool) → (b || true) ≡ true
    or_true true = refl
    or_true false = refl

pub can_rest : (l m : LocalSet) (h k : Shared) (id : BlockId) (ids : List BlockId) → CanMove l h (id ∷ ids) → Moves l m h k id → CanMove m k ids
can_rest l m h k id ids c v = record {
  distinct = c.distinct.1;
  own = λ q own. ap is_some (others q own) ∙ c.own q (ap (λ b. same_id q id || b) own ∙ or_true (same_id q id));
  room = v.room ∙ ap (drop 1) c.room ∙ sym (same_lengths (part_in l).blocks (part_in m).blocks ids others);
  fits =
      let sum : sum_of (part_in m).blocks ids ≡ sum_of (part_in l).blocks ids = same_sum (part_in l).blocks (part_in m).blocks ids others in
      let most : k.options.heap_quanta ≡ h.options.heap_quanta = ap (λ o. o.heap_quanta) v.options in
      omega (arith, c.fits, v.used, sum, most);
}
  where
    or_true : (b : Bool) → (b || true) ≡ true
    or_true true = refl
    or_true false = refl

    others : (q : BlockId) → among ids q ≡ true → get (part_in m).blocks q ≡ get (part_in l).blocks q
    others q here = v.blocks q ∙ go (same_id id q) refl
      where
        go : (t : Bool) → same_id id q ≡ t → cond t None (get (part_in l).blocks q) ≡ get (part_in l).blocks q
        go true e = let no : false ≡ true = sym c.distinct.0 ∙ ap (among ids) (same_is id q e) ∙ here in cc (no)
        go false e = refl

both_maps : (z : State) (s t : Bool) (o : Option Block) → option_map (escape_at z t) (option_map (escape_at z s) o) ≡ option_map (escape_at z (s || t)) o
both_maps z s t None = refl
both_maps z true true (Some b) = refl
both_maps z true false (Some b) = refl
both_maps z false true (Some b) = refl
both_maps z false false (Some b) = refl

-- one more has escaped
pub escaped_more : (z : State) (ids : List BlockId) (id : BlockId) → with_escaped (with_escaped z (among ids)) (same_id id) ≡ with_escaped z (among (ids ++ id ∷ []))
escaped_more z ids id = ap (λ m. record z { blocks = m }) (same_map ids_total exact_ids _ _ (λ q.
    got_escaped (with_escaped z (among ids)) (same_id id) q ∙ ap (option_map (escape_at z (same_id id q))) (got_escaped z (among ids) q) ∙ both_maps z (among ids q) (same_id id q) (get z.blocks q)
    ∙ ap (λ t. option_map (escape_at z (among ids q || t)) (get z.blocks q)) (same_turned id q) ∙ ap (λ t. option_map (escape_at z t) (get z.blocks q)) (sym (among_more ids id q)) ∙ sym (got_escaped z (among (ids ++ id ∷ [])) q)))

-- a block that was admitted is one of the heap's
pub admitted_there : (h : Shared) (id : BlockId) (layout : Layout) (words : List Word) → IsSome (get (admitted h id layout words).blocks id)
admitted_there h id layout words = subst IsSome (sym (get-insert ids_total h.blocks id (newly layout words []) id ∙ ap (λ r. cond (is_eq r) (Some (newly layout words [])) (get h.blocks id)) (tied_itself ids_total id))) refl
