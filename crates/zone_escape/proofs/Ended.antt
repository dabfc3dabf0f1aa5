-- The end of a thread
use Rattle.std.proofs.Common.{◌≡◌, ℕ, ◌+◌, ◌==◌, ◌&&◌, ◌||◌, inl, inr, zero, suc, Bool, true, false, cond, List, [], ◌∷◌, take, Option, Some, None, IsTrue, is_some, is_none, option_map, slice_get, refl, sym, ap, ◌∙◌, arith}
use Rattle.std.proofs.lemmas.Bool.Decides.{nat_tests}
use Rattle.std.proofs.lemmas.List.Folds.{list_any-append}
use Rattle.std.specs.List.{list_any}
use Rattle.std.specs.FinMap.{get, get-empty, empty}
use Rattle.az_base.specs.declared.block_id.BlockId.{BlockId}
use Rattle.az_base.specs.declared.word.Word.{Word}
use Rattle.az_base.specs.declared.word.Word.TheVariants as word
use Rattle.az_base.specs.Ids.{id_cmp, among}
use Rattle.zone_model.specs.declared.call.Call.TheVariants as call
use Rattle.zone_model.specs.declared.entry.Reply.TheVariants as reply
use Rattle.zone_model.specs.Collection.{Lists, Leaves, with_end}
use Rattle.zone_model.specs.Part.{Part, part_of, is_in}
use Rattle.zone_model.specs.Room.{WithRoom}
use Rattle.zone_model.specs.SameShared.{HoldsRef, SameShared, SeesMore, escaped_only}
use Rattle.zone_model.specs.Phases.{Free}
use Rattle.zone_model.specs.State.{State, Block, Cycle, Moment, is_own, is_escaped, without_blocks}
use Rattle.zone_model.specs.Step.{Step, seen_now, with_moment}
use Rattle.zone_model.proofs.Blocks.{is_inside, own_inside, left_get}
use Rattle.zone_model.proofs.Moments.{sees}
use Rattle.zone_model.proofs.PartNeeds.{in_part}
use Rattle.zone_model.proofs.SoundLaws.{own_part, others_parts}
use Rattle.zone_model.proofs.Soundness.{step_sound}
use Rattle.zone_model.proofs.Steps.{step_plain}
use Rattle.zone_model.specs.Holds.{is_block, holds_of, one_if, register_holds, word_holds}
use Rattle.shared_heap.specs.Holding.{HoldsAgree}
use Rattle.shared_heap.specs.Shared.{Shared, held}
use Rattle.shared_heap.proofs.Agreeing.{here_escaped}
use Rattle.shared_heap.proofs.Alike.{stands_same}
use Rattle.shared_heap.proofs.Unheld.{unheld}
use Rattle.local_set.specs.LocalSets.{LocalSet, part_in, held_in}
use Rattle.local_set.specs.Walks.{words_at}
use Rattle.local_set.proofs.Lists.{next_taken, place_of}
use Rattle.escape_plan.specs.Moving.{Told, refer_to}
use Rattle.escape_plan.proofs.Counting.{refer_at}
use Rattle.az_base.proofs.Ids.{same_self}
use Rattle.local_set.specs.Calls.{entry_of}
use Rattle.escape_plan.specs.Together.{Together}
use Rattle.escape_plan.proofs.Belonging.{part_is}
use Rattle.zone_escape.specs.Making.{CanMake, Makes}
use Rattle.zone_escape.proofs.Held.{escaped_alike}
use Rattle.zone_escape.proofs.Making.{belongs_now}
use Rattle.zone_escape.specs.Telling.{below, emptied, stands_at, refer_from, LetsGo}
use Rattle.escape_plan.proofs.Telling.{told_both}

-- a part without registers and blocks holds nothing
none_of : (p : Part) (q : BlockId) → ((r : ℕ) → p.registers r ≡ None) → ((a : BlockId) → get p.blocks a ≡ None) → holds_of p q ≡ 0
none_of p q registers blocks = unheld p q nothing
  where
    nothing : HoldsRef p q → ⊥
    nothing (inl r) = let no : None ≡ Some q = sym (registers r.0) ∙ r.1 in cc (no)
    nothing (inr e) = let no : None ≡ Some e.1.0 = sym (blocks e.0) ∙ e.1.2 in cc (no)

pub none_out : (l : LocalSet) (q : BlockId) → holds_of (part_in (emptied l)) q ≡ 0
none_out l q = none_of (part_in (emptied l)) q (λ r. refl) (λ a. get-empty id_cmp a)

or_false : (b : Bool) → (b || false) ≡ b
or_false true = refl
or_false false = refl

-- the words of one block more
pub refer_next : (l : LocalSet) (ids : List BlockId) (i : ℕ) (id q : BlockId) → slice_get ids i ≡ Some id → (refer_from l (take i ids) q || refer_to (words_at (part_in l).blocks id) q) ≡ refer_from l (take (i + 1) ids) q
refer_next l ids i id q at =
    ap (λ b. refer_from l (take i ids) q || b) (sym (or_false (refer_to (words_at (part_in l).blocks id) q)))
    ∙ sym (list_any-append (λ a. refer_to (words_at (part_in l).blocks a) q) (take i ids) (id ∷ [])) ∙ ap (λ ids. refer_from l ids q) (next_taken ids i id at)

pub words_found : (l : LocalSet) (id : BlockId) (ws : List Word) → option_map (λ b. b.words) (get (part_in l).blocks id) ≡ Some ws → words_at (part_in l).blocks id ≡ ws
words_found l id ws is = go (get (part_in l).blocks id) is
  where
    some_words : (a b : List Word) → Some a ≡ Some b → a ≡ b
    some_words a b h = cc

    go : (o : Option Block) → option_map (λ (b : Block). b.words) o ≡ Some ws → Rattle.std.specs.Option.option_map_or (λ (b : Block). b.words) o [] ≡ ws
    go None h = cc
    go (Some b) h = some_words b.words ws h

-- what stands in no register isn't counted there
no_register : (l : LocalSet) (q : BlockId) (n : ℕ) → below (stands_at l) n q ≡ false → register_holds (held_in l.registers) q n ≡ 0
unfolding below
no_register l q zero h = refl
no_register l q (suc n) h =
    let b = both_false (below (stands_at l) n q) (stands_at l n q) h in
    let rest : register_holds (held_in l.registers) q n ≡ 0 = no_register l q n b.0 in
    let one : one_if q (held_in l.registers n) ≡ 0 = none_at (held_in l.registers n) b.1 in
    omega (arith, rest, one)
  where
    both_false : (a b : Bool) → (a || b) ≡ false → (a ≡ false) × (b ≡ false)
    both_false true b h = cc
    both_false false b h = (refl, h)

    none_at : (o : Option BlockId) → is_block q o ≡ false → one_if q o ≡ 0
    none_at None h = refl
    none_at (Some b) h = ap (λ t. cond t 1 0) h

list_any_at : {X : Type 0} (f : X → Bool) (xs : List X) (k : ℕ) (x : X) → slice_get xs k ≡ Some x → f x ≡ true → list_any f xs ≡ true
list_any_at f [] k x at h = cc
list_any_at f (y ∷ xs) zero x at h = ap (λ b. b || list_any f xs) (ap f (same y x at) ∙ h)
  where
    same : {X : Type 0} (a b : X) → Some a ≡ Some b → a ≡ b
    same a b h = cc
list_any_at f (y ∷ xs) (suc k) x at h = ap (λ b. f y || b) (list_any_at f xs k x at h) ∙ or_true (f y)
  where
    or_true : (b : Bool) → (b || true) ≡ true
    or_true true = refl
    or_true false = refl

-- nor is what no word of a block refers to
no_word : (l : LocalSet) (ids : List BlockId) (q : BlockId) → ((b : BlockId) → is_in (part_in l) b ≡ true → among ids b ≡ true) → refer_from l ids q ≡ false → word_holds (part_in l).blocks q ≡ 0
no_word l ids q all none =
    let bare : Part = record (part_in l) { registers = λ r. None } in
    let e : holds_of bare q ≡ 0 = unheld bare q nothing in
    omega (arith, e)
  where
    nothing : HoldsRef (record (part_in l) { registers = λ r. None }) q → ⊥
    nothing (inl r) = let no : None ≡ Some q = r.1 in cc (no)
    nothing (inr e) =
        let place = place_of ids e.0 (all e.0 (ap is_some e.1.2)) in
        let words : words_at (part_in l).blocks e.0 ≡ e.1.0.words = ap (λ (o : Option Block). Rattle.std.specs.Option.option_map_or (λ (b : Block). b.words) o []) e.1.2 in
        let refers : refer_to (words_at (part_in l).blocks e.0) q ≡ true = ap (λ ws. refer_to ws q) words ∙ refer_at e.1.0.words e.1.1 (word.Block q) q e.1.3 (same_self q) in
        let no : true ≡ false = sym (list_any_at (λ a. refer_to (words_at (part_in l).blocks a) q) ids place.0 e.0 place.1 refers) ∙ none in
        cc (no)

-- all that the thread holds was let go
pub let_go : (l : LocalSet) (h mid k : Shared) (own : List BlockId) → ((b : BlockId) → is_in (part_in l) b ≡ true → among own b ≡ true) → Told (emptied l) h mid (below (stands_at l) 16) → Told (emptied l) mid k (refer_from l own)
    → LetsGo l h k
let_go l h mid k own all first then = (
  λ q. below (stands_at l) 16 q || refer_from l own q,
  λ q none.
      let e = either (below (stands_at l) 16 q) (refer_from l own q) none in
      let registers : register_holds (held_in l.registers) q 16 ≡ 0 = no_register l q 16 e.0 in
      let words : word_holds (part_in l).blocks q ≡ 0 = no_word l own q all e.1 in
      omega (arith, registers, words),
  told_both (emptied l) h mid k (below (stands_at l) 16) (refer_from l own) first then,
)
  where
    either : (a b : Bool) → (a || b) ≡ false → (a ≡ false) × (b ≡ false)
    either true b h = cc
    either false b h = (refl, h)

-- an open cycle may have seen one moment more
sees_now : (m : Moment) (c : Option Cycle) → SeesMore c (option_map (with_moment m) c)
sees_now m None = tt
sees_now m (Some c) = go c.condemned refl
  where
    go : (o : Option (List BlockId)) → c.condemned ≡ o → SeesMore (Some c) (Some (with_moment m c))
    go None e = (m ∷ [], sees m c e)
    go (Some r) e = ([], ap (λ (o : Option (List BlockId)). cond (is_some o) c (record c { moments = m ∷ c.moments })) e)

inside_alone : (o : Option Block) → IsTrue (is_inside o) → escaped_only o ≡ None
inside_alone None h = refl
inside_alone (Some b) h = go b.since h
  where
    go : (v : Option ℕ) → IsTrue (is_none v) → cond (is_some v) (Some b) None ≡ None
    go None h = refl
    go (Some n) h = cc (h)

module _ (l m : LocalSet) (h k : Shared) (gone : WithRoom) (can : CanMake l h call.Leave) (own : Lists gone.list (λ b. IsTrue (is_in (part_in l) b))) (told : LetsGo l h k)
    (cleared : part_in m ≡ record (part_in l) { registers = λ r. None; blocks = empty; ended = true }) (rest : m ≡ record l { registers = m.registers; published = m.registers; blocks = []; changed = []; ended = true })
    (free : (z : State) → Together l h z → Free z l.thread) where
  -- the state after its leave
  abbrev ended : State → State
  ended z = seen_now (with_end (without_blocks z gone.list) l.thread)

  module _ (z : State) (is : Together l h z) where
    here : part_in l ≡ part_of z l.thread
    here = part_is l z is.local can.out

    in_is : (q : BlockId) → is_in (part_in l) q ≡ is_own z l.thread q
    in_is q = ap (λ p. is_in p q) here ∙ in_part z l.thread q

    leaves : Leaves z l.thread gone.list (with_end (without_blocks z gone.list) l.thread)
    leaves = record {
      no_cycle = free z is;
      gone_ones = (own.0, λ q. (λ i. sym (in_is q) ∙ (own.1 q).0 i, λ o. (own.1 q).1 (in_is q ∙ o)));
      does = refl;
    }

    step : Step z (entry_of l.thread call.Leave (reply.Reclaimed gone)) (ended z)
    step = step_plain z _ _ (ap (λ (p : Part). p.ended) (sym here) ∙ can.running) (λ id n. n) refl (with_end (without_blocks z gone.list) l.thread, leaves, refl)

    alike : (q : BlockId) → escaped_only (get (without_blocks z gone.list).blocks q) ≡ escaped_only (get z.blocks q)
    alike q = ap escaped_only (left_get z.blocks (among gone.list) q) ∙ go (among gone.list q) refl
      where
        go : (g : Bool) → among gone.list q ≡ g → escaped_only (cond g None (get z.blocks q)) ≡ escaped_only (get z.blocks q)
        go true e = sym (inside_alone (get z.blocks q) (own_inside z l.thread q (sym (in_is q) ∙ (own.1 q).0 e)))
        go false e = refl

    shared : SameShared z (ended z)
    shared = record { options = refl; blocks = alike; roots = refl; counts = refl; weak = refl; assocs = refl; reclaims = refl; cycle = sees_now _ z.cycle }

    last_part : part_of (ended z) l.thread ≡ part_in m
    last_part = let p = own_part z is.heap.sound _ _ step in p.2 ∙ ap (λ (p : Part). record p { registers = λ r. None; blocks = empty; ended = true }) (sym here) ∙ sym cleared

    agree : HoldsAgree k (ended z)
    agree u q out = go (l.thread == u) refl
      where
        was : IsTrue (is_escaped z q)
        was = sym (escaped_alike z _ q shared) ∙ out

        there : is_some (get h.blocks q) ≡ true
        there = here_escaped h z q is.heap.stands was

        same : (l.thread == u) ≡ true → l.thread ≡ u
        same e = grind (arith, nat_tests)

        nothing : l.thread ≡ u → holds_of (part_of (ended z) u) q ≡ 0
        nothing e =
            ap (λ t. holds_of (part_of (ended z) t) q) (sym e) ∙ ap (λ p. holds_of p q) (last_part ∙ cleared)
            ∙ none_of (record (part_in l) { registers = λ r. None; blocks = empty; ended = true }) q (λ r. refl) (λ a. get-empty id_cmp a)

        own_hold : l.thread ≡ u → (b : Bool) → told.0 q ≡ b → cond (b && is_some (get h.blocks q)) (holds_of (part_in (emptied l)) q) (held h u q) ≡ 0
        own_hold e true t = ap (λ b. cond b (holds_of (part_in (emptied l)) q) (held h u q)) there ∙ none_out l q
        own_hold e false t = is.heap.holds u q was ∙ ap (λ t. holds_of (part_of z t) q) (sym e) ∙ ap (λ p. holds_of p q) (sym here) ∙ told.1 q t

        go : (s : Bool) → (l.thread == u) ≡ s → held k u q ≡ holds_of (part_of (ended z) u) q
        go true e = told.2.held u q ∙ ap (λ b. cond (b && (told.0 q && is_some (get h.blocks q))) (holds_of (part_in (emptied l)) q) (held h u q)) e ∙ own_hold (same e) (told.0 q) refl ∙ sym (nothing (same e))
        go false e =
            told.2.held u q ∙ ap (λ b. cond (b && (told.0 q && is_some (get h.blocks q))) (holds_of (part_in (emptied l)) q) (held h u q)) e
            ∙ is.heap.holds u q was ∙ ap (λ p. holds_of p q) (sym (others_parts z is.heap.sound _ _ step u e))

    together : Together m k (ended z)
    together = record {
      local = belongs_now m _ (ap (λ (s : LocalSet). s.waiting) rest ∙ can.out)
          (sym last_part ∙ ap (part_of (ended z)) (sym (ap (λ (s : LocalSet). s.thread) rest))) (λ r. ap (λ (s : LocalSet). held_in s.published r) rest);
      heap = record { stands = told.2.stands _ (stands_same h z _ is.heap.stands shared); holds = agree; sound = step_sound z _ _ is.heap.sound step };
      room = ap (λ (s : Shared). s.room) told.2.rest ∙ is.room;
    }

  pub left : Makes l m h k call.Leave (reply.Reclaimed gone)
  left = record {
    step = λ z is. (ended z, step z is, together z is);
    thread = ap (λ (s : LocalSet). s.thread) rest;
    waiting = ap (λ (s : LocalSet). s.waiting) rest ∙ can.out;
    options = ap (λ (s : Shared). s.options) told.2.rest;
  }
