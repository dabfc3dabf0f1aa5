-- Which edges a call adds: only such as lead to what is anchored after it
use Rattle.std.proofs.Common.{◌≡◌, ℕ, ◌-◌, ◌==◌, min, Bool, true, false, cond, Option, Some, None, List, option_and_then, option_map, slice_get, slice_set, refl, sym, ap, ◌∙◌, subst, ◌⊎◌, inl, inr, IsTrue, arith}
use Rattle.std.specs.Option.{option_map_or}
use Rattle.std.specs.FinMap.{FinMap, get, get-insert}
use Rattle.std.specs.Ordering.{is_eq}
use Rattle.az_base.specs.declared.action.Action.{Action}
use Rattle.az_base.specs.declared.action.Mode.{Mode}
use Rattle.az_base.specs.declared.action.Mode.TheVariants as mode
use Rattle.az_base.specs.declared.block_id.BlockId.{BlockId}
use Rattle.az_base.specs.declared.weak_loc.WeakLoc.{WeakLoc}
use Rattle.az_base.specs.declared.word.Word.{Word}
use Rattle.az_base.specs.declared.word.Word.TheVariants as word
use Rattle.az_base.specs.Ids.{id_cmp, id_of, same_id, among, ids_total}
use Rattle.az_base.specs.Places.{pair_cmp, pairs_total}
use Rattle.block_layouts.specs.declared.layout.Layout.{Layout}
use Rattle.zone_model.specs.declared.call.Call.{Call}
use Rattle.zone_model.specs.declared.call.Call.TheVariants as call
use Rattle.zone_model.specs.declared.entry.Reply.{Reply}
use Rattle.zone_model.specs.declared.entry.Reply.TheVariants as reply
use Rattle.zone_model.specs.State.{State, Block, Cycle, with_word, with_count, with_assoc, with_weak, without_blocks, reference}
use Rattle.zone_model.specs.Reach.{Edge, WordEdge, Anchors, AnchoredFor, is_old}
use Rattle.zone_model.specs.Escape.{with_escaped}
use Rattle.zone_model.specs.Collection.{with_end}
use Rattle.zone_model.specs.Effect.{Effect, with_new, new_block, weak_loc}
use Rattle.zone_model.specs.History.{is_cycle_step}
use Rattle.zone_model.specs.Reached.{KeepsReached, AddsToAnchored}
use Rattle.az_base.proofs.Tables.{get-with_value}
use Rattle.zone_model.proofs.Blocks.{edit_get, left_get, got_escaped, escape_at, found_escaped, still_inside, set_or_was}
use Rattle.zone_model.proofs.IntactBirths.{no_first_edge}
use Rattle.zone_model.proofs.Paths.{path_within}
use Rattle.zone_model.proofs.Anchoring.{held_anchored}

-- nothing but registers, roots, counts, serials or weak locations changes
pub adds_nothing : (z after : State) (c : Cycle) → after.blocks ≡ z.blocks → after.assocs ≡ z.assocs → AddsToAnchored z after c
adds_nothing z after c blocks assocs a b (inl (block, i, here, at)) = inl (inl (block, i, ap (λ (x : FinMap id_cmp Block). get x a) (sym blocks) ∙ here, at))
adds_nothing z after c blocks assocs a b (inr (key, at)) = inl (inr (key, ap (λ x. get x (a, key)) (sym assocs) ∙ at))

-- an escape leaves the edges, and anchors become fewer, since an escaped block anchors nothing by itself
module _ (z : State) (need : BlockId → Bool) where
  escaped_edge : (a b : BlockId) → Edge (with_escaped z need) a b → Edge z a b
  escaped_edge a b (inr e) = inr e
  escaped_edge a b (inl (block, i, here, at)) = let was = found_escaped z need a block here in inl (was.0, i, was.1, ap (λ ws. slice_get ws i) was.2 ∙ at)

  still_old : (b : BlockId) → IsTrue (is_old (with_escaped z need) b) → IsTrue (is_old z b)
  still_old b h = go (get z.blocks b) (need b) (sym (ap (λ o. option_map_or (λ n. min (z.reclaims - n) 3 == 3) (option_and_then (λ (k : Block). k.since) o) false) (got_escaped z need b)) ∙ h)
    where
      new_is_young : (min (z.reclaims - z.reclaims) 3 == 3) ≡ false
      new_is_young = let none : min (z.reclaims - z.reclaims) 3 ≡ 0 = omega arith in ap (λ n. n == 3) none

      go : (o : Option Block) (t : Bool) → option_map_or (λ n. min (z.reclaims - n) 3 == 3) (option_and_then (λ (k : Block). k.since) (option_map (escape_at z t) o)) false ≡ true → option_map_or (λ n. min (z.reclaims - n) 3 == 3) (option_and_then (λ (k : Block). k.since) o) false ≡ true
      go None t h = h
      go (Some k) false h = h
      go (Some k) true h = let no : false ≡ true = sym new_is_young ∙ h in cc (no)

  anchors_before : (m : Mode) (a : BlockId) → Anchors m (with_escaped z need) a → Anchors m z a
  anchors_before mode.Full a (inl held) = inl held
  anchors_before mode.Full a (inr un) = inr (still_inside z need a un).1
  anchors_before mode.Young a (inl held) = inl held
  anchors_before mode.Young a (inr (inl un)) = inr (inl (still_inside z need a un).1)
  anchors_before mode.Young a (inr (inr old)) = inr (inr (still_old a old))

  -- what is anchored after an escape was so before
  anchored_before : (m : Mode) (b : BlockId) → AnchoredFor m (with_escaped z need) b → AnchoredFor m z b
  anchored_before m b (a, first, (steps, p)) = (a, anchors_before m a first, (steps, path_within (Edge (with_escaped z need)) (Edge z) escaped_edge a steps b p))

  -- so a cycle keeps what it has reached while blocks escape
  pub keeps_escaped : (c : Cycle) → KeepsReached z c → KeepsReached (with_escaped z need) c
  keeps_escaped c keeps = record {
    now = λ b i anchored. keeps.now b i (anchored_before c.mode b anchored);
    on = λ a b was e i. keeps.on a b was (escaped_edge a b e) i;
    outside = λ a b n e i. keeps.outside a b n (escaped_edge a b e) i;
  }

some_block : (a b : Block) → Some a ≡ Some b → a ≡ b
some_block a b h = cc

-- a write adds an edge at most to what the word holds
pub word_edge : (z : State) (a : Option BlockId) (at : ℕ) (w : Word) (x y : BlockId) → Edge (with_word z a at w) x y → Edge z x y ⊎ (w ≡ word.Block y)
word_edge z None at w x y e = inl e
word_edge z (Some id) at w x y (inr e) = inl (inr e)
word_edge z (Some id) at w x y (inl (block, i, here, is)) = by_key (same_id x id) (get z.blocks x) refl (sym (edit_get z.blocks id _ x) ∙ here)
  where
    written : Block → Block
    written k = record k { words = slice_set k.words at w }

    by_key : (t : Bool) (o : Option Block) → get z.blocks x ≡ o → cond t (option_map written o) o ≡ Some block → Edge z x y ⊎ (w ≡ word.Block y)
    by_key false o was h = inl (inl (block, i, was ∙ h, is))
    by_key true None was h = cc (h)
    by_key true (Some k) was h = elim (set_or_was k.words at w i (word.Block y) (ap (λ (b : Block). slice_get b.words i) (some_block (written k) block h) ∙ is)) [
      | inl e ↦ inr e
      | inr e ↦ inl (inl (k, i, was, e))
    ]

-- a store of what stands in a register
pub adds_stored : (z : State) (a : Option BlockId) (at t r : ℕ) (c : Cycle) → AddsToAnchored z (with_word z a at (reference (z.registers t r))) c
adds_stored z a at t r c x y e = elim (word_edge z a at (reference (z.registers t r)) x y e) [
  | inl was ↦ inl was
  | inr is ↦ inr (held_anchored c.mode (with_word z a at (reference (z.registers t r))) y (inl (t, r, registers a ∙ held (z.registers t r) is)))
]
  where
    held : (v : Option BlockId) → reference v ≡ word.Block y → v ≡ Some y
    held None e = cc (e)
    held (Some b) e = cc

    registers : (a : Option BlockId) → (with_word z a at (reference (z.registers t r))).registers t r ≡ z.registers t r
    registers None = refl
    registers (Some id) = refl

adds_put : (z : State) (a : Option BlockId) (at n : ℕ) (c : Cycle) → AddsToAnchored z (with_word z a at (word.Number n)) c
adds_put z a at n c x y e = elim (word_edge z a at (word.Number n) x y e) [ inl was ↦ inl was | inr is ↦ (let no : word.Number n ≡ word.Block y = is in cc (no)) ]

-- a new block refers to nothing
adds_new : (z : State) (t to : ℕ) (l : Layout) (actions : List Action) (c : Cycle) → AddsToAnchored z (with_new z t to l actions) c
adds_new z t to l actions c a b (inr e) = inl (inr e)
adds_new z t to l actions c a b (inl (block, i, here, is)) = by_key (same_id a id) (sym (get-insert ids_total z.blocks id new a) ∙ here)
  where
    id : BlockId
    id = id_of t (z.serials t)

    new : Block
    new = new_block z t l actions

    by_key : (u : Bool) → cond u (Some (new_block z t l actions)) (get z.blocks a) ≡ Some block → Edge z a b ⊎ AnchoredFor c.mode (with_new z t to l actions) b
    by_key false h = inl (inl (block, i, h, is))
    by_key true h = absurd (no_first_edge l i b (ap (λ (k : Block). slice_get k.words i) (some_block (new_block z t l actions) block h) ∙ is))

-- blocks that are gone refer to nothing
word_was : (z : State) (ids : List BlockId) (a b : BlockId) → WordEdge (without_blocks z ids).blocks a b → WordEdge z.blocks a b
word_was z ids a b (block, i, here, is) = by_test (among ids a) (sym (left_get z.blocks (among ids) a) ∙ here)
  where
    by_test : (t : Bool) → cond t None (get z.blocks a) ≡ Some block → WordEdge z.blocks a b
    by_test true h = cc (h)
    by_test false h = (block, i, h, is)

adds_without : (z : State) (ids : List BlockId) (c : Cycle) → AddsToAnchored z (without_blocks z ids) c
adds_without z ids c a b (inr e) = inl (inr e)
adds_without z ids c a b (inl e) = inl (inl (word_was z ids a b e))

adds_end : (z : State) (ids : List BlockId) (t : ℕ) (c : Cycle) → AddsToAnchored z (with_end (without_blocks z ids) t) c
adds_end z ids t c a b (inr e) = inl (inr e)
adds_end z ids t c a b (inl e) = inl (inl (word_was z ids a b e))

-- of the associations, one gets a value that stands in a register
adds_assoc : (z : State) (object : BlockId) (key t r : ℕ) (c : Cycle) → AddsToAnchored z (with_assoc z object key (z.registers t r)) c
adds_assoc z object key t r c a b (inl e) = inl (inl e)
adds_assoc z object key t r c a b (inr (k, is)) = by_key (is_eq (pair_cmp (a, k) (object, key))) (sym (get-with_value pairs_total z.assocs (object, key) (z.registers t r) (a, k)) ∙ is)
  where
    by_key : (u : Bool) → cond u (z.registers t r) (get z.assocs (a, k)) ≡ Some b → Edge z a b ⊎ AnchoredFor c.mode (with_assoc z object key (z.registers t r)) b
    by_key true h = inr (held_anchored c.mode (with_assoc z object key (z.registers t r)) b (inl (t, r, h)))
    by_key false h = inl (inr (k, h))

abbrev Adds : State → Cycle → State → Type 0
Adds z c after = AddsToAnchored z after c

-- each call that is no step of a cycle
pub effect_adds : (z : State) (t : ℕ) (c : Call) (r : Reply) (a : State) (k : Cycle) → is_cycle_step c ≡ false → Effect z t c r a → Adds z k a
effect_adds z t (call.New to layout actions) (reply.Block id) a k n h = subst (Adds z k) (sym h.1) (adds_new z t to layout actions k)
effect_adds z t (call.Load to from at) (reply.Block id) a k n h = subst (Adds z k) (sym h.1) (adds_nothing z _ k refl refl)
effect_adds z t (call.Store into at from) reply.Done a k n h = subst (Adds z k) (sym h) (adds_stored z (z.registers t into) at t from k)
effect_adds z t (call.Put into at number) reply.Done a k n h = subst (Adds z k) (sym h) (adds_put z (z.registers t into) at number k)
effect_adds z t (call.Get from at) (reply.Number i) a k n h = subst (Adds z k) (sym h.1) (adds_nothing z _ k refl refl)
effect_adds z t (call.Copy to from) reply.Done a k n h = subst (Adds z k) (sym h) (adds_nothing z _ k refl refl)
effect_adds z t (call.DropReg reg) reply.Done a k n h = subst (Adds z k) (sym h) (adds_nothing z _ k refl refl)
effect_adds z t call.CollectLocal (reply.Reclaimed gone) a k n h = subst (Adds z k) (sym h.1) (adds_without z gone.list k)
effect_adds z t (call.SetRoot root from) reply.Done a k n h = subst (Adds z k) (sym h) (adds_nothing z _ k refl refl)
effect_adds z t (call.GetRoot to root) (reply.Block id) a k n h = subst (Adds z k) (sym h.1) (adds_nothing z _ k refl refl)
effect_adds z t (call.Retain reg) (reply.Number i) a k n h = subst (Adds z k) (sym h.1) (by_register (z.registers t reg))
  where
    by_register : (o : Option BlockId) → Adds z k (option_map_or (λ b. with_count z b i) o z)
    by_register None = adds_nothing z _ k refl refl
    by_register (Some b) = adds_nothing z _ k refl refl
effect_adds z t (call.Release reg) (reply.Number i) a k n h = subst (Adds z k) (sym h.1) (by_register (z.registers t reg))
  where
    by_register : (o : Option BlockId) → Adds z k (option_map_or (λ b. with_count z b i) o z)
    by_register None = adds_nothing z _ k refl refl
    by_register (Some b) = adds_nothing z _ k refl refl
effect_adds z t (call.Count reg) (reply.Number i) a k n h = subst (Adds z k) (sym h.1) (adds_nothing z _ k refl refl)
effect_adds z t (call.Take to id) (reply.Block i) a k n h = subst (Adds z k) (sym h.1) (adds_nothing z _ k refl refl)
effect_adds z t (call.SetAssoc object key value) (reply.Block id) a k n h = subst (Adds z k) (sym h.1) (by_register (z.registers t object))
  where
    by_register : (o : Option BlockId) → Adds z k (option_map_or (λ x. with_assoc z x key.0 (z.registers t value)) o z)
    by_register None = adds_nothing z _ k refl refl
    by_register (Some x) = adds_assoc z x key.0 t value k
effect_adds z t (call.GetAssoc to object key) (reply.Block id) a k n h = subst (Adds z k) (sym h.1) (adds_nothing z _ k refl refl)
effect_adds z t (call.SetWeak loc from) (reply.Block v) a k n h = subst (Adds z k) (sym h.1) (by_place (weak_loc z t loc))
  where
    by_place : (l : Option WeakLoc) → Adds z k (option_map_or (λ l. with_weak z l v) l z)
    by_place None = adds_nothing z _ k refl refl
    by_place (Some l) = adds_nothing z _ k refl refl
effect_adds z t (call.ReadWeak to loc) (reply.Block id) a k n h = subst (Adds z k) (sym h.1) (adds_nothing z _ k refl refl)
effect_adds z t call.Stats (reply.Stats s) a k n h = subst (Adds z k) (sym h.1) (adds_nothing z _ k refl refl)
effect_adds z t (call.Begin mode) reply.Begun a k n h = cc (n)
effect_adds z t call.Condemn (reply.Condemned r) a k n h = cc (n)
effect_adds z t call.Finalise (reply.Finalised b) a k n h = cc (n)
effect_adds z t call.Reclaim (reply.Settled gone kept) a k n h = cc (n)
effect_adds z t call.Leave (reply.Reclaimed gone) a k n h = subst (Adds z k) (sym h.does) (adds_end z gone.list t k)
effect_adds z t _ _ a k n h = absurd h
