-- A local call gains no reference but to a block of its part
use Rattle.std.proofs.Common.{◌≡◌, ℕ, ◌+◌, ◌==◌, Bool, true, false, cond, not, List, [], ◌∷◌, Option, Some, None, MatchOption, IsTrue, refl, sym, ap, subst, ◌∙◌, ◌⊎◌, inl, inr, is_some, option_and_then, slice_get, slice_set}
use Rattle.std.specs.Option.{option_map}
use Rattle.std.specs.declared.cmp.Ordering.{Ordering}
use Rattle.std.specs.declared.cmp.Ordering.TheVariants.{Less, Equal, Greater}
use Rattle.std.specs.Ordering.{is_eq}
use Rattle.std.specs.Cmp.{tied_itself}
use Rattle.std.specs.FinMap.{FinMap, get, insert, get-insert}
use Rattle.az_base.specs.declared.block_id.BlockId.{BlockId}
use Rattle.az_base.specs.declared.misuse.Misuse.{Misuse}
use Rattle.az_base.specs.declared.word.Word.{Word}
use Rattle.az_base.specs.declared.word.Word.TheVariants as word
use Rattle.az_base.specs.Ids.{id_cmp, among, ids_total}
use Rattle.block_layouts.specs.declared.layout.Layout.{Layout}
use Rattle.zone_model.specs.declared.call.Call.{Call}
use Rattle.zone_model.specs.declared.call.Call.TheVariants as call
use Rattle.zone_model.specs.declared.entry.Reply.{Reply}
use Rattle.zone_model.specs.declared.entry.Reply.TheVariants as reply
use Rattle.zone_model.specs.declared.entry.Entry.{Entry}
use Rattle.zone_model.specs.State.{Block, reference, referent}
use Rattle.zone_model.specs.Reach.{WordEdge}
use Rattle.zone_model.specs.Part.{Part, is_in, is_local, part_after, passes_local, own_block, put_register, put_word, put_new, leave_part}
use Rattle.zone_model.specs.LocalSteps.{LocalStep, Replies, misuse_within}
use Rattle.zone_model.specs.SameShared.{HoldsRef, GainsNone}
use Rattle.zone_model.proofs.Blocks.{edit_get, left_get, set_or_was}
use Rattle.zone_model.proofs.IntactBirths.{no_first_edge}

some_id : (a b : BlockId) → Some a ≡ Some b → a ≡ b
some_id a b h = cc

some_block : (a b : Block) → Some a ≡ Some b → a ≡ b
some_block a b h = cc

module _ (p : Part) where
  same : GainsNone p p
  same q h = inl h

  register_gains : (r : ℕ) (v : Option BlockId) → ((q : BlockId) → v ≡ Some q → HoldsRef p q) → GainsNone p (put_register p r v)
  register_gains r v known q (inl held) = by (r == held.0) held.1
    where
      by : (b : Bool) → cond b v (p.registers held.0) ≡ Some q → HoldsRef p q ⊎ IsTrue (is_in p q)
      by true h = inl (known q h)
      by false h = inl (inl (held.0, h))
  register_gains r v known q (inr edge) = inl (inr edge)

  word_gains : (a : Option BlockId) (at : ℕ) (w : Word) → ((q : BlockId) → w ≡ word.Block q → HoldsRef p q) → GainsNone p (put_word p a at w)
  word_gains None at w known q h = inl h
  word_gains (Some id) at w known q (inl held) = inl (inl held)
  word_gains (Some id) at w known q (inr e) = inl (by (id_cmp e.0 id) (sym (edit_get p.blocks id change e.0) ∙ e.1.2))
    where
      change : Block → Block
      change b = record b { words = slice_set b.words at w }

      of_word : (b : Block) (i : ℕ) → get p.blocks e.0 ≡ Some b → (w ≡ word.Block q) ⊎ (slice_get b.words i ≡ Some (word.Block q)) → HoldsRef p q
      of_word b i is (inl h) = known q h
      of_word b i is (inr h) = inr (e.0, (b, i, is, h))

      found : (o : Option Block) → get p.blocks e.0 ≡ o → option_map change o ≡ Some e.1.0 → HoldsRef p q
      found None is h = cc (h)
      found (Some b) is h = of_word b e.1.1 is (set_or_was b.words at w e.1.1 (word.Block q) (ap (λ (k : Block). slice_get k.words e.1.1) (some_block (change b) e.1.0 h) ∙ e.1.3))

      by : (r : Ordering) → cond (is_eq r) (option_map change (get p.blocks e.0)) (get p.blocks e.0) ≡ Some e.1.0 → HoldsRef p q
      by Less h = inr (e.0, (e.1.0, e.1.1, h, e.1.3))
      by Equal h = found (get p.blocks e.0) refl h
      by Greater h = inr (e.0, (e.1.0, e.1.1, h, e.1.3))

  loaded : (o : Option BlockId) (at : ℕ) (q : BlockId) → referent (option_and_then (λ (b : Block). slice_get b.words at) (option_and_then (λ id. get p.blocks id) o)) ≡ Some q → HoldsRef p q
  loaded None at q h = cc (h)
  loaded (Some a) at q h = go (get p.blocks a) refl h
    where
      one : (b : Block) (w : Option Word) → get p.blocks a ≡ Some b → slice_get b.words at ≡ w → referent w ≡ Some q → HoldsRef p q
      one b (Some (word.Block x)) is e h = inr (a, (b, at, is, e ∙ ap (λ y. Some (word.Block y)) (some_id x q h)))
      one b None is e h = cc (h)
      one b (Some word.Null) is e h = cc (h)
      one b (Some (word.Number n)) is e h = cc (h)

      go : (o : Option Block) → get p.blocks a ≡ o → referent (option_and_then (λ (b : Block). slice_get b.words at) o) ≡ Some q → HoldsRef p q
      go None is h = cc (h)
      go (Some b) is h = one b (slice_get b.words at) is refl h

  stored : (o : Option BlockId) (q : BlockId) → reference o ≡ word.Block q → o ≡ Some q
  stored None q h = cc (h)
  stored (Some x) q h = cc

  left_gains : (gone : List BlockId) → GainsNone p (leave_part p (among gone))
  left_gains gone q (inl held) = inl (inl held)
  left_gains gone q (inr e) = inl (by (among gone e.0) (sym (left_get p.blocks (among gone) e.0) ∙ e.1.2))
    where
      by : (b : Bool) → cond b None (get p.blocks e.0) ≡ Some e.1.0 → HoldsRef p q
      by true h = cc (h)
      by false h = inr (e.0, (e.1.0, e.1.1, h, e.1.3))

  new_gains : (to : ℕ) (l : Layout) (id : BlockId) → passes_local p l ≡ false → GainsNone p (put_register (put_new p l [] (Some id)) to (Some id))
  new_gains to l id small = subst (λ b. GainsNone p (record p { registers = λ r. cond (to == r) (Some id) (p.registers r); serials = p.serials + 1; blocks = cond b p.blocks (insert p.blocks id (own_block l)) })) (sym small) gains
    where
      after : FinMap id_cmp Block
      after = insert p.blocks id (own_block l)

      is_new : IsTrue (is_some (get after id))
      is_new = ap is_some (get-insert ids_total p.blocks id (own_block l) id ∙ ap (λ r. cond (is_eq r) (Some (own_block l)) (get p.blocks id)) (tied_itself ids_total id))

      of_register : (q : BlockId) (r : ℕ) (b : Bool) → cond b (Some id) (p.registers r) ≡ Some q → HoldsRef p q ⊎ IsTrue (is_some (get after q))
      of_register q r true h = inr (ap (λ x. is_some (get after x)) (sym (some_id id q h)) ∙ is_new)
      of_register q r false h = inl (inl (r, h))

      of_edge : (q a : BlockId) (e : WordEdge after a q) (r : Ordering) → cond (is_eq r) (Some (own_block l)) (get p.blocks a) ≡ Some e.0 → HoldsRef p q
      of_edge q a e Less h = inr (a, (e.0, e.1, h, e.3))
      of_edge q a e Equal h = absurd (no_first_edge l e.1 q (ap (λ (k : Block). slice_get k.words e.1) (some_block (own_block l) e.0 h) ∙ e.3))
      of_edge q a e Greater h = inr (a, (e.0, e.1, h, e.3))

      gains : (q : BlockId) → ((r : ℕ) × (cond (to == r) (Some id) (p.registers r) ≡ Some q)) ⊎ ((a : BlockId) × WordEdge after a q) → HoldsRef p q ⊎ IsTrue (is_some (get after q))
      gains q (inl held) = of_register q held.0 (to == held.0) held.1
      gains q (inr e) = inl (of_edge q e.0 e.1 (id_cmp e.0 id) (sym (get-insert ids_total p.blocks id (own_block l) e.0) ∙ e.1.2))

  not_passed : (b : Bool) → not b ≡ true → b ≡ false
  not_passed true h = sym h
  not_passed false h = refl

  replied_gains : (t : ℕ) (c : Call) (r : Reply) → is_local p c ≡ true → Replies p t c r → GainsNone p (part_after p c r)
  replied_gains t (call.New to layout []) (reply.Block id) h k = subst (λ v. GainsNone p (put_register (put_new p layout [] v) to v)) (sym k) (new_gains to layout _ (not_passed (passes_local p layout) h))
  replied_gains t (call.New to layout (a ∷ actions)) (reply.Block id) h k = cc
  replied_gains t (call.Load to from at) (reply.Block b) h k = register_gains to b (λ q is. loaded (p.registers from) at q (sym k ∙ is))
  replied_gains t (call.Store into at from) reply.Done h k = word_gains (p.registers into) at (reference (p.registers from)) (λ q is. inl (from, stored (p.registers from) q is))
  replied_gains t (call.Put into at number) reply.Done h k = word_gains (p.registers into) at (word.Number number) (λ q is. cc (is))
  replied_gains t (call.Get from at) (reply.Number n) h k = same
  replied_gains t (call.Copy to from) reply.Done h k = register_gains to (p.registers from) (λ q is. inl (from, is))
  replied_gains t (call.DropReg reg) reply.Done h k = register_gains reg None (λ q is. cc (is))
  replied_gains t call.CollectLocal (reply.Reclaimed gone) h k = left_gains gone.list
  replied_gains t _ _ h k = absurd k

-- a local call gains no reference but to a block of its part: so whoever publishes it holds nothing shared that it didn't hold before
pub step_gains : (p : Part) (t : ℕ) (e : Entry) (after : Part) → LocalStep p t e after → GainsNone p after
step_gains p t e after k = by_misuse (misuse_within p e.call) k.does
  where
    by_misuse : (m : Option Misuse) → MatchOption m (Replies p t e.call e.reply × (after ≡ part_after p e.call e.reply)) (λ m. (e.reply ≡ reply.Misuse m) × (after ≡ p)) → GainsNone p after
    by_misuse None h = subst (GainsNone p) (sym h.1) (replied_gains p t e.call e.reply k.local h.0)
    by_misuse (Some m) h = subst (GainsNone p) (sym h.1) (same p)
