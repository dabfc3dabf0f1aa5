-- A new block keeps a state sound
use Rattle.std.proofs.Common.{◌≡◌, ◌≤◌, ◌+◌, ℕ, ◌==◌, true, false, cond, ◌&&◌, List, [], ◌∷◌, map, replicate, Some, None, IsTrue, refl, sym, ap, subst, ◌∙◌, inl, inr, is_some, slice_get, eq-eqb, zero, suc, arith}
use Rattle.std.specs.declared.cmp.Ordering.{Ordering}
use Rattle.std.specs.declared.cmp.Ordering.TheVariants.{Less, Equal, Greater}
use Rattle.std.specs.Ordering.{is_eq}
use Rattle.std.specs.Cmp.{tied_itself}
use Rattle.std.specs.FinMap.{get, get-insert}
use Rattle.az_base.specs.declared.action.Action.{Action}
use Rattle.az_base.specs.declared.block_id.BlockId.{BlockId}
use Rattle.az_base.specs.declared.word.Class.{Class}
use Rattle.az_base.specs.declared.word.Class.TheVariants as class
use Rattle.az_base.specs.declared.word.Word.{Word}
use Rattle.az_base.specs.declared.word.Word.TheVariants as word
use Rattle.az_base.specs.Ids.{id_cmp, id_of, same_id, ids_total, exact_ids}
use Rattle.block_layouts.specs.declared.layout.Layout.{Layout}
use Rattle.block_layouts.specs.declared.layout.Shape.TheVariants as shape
use Rattle.block_layouts.specs.Layouts.{first_word, first_words, quanta, len_of}
use Rattle.zone_model.specs.State.{State, Block, with_block, with_next_serial, is_escaped, is_own}
use Rattle.zone_model.specs.Quanta.{used_quanta, is_born_escaped}
use Rattle.zone_model.specs.Reach.{WordEdge}
use Rattle.zone_model.specs.Effect.{new_block, with_new}
use Rattle.zone_model.proofs.Births.{used_added}
use Rattle.zone_model.specs.Sound.{Knows, MayRefer}
use Rattle.zone_model.proofs.Intact.{Intact}
use Rattle.zone_model.proofs.Blocks.{is_out, is_inside, out_or_inside, both_true, there_out, there_inside, own_inside}
use Rattle.zone_model.proofs.IntactChanges.{grown_intact, register_intact}
use Rattle.zone_model.proofs.IntactWords.{other_intact}

only_that : (n i : ℕ) (w v : Word) → slice_get (replicate n w) i ≡ Some v → w ≡ v
only_that zero i w v h = cc
only_that (suc n) zero w v h = cc
only_that (suc n) (suc i) w v h = only_that n i w v h

no_reference : (c : Class) (b : BlockId) → Some (first_word c) ≡ Some (word.Block b) → ⊥
no_reference class.Strong b h = cc
no_reference class.Weak b h = cc
no_reference class.Plain b h = cc

mapped_none : (cs : List Class) (i : ℕ) (b : BlockId) → slice_get (map first_word cs) i ≡ Some (word.Block b) → ⊥
mapped_none [] i b h = cc
mapped_none (c ∷ cs) zero b h = no_reference c b h
mapped_none (c ∷ cs) (suc i) b h = mapped_none cs i b h

-- no first word refers to a block
pub no_first_edge : (l : Layout) (i : ℕ) (b : BlockId) → slice_get (first_words l) i ≡ Some (word.Block b) → ⊥
no_first_edge (shape.Scanned n) i b h = let no : word.Null ≡ word.Block b = only_that n i word.Null (word.Block b) h in cc (no)
no_first_edge (shape.Unscanned n) i b h = let no : word.Number 0 ≡ word.Block b = only_that n i (word.Number 0) (word.Block b) h in cc (no)
no_first_edge (shape.Object cs) i b h = mapped_none cs i b h

some_block : (a b : Block) → Some a ≡ Some b → a ≡ b
some_block a b h = cc

some_id : (a b : BlockId) → Some a ≡ Some b → a ≡ b
some_id a b h = cc

module _ (z : State) (s : Intact z) (t to : ℕ) (l : Layout) (actions : List Action) (none : get z.blocks (id_of t (z.serials t)) ≡ None) where
  abbrev id : BlockId
  id = id_of t (z.serials t)

  abbrev new : Block
  new = new_block z t l actions

  abbrev with : State
  with = with_block z id new

  got : (q : BlockId) → get with.blocks q ≡ cond (same_id q id) (Some new) (get z.blocks q)
  got q = get-insert ids_total z.blocks id new q

  is_new : get with.blocks id ≡ Some new
  is_new = got id ∙ ap (λ r. cond (is_eq r) (Some new) (get z.blocks id)) (tied_itself ids_total id)

  -- what was there is as it was
  as_was : (q : BlockId) → IsTrue (is_some (get z.blocks q)) → get with.blocks q ≡ get z.blocks q
  as_was q there = got q ∙ at (id_cmp q id) refl
    where
      at : (r : Ordering) → id_cmp q id ≡ r → cond (is_eq r) (Some new) (get z.blocks q) ≡ get z.blocks q
      at Less e = refl
      at Equal e = let no : false ≡ true = sym (ap is_some (ap (get z.blocks) (exact_ids q id e) ∙ none)) ∙ there in cc (no)
      at Greater e = refl

  out : (q : BlockId) → IsTrue (is_escaped z q) → IsTrue (is_escaped with q)
  out q h = ap is_out (as_was q (there_out (get z.blocks q) h)) ∙ h

  own : (u : ℕ) (q : BlockId) → IsTrue (is_own z u q) → IsTrue (is_own with u q)
  own u q h = ap (λ o. (q.thread == u) && is_inside o) (as_was q (there_inside (get z.blocks q) (own_inside z u q h))) ∙ h

  old_edge : (a b : BlockId) → WordEdge with.blocks a b → WordEdge z.blocks a b
  old_edge a b e = at (id_cmp a id) (sym (got a) ∙ e.2)
    where
      at : (r : Ordering) → cond (is_eq r) (Some new) (get z.blocks a) ≡ Some e.0 → WordEdge z.blocks a b
      at Less h = (e.0, e.1, h, e.3)
      at Equal h = absurd (no_first_edge l e.1 b (ap (λ (k : Block). slice_get k.words e.1) (some_block new e.0 h) ∙ e.3))
      at Greater h = (e.0, e.1, h, e.3)

  edges : (a b : BlockId) → WordEdge with.blocks a b → MayRefer with a b
  edges a b e = let edge = old_edge a b e in by_end edge (s.names.words a b edge)
    where
      by_end : WordEdge z.blocks a b → MayRefer z a b → MayRefer with a b
      by_end edge (inl there) = inl (out b there)
      by_end edge (inr inside) = inr (ap is_inside (as_was a (ap is_some edge.2)) ∙ inside.0, own a.thread b inside.1)

  block_intact : used_quanta z + cond (is_born_escaped z t l actions) (quanta (len_of l)) 0 ≤ z.options.heap_quanta → Intact with
  block_intact fits =
      grown_intact z s with.blocks out (λ u q h. inr (own u q h)) edges
      (let added : used_quanta with ≡ used_quanta z + cond (is_born_escaped z t l actions) (quanta (len_of l)) 0 = used_added z t to l actions none in omega (arith, added, fits))

  known : Knows with t id
  known = elim (out_or_inside (get with.blocks id) new is_new) [ inl e ↦ inl e | inr e ↦ inr (both_true (t == t) (is_inside (get with.blocks id)) (eq-eqb t t refl) e) ]

  pub new_intact : used_quanta z + cond (is_born_escaped z t l actions) (quanta (len_of l)) 0 ≤ z.options.heap_quanta → Intact (with_new z t to l actions)
  new_intact fits =
      register_intact (with_next_serial with t) (other_intact with (block_intact fits) (with_next_serial with t).serials with.ended with.reclaims) t to (Some id) (λ b h. subst (Knows with t) (some_id id b h) known)
