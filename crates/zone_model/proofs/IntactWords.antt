-- What each call does keeps a state sound
use Rattle.std.proofs.Common.{◌≡◌, ◌+◌, ℕ, ◌==◌, Bool, true, false, cond, ◌&&◌, ◌∷◌, Option, Some, None, IsTrue, refl, sym, ap, subst, ◌∙◌, ◌⊎◌, inl, inr, is_some, option_and_then, slice_get, slice_set, arith}
use Rattle.std.specs.Option.{option_map, option_map_or}
use Rattle.std.specs.declared.cmp.Ordering.{Ordering}
use Rattle.std.specs.declared.cmp.Ordering.TheVariants.{Less, Equal, Greater}
use Rattle.std.specs.Ordering.{is_eq}
use Rattle.std.specs.FinMap.{FinMap, get, insert}
use Rattle.az_base.specs.declared.block_id.BlockId.{BlockId}
use Rattle.az_base.specs.declared.word.Word.{Word}
use Rattle.az_base.specs.declared.word.Word.TheVariants as word
use Rattle.az_base.specs.Ids.{id_cmp, ids_total, exact_ids}
use Rattle.block_layouts.specs.Layouts.{quanta, len_of}
use Rattle.zone_model.specs.Maps.{total}
use Rattle.zone_model.proofs.MapLaws.{total-insert, at_value}
use Rattle.zone_model.specs.State.{State, Block, Cycle, moment, with_edit, with_word, referent, reference, word_at, is_escaped, is_own}
use Rattle.zone_model.specs.Quanta.{used_quanta}
use Rattle.zone_model.specs.Reach.{WordEdge}
use Rattle.zone_model.specs.Step.{seen_now, with_moment}
use Rattle.zone_model.specs.Sound.{Knows, MayRefer}
use Rattle.zone_model.proofs.Intact.{Intact}
use Rattle.zone_model.proofs.Blocks.{not_both, own_inside, own_thread, edit_get, edit_standing, set_or_was, SameStanding}
use Rattle.zone_model.proofs.IntactChanges.{start_of, condemned_of, cycle_intact, grown_intact}

some_block : (a b : BlockId) → Some a ≡ Some b → a ≡ b
some_block a b h = cc

-- the word at a place of a block, where it refers to one, is an edge
pub referred : (z : State) (o : Option BlockId) (at : ℕ) (b : BlockId) → referent (word_at z o at) ≡ Some b → (a : BlockId) × (o ≡ Some a) × WordEdge z.blocks a b
referred z None at b h = cc (h)
referred z (Some a) at b h = go (get z.blocks a) refl h
  where
    one : (k : Block) (w : Option Word) → get z.blocks a ≡ Some k → slice_get k.words at ≡ w → referent w ≡ Some b → (a2 : BlockId) × (Some a ≡ Some a2) × WordEdge z.blocks a2 b
    one k (Some (word.Block x)) is e h = (a, refl, (k, at, is, e ∙ ap (λ y. Some (word.Block y)) (some_block x b h)))
    one k None is e h = cc (h)
    one k (Some word.Null) is e h = cc (h)
    one k (Some (word.Number n)) is e h = cc (h)

    go : (o : Option Block) → get z.blocks a ≡ o → referent (option_and_then (λ (k : Block). slice_get k.words at) o) ≡ Some b → (a2 : BlockId) × (Some a ≡ Some a2) × WordEdge z.blocks a2 b
    go None is h = cc (h)
    go (Some k) is h = one k (slice_get k.words at) is refl h

-- a thread knows what the blocks that it knows refer to
pub edge_known : (z : State) (t : ℕ) (a b : BlockId) → Knows z t a → MayRefer z a b → Knows z t b
edge_known z t a b known (inl out) = inl out
edge_known z t a b (inl out) (inr inside) = absurd (not_both (get z.blocks a) out inside.0)
edge_known z t a b (inr own) (inr inside) = inr (subst (λ u. IsTrue (is_own z u b)) (own_thread z t a own) inside.1)

-- what an escaped block refers to has escaped
pub edge_out : (z : State) (a b : BlockId) → IsTrue (is_escaped z a) → MayRefer z a b → IsTrue (is_escaped z b)
edge_out z a b out (inl there) = there
edge_out z a b out (inr inside) = absurd (not_both (get z.blocks a) out inside.0)

pub load_known : (z : State) → Intact z → (t r at : ℕ) (v : Option BlockId) → v ≡ referent (word_at z (z.registers t r) at) → (b : BlockId) → v ≡ Some b → Knows z t b
load_known z s t r at v is b h =
    let edge = referred z (z.registers t r) at b (sym is ∙ h) in
    edge_known z t edge.0 b (s.names.registers t r edge.0 edge.1) (s.names.words edge.0 b edge.2)

pub sum_edited : (f : BlockId → Block → ℕ) (m : FinMap id_cmp Block) (id : BlockId) (g : Block → Block) → ((k : Block) → f id (g k) ≡ f id k) → total f (with_edit m id g) ≡ total f m
sum_edited f m id g same = go (get m id) refl
  where
    go : (o : Option Block) → get m id ≡ o → total f (option_map_or (λ k. insert m id (g k)) o m) ≡ total f m
    go None e = refl
    go (Some k) e =
        let sum : total f (insert m id (g k)) + at_value (f id) (get m id) ≡ total f m + f id (g k) = total-insert ids_total exact_ids f m id (g k) in
        let was : at_value (f id) (get m id) ≡ f id k = ap (at_value (f id)) e in
        let is : f id (g k) ≡ f id k = same k in
        omega arith

module _ (z : State) (s : Intact z) where
  -- an edit of a block that keeps its standing, and has no word but those that it may have
  pub edited_intact : (id : BlockId) (f : Block → Block) → ((k : Block) → (f k).since ≡ k.since) → ((k : Block) → (f k).layout ≡ k.layout)
      → ((k : Block) (i : ℕ) (b : BlockId) → get z.blocks id ≡ Some k → slice_get (f k).words i ≡ Some (word.Block b) → MayRefer z id b) → Intact (record z { blocks = with_edit z.blocks id f })
  edited_intact id f since layout words =
      grown_intact z s after.blocks (λ b h. (standing b).0 ∙ h) (λ t b h. inr (own t b h)) edges
      (let same : used_quanta after ≡ used_quanta z = sum_edited (λ id b. cond (is_some b.since) (quanta (len_of b.layout)) 0) z.blocks id f (λ k i. cond (is_some (since k i)) (quanta (len_of (layout k i))) 0) in omega (arith, same, s.used))
    where
      after : State
      after = record z { blocks = with_edit z.blocks id f }

      standing : SameStanding z.blocks after.blocks
      standing = edit_standing z.blocks id f since

      own : (t : ℕ) (b : BlockId) → IsTrue (is_own z t b) → IsTrue (is_own after t b)
      own t b h = ap (λ i. (b.thread == t) && i) (standing b).1 ∙ h

      may : (a b : BlockId) → MayRefer z a b → MayRefer after a b
      may a b (inl out) = inl ((standing b).0 ∙ out)
      may a b (inr inside) = inr ((standing a).1 ∙ inside.0, own a.thread b inside.1)

      edges : (a b : BlockId) → WordEdge after.blocks a b → MayRefer after a b
      edges a b e = may a b (at (id_cmp a id) refl (sym (edit_get z.blocks id f a) ∙ e.2))
        where
          found : (o : Option Block) → get z.blocks a ≡ o → a ≡ id → option_map f o ≡ Some e.0 → MayRefer z a b
          found None is same h = cc (h)
          found (Some k) is same h =
              let edited : f k ≡ e.0 = cc in
              subst (λ x. MayRefer z x b) (sym same) (words k e.1 b (ap (get z.blocks) (sym same) ∙ is) (ap (λ (y : Block). slice_get y.words e.1) edited ∙ e.3))

          at : (r : Ordering) → id_cmp a id ≡ r → cond (is_eq r) (option_map f (get z.blocks a)) (get z.blocks a) ≡ Some e.0 → MayRefer z a b
          at Less d h = s.names.words a b (e.0, e.1, h, e.3)
          at Equal d h = found (get z.blocks a) refl (exact_ids a id d) h
          at Greater d h = s.names.words a b (e.0, e.1, h, e.3)

  -- a word of a block that is there refers to what it may
  word_intact : (a : Option BlockId) (at : ℕ) (w : Word) → ((id b : BlockId) → a ≡ Some id → w ≡ word.Block b → MayRefer z id b) → Intact (with_word z a at w)
  word_intact None at w may = s
  word_intact (Some id) at w may = edited_intact id (λ k. record k { words = slice_set k.words at w }) (λ k. refl) (λ k. refl) (λ k i b is h. by_word k i b is (set_or_was k.words at w i (word.Block b) h))
    where
      by_word : (k : Block) (i : ℕ) (b : BlockId) → get z.blocks id ≡ Some k → (w ≡ word.Block b) ⊎ (slice_get k.words i ≡ Some (word.Block b)) → MayRefer z id b
      by_word k i b is (inl e) = may id b refl e
      by_word k i b is (inr e) = s.names.words id b (k, i, is, e)

  pub put_intact : (a : Option BlockId) (at n : ℕ) → Intact (with_word z a at (word.Number n))
  put_intact a at n = word_intact a at (word.Number n) (λ id b h e. cc (e))

  -- a thread stores what it knows into a block that it knows
  pub store_intact : (t into at from : ℕ) → ((a b : BlockId) → z.registers t into ≡ Some a → IsTrue (is_escaped z a) → z.registers t from ≡ Some b → IsTrue (is_escaped z b)) → Intact (with_word z (z.registers t into) at (reference (z.registers t from)))
  store_intact t into at from rests = word_intact (z.registers t into) at (reference (z.registers t from)) may
    where
      held : (v : Option BlockId) (b : BlockId) → reference v ≡ word.Block b → v ≡ Some b
      held None b h = cc (h)
      held (Some x) b h = cc

      both : (a b : BlockId) → Knows z t a → Knows z t b → (IsTrue (is_escaped z a) → IsTrue (is_escaped z b)) → MayRefer z a b
      both a b (inl out) known there = inl (there out)
      both a b (inr own) (inl out) there = inl out
      both a b (inr own) (inr mine) there = inr (own_inside z t a own, subst (λ u. IsTrue (is_own z u b)) (sym (own_thread z t a own)) mine)

      may : (a b : BlockId) → z.registers t into ≡ Some a → reference (z.registers t from) ≡ word.Block b → MayRefer z a b
      may a b h e = let v = held (z.registers t from) b e in both a b (s.names.registers t into a h) (s.names.registers t from b v) (λ out. rests a b h out v)

  -- serials, ends and the number of Reclaims are free
  pub other_intact : (serials : ℕ → ℕ) (ended : ℕ → Bool) (reclaims : ℕ) → Intact (record z { serials = serials; ended = ended; reclaims = reclaims })
  other_intact serials ended reclaims = record {
    names = record {
      registers = s.names.registers;
      roots = s.names.roots;
      words = s.names.words;
      counts = s.names.counts;
      objects = s.names.objects;
      values = s.names.values;
      shown = s.names.shown;
      showing = s.names.showing;
    };
    cycle = record { started = s.cycle.started; condemned = s.cycle.condemned; cleared = s.cycle.cleared };
    used = s.used;
  }

  -- an open cycle sees the state
  pub seen_intact : Intact (seen_now z)
  seen_intact = cycle_intact z s (option_map (with_moment (moment z)) z.cycle) (λ b h. s.cycle.started b (sym (start_same z.cycle b) ∙ h)) (λ b h. start_same z.cycle b ∙ s.cycle.condemned b (sym (condemned_same z.cycle b) ∙ h)) (λ l b h. condemned_same z.cycle b ∙ s.cycle.cleared l b h)
    where
      start_same : (c : Option Cycle) (b : BlockId) → start_of (option_map (with_moment (moment z)) c) b ≡ start_of c b
      start_same None b = refl
      start_same (Some c) b = elim (is_some c.condemned) as (λ t. start_of (Some (cond t c (record c { moments = moment z ∷ c.moments }))) b ≡ c.start b) [ true ↦ refl | false ↦ refl ]

      condemned_same : (c : Option Cycle) (b : BlockId) → condemned_of (option_map (with_moment (moment z)) c) b ≡ condemned_of c b
      condemned_same None b = refl
      condemned_same (Some c) b = elim (is_some c.condemned) as (λ t. condemned_of (Some (cond t c (record c { moments = moment z ∷ c.moments }))) b ≡ condemned_of (Some c) b) [ true ↦ refl | false ↦ refl ]
