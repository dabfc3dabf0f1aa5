-- Cards that are made anew
use Rattle.std.proofs.Common.{◌≡◌, ◌+◌, ◌≤◌, ◌<◌, ◌↔◌, ◌++◌, ℕ, nat_lt, Bool, true, false, not, cond, List, [], ◌∷◌, Option, Some, None, IfSome, IsSome, IsTrue, IsFalse, length, map, slice_get, take, refl, sym, ap, subst, ◌∙◌, inl, inr, arith}
use Rattle.std.proofs.Math.Seq.{take-length}
use Rattle.std.proofs.lemmas.Option.{get_or_from_slice_get, slice_get-get_or, slice_get_within}
use Rattle.std.specs.Option.{option_map, option_map_or}
use Rattle.std.specs.FinMap.{get}
use Rattle.az_base.specs.declared.block_id.BlockId.{BlockId}
use Rattle.az_base.specs.Ids.{among}
use Rattle.az_base.proofs.Ids.{among_cases, among_kept, among_last}
use Rattle.assoc_refs.specs.Table.{pairs_of}
use Rattle.block_table.specs.Places.{in_word, somes}
use Rattle.block_table.specs.Stored.{HeapBlock, older}
use Rattle.block_table.specs.Table.{IsTable, words_in}
use Rattle.quantum_space.specs.Shapes.{Has, edges}
use Rattle.quantum_space.proofs.Lists.{among_has, has_among}
use Rattle.heap_tables.specs.Graphs.{graph_of, value_of}
use Rattle.heap_tables.specs.Unshaded.{unshaded}
use Rattle.heap_tables.specs.declared.tables.Tables.{Tables}
use Rattle.heap_tables.proofs.Places.{in_either, in_second}
use Rattle.heap_tables.proofs.Showing.{edge_value, value_edge}
use Rattle.heap_cycle.specs.Collects.{Collects, KeepsCards, is_old_at}
use Rattle.heap_cycle.specs.Phases.{WantsCard}
use Rattle.heap_cycle.proofs.Taken.{left_at, left_by, no_longer, one_more}

-- the list has those of the first n positions that want a card
abbrev pub Listed : Tables → ℕ → List BlockId → Type 0
Listed t n ids = (a : BlockId) → IsTrue (among ids a) ↔ (IsTrue (among (take n t.blocks.order) a) × WantsCard t a)

module _ (t : Tables) (ids : List BlockId) (n : ℕ) (so_far : Listed t n ids) where
  next_is : (x : BlockId) → slice_get t.blocks.order n ≡ Some x → take (n + 1) t.blocks.order ≡ take n t.blocks.order ++ x ∷ []
  next_is x at = one_more t.blocks.order n x (slice_get_within t.blocks.order n x at) (sym (get_or_from_slice_get t.blocks.order n x x at))

  -- the next one wants a card
  pub one_listed : (x : BlockId) → slice_get t.blocks.order n ≡ Some x → WantsCard t x → Listed t (n + 1) (ids ++ x ∷ [])
  one_listed x at wants a = (there, back)
    where
      there : IsTrue (among (ids ++ x ∷ []) a) → IsTrue (among (take (n + 1) t.blocks.order) a) × WantsCard t a
      there i = elim (among_cases ids x a i) [
        | inl h ↦ (let k = (so_far a).0 h in (ap (λ l. among l a) (next_is x at) ∙ among_kept (take n t.blocks.order) x a k.0, k.1))
        | inr e ↦ (ap (λ l. among l a) (next_is x at) ∙ ap (among (take n t.blocks.order ++ x ∷ [])) e ∙ among_last (take n t.blocks.order) x, subst (WantsCard t) (sym e) wants)
      ]

      back : IsTrue (among (take (n + 1) t.blocks.order) a) × WantsCard t a → IsTrue (among (ids ++ x ∷ []) a)
      back h = elim (among_cases (take n t.blocks.order) x a (sym (ap (λ l. among l a) (next_is x at)) ∙ h.0)) [
        | inl i ↦ among_kept ids x a ((so_far a).1 (i, h.1))
        | inr e ↦ ap (among (ids ++ x ∷ [])) e ∙ among_last ids x
      ]

  -- it wants none
  passed_by : (x : BlockId) → slice_get t.blocks.order n ≡ Some x → ¬ WantsCard t x → Listed t (n + 1) ids
  passed_by x at no_card a = (there, back)
    where
      there : IsTrue (among ids a) → IsTrue (among (take (n + 1) t.blocks.order) a) × WantsCard t a
      there i = let k = (so_far a).0 i in (ap (λ l. among l a) (next_is x at) ∙ among_kept (take n t.blocks.order) x a k.0, k.1)

      back : IsTrue (among (take (n + 1) t.blocks.order) a) × WantsCard t a → IsTrue (among ids a)
      back h = elim (among_cases (take n t.blocks.order) x a (sym (ap (λ l. among l a) (next_is x at)) ∙ h.0)) [
        | inl i ↦ (so_far a).1 (i, h.1)
        | inr e ↦ absurd (no_card (subst (WantsCard t) e h.1))
      ]

  pub one_passed : n < length t.blocks.order → IfSome (slice_get t.blocks.order n) (λ x. ¬ WantsCard t x) → Listed t (n + 1) ids
  one_passed within no_card = by (slice_get t.blocks.order n) refl no_card
    where
      by : (o : Option BlockId) → slice_get t.blocks.order n ≡ o → IfSome o (λ x. ¬ WantsCard t x) → Listed t (n + 1) ids
      by (Some x) at h = passed_by x at h
      by None at h = let some = slice_get-get_or t.blocks.order n (record { thread = 0; serial = 0 }) within in cc (at, some)

-- an old block is there
pub old_there : (t : Tables) → IsTable t.blocks → (a : BlockId) → IsTrue (is_old_at t.blocks.blocks a) → IsTrue (among t.blocks.order a)
old_there t table a old = has_among t.blocks.order a ((table.order a).1 (by (get t.blocks.blocks a) old))
  where
    by : (o : Option HeapBlock) → IsTrue (option_map_or (λ (k : HeapBlock). not (nat_lt k.age 3)) o false) → IsSome o
    by None h = cc (h)
    by (Some k) h = refl

-- so the list of all positions has all that want a card
pub all_listed : (t : Tables) (ids : List BlockId) (n : ℕ) → length t.blocks.order ≡ n → IsTable t.blocks → Listed t n ids → (a : BlockId) → IsTrue (among ids a) ↔ WantsCard t a
all_listed t ids n long table listed a = (
  (λ i. ((listed a).0 i).1),
  (λ w. (listed a).1 (ap (λ k. among (take k t.blocks.order) a) (sym long) ∙ ap (λ l. among l a) (take-length t.blocks.order) ∙ old_there t table a w.0, w)),
)

-- the tables after a Reclaim that took these blocks
module _ (t u : Tables) (gone : List BlockId) (keeps : KeepsCards t) (before : IsTable t.blocks) (after : IsTable u.blocks)
    (blocks : (b : BlockId) → get u.blocks.blocks b ≡ cond (among gone b) None (option_map older (get t.blocks.blocks b))) where
  stays : (b : BlockId) → IsFalse (among gone b) → Has t.blocks.order b → Has u.blocks.order b
  stays b out h = (after.order b).1 (subst IsSome (sym (blocks b ∙ ap (λ g. cond g None (option_map older (get t.blocks.blocks b))) out)) (by (get t.blocks.blocks b) ((before.order b).0 h)))
    where
      by : (o : Option HeapBlock) → IsSome o → IsSome (option_map older o)
      by None i = cc (i)
      by (Some k) i = refl

  was_there : (b : BlockId) → Has u.blocks.order b → Has t.blocks.order b
  was_there b h = (before.order b).1 (by (among gone b) (get t.blocks.blocks b) (subst IsSome (blocks b) ((after.order b).0 h)))
    where
      by : (g : Bool) (o : Option HeapBlock) → IsSome (cond g None (option_map older o)) → IsSome o
      by true o i = cc (i)
      by false None i = cc (i)
      by false (Some k) i = refl

  -- no more blocks are there than there were
  pub no_more : length u.blocks.order ≤ length t.blocks.order
  no_more = no_longer u.blocks.order t.blocks.order after.once was_there

  module _ (assocs : u.assocs.pairs ≡ left_by t.assocs.pairs gone) where
    -- edges lead from blocks that are there
    rooted : (a b : BlockId) → Has (edges (graph_of u) a) b → Has u.blocks.order a
    rooted a b e = elim (in_either (map in_word (words_in u.blocks.blocks a)) (map value_of (pairs_of u.assocs.pairs a)) b e) [
      | inl w ↦ (after.order a).1 (by_word (get u.blocks.blocks a) w)
      | inr v ↦ (let found = value_edge u.assocs.pairs a b v in by_value (among gone a) refl found.0 (sym (ap (λ m. get m (a, found.0)) assocs ∙ left_at t.assocs.pairs gone (a, found.0)) ∙ found.1))
    ]
      where
        by_word : (o : Option HeapBlock) → Has (somes (map in_word (option_map_or (λ (k : HeapBlock). k.words) o []))) b → IsSome o
        by_word None h = absurd h
        by_word (Some k) h = refl

        by_value : (g : Bool) → among gone a ≡ g → (key : ℕ) → cond (not (among gone a)) (get t.assocs.pairs (a, key)) None ≡ Some b → Has u.blocks.order a
        by_value true is key at = let none : None ≡ Some b = rw is at at in cc (none)
        by_value false is key at =
            let there : get t.assocs.pairs (a, key) ≡ Some b = rw is at at in
            stays a is (keeps.rooted a b (in_second (map in_word (words_in t.blocks.blocks a)) (map value_of (pairs_of t.assocs.pairs a)) b (edge_value t.assocs.pairs a key b there)))

    -- so they keep what they have to, once exactly those are remembered that want it
    pub remade_collects : u.blocks.room ≡ [] → ((a : BlockId) → IsTrue (among u.cards.list a) ↔ WantsCard u a) → length t.cards.list + t.cards.spare ≤ length u.cards.list + u.cards.spare → Collects u None
    remade_collects none cards more = record {
      cards = record {
        rooted = rooted;
        covered = λ a b o e y. (cards a).1 (o, (b, e, y));
        there = λ a i. among_has u.blocks.order a (old_there u after a ((cards a).0 i).0);
        room = let few = no_more in let was = keeps.room in let e = ap (λ (l : List ℕ). length l) none in omega (arith, few, was, e, more);
      };
      old = λ n a i. ((cards a).0 i).0;
      open_cycle = λ c e. cc (e);
      lent = λ c n room e at. cc (e);
    }

-- a cycle settled over the tables, and then these blocks went
module _ (old mid taken : Tables) (gone : List BlockId) (same : unshaded mid ≡ unshaded old) (keeps : KeepsCards old) (before : IsTable old.blocks) (after : IsTable taken.blocks)
    (blocks : (b : BlockId) → get taken.blocks.blocks b ≡ cond (among gone b) None (option_map older (get mid.blocks.blocks b))) (cards : taken.cards ≡ mid.cards) where
  left : (b : BlockId) → get taken.blocks.blocks b ≡ cond (among gone b) None (option_map older (get old.blocks.blocks b))
  left b = blocks b ∙ ap (λ (t : Tables). cond (among gone b) None (option_map older (get t.blocks.blocks b))) same

  same_room : length taken.cards.list + taken.cards.spare ≡ length old.cards.list + old.cards.spare
  same_room = ap (λ r. length r.list + r.spare) cards ∙ ap (λ (t : Tables). length t.cards.list + t.cards.spare) same

  -- there is room to remember each block that is left
  pub room_for_all : length taken.blocks.order ≤ length taken.cards.list + taken.cards.spare
  room_for_all = let few = no_more old taken gone keeps before after left in let was = keeps.room in let e = same_room in omega (arith, few, was, e)

  -- exactly those are remembered that want it
  pub reclaimed_collects : (new : Tables) → taken.assocs.pairs ≡ left_by mid.assocs.pairs gone → taken.blocks.room ≡ [] → new ≡ record taken { cards = new.cards }
      → ((a : BlockId) → IsTrue (among new.cards.list a) ↔ WantsCard taken a) → length taken.cards.list + taken.cards.spare ≤ length new.cards.list + new.cards.spare → Collects new None
  reclaimed_collects new assocs none is anew more =
      subst (λ x. Collects x None) (sym is)
      (remade_collects old (record taken { cards = new.cards }) gone keeps before after left (assocs ∙ ap (λ (t : Tables). left_by t.assocs.pairs gone) same) none anew (let e = same_room in omega (arith, e, more)))
