-- What remembering a block makes of the tables
use Rattle.std.proofs.Common.{◌≡◌, ◌<◌, ◌≤◌, ◌+◌, ◌||◌, Bool, true, false, List, [], ◌∷◌, Option, Some, None, IsTrue, IsFalse, count_by, length, drop, refl, sym, ap, subst, ◌∙◌, ◌⊎◌, inl, inr, arith}
use Rattle.std.proofs.lemmas.Grind.{common_steps}
use Rattle.std.specs.Option.{option_map_or}
use Rattle.std.specs.List.Sorted.{IsStrictlySortedBy}
use Rattle.std.specs.declared.cmp.Ordering.{Ordering}
use Rattle.std.specs.declared.cmp.Ordering.TheVariants.{Less, Equal, Greater}
use Rattle.std.specs.Ordering.{is_eq}
use Rattle.az_base.specs.declared.action.Mode.{Mode}
use Rattle.az_base.specs.declared.action.Mode.TheVariants as mode
use Rattle.az_base.specs.declared.block_id.BlockId.{BlockId}
use Rattle.az_base.specs.Ids.{among, exact_ids, id_cmp, same_id}
use Rattle.quantum_space.specs.Shapes.{Has, Once}
use Rattle.quantum_space.proofs.Lists.{among_has, count_within, has_among, has_or_not, in_front, itself, once_sorted, same_is}
use Rattle.gen_marker.specs.Marking.{in_scope}
use Rattle.gen_marker.specs.Tight.{Tight}
use Rattle.gen_marker.proofs.Tight.{tight_changed}
use Rattle.write_barrier.specs.Barrier.{IsSettling}
use Rattle.write_barrier.specs.declared.effects.Phase as barrier
use Rattle.write_barrier.specs.Remembered.{Remembered, placed, with_block}
use Rattle.heap_tables.specs.Graphs.{graph_of, shades_of}
use Rattle.heap_tables.specs.declared.tables.Tables.{Tables}
use Rattle.heap_cycle.specs.Barriers.{IsWatched, Remembers, phase_seen, seen_by_barrier}
use Rattle.heap_cycle.specs.Collects.{Collects, KeepsCards, KeepsPhase, condemned_at, is_old_at}
use Rattle.heap_cycle.specs.declared.open_cycle.OpenCycle.{OpenCycle}
use Rattle.heap_cycle.specs.declared.open_cycle.Phase.{Phase}
use Rattle.heap_cycle.specs.declared.open_cycle.Phase.TheVariants as phase
use Rattle.heap_cycle.proofs.Joined.{at_back, in_either}

count_all : (xs : List BlockId) → count_by (λ b. true) xs ≡ length xs
count_all [] = refl
count_all (x ∷ xs) = let rest = count_all xs in grind (arith, common_steps, rest)

-- a list without repeats is no longer than one in which all of it stands
no_longer : (xs ys : List BlockId) → Once xs → ((b : BlockId) → Has xs b → Has ys b) → length xs ≤ length ys
no_longer xs ys once within = let few = count_within (λ b. true) xs ys once (λ b h e. within b h) in let all = count_all xs in omega (arith, few, all)

-- there is room to remember a block of the tables
pub room_for : (t : Tables) → KeepsCards t → IsStrictlySortedBy id_cmp t.cards.list → (a : BlockId) → Has t.blocks.order a → (0 < t.cards.spare) ⊎ IsTrue (among t.cards.list a)
room_for t k sorted a there = by (has_or_not t.cards.list a)
  where
    by : Has t.cards.list a ⊎ (¬ Has t.cards.list a) → (0 < t.cards.spare) ⊎ IsTrue (among t.cards.list a)
    by (inl h) = inr (has_among t.cards.list a h)
    by (inr new) =
        let few = no_longer (a ∷ t.cards.list) t.blocks.order (new, once_sorted t.cards.list sorted) within in
        let room = k.room in
        inl (omega (arith, few, room))
      where
        within : (b : BlockId) → Has (a ∷ t.cards.list) b → Has t.blocks.order b
        within b (inl e) = subst (Has t.blocks.order) e there
        within b (inr h) = k.there b (has_among t.cards.list b h)

-- the list with the block has it, and what was there, and nothing else
with_among : (a b : BlockId) (xs : List BlockId) → among (with_block a xs) b ≡ (same_id b a || among xs b)
with_among a b [] = refl
with_among a b (x ∷ xs) = by (id_cmp a x) refl (with_among a b xs)
  where
    again : (p q : Bool) → (p || q) ≡ (p || (p || q))
    again true q = refl
    again false q = refl

    swap : (p q r : Bool) → (p || (q || r)) ≡ (q || (p || r))
    swap true true r = refl
    swap true false r = refl
    swap false true r = refl
    swap false false r = refl

    by : (r : Ordering) → id_cmp a x ≡ r → among (with_block a xs) b ≡ (same_id b a || among xs b) → among (placed r a x xs (with_block a xs)) b ≡ (same_id b a || (same_id b x || among xs b))
    by Less e rest = refl
    by Equal e rest = again (same_id b x) (among xs b) ∙ ap (λ y. same_id b y || (same_id b x || among xs b)) (sym (exact_ids a x e))
    by Greater e rest = ap (λ t. same_id b x || t) rest ∙ swap (same_id b x) (same_id b a) (among xs b)

-- it is longer by one where the block is new
with_longer : (a : BlockId) (xs : List BlockId) → among xs a ≡ false → length (with_block a xs) ≡ length xs + 1
with_longer a [] new = refl
with_longer a (x ∷ xs) new = by (id_cmp a x) refl (with_longer a xs)
  where
    second : (p q : Bool) → (p || q) ≡ false → q ≡ false
    second true q e = cc (e)
    second false q e = e

    by : (r : Ordering) → id_cmp a x ≡ r → (among xs a ≡ false → length (with_block a xs) ≡ length xs + 1) → length (placed r a x xs (with_block a xs)) ≡ length (x ∷ xs) + 1
    by Less e rest = omega arith
    by Equal e rest = let clash : true ≡ false = sym (ap (λ r. is_eq r || among xs a) e) ∙ new in cc (clash)
    by Greater e rest = let r = rest (second (same_id a x) (among xs a) new) in omega (arith, r)

-- cards as they are once a block is remembered
pub record WithCard (old new : Remembered) (a : BlockId) : Type 0 where
  pub list : new.list ≡ with_block a old.list
  pub added : IsFalse (among old.list a) → new.spare + 1 ≡ old.spare
  pub there : IsTrue (among old.list a) → new ≡ old

module _ (t : Tables) (new : Remembered) (a : BlockId) (is : WithCard t.cards new a) where
  abbrev carded : Tables
  carded = record t { cards = new }

  among_now : (b : BlockId) → among new.list b ≡ (same_id b a || among t.cards.list b)
  among_now b = ap (λ l. among l b) is.list ∙ with_among a b t.cards.list

  still : (b : BlockId) → IsTrue (among t.cards.list b) → IsTrue (among new.list b)
  still b i = among_now b ∙ by (same_id b a) (among t.cards.list b) i
    where
      by : (p q : Bool) → q ≡ true → (p || q) ≡ true
      by true q e = refl
      by false q e = e

  fewer : (b : BlockId) → IsTrue (among new.list b) → IsTrue (among t.cards.list b) ⊎ (b ≡ a)
  fewer b i = by (same_id b a) refl (sym (among_now b) ∙ i)
    where
      by : (p : Bool) → same_id b a ≡ p → (p || among t.cards.list b) ≡ true → IsTrue (among t.cards.list b) ⊎ (b ≡ a)
      by true e h = inr (same_is b a e)
      by false e h = inl h

  -- the block is remembered now
  pub remembered : IsTrue (among new.list a)
  remembered = among_now a ∙ ap (λ p. p || among t.cards.list a) (itself a)

  pub remembers : Remembers t carded a
  remembers = record { still = still; fewer = fewer }

  -- as many can be remembered as before
  as_many : length t.cards.list + t.cards.spare ≤ length new.list + new.spare
  as_many = by (among t.cards.list a) refl
    where
      by : (p : Bool) → among t.cards.list a ≡ p → length t.cards.list + t.cards.spare ≤ length new.list + new.spare
      by true e = subst (λ (r : Remembered). length t.cards.list + t.cards.spare ≤ length r.list + r.spare) (sym (is.there e)) (omega arith)
      by false e =
          let long : length new.list ≡ length t.cards.list + 1 = ap length is.list ∙ with_longer a t.cards.list e in
          let less = is.added e in
          omega (arith, long, less)

  watched_still : (x : BlockId) → Has (graph_of t).remembered x → Has (graph_of carded).remembered x
  watched_still x h = elim (in_either t.cards.list behind x h) [
    | inl card ↦ in_front new.list behind x (among_has new.list x (still x (has_among t.cards.list x card)))
    | inr late ↦ at_back new.list behind x late
  ]
    where
      behind : List BlockId
      behind = drop t.blocks.began t.blocks.order

  scope_same : (m : Mode) (b : BlockId) → in_scope m (graph_of carded) b ≡ in_scope m (graph_of t) b
  scope_same mode.Full b = refl
  scope_same mode.Young b = refl

  tight_still : (m : Mode) → Tight m (graph_of t) (shades_of t) → Tight m (graph_of carded) (shades_of t)
  tight_still m k = tight_changed m (graph_of t) (graph_of carded) [] (shades_of t) (shades_of t) (record { blocks = refl; young = λ x h. refl; edge = λ x y e. inl e }) (record { done = λ b h. absurd h.0; same = λ b. inl refl }) k

  phase_still : (c : OpenCycle) (p : Phase) → KeepsPhase t c p → KeepsPhase carded c p
  phase_still c (phase.Marking m reply kept) k = record { mode = k.mode; tracks = k.tracks; tight = tight_still c.mode k.tight; left = k.left; empty = k.empty; reply_room = k.reply_room; kept_room = k.kept_room }
  phase_still c (phase.Settling p) k =
      record { ascending = k.ascending; passed = k.passed; within = k.within; scope = λ b i. scope_same c.mode b ∙ k.scope b i; watched = λ x y out i e. watched_still x (k.watched x y out i e); left = k.left }

  -- the tables keep what they have to, where the block is of the tables, and old until a cycle is condemned
  pub remembered_collects : (o : Option OpenCycle) → Has t.blocks.order a → (option_map_or (λ o. condemned_at o.phase) o None ≡ None → IsTrue (is_old_at t.blocks.blocks a)) → Collects t o → Collects carded o
  remembered_collects o there old k = record {
    cards = record {
      rooted = k.cards.rooted;
      covered = λ x y ox e yy. still x (k.cards.covered x y ox e yy);
      there = λ x i. elim (fewer x i) [ inl was ↦ k.cards.there x was | inr e ↦ subst (Has t.blocks.order) (sym e) there ];
      room = let had = k.cards.room in let now = as_many in omega (arith, had, now);
    };
    old = λ none x i. elim (fewer x i) [ inl was ↦ k.old none x was | inr e ↦ subst (λ y. IsTrue (is_old_at t.blocks.blocks y)) (sym e) (old none) ];
    open_cycle = λ c e. phase_still c c.phase (k.open_cycle c e);
    lent = k.lent;
  }

  -- each edge from it is watched
  pub remembered_watched : (o : Option OpenCycle) (b : BlockId) → IsWatched carded o a b
  remembered_watched o b = record {
    covered = λ old young. remembered;
    condemned = λ c r is at out i. in_front new.list (drop t.blocks.began t.blocks.order) a (among_has new.list a remembered);
  }

-- where the barrier wants a block remembered that is an old one, or a cycle is condemned
pub wanted_old : (t : Tables) (o : Option OpenCycle) (a : BlockId) (s : barrier.Phase) (old : Bool) {X Y : Type 0} → s ≡ seen_by_barrier o → old ≡ is_old_at t.blocks.blocks a
    → (IsTrue old × X) ⊎ (IsSettling s × Y) → option_map_or (λ o. condemned_at o.phase) o None ≡ None → IsTrue (is_old_at t.blocks.blocks a)
wanted_old t o a s old seen is (inl w) none = sym is ∙ w.0
wanted_old t o a s old seen is (inr w) none = absurd (by o none (subst IsSettling seen w.0))
  where
    by : (o : Option OpenCycle) → option_map_or (λ o. condemned_at o.phase) o None ≡ None → ¬ IsSettling (seen_by_barrier o)
    by None none settling = settling
    by (Some c) none settling = at c.phase none settling
      where
        at : (p : Phase) → condemned_at p ≡ None → ¬ IsSettling (phase_seen c.mode p)
        at (phase.Marking m reply kept) none settling = settling
        at (phase.Settling p) none settling = cc (none)
