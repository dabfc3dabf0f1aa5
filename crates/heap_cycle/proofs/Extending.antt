-- A change of tables that adds no edges but those that were told keeps what tables and an open cycle keep
use Rattle.std.proofs.Common.{◌≡◌, ◌≢◌, ◌≤◌, ◌+◌, Bool, cond, List, [], ◌∷◌, Option, Some, None, IsTrue, count_by, find, length, take, refl, sym, ap, subst, ◌∙◌, ◌⊎◌, inl, inr, arith}
use Rattle.az_base.specs.declared.action.Mode.{Mode}
use Rattle.az_base.specs.declared.action.Mode.TheVariants as mode
use Rattle.az_base.specs.declared.block_id.BlockId.{BlockId}
use Rattle.az_base.specs.Ids.{among}
use Rattle.quantum_space.specs.declared.shade.Shade.TheVariants as shade
use Rattle.quantum_space.specs.Shapes.{Has, Shades, edges}
use Rattle.quantum_space.proofs.Lists.{count_same, has_among}
use Rattle.gen_marker.specs.Marking.{Marking, Tracks, in_scope, is_white}
use Rattle.gen_marker.specs.Tight.{IsClosed, Tight}
use Rattle.finalise_pass.specs.Finalisers.{awaits}
use Rattle.finalise_pass.specs.Passing.{Passing}
use Rattle.zone_model.specs.Room.{WithRoom}
use Rattle.block_table.specs.Table.{is_young_at}
use Rattle.heap_tables.specs.Graphs.{graph_of, shades_of}
use Rattle.heap_tables.specs.Running.{finals_of}
use Rattle.heap_tables.specs.declared.tables.Tables.{Tables}
use Rattle.heap_cycle.specs.Barriers.{IsLive, IsWatched}
use Rattle.heap_cycle.specs.Collects.{Collects, KeepsCards, KeepsPhase, Marks, Settles, condemned_at, is_old_at, start_of}
use Rattle.heap_cycle.specs.Waiting.{awaits_in}
use Rattle.heap_cycle.specs.declared.open_cycle.OpenCycle.{OpenCycle}
use Rattle.heap_cycle.specs.declared.open_cycle.Phase.{Phase}
use Rattle.heap_cycle.specs.declared.open_cycle.Phase.TheVariants as phase
use Rattle.heap_cycle.proofs.Joined.{front_has}

-- an edge from a to b was told; it is watched as the tables are after the change, with a block that came in behind the start
pub record Told (t u : Tables) (o : Option OpenCycle) (a b : BlockId) : Type 0 where
  pub live : IsLive t o b
  pub watched : IsWatched u o a b
  pub there : Has u.blocks.order a

-- what was watched still is, where the same blocks are old, and who was remembered still is
pub watched_later : (t u : Tables) (o : Option OpenCycle) (a b : BlockId) → ((x : BlockId) → is_old_at u.blocks.blocks x ≡ is_old_at t.blocks.blocks x) → u.cards.list ≡ t.cards.list
    → (Has (graph_of t).remembered a → Has (graph_of u).remembered a) → IsWatched t o a b → IsWatched u o a b
watched_later t u o a b old cards later w = record {
  covered = λ oa yb. ap (λ l. among l a) cards ∙ w.covered (sym (old a) ∙ oa) (sym (old b) ∙ yb);
  condemned = λ c r is at out i. later (w.condemned c r is at out i);
}

-- the start and the cards stay as they are with all that is noted of their blocks, blocks may have come in behind them, and each edge was there or was told
pub record Extends (t u : Tables) (o : Option OpenCycle) : Type 0 where
  pub start : start_of u ≡ start_of t
  pub order : (a : BlockId) → Has t.blocks.order a → Has u.blocks.order a
  pub later : (a : BlockId) → Has (graph_of t).remembered a → Has (graph_of u).remembered a
  pub cards : u.cards.list ≡ t.cards.list
  pub shades : (b : BlockId) → Has (start_of t) b → shades_of u b ≡ shades_of t b
  pub young : (b : BlockId) → Has (start_of t) b → is_young_at u.blocks.blocks b ≡ is_young_at t.blocks.blocks b
  pub old : (b : BlockId) → is_old_at u.blocks.blocks b ≡ is_old_at t.blocks.blocks b
  pub waits : (b : BlockId) → Has (start_of t) b → awaits_in u.blocks.blocks b ≡ awaits_in t.blocks.blocks b
  pub finals : (b : BlockId) → Has (start_of t) b → awaits (finals_of u) b ≡ awaits (finals_of t) b
  pub room : length u.blocks.order + length u.blocks.room ≤ length u.cards.list + u.cards.spare
  pub edge : (a b : BlockId) → Has (edges (graph_of u) a) b → Has (edges (graph_of t) a) b ⊎ Told t u o a b

-- a search that asks the same of each block finds the same
find_alike : (f g : BlockId → Bool) (xs : List BlockId) → ((b : BlockId) → Has xs b → g b ≡ f b) → find g xs ≡ find f xs
find_alike f g [] same = refl
find_alike f g (x ∷ xs) same = ap (λ t. cond t (Some x) (find g xs)) (same x (inl refl)) ∙ ap (cond (f x) (Some x)) (find_alike f g xs (λ b h. same b (inr h)))

-- a marker tracks what has the same shades
tracks_alike : (m : Marking) (xs : List BlockId) (f g : Shades) → ((b : BlockId) → Has xs b → g b ≡ f b) → Tracks m xs f → Tracks m xs g
tracks_alike m xs f g same k = record {
  apart = k.apart;
  grey = λ b h e. k.grey b h (sym (same b h) ∙ e);
  block = k.block;
  each = λ b h. same b (k.block b h) ∙ k.each b h;
  once = k.once;
  room = subst (λ n. n + length m.grey ≤ m.room) (sym (count_same (λ b. is_white (g b)) (λ b. is_white (f b)) xs (λ b h. ap is_white (same b h)))) k.room;
}

module _ (t u : Tables) (o : Option OpenCycle) (x : Extends t u o) where
  start_has : (b : BlockId) → Has (start_of u) b → Has (start_of t) b
  start_has b h = subst (λ l. Has l b) x.start h

  start_still : (b : BlockId) → Has (start_of t) b → Has (start_of u) b
  start_still b h = subst (λ l. Has l b) (sym x.start) h

  scope_same : (m : Mode) (b : BlockId) → Has (start_of t) b → in_scope m (graph_of u) b ≡ in_scope m (graph_of t) b
  scope_same mode.Full b h = refl
  scope_same mode.Young b h = x.young b h

  carded : (a : BlockId) → IsTrue (among t.cards.list a) → IsTrue (among u.cards.list a)
  carded a i = ap (λ l. among l a) x.cards ∙ i

  cards_on : KeepsCards t → KeepsCards u
  cards_on k = record {
    rooted = λ a b e. elim (x.edge a b e) [ inl was ↦ x.order a (k.rooted a b was) | inr told ↦ told.there ];
    covered = λ a b old e young. elim (x.edge a b e) [
      | inl was ↦ carded a (k.covered a b (sym (x.old a) ∙ old) was (sym (x.old b) ∙ young))
      | inr told ↦ told.watched.covered old young
    ];
    there = λ a i. x.order a (k.there a (sym (ap (λ l. among l a) x.cards) ∙ i));
    room = x.room;
  }

  module _ (c : OpenCycle) (is : o ≡ Some c) where
    tight_on : (m : Mode) → condemned_at c.phase ≡ None → Tight m (graph_of t) (shades_of t) → Tight m (graph_of u) (shades_of u)
    tight_on m fresh k = record { dark = go }
      where
        closed : (a : BlockId) → IsClosed m (graph_of u) (shades_of u) a → IsClosed m (graph_of t) (shades_of t) a
        closed a (inl n) = inl (λ h. n (start_still a h))
        closed a (inr (h, inl black)) = inr (start_has a h, inl (sym (x.shades a (start_has a h)) ∙ black))
        closed a (inr (h, inr (white, out))) = inr (start_has a h, inr (sym (x.shades a (start_has a h)) ∙ white, sym (scope_same m a (start_has a h)) ∙ out))

        go : (a b : BlockId) → IsClosed m (graph_of u) (shades_of u) a → Has (edges (graph_of u) a) b → Has (graph_of u).blocks b → IsTrue (in_scope m (graph_of u) b) → shades_of u b ≢ shade.White
        go a b k2 e hb sb = λ w. elim (x.edge a b e) [
          | inl was ↦ k.dark a b (closed a k2) was (start_has b hb) (sym (scope_same m b (start_has b hb)) ∙ sb) (sym (x.shades b (start_has b hb)) ∙ w)
          | inr told ↦ told.live c is fresh (start_has b hb) (sym (x.shades b (start_has b hb)) ∙ w)
        ]

    marks_still : (m : Marking) (reply kept : WithRoom) → condemned_at c.phase ≡ None → Marks t c m reply kept → Marks u c m reply kept
    marks_still m reply kept fresh k = record {
      mode = k.mode;
      tracks = subst (λ l. Tracks m l (shades_of u)) (sym x.start) (tracks_alike m (start_of t) (shades_of t) (shades_of u) x.shades k.tracks);
      tight = tight_on c.mode fresh k.tight;
      left =
          let same : count_by (awaits_in u.blocks.blocks) (start_of u) ≡ count_by (awaits_in t.blocks.blocks) (start_of t) = ap (count_by (awaits_in u.blocks.blocks)) x.start ∙ count_same (awaits_in u.blocks.blocks) (awaits_in t.blocks.blocks) (start_of t) x.waits in
          let was = k.left in omega (arith, same, was);
      empty = k.empty;
      reply_room = subst (λ l. length l ≤ reply.spare) (sym x.start) k.reply_room;
      kept_room = subst (λ l. length l ≤ kept.spare) (sym x.start) k.kept_room;
    }

    settles_still : (p : Passing) → condemned_at c.phase ≡ Some p.condemned → Settles t c p → Settles u c p
    settles_still p condemned k = record {
      ascending = k.ascending;
      passed = find_alike (awaits (finals_of t)) (awaits (finals_of u)) (take p.passed p.condemned) (λ b h. x.finals b (inner b (front_has p.passed p.condemned b h))) ∙ k.passed;
      within = λ b i. start_still b (k.within b i);
      scope = λ b i. scope_same c.mode b (k.within b i) ∙ k.scope b i;
      watched = λ a b out i e. elim (x.edge a b e) [
        | inl was ↦ x.later a (k.watched a b out i was)
        | inr told ↦ told.watched.condemned c p.condemned is condemned out i
      ];
      left = count_same (awaits_in u.blocks.blocks) (awaits_in t.blocks.blocks) p.condemned (λ b h. x.waits b (inner b h)) ∙ k.left;
    }
      where
        inner : (b : BlockId) → Has p.condemned b → Has (start_of t) b
        inner b h = k.within b (has_among p.condemned b h)

    phase_still : (p : Phase) → c.phase ≡ p → KeepsPhase t c p → KeepsPhase u c p
    phase_still (phase.Marking m reply kept) e k = marks_still m reply kept (ap condemned_at e) k
    phase_still (phase.Settling p) e k = settles_still p (ap condemned_at e) k

  -- so tables and cycle keep what they have to
  pub extended_collects : Collects t o → Collects u o
  extended_collects k = record {
    cards = cards_on k.cards;
    old = λ n a i. x.old a ∙ k.old n a (sym (ap (λ l. among l a) x.cards) ∙ i);
    open_cycle = λ c e. phase_still c e c.phase refl (k.open_cycle c e);
    lent = λ c n room e at. let given = k.lent c n room e at in (given.0, subst (λ l. length l ≤ room.spare) (sym x.start) given.1);
  }
