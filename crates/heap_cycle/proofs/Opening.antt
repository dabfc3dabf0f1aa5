-- What opens a cycle over the tables
use Rattle.std.proofs.Common.{◌≡◌, ◌≤◌, ℕ, List, [], Some, None, IsTrue, length, count_by, slice_get, refl, sym, ap, subst, ◌∙◌, arith}
use Rattle.az_base.specs.declared.action.Mode.{Mode}
use Rattle.az_base.specs.declared.block_id.BlockId.{BlockId}
use Rattle.az_base.specs.Ids.{among}
use Rattle.quantum_space.specs.Shapes.{Shape}
use Rattle.gen_marker.specs.Marking.{Begun, Marking, Tracks}
use Rattle.gen_marker.specs.Tight.{Tight}
use Rattle.zone_model.specs.Room.{WithRoom}
use Rattle.block_table.specs.Table.{IsTable, Table}
use Rattle.heap_tables.specs.Graphs.{graph_of, shades_of}
use Rattle.heap_tables.specs.Unshaded.{unshaded}
use Rattle.heap_tables.specs.declared.tables.Tables.{Tables}
use Rattle.heap_cycle.specs.Collects.{Collects, KeepsCards, KeepsPhase, OldCards, is_old_at, start_of}
use Rattle.heap_cycle.specs.Phases.{IsOpened, at_begin}
use Rattle.heap_cycle.specs.Waiting.{awaits_in, unfinalised_by, waits}
use Rattle.heap_cycle.specs.declared.open_cycle.CycleLists.{CycleLists}
use Rattle.heap_cycle.specs.declared.open_cycle.OpenCycle.{OpenCycle}
use Rattle.heap_cycle.specs.declared.open_cycle.Phase.TheVariants as phase
use Rattle.heap_cycle.proofs.Bare.{cards_begun, cards_unshaded}
use Rattle.heap_cycle.proofs.Starting.{start_all, tight_at_begin}
use Rattle.heap_cycle.proofs.Counting.{no_more_listed}

-- no more blocks of the start wait than of the tables
few_wait : (t : Tables) → IsTable t.blocks → t.blocks.began ≡ length t.blocks.order → KeepsCards t → count_by (awaits_in t.blocks.blocks) (start_of t) ≤ unfinalised_by t.blocks.blocks
few_wait t table all keeps =
    let is = start_all t table keeps all in
    subst (λ l. count_by (awaits_in t.blocks.blocks) l ≤ unfinalised_by t.blocks.blocks) (sym is) (no_more_listed waits t.blocks.blocks t.blocks.order table.once (λ b h. (table.order b).0 h))

-- a marker has begun over the tables, and a cycle has it and the lists
module _ (old new : Tables) (b : Table) (mode : Mode) (owner left n : ℕ) (lists : CycleLists) (m : Marking) (o : OpenCycle) (collects : Collects old None) (foreseen : unfinalised_by old.blocks.blocks ≤ left)
    (begins : b ≡ (at_begin old).blocks) (table : IsTable b) (count : n ≡ length b.order) (reply : (lists.reply.list ≡ []) × (n ≤ lists.reply.spare)) (kept : n ≤ lists.kept.spare) (three : length lists.lent.items ≡ 3)
    (lent : (k : ℕ) (room : WithRoom) → slice_get lists.lent.items k ≡ Some room → (room.list ≡ []) × (n ≤ room.spare))
    (rest : unshaded new ≡ unshaded (let t : Tables = record old { blocks = b } in t)) (begun : Begun mode (graph_of (let t : Tables = record old { blocks = b } in t)) (shades_of (let t : Tables = record old { blocks = b } in t)) (shades_of new))
    (tracks : Tracks m (graph_of new).blocks (shades_of new)) (mode_is : m.mode ≡ mode) (is : o ≡ record { owner = owner; mode = mode; left = left; lent = lists.lent; phase = phase.Marking m lists.reply lists.kept }) where
  began : Tables
  began = record old { blocks = b }

  began_is : began ≡ at_begin old
  unfolding began
  began_is = ap (λ x. let t : Tables = record old { blocks = x } in t) begins

  same : unshaded new ≡ unshaded (at_begin old)
  unfolding began
  same = rest ∙ ap unshaded began_is

  shape : graph_of new ≡ graph_of (at_begin old)
  shape = ap graph_of same

  table_begun : IsTable (at_begin old).blocks
  table_begun = subst IsTable begins table

  cards : KeepsCards (at_begin old)
  cards = cards_begun old collects.cards

  begun_new : Begun mode (graph_of new) (shades_of old) (shades_of new)
  unfolding began
  begun_new = subst (λ (s : Shape). Begun mode s (shades_of old) (shades_of new)) (sym shape) (subst (λ (t : Tables). Begun mode (graph_of t) (shades_of t) (shades_of new)) began_is begun)

  all : start_of new ≡ old.blocks.order
  all = ap start_of same ∙ start_all (at_begin old) table_begun cards refl

  long : length (start_of new) ≡ n
  long = ap (λ (l : List BlockId). length l) all ∙ sym (count ∙ ap (λ (x : Table). length x.order) begins)

  within : (k : ℕ) → n ≤ k → length (start_of new) ≤ k
  within k h = subst (λ x. x ≤ k) (sym long) h

  tight : Tight mode (graph_of new) (shades_of new)
  tight = subst (λ (s : Shape). Tight mode s (shades_of new)) (sym shape) (tight_at_begin (at_begin old) table_begun cards refl mode (shades_of old) (shades_of new) (subst (λ (s : Shape). Begun mode s (shades_of old) (shades_of new)) shape begun_new))

  few : count_by (awaits_in new.blocks.blocks) (start_of new) ≤ left
  few =
      let a = few_wait (at_begin old) table_begun refl cards in
      let e : count_by (awaits_in new.blocks.blocks) (start_of new) ≡ count_by (awaits_in old.blocks.blocks) (start_of (at_begin old)) = ap (λ (t : Tables). count_by (awaits_in t.blocks.blocks) (start_of t)) same in
      omega (arith, a, e, foreseen)

  -- so it is open
  pub is_opened : IsOpened old new mode o
  is_opened = subst (IsOpened old new mode) (sym is) (record {
    tables = same;
    begun = begun_new;
    marks = record { mode = mode_is; tracks = tracks; tight = tight; left = few; empty = reply.0; reply_room = within lists.reply.spare reply.1; kept_room = within lists.kept.spare kept };
    fresh = refl;
    rooms = three;
    lent = λ k room at. let r = lent k room at in (r.0, within room.spare r.1);
  })

some_same : {X : Type 0} (x y : X) → Some x ≡ Some y → x ≡ y
some_same x y e = cc

-- a cycle that has opened over the tables
module _ (old new : Tables) (mode : Mode) (o : OpenCycle) (keeps : KeepsCards old) (old_cards : OldCards old None) (is : IsOpened old new mode o) where
  pub new_cards : KeepsCards new
  new_cards = cards_unshaded (at_begin old) new is.tables (cards_begun old keeps)

  pub all_began : new.blocks.began ≡ length new.blocks.order
  all_began = ap (λ (t : Tables). t.blocks.began) is.tables ∙ sym (ap (λ (t : Tables). length t.blocks.order) is.tables)

  pub cards_same : new.cards.list ≡ old.cards.list
  cards_same = ap (λ (t : Tables). t.cards.list) is.tables

  pub blocks_same : new.blocks.blocks ≡ old.blocks.blocks
  blocks_same = ap (λ (t : Tables). t.blocks.blocks) is.tables

  pub still_old : (a : BlockId) → IsTrue (among new.cards.list a) → IsTrue (is_old_at new.blocks.blocks a)
  still_old a i = ap (λ m. is_old_at m a) blocks_same ∙ old_cards refl a (sym (ap (λ l. among l a) cards_same) ∙ i)

  -- the tables keep what they have to with it
  pub opened_collects : Collects new (Some o)
  opened_collects = record {
    cards = new_cards;
    old = λ n a i. still_old a i;
    open_cycle = λ c e. subst (λ (x : OpenCycle). KeepsPhase new x x.phase) (some_same o c e) is.marks;
    lent = λ c n room e at. is.lent n room (ap (λ (x : OpenCycle). slice_get x.lent.items n) (some_same o c e) ∙ at);
  }
