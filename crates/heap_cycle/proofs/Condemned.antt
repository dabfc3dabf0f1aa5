-- What a Condemn over the tables makes
use Rattle.std.proofs.Common.{◌≡◌, ◌<◌, ◌≤◌, ◌&&◌, ◌^◌, Bool, true, false, Some, None, List, IsTrue, count_by, filter, length, slice_get, length-take, refl, sym, ap, subst, ◌∙◌, arith}
use Rattle.std.specs.List.Sorted.{IsStrictlySortedBy}
use Rattle.az_base.specs.declared.action.Mode.{Mode}
use Rattle.az_base.specs.declared.block_id.BlockId.{BlockId}
use Rattle.az_base.specs.Ids.{among, id_cmp}
use Rattle.quantum_space.specs.Shapes.{Has, Shades, Shape, edges}
use Rattle.quantum_space.proofs.Lists.{among_has, has_among, has_filter, once_sorted}
use Rattle.gen_marker.specs.Marking.{Finishes, Marking, NoGrey, Shut, in_scope, is_left, is_white}
use Rattle.gen_marker.specs.Tight.{Tight}
use Rattle.gen_marker.proofs.Tight.{tight_darker}
use Rattle.finalise_pass.specs.Finalisers.{Finalisers}
use Rattle.finalise_pass.specs.Passing.{HasPassed, Passing}
use Rattle.zone_model.specs.Room.{WithRoom}
use Rattle.block_table.specs.Table.{IsTable}
use Rattle.cycle_laws.proofs.Settled.{nothing_leads_in}
use Rattle.heap_tables.specs.Graphs.{graph_of, shades_of}
use Rattle.heap_tables.specs.Running.{finals_of}
use Rattle.heap_tables.specs.Unshaded.{unshaded}
use Rattle.heap_tables.specs.declared.tables.Tables.{Tables}
use Rattle.heap_cycle.specs.Collects.{Collects, KeepsPhase, Marks, Settles, condemned_at, shades_at, start_of}
use Rattle.heap_cycle.specs.Phases.{IsCondemned}
use Rattle.heap_cycle.specs.Waiting.{awaits_in}
use Rattle.heap_cycle.specs.declared.open_cycle.OpenCycle.{OpenCycle}
use Rattle.heap_cycle.specs.declared.open_cycle.Phase.TheVariants as phase
use Rattle.heap_cycle.proofs.Bare.{cards_unshaded}
use Rattle.heap_cycle.proofs.Counting.{fewer_pass, no_more}

second : (a b : Bool) → (a && b) ≡ true → b ≡ true
second true b h = h
second false b h = cc (h)

-- what a finish leaves is of the start, and in scope
pub left_within : (m : Mode) (t : Tables) (f : Shades) (r : List BlockId) → ((b : BlockId) → among r b ≡ among (filter (is_left m (graph_of t) f) (start_of t)) b)
    → (b : BlockId) → IsTrue (among r b) → Has (start_of t) b × IsTrue (in_scope m (graph_of t) b)
left_within m t f r ids b i =
    let kept = has_filter (is_left m (graph_of t) f) (start_of t) b (among_has (filter (is_left m (graph_of t) f) (start_of t)) b (sym (ids b) ∙ i)) in
    (kept.0, second (is_white (f b)) (in_scope m (graph_of t) b) kept.1)

-- a marker came to its end over the tables, and left these
module _ (old new : Tables) (before : OpenCycle) (m : Marking) (reply kept : WithRoom) (r : List BlockId) (collects : Collects old (Some before)) (marking : before.phase ≡ phase.Marking m reply kept) (sorted : IsStrictlySortedBy id_cmp r)
    (left : (b : BlockId) → among r b ≡ among (filter (is_left m.mode (graph_of old) (shades_of new)) (start_of old)) b) where
  k : Marks old before m reply kept
  k = subst (KeepsPhase old before) marking (collects.open_cycle before refl)

  ids : (b : BlockId) → among r b ≡ among (filter (is_left before.mode (graph_of old) (shades_of new)) (start_of old)) b
  ids b = subst (λ v. among r b ≡ among (filter (is_left v (graph_of old) (shades_of new)) (start_of old)) b) k.mode (left b)

  within : (b : BlockId) → IsTrue (among r b) → Has (start_of old) b × IsTrue (in_scope before.mode (graph_of old) b)
  within b i = left_within before.mode old (shades_of new) r ids b i

  here : (b : BlockId) → Has r b → IsTrue (among (start_of old) b)
  here b h = has_among (start_of old) b (within b (has_among r b h)).0

  -- they are no more than the start has
  pub few_left : length r ≤ length (start_of old)
  few_left = no_more r (start_of old) (once_sorted r sorted) here

  pub few_in_table : IsTable old.blocks → length r < 2 ^ 32
  few_in_table table = let a = few_left in let b = length-take old.blocks.began old.blocks.order in let c = table.few in omega (arith, a, b, c)

  pub reply_fits : length r ≤ reply.spare
  reply_fits = let a = few_left in let b = k.reply_room in omega (arith, a, b)

  pub kept_fits : length r ≤ kept.spare
  kept_fits = let a = few_left in let b = k.kept_room in omega (arith, a, b)

  module _ (after : OpenCycle) (p : Passing) (same : unshaded new ≡ unshaded old) (fin : Finishes m.mode (graph_of old) (shades_of old) (shades_of new)) (shut : Shut m.mode (graph_of new) (shades_of new)) (none : NoGrey (start_of new) (shades_of new))
      (condemned : p.condemned ≡ r) (passed : (f : Finalisers) → HasPassed p f) (waiting : after.left ≡ count_by (awaits_in new.blocks.blocks) r) (is : after ≡ record before { left = after.left; phase = phase.Settling p }) where
    phase_is : after.phase ≡ phase.Settling p
    phase_is = ap (λ (o : OpenCycle). o.phase) is

    own : after.mode ≡ before.mode
    own = ap (λ (o : OpenCycle). o.mode) is

    shape : graph_of new ≡ graph_of old
    shape = ap graph_of same

    finishes : Finishes before.mode (graph_of old) (shades_of old) (shades_of new)
    finishes = subst (λ v. Finishes v (graph_of old) (shades_of old) (shades_of new)) k.mode fin

    shut_old : Shut before.mode (graph_of old) (shades_of new)
    shut_old = subst (λ v. Shut v (graph_of old) (shades_of new)) k.mode (subst (λ (s : Shape). Shut m.mode s (shades_of new)) shape shut)

    no_grey : NoGrey (start_of old) (shades_of new)
    no_grey = subst (λ l. NoGrey l (shades_of new)) (ap start_of same) none

    waiting_old : after.left ≡ count_by (awaits_in old.blocks.blocks) r
    waiting_old = waiting ∙ ap (λ (t : Tables). count_by (awaits_in t.blocks.blocks) r) same

    listed : (b : BlockId) → IsTrue (among p.condemned b) → IsTrue (among r b)
    listed b i = sym (ap (λ l. among l b) condemned) ∙ i

    tight : Tight before.mode (graph_of old) (shades_of new)
    tight = tight_darker before.mode (graph_of old) (shades_of old) (shades_of new) finishes.stays shut_old k.tight

    settles : Settles new after p
    settles = record {
      ascending = subst (λ l. IsStrictlySortedBy id_cmp l) (sym condemned) sorted;
      passed = passed (finals_of new);
      within = λ b i. subst (λ l. Has l b) (sym (ap start_of same)) (within b (listed b i)).0;
      scope = λ b i. subst (λ v. IsTrue (in_scope v (graph_of new) b)) (sym own) (subst (λ (s : Shape). IsTrue (in_scope before.mode s b)) (sym shape) (within b (listed b i)).1);
      watched = λ a b out i e. absurd (nothing_leads_in before.mode (graph_of old) (shades_of new) r tight no_grey ids a b (sym (ap (λ l. among l a) condemned) ∙ out) (listed b i) (subst (λ (s : Shape). Has (edges s a) b) shape e));
      left = ap (λ l. count_by (awaits_in new.blocks.blocks) l) condemned ∙ sym waiting;
    }

    foreseen : after.left ≤ before.left
    foreseen = let few = fewer_pass (awaits_in old.blocks.blocks) r (start_of old) (once_sorted r sorted) here in let most = k.left in let e = waiting_old in omega (arith, e, few, most)

    -- so the cycle settles
    pub is_condemned : IsCondemned old new before after r
    is_condemned = record {
      tables = same;
      cycle = is ∙ ap (λ x. let o : OpenCycle = record before { left = after.left; phase = x } in o) (sym phase_is);
      settles = subst (λ x. KeepsPhase new after x) (sym phase_is) settles;
      condemned = ap condemned_at phase_is ∙ ap Some condemned;
      shown = ap (shades_at new) phase_is;
      ascending = sorted;
      ids = ids;
      finishes = finishes;
      shut = shut_old;
      no_grey = no_grey;
      waiting = waiting_old;
      foreseen = foreseen;
    }

-- an open cycle that was condemned over the tables
module _ (old new : Tables) (before after : OpenCycle) (r : List BlockId) (fresh : condemned_at before.phase ≡ None) (is : IsCondemned old new before after r) where
  -- the tables keep what they have to
  pub condemned_collects : Collects old (Some before) → Collects new (Some after)
  condemned_collects k = record {
    cards = cards_unshaded old new is.tables k.cards;
    old = λ n a i. let no : Some r ≡ None = sym is.condemned ∙ n in cc (no);
    open_cycle = λ c e. subst (λ (x : OpenCycle). KeepsPhase new x x.phase) (some_same after c e) is.settles;
    lent = λ c n room e at.
        let given = k.lent before n room refl (sym (ap (λ (x : OpenCycle). slice_get x.lent.items n) (sym (some_same after c e) ∙ is.cycle)) ∙ at) in
        (given.0, subst (λ l. length l ≤ room.spare) (sym (ap start_of is.tables)) given.1);
  }
    where
      some_same : (x y : OpenCycle) → Some x ≡ Some y → x ≡ y
      some_same x y e = cc
