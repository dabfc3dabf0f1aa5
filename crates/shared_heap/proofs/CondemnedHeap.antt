-- What a Condemn over the tables is to the states that the heap serves
use Rattle.std.proofs.Common.{◌≡◌, ℕ, not, Option, Some, None, List, filter, length, refl, sym, ap, subst, ◌∙◌}
use Rattle.std.specs.FinMap.{FinMap, empty, get, retain_keys}
use Rattle.az_base.specs.declared.block_id.BlockId.{BlockId}
use Rattle.az_base.specs.declared.options.Options.{Options}
use Rattle.az_base.specs.declared.weak_loc.WeakLoc.{WeakLoc}
use Rattle.az_base.specs.Ids.{among}
use Rattle.az_base.specs.Places.{loc_cmp}
use Rattle.quantum_space.proofs.Lists.{has_among}
use Rattle.gen_marker.specs.Marking.{Finishes, Marking, Shut, is_left}
use Rattle.gen_marker.specs.Tight.{Tight}
use Rattle.zone_model.specs.Collection.{MayCondemn, shows_one}
use Rattle.zone_model.specs.Reached.{IsRooted, KeepsReached}
use Rattle.zone_model.specs.Room.{WithRoom}
use Rattle.zone_model.specs.State.{State, Cycle}
use Rattle.zone_model.proofs.Reaching.{edges_rooted}
use Rattle.zone_model.proofs.Soundness.{sound_intact}
use Rattle.cycle_laws.specs.Shown.{Shows}
use Rattle.cycle_laws.proofs.Finished.{finish_condemns}
use Rattle.heap_tables.specs.Graphs.{graph_of, shades_of}
use Rattle.heap_tables.specs.Standing.{AreTables}
use Rattle.heap_tables.specs.declared.tables.Tables.{Tables}
use Rattle.heap_cycle.specs.Collector.{Collecting}
use Rattle.heap_cycle.specs.Collects.{Collects, KeepsPhase, Marks, collecting, collector_of, condemned_at, shades_at, start_of}
use Rattle.heap_cycle.specs.Phases.{IsCondemned}
use Rattle.shared_heap.specs.Cycles.{Condemned}
use Rattle.shared_heap.specs.Holding.{Serves}
use Rattle.shared_heap.specs.Stands.{SameCycle, StandsCycle}
use Rattle.heap_cycle.specs.declared.open_cycle.OpenCycle.{OpenCycle}
use Rattle.heap_cycle.specs.declared.open_cycle.Phase.{Phase}
use Rattle.heap_cycle.specs.declared.open_cycle.Phase.TheVariants as phase
use Rattle.shared_heap.proofs.Opened.{seen_with}
use Rattle.heap_cycle.proofs.Slicing.{marking_shade}
use Rattle.heap_cycle.proofs.Condemned.{left_within}
use Rattle.shared_heap.proofs.Served.{shown_to}
use Rattle.shared_heap.proofs.Sliced.{starts}

-- an open cycle that was condemned over the tables
module _ (old new : Tables) (before after : OpenCycle) (r : List BlockId) (fresh : condemned_at before.phase ≡ None) (is : IsCondemned old new before after r) where
  -- what the heap shows of it
  seen : collecting new after ≡ record (collecting old before) { shades = empty; condemned = Some r; left = after.left }
  seen =
      ap (λ (o : OpenCycle). let g : Collecting = record { owner = o.owner; mode = o.mode; start = start_of new; shades = shades_at new after.phase; condemned = condemned_at after.phase; left = after.left; rooms = length o.lent.items } in g) is.cycle
      ∙ ap (λ l. let g : Collecting = record { owner = before.owner; mode = before.mode; start = l; shades = shades_at new after.phase; condemned = condemned_at after.phase; left = after.left; rooms = length before.lent.items } in g) (ap start_of is.tables)
      ∙ ap (λ f. let g : Collecting = record { owner = before.owner; mode = before.mode; start = start_of old; shades = f; condemned = condemned_at after.phase; left = after.left; rooms = length before.lent.items } in g) is.shown
      ∙ ap (λ c. let g : Collecting = record { owner = before.owner; mode = before.mode; start = start_of old; shades = empty; condemned = c; left = after.left; rooms = length before.lent.items } in g) is.condemned

  pub condemns : (options : Options) (was now : FinMap loc_cmp BlockId) (value left_over : Option BlockId) → now ≡ retain_keys was (λ (l : WeakLoc). not (shows_one r (get was l))) → left_over ≡ None
      → Condemned (seen_with options old was value (collector_of old (Some before))) r (seen_with options new now left_over (collector_of new (Some after)))
  condemns options was now value left_over shown gone = record {
    before = collecting old before;
    was = refl;
    left = after.left;
    is =
        ap (λ (t : Tables). seen_with options t now left_over (collector_of new (Some after))) is.tables
        ∙ ap (λ m. seen_with options old m left_over (collector_of new (Some after))) shown
        ∙ ap (λ v. seen_with options old (retain_keys was (λ (l : WeakLoc). not (shows_one r (get was l)))) v (collector_of new (Some after))) gone
        ∙ ap (λ (l : List BlockId). seen_with options old (retain_keys was (λ (l : WeakLoc). not (shows_one r (get was l)))) None (record { cards = l; cycle = Some (collecting new after) })) (ap (λ (t : Tables). t.cards.list) is.tables)
        ∙ ap (λ g. seen_with options old (retain_keys was (λ (l : WeakLoc). not (shows_one r (get was l)))) None (record { cards = old.cards.list; cycle = Some g })) seen;
    ascending = is.ascending;
    start = λ b i. has_among (start_of old) b (left_within before.mode old (shades_of new) r is.ids b i).0;
    waiting = is.waiting;
    foreseen = is.foreseen;
  }

  -- and they may be condemned
  pub may_be_condemned : (m : Marking) (reply kept : WithRoom) (z : State) (c : Cycle) → Marks old before m reply kept → StandsCycle (collecting old before) c → Shows c.mode z (graph_of old) → IsRooted z → KeepsReached z c → MayCondemn z c r
  may_be_condemned m reply kept z c k stands shows rooted keeps =
      let own : before.mode ≡ c.mode = sym stands.mode in
      finish_condemns z c (graph_of old) (shades_of old) (shades_of new) shows (starts old c stands.start) rooted keeps
      (subst (λ v. Tight v (graph_of old) (shades_of old)) own k.tight)
      (λ q h d. stands.dark fresh q (has_among (start_of old) q h) (λ w. d (sym (marking_shade old before fresh q (has_among (start_of old) q h)) ∙ w)))
      (subst (λ v. Finishes v (graph_of old) (shades_of old) (shades_of new)) own is.finishes)
      (subst (λ v. Shut v (graph_of old) (shades_of new)) own is.shut)
      is.no_grey r is.ascending
      (subst (λ v. (b : BlockId) → among r b ≡ among (filter (is_left v (graph_of old) (shades_of new)) (start_of old)) b) own is.ids)

  -- in each state that the heap serves
  pub may_condemn : (options : Options) (weak : FinMap loc_cmp BlockId) (value : Option BlockId) (z : State) (u : ℕ) → Collects old (Some before) → AreTables old
      → Serves (seen_with options old weak value (collector_of old (Some before))) z u → (c : Cycle) → z.cycle ≡ Some c → MayCondemn z c r
  may_condemn options weak value z u k are s c e = by before.phase (k.open_cycle before refl) fresh
    where
      stands : StandsCycle (collecting old before) c
      stands = subst (SameCycle (Some (collecting old before))) e s.stands.cycle

      by : (p : Phase) → KeepsPhase old before p → condemned_at p ≡ None → MayCondemn z c r
      by (phase.Marking marker reply kept) keeps n =
          may_be_condemned marker reply kept z c keeps stands (shown_to options old weak (record { counts = old.counts.spare; object = old.assocs.ready; value = value }) (collector_of old (Some before)) z u s c.mode are)
          (edges_rooted z (sound_intact z s.sound)) (s.sound.reached c e (stands.condemned ∙ fresh))
      by (phase.Settling pass) keeps n = cc (n)
