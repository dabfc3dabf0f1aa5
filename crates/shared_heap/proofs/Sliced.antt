-- What isn't white was anchored, told by the shades that the heap shows and by those of its tables
use Rattle.std.proofs.Common.{◌≡◌, ◌≢◌, ◌+◌, ℕ, Bool, true, false, List, Option, None, Some, IsTrue, length, refl, sym, ap, subst, ◌∙◌, arith}
use Rattle.std.specs.Option.{option_map_or}
use Rattle.std.specs.FinMap.{FinMap}
use Rattle.az_base.specs.declared.block_id.BlockId.{BlockId}
use Rattle.az_base.specs.declared.options.Options.{Options}
use Rattle.az_base.specs.Ids.{among}
use Rattle.az_base.specs.Places.{loc_cmp}
use Rattle.quantum_space.specs.declared.shade.Shade.TheVariants as shade
use Rattle.quantum_space.proofs.Lists.{among_has, has_among}
use Rattle.gen_marker.specs.Marking.{Spreads, blacks}
use Rattle.zone_model.specs.Collection.{WasAnchored}
use Rattle.zone_model.specs.Reached.{KeepsReached}
use Rattle.zone_model.specs.State.{State, Cycle}
use Rattle.cycle_laws.specs.Shown.{HasStart, Shows}
use Rattle.cycle_laws.proofs.Reaching.{slice_reaches}
use Rattle.heap_tables.specs.Graphs.{graph_of, shades_of}
use Rattle.heap_tables.specs.Standing.{AreTables}
use Rattle.heap_tables.specs.declared.tables.Tables.{Tables}
use Rattle.heap_cycle.specs.Collector.{Collecting, Collector, shade_in}
use Rattle.heap_cycle.specs.Collects.{collecting, collector_of, condemned_at, shades_at, start_of}
use Rattle.heap_cycle.specs.Phases.{IsSliced}
use Rattle.shared_heap.specs.Cycles.{Darkens, IsMarking, marked_by}
use Rattle.shared_heap.specs.Holding.{Serves}
use Rattle.shared_heap.specs.Shared.{Shared, with_gc}
use Rattle.shared_heap.specs.Stands.{Stands, StandsCycle}
use Rattle.heap_cycle.specs.declared.open_cycle.OpenCycle.{OpenCycle}
use Rattle.heap_cycle.proofs.Slicing.{blacks_shown, marking_past, marking_shade}
use Rattle.shared_heap.proofs.CycleSteps.{slice_stands}
use Rattle.shared_heap.proofs.Opened.{seen_with}
use Rattle.shared_heap.proofs.Served.{shown_to}

some_same : {X : Type 0} (x y : X) → Some x ≡ Some y → x ≡ y
some_same x y e = cc

-- a cycle that marks isn't condemned
pub fresh_of : (t : Tables) (o : OpenCycle) (h : Shared) (u : ℕ) → h.gc ≡ collector_of t (Some o) → IsMarking h u → condemned_at o.phase ≡ None
fresh_of t o h u is m = ap (λ (g : Collecting). g.condemned) (some_same (collecting t o) m.0 (sym (ap (λ (g : Collector). g.cycle) is) ∙ m.1.0)) ∙ m.2

-- and as many blocks of the start are black as in the tables
pub black_of : (t : Tables) (o : OpenCycle) → condemned_at o.phase ≡ None → marked_by (λ g. blacks g.start (shade_in g)) (Some (collecting t o)) ≡ blacks (start_of t) (shades_of t)
black_of t o fresh = ap (λ (c : Option (List BlockId)). option_map_or (λ r. 0) c (blacks (start_of t) (shade_in (collecting t o)))) fresh ∙ blacks_shown t o fresh

-- the graph has the blocks of the state's start
pub starts : (t : Tables) (c : Cycle) → ((b : BlockId) → c.start b ≡ among (start_of t) b) → HasStart c (graph_of t)
starts t c same = record { start = λ b. (λ i. among_has (start_of t) b (sym (same b) ∙ i), λ h. same b ∙ has_among (start_of t) b h) }

-- an open cycle that marks on over the tables
module _ (old new : Tables) (before after : OpenCycle) (fresh : condemned_at before.phase ≡ None) (is : IsSliced old new before after) where
  same_start : start_of new ≡ start_of old
  same_start = ap start_of is.tables

  same_cards : new.cards.list ≡ old.cards.list
  same_cards = ap (λ (t : Tables). t.cards.list) is.tables

  -- shades got darker
  pub darkens : Darkens (collector_of old (Some before)) (collector_of new (Some after))
  darkens = record {
    before = collecting old before;
    after = collecting new after;
    was = refl;
    is = ap (λ l. let g : Collector = record { cards = l; cycle = Some (collecting new after) } in g) same_cards;
    same = same;
    black = λ b black. by_black b (among (start_of old) b) refl black;
    dark = λ b dark. by_dark b (among (start_of old) b) refl dark;
  }
    where
      here : (b : BlockId) → IsTrue (among (start_of old) b) → IsTrue (among (start_of new) b)
      here b i = ap (λ l. among l b) same_start ∙ i

      same : collecting new after ≡ record (collecting old before) { shades = shades_at new after.phase }
      same =
          let whole = ap (λ (o : OpenCycle). let g : Collecting = record { owner = o.owner; mode = o.mode; start = start_of new; shades = shades_at new after.phase; condemned = condemned_at after.phase; left = o.left; rooms = length o.lent.items } in g) is.cycle in
          whole ∙ ap (λ l. let g : Collecting = record { owner = before.owner; mode = before.mode; start = l; shades = shades_at new after.phase; condemned = condemned_at after.phase; left = before.left; rooms = length before.lent.items } in g) same_start
          ∙ ap (λ r. let g : Collecting = record { owner = before.owner; mode = before.mode; start = start_of old; shades = shades_at new after.phase; condemned = r; left = before.left; rooms = length before.lent.items } in g) (is.fresh ∙ sym fresh)

      by_black : (b : BlockId) (t : Bool) → among (start_of old) b ≡ t → shade_in (collecting old before) b ≡ shade.Black → shade_in (collecting new after) b ≡ shade.Black
      by_black b true i black = marking_shade new after is.fresh b (here b i) ∙ is.spreads.black b (sym (marking_shade old before fresh b i) ∙ black)
      by_black b false i black = let no : shade.White ≡ shade.Black = sym (marking_past old before fresh b i) ∙ black in cc (no)

      by_dark : (b : BlockId) (t : Bool) → among (start_of old) b ≡ t → shade_in (collecting old before) b ≢ shade.White → shade_in (collecting new after) b ≢ shade.White
      by_dark b true i dark = λ w. is.spreads.stays b (λ v. dark (marking_shade old before fresh b i ∙ v)) (sym (marking_shade new after is.fresh b (here b i)) ∙ w)
      by_dark b false i dark = absurd (dark (marking_past old before fresh b i))

  -- what isn't white was anchored, as before
  pub sliced_dark : (z : State) (c : Cycle) → StandsCycle (collecting old before) c → Shows c.mode z (graph_of old) → KeepsReached z c → (b : BlockId) → IsTrue (among (start_of old) b) → shade_in (collecting new after) b ≢ shade.White → WasAnchored c b
  sliced_dark z c stands shows keeps b i dark =
      slice_reaches z c (graph_of old) (shades_of old) (shades_of new) shows (starts old c stands.start) keeps (subst (λ m. Spreads m (graph_of old) (shades_of old) (shades_of new)) (sym stands.mode) is.spreads)
      (λ q h d. stands.dark fresh q (has_among (start_of old) q h) (λ w. d (sym (marking_shade old before fresh q (has_among (start_of old) q h)) ∙ w)))
      b (among_has (start_of old) b i) (λ w. dark (marking_shade new after is.fresh b (ap (λ l. among l b) same_start ∙ i) ∙ w))

  -- so the heap stands for the same states
  pub sliced_stands : (options : Options) (weak : FinMap loc_cmp BlockId) (value : Option BlockId) (z : State) (u : ℕ) → AreTables old → Serves (seen_with options old weak value (collector_of old (Some before))) z u
      → Stands (seen_with options new weak value (collector_of new (Some after))) z
  sliced_stands options weak value z u are s = subst (λ h. Stands h z) (sym same) (slice_stands h z gc darkens dark s.stands)
    where
      h : Shared
      h = seen_with options old weak value (collector_of old (Some before))

      gc : Collector
      gc = collector_of new (Some after)

      same : seen_with options new weak value gc ≡ with_gc h gc
      same = ap (λ (t : Tables). seen_with options t weak value gc) is.tables

      before_is : darkens.before ≡ collecting old before
      before_is = some_same darkens.before (collecting old before) (sym darkens.was)

      after_is : darkens.after ≡ collecting new after
      after_is = some_same darkens.after (collecting new after) (sym (ap (λ (g : Collector). g.cycle) darkens.is))

      dark : (c : Cycle) → z.cycle ≡ Some c → StandsCycle darkens.before c → (b : BlockId) → darkens.before.condemned ≡ None → IsTrue (among darkens.before.start b) → shade_in darkens.after b ≢ shade.White → WasAnchored c b
      dark c e st b n i w =
          let own : StandsCycle (collecting old before) c = subst (λ g. StandsCycle g c) before_is st in
          sliced_dark z c own (shown_to options old weak (record { counts = old.counts.spare; object = old.assocs.ready; value = value }) (collector_of old (Some before)) z u s c.mode are)
          (s.sound.reached c e (own.condemned ∙ fresh)) b (sym (ap (λ (g : Collecting). among g.start b) before_is) ∙ i) (λ white. w (ap (λ g. shade_in g b) after_is ∙ white))

  -- and so many more blocks are black as were scanned
  pub sliced_ticks : (m n : ℕ) → m + blacks (start_of old) (shades_of old) ≡ n + blacks (start_of old) (shades_of new)
      → m + marked_by (λ g. blacks g.start (shade_in g)) (Some (collecting old before)) ≡ n + marked_by (λ g. blacks g.start (shade_in g)) (Some (collecting new after))
  sliced_ticks m n ticks =
      let was = black_of old before fresh in
      let now : marked_by (λ g. blacks g.start (shade_in g)) (Some (collecting new after)) ≡ blacks (start_of old) (shades_of new) = black_of new after is.fresh ∙ ap (λ l. blacks l (shades_of new)) same_start in
      omega (arith, was, now, ticks)
