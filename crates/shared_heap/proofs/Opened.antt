-- A cycle that opens over the tables of a heap opens for the states that it serves
use Rattle.std.proofs.Common.{◌≡◌, ◌≢◌, ◌++◌, nat_lt, true, false, not, List, [], ◌∷◌, Option, Some, None, IsSome, IsTrue, is_some, option_map, length, drop, refl, sym, ap, subst, ◌∙◌, ◌⊎◌, inl, inr, ◌-◌, ◌==◌, ℕ, min, cond, arith}
use Rattle.std.proofs.Math.Seq.{drop-length}
use Rattle.std.specs.Option.{option_map_or, option_and_then}
use Rattle.std.specs.FinMap.{get, FinMap}
use Rattle.az_base.specs.declared.action.Mode.{Mode}
use Rattle.az_base.specs.declared.action.Mode.TheVariants as mode
use Rattle.az_base.specs.declared.block_id.BlockId.{BlockId}
use Rattle.quantum_space.specs.declared.shade.Shade.TheVariants as shade
use Rattle.quantum_space.specs.Shapes.{Has, Shades}
use Rattle.quantum_space.proofs.Lists.{among_has, has_among}
use Rattle.gen_marker.specs.Marking.{Begun, Starts, blacks, is_black}
use Rattle.zone_model.specs.Reach.{AnchoredFor, is_old}
use Rattle.zone_model.specs.State.{State, Block}
use Rattle.zone_model.proofs.Anchoring.{anchor_anchored, anchored_edge, held_anchored, unescaped_anchored}
use Rattle.block_table.specs.Stored.{HeapBlock}
use Rattle.block_table.specs.Table.{IsTable}
use Rattle.cycle_laws.specs.Shown.{Shows}
use Rattle.heap_tables.specs.Graphs.{graph_of, shades_of}
use Rattle.heap_tables.specs.declared.tables.Tables.{Tables}
use Rattle.heap_cycle.specs.Collects.{KeepsCards, is_old_at, start_of, OldCards, collecting, collector_of}
use Rattle.std.proofs.lemmas.Bool.Decides.{nat_tests}
use Rattle.std.proofs.lemmas.List.Sums.{sum_by-cons}
use Rattle.az_base.specs.declared.options.Options.{Options}
use Rattle.az_base.specs.Ids.{among, id_cmp}
use Rattle.az_base.specs.Places.{loc_cmp}
use Rattle.quantum_space.specs.declared.shade.Shade.{Shade}
use Rattle.heap_tables.specs.Standing.{AreTables, escaped_view, kept_of}
use Rattle.heap_tables.specs.Unshaded.{unshaded}
use Rattle.heap_cycle.specs.Collector.{Collecting, Collector, shade_in}
use Rattle.heap_cycle.specs.Phases.{IsOpened, at_begin}
use Rattle.shared_heap.specs.Cycles.{Opens}
use Rattle.shared_heap.specs.Holding.{Serves}
use Rattle.shared_heap.specs.Ready.{Ready}
use Rattle.shared_heap.specs.Shared.{Shared, with_gc}
use Rattle.heap_cycle.specs.Waiting.{unfinalised_by}
use Rattle.heap_cycle.specs.declared.open_cycle.OpenCycle.{OpenCycle}
use Rattle.heap_cycle.proofs.Opening.{new_cards, all_began, cards_same, blocks_same, still_old}
use Rattle.heap_cycle.proofs.Starting.{start_all}
use Rattle.zone_model.specs.declared.call.Call.TheVariants as call
use Rattle.zone_model.specs.declared.entry.Reply.TheVariants as reply
use Rattle.shared_heap.specs.Steps.{Stepped}
use Rattle.shared_heap.proofs.CycleSteps.{begin_step}
use Rattle.shared_heap.proofs.Served.{seen_over, shown_to}
use Rattle.heap_cycle.proofs.Slicing.{marking_shade}

-- what isn't white after it is anchored
pub begun_anchored : (m : Mode) (z : State) (t : Tables) (old new : Shades) → Shows m z (graph_of t) → ((b : BlockId) → Has (graph_of t).remembered b → IsTrue (is_old z b)) → Begun m (graph_of t) old new
    → (b : BlockId) → Has (graph_of t).blocks b → new b ≢ shade.White → AnchoredFor m z b
begun_anchored m z t old new shows aged begun b h dark = elim (begun.each b h) [ inl white ↦ absurd (dark white) | inr x ↦ starts m shows x.0 ]
  where
    anchor : (m : Mode) → Shows m z (graph_of t) → Has ((graph_of t).anchors_from 0) b → AnchoredFor m z b
    anchor m shows a = elim (shows.anchor b a) [ inl k ↦ held_anchored m z b k | inr u ↦ anchored_edge m z u.0 b (unescaped_anchored m z u.0 u.1) u.2 ]

    starts : (m : Mode) → Shows m z (graph_of t) → Starts m (graph_of t) b → AnchoredFor m z b
    starts mode.Full shows st = anchor mode.Full shows st.here
    starts mode.Young shows (inl st) = anchor mode.Young shows st.here
    starts mode.Young shows (inr st) = anchor_anchored mode.Young z b (inr (inr (aged b st.here)))

none_some : {X : Type 0} {Q : Type 0} (x : X) → None ≡ Some x → Q
none_some x e = cc

some_same : {X : Type 0} (x y : X) → Some x ≡ Some y → x ≡ y
some_same x y e = cc

-- a cycle is seen where one is open
pub open_some : (t : Tables) (o : Option OpenCycle) → is_some o ≡ true → is_some (option_map (collecting t) o) ≡ true
open_some t None e = e
open_some t (Some c) e = refl

pub none_is : (o : Option OpenCycle) → is_some o ≡ false → o ≡ None
none_is None e = refl
none_is (Some c) e = cc (e)

-- in front of a list or in it
in_either : (xs ys : List BlockId) (b : BlockId) → Has (xs ++ ys) b → Has xs b ⊎ Has ys b
in_either [] ys b h = inr h
in_either (x ∷ xs) ys b (inl e) = inl (inl e)
in_either (x ∷ xs) ys b (inr h) = by (in_either xs ys b h)
  where
    by : Has xs b ⊎ Has ys b → Has (x ∷ xs) b ⊎ Has ys b
    by (inl k) = inl (inr k)
    by (inr k) = inr k

-- where no block is black, none is counted
not_black : (s : Shade) → s ≢ shade.Black → is_black s ≡ false
not_black shade.White n = refl
not_black shade.Grey n = refl
not_black shade.Black n = absurd (n refl)

none_counted : (f : Shades) (xs : List BlockId) → ((b : BlockId) → Has xs b → f b ≢ shade.Black) → blacks xs f ≡ 0
none_counted f [] none = refl
none_counted f (x ∷ xs) none =
    let first = sum_by-cons (λ b. cond {A = ℕ} (is_black (f b)) 1 0) x xs in
    let rest = none_counted f xs (λ b h. none b (inr h)) in
    let zero_here : cond {A = ℕ} (is_black (f x)) 1 0 ≡ 0 = ap (λ t. cond {A = ℕ} t 1 0) (not_black (f x) (none x (inl refl))) in
    omega (arith, first, zero_here, rest)

-- a block is old for the state as for the heap
old_test : (n : ℕ) → not (nat_lt (min n 3) 3) ≡ true → (min n 3 == 3) ≡ true
old_test n h = grind (arith, nat_tests)

pub aged_alike : (z : State) (blocks : FinMap id_cmp HeapBlock) → ((q : BlockId) → get blocks q ≡ escaped_view z.reclaims (get z.blocks q)) → (b : BlockId) → IsTrue (is_old_at blocks b) → IsTrue (is_old z b)
aged_alike z blocks same b old = go (get z.blocks b) (sym (ap (λ (o : Option HeapBlock). option_map_or (λ (k : HeapBlock). not (nat_lt k.age 3)) o false) (same b)) ∙ old)
  where
    since : (x : Block) (o : Option ℕ) → x.since ≡ o → option_map_or (λ (k : HeapBlock). not (nat_lt k.age 3)) (kept_of z.reclaims x) false ≡ true → option_map_or (λ n. min (z.reclaims - n) 3 == 3) x.since false ≡ true
    since x None e h = let no = rw e at h in cc (no)
    since x (Some n) e h = let yes = rw e at h in rw e (old_test (z.reclaims - n) yes)

    go : (o : Option Block) → option_map_or (λ (k : HeapBlock). not (nat_lt k.age 3)) (escaped_view z.reclaims o) false ≡ true → option_map_or (λ n. min (z.reclaims - n) 3 == 3) (option_and_then (λ (x : Block). x.since) o) false ≡ true
    go None h = cc (h)
    go (Some x) h = since x x.since refl h

-- what a heap with these tables shows
abbrev pub seen_with : Options → Tables → FinMap loc_cmp BlockId → Option BlockId → Collector → Shared
seen_with options t shown value gc = seen_over options t shown (record { counts = t.counts.spare; object = t.assocs.ready; value = value }) gc

module _ (options : Options) (old new : Tables) (shown : FinMap loc_cmp BlockId) (value : Option BlockId) where
  -- shades and what began are shown nowhere but in the collector
  pub begun_value : (gc before : Collector) → unshaded new ≡ unshaded (at_begin old) → seen_with options new shown value gc ≡ with_gc (seen_with options old shown value before) gc
  begun_value gc before same = ap (λ (t : Tables). seen_with options t shown value gc) same

-- a cycle that has opened over the tables
module _ (old new : Tables) (mode : Mode) (o : OpenCycle) (keeps : KeepsCards old) (old_cards : OldCards old None) (is : IsOpened old new mode o) where
  -- a shade that is shown is that of the tables
  seen_shade : (b : BlockId) → IsTrue (among (start_of new) b) → shade_in (collecting new o) b ≡ shades_of new b
  seen_shade b i = marking_shade new o is.fresh b i

  -- what isn't white was an anchor or remembered
  remembered_old : (z : State) → ((q : BlockId) → get new.blocks.blocks q ≡ escaped_view z.reclaims (get z.blocks q)) → (b : BlockId) → Has (graph_of new).remembered b → IsTrue (is_old z b)
  remembered_old z same b h = aged_alike z new.blocks.blocks same b (by (in_either new.cards.list (drop new.blocks.began new.blocks.order) b h))
    where
      nothing : drop new.blocks.began new.blocks.order ≡ []
      nothing = ap (λ n. drop n new.blocks.order) (all_began old new mode o keeps old_cards is) ∙ drop-length new.blocks.order

      by : Has new.cards.list b ⊎ Has (drop new.blocks.began new.blocks.order) b → IsTrue (is_old_at new.blocks.blocks b)
      by (inl k) = still_old old new mode o keeps old_cards is b (has_among new.cards.list b k)
      by (inr k) = absurd (subst (λ l. Has l b) nothing k)

  pub opened_dark : (options : Options) (shown : FinMap loc_cmp BlockId) (ready : Ready) (gc : Collector) (z : State) (u : ℕ) → Serves (seen_over options new shown ready gc) z u → AreTables new
      → (b : BlockId) → IsTrue (among (start_of new) b) → shade_in (collecting new o) b ≢ shade.White → AnchoredFor mode z b
  opened_dark options shown ready gc z u s are b i dark =
      begun_anchored mode z new (shades_of old) (shades_of new) (shown_to options new shown ready gc z u s mode are) (remembered_old z s.stands.blocks) is.begun b (among_has (start_of new) b i) (λ w. dark (seen_shade b i ∙ w))

  -- so a cycle opens
  pub opens : (h : Shared) (t : ℕ) → h.blocks ≡ old.blocks.blocks → h.gc ≡ record { cards = old.cards.list; cycle = None } → IsTable new.blocks → o.owner ≡ t → o.mode ≡ mode → o.left ≡ unfinalised_by old.blocks.blocks
      → Opens h t mode (collector_of new (Some o))
  opens h t blocks gc table owner own left = record {
    cycle = collecting new o;
    is = ap (λ l. let g : Collector = record { cards = l; cycle = Some (collecting new o) } in g) (cards_same old new mode o keeps old_cards is ∙ sym (ap (λ (g : Collector). g.cards) gc));
    owner = owner;
    mode_is = own;
    start = λ b. (λ i. subst IsSome (sym (here b)) ((table.order b).0 (subst (λ l. Has l b) all (among_has (start_of new) b i))), λ there. has_among (start_of new) b (subst (λ l. Has l b) (sym all) ((table.order b).1 (subst IsSome (here b) there))));
    fresh = is.fresh;
    left = left ∙ sym (ap unfinalised_by blocks);
    rooms = is.rooms;
    none_black = none_counted (shade_in (collecting new o)) (start_of new) (λ b h black. grey_or_white b h (sym (seen_shade b (has_among (start_of new) b h)) ∙ black));
  }
    where
      all : start_of new ≡ new.blocks.order
      all = start_all new table (new_cards old new mode o keeps old_cards is) (all_began old new mode o keeps old_cards is)

      here : (b : BlockId) → get h.blocks b ≡ get new.blocks.blocks b
      here b = ap (λ (m : FinMap id_cmp HeapBlock). get m b) (blocks ∙ sym (blocks_same old new mode o keeps old_cards is))

      grey_or_white : (b : BlockId) → Has (start_of new) b → shades_of new b ≡ shade.Black → ⊥
      grey_or_white b h black = by (is.begun.each b h)
        where
          by : (shades_of new b ≡ shade.White) ⊎ (Starts mode (graph_of new) b × (shades_of new b ≡ shade.Grey)) → ⊥
          by (inl w) = let no : shade.Black ≡ shade.White = sym black ∙ w in cc (no)
          by (inr g) = let no : shade.Black ≡ shade.Grey = sym black ∙ g.1 in cc (no)

  -- in each state that the heap served
  pub opened_step : (options : Options) (shown : FinMap loc_cmp BlockId) (value : Option BlockId) (t : ℕ) (z : State) → AreTables new → o.owner ≡ t → o.mode ≡ mode → o.left ≡ unfinalised_by old.blocks.blocks
      → Serves (seen_with options old shown value (collector_of old None)) z t → Stepped (seen_with options new shown value (collector_of new (Some o))) z t (call.Begin mode) reply.Begun
  opened_step options shown value t z are owner own left s =
      subst (λ k. Stepped k z t (call.Begin mode) reply.Begun) (sym (begun_value options old new shown value gc h.gc is.tables)) (begin_step h z t mode gc s (λ g is. none_some g is.0) refl opened dark)
    where
      h : Shared
      h = seen_with options old shown value (collector_of old None)

      gc : Collector
      gc = collector_of new (Some o)

      opened : Opens h t mode gc
      opened = opens h t refl refl are.blocks owner own left

      cycle_is : collecting new o ≡ opened.cycle
      cycle_is = some_same (collecting new o) opened.cycle (ap (λ (g : Collector). g.cycle) opened.is)

      served : Serves (seen_with options new shown value h.gc) z t
      served = subst (λ k. Serves k z t) (sym (begun_value options old new shown value h.gc h.gc is.tables)) s

      dark : (b : BlockId) → IsTrue (among opened.cycle.start b) → shade_in opened.cycle b ≢ shade.White → AnchoredFor mode z b
      dark b i w = opened_dark options shown (record { counts = new.counts.spare; object = new.assocs.ready; value = value }) h.gc z t served are b (ap (λ (g : Collecting). among g.start b) cycle_is ∙ i) (λ v. w (sym (ap (λ g. shade_in g b) cycle_is) ∙ v))
