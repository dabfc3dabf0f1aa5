-- What a finaliser and a Reclaim over the tables are to the states that the heap serves
use Rattle.std.proofs.Common.{◌≡◌, ◌+◌, ◌-◌, ℕ, true, not, map, Option, None, Some, List, [], IsSome, IsTrue, is_some, cond, count_by, filter, find, fold, length, slice_get, refl, sym, ap, ◌∙◌, inl, inr}
use Rattle.std.specs.Option.{option_map_or}
use Rattle.std.specs.FinMap.{FinMap, empty, get, retain_keys}
use Rattle.az_base.specs.declared.block_id.BlockId.{BlockId}
use Rattle.az_base.specs.declared.options.Options.{Options}
use Rattle.az_base.specs.declared.word.Word.TheVariants as word
use Rattle.az_base.specs.Ids.{among}
use Rattle.az_base.specs.Places.{loc_cmp}
use Rattle.assoc_refs.specs.Table.{pairs_of}
use Rattle.quantum_space.specs.Shapes.{Has, edges}
use Rattle.quantum_space.proofs.Lists.{among_has, has_among, has_filter}
use Rattle.finalise_pass.specs.Passing.{Passing}
use Rattle.zone_model.specs.Collection.{HasCondemned, Reclaims, awaits}
use Rattle.zone_model.specs.Phases.{left_in}
use Rattle.zone_model.specs.State.{State, is_word_of, with_edit, without}
use Rattle.zone_model.proofs.Reaching.{edges_rooted}
use Rattle.zone_model.proofs.Soundness.{sound_intact}
use Rattle.retain_table.specs.Counted.{Counted}
use Rattle.block_table.specs.Places.{in_word}
use Rattle.block_table.specs.Stored.{HeapBlock}
use Rattle.block_table.specs.Table.{IsTable, used_by, words_in}
use Rattle.cycle_laws.specs.Shown.{IsWithinScope}
use Rattle.cycle_laws.proofs.Settled.{settled_reclaims}
use Rattle.heap_tables.specs.Graphs.{graph_of, value_of}
use Rattle.heap_tables.specs.Running.{actions_in}
use Rattle.heap_tables.specs.Standing.{AreTables}
use Rattle.heap_tables.specs.declared.tables.Tables.{Tables}
use Rattle.heap_tables.proofs.Fronts.{in_whole}
use Rattle.heap_tables.proofs.Places.{in_either, in_first, in_second, in_words, word_in}
use Rattle.heap_tables.proofs.Showing.{edge_value, value_edge}
use Rattle.heap_cycle.specs.Collector.{Collecting, Collector}
use Rattle.heap_cycle.specs.Collects.{Collects, KeepsPhase, Settles, collecting, collector_of, condemned_at, shades_at, start_of}
use Rattle.heap_cycle.specs.Phases.{IsFinalised, IsReclaimed, WantsCard, after_action}
use Rattle.heap_cycle.specs.Waiting.{awaits_in, unfinalised_by}
use Rattle.heap_cycle.specs.declared.open_cycle.OpenCycle.{OpenCycle}
use Rattle.heap_cycle.specs.declared.open_cycle.Phase.{Phase}
use Rattle.heap_cycle.specs.declared.open_cycle.Phase.TheVariants as phase
use Rattle.shared_heap.specs.Cycles.{HeapEdge, IsNext, IsSettling, Reclaimed, RefersToNewer, finalised}
use Rattle.shared_heap.specs.Holding.{Serves}
use Rattle.shared_heap.specs.Ready.{Ready}
use Rattle.shared_heap.specs.Shared.{finalisers_left}
use Rattle.shared_heap.specs.Stands.{Stands}
use Rattle.shared_heap.proofs.Collecting.{state_cycle}
use Rattle.shared_heap.proofs.Finalising.{awaits_same, finds_same, found_here}
use Rattle.shared_heap.proofs.Left.{left_same}
use Rattle.shared_heap.proofs.Opened.{seen_with}
use Rattle.shared_heap.proofs.Remaining.{finalised_used, gone_done, none_waits, one_finalised}
use Rattle.shared_heap.proofs.Served.{seen_over, shown_to}

-- once blocks are condemned no shades are shown
settled_shades : (t : Tables) (p : Phase) (r : List BlockId) → condemned_at p ≡ Some r → shades_at t p ≡ empty
settled_shades t (phase.Marking marker reply kept) r e = cc (e)
settled_shades t (phase.Settling pass) r e = refl

-- and so many finalisers are left
pub left_seen : (options : Options) (t : Tables) (weak : FinMap loc_cmp BlockId) (ready : Ready) (o : OpenCycle) (r : List BlockId) → condemned_at o.phase ≡ Some r → finalisers_left (seen_over options t weak ready (collector_of t (Some o))) ≡ o.left
left_seen options t weak ready o r e = ap (λ c. cond (is_some c) o.left 0) e

-- what is kept of a cycle whose blocks are condemned
pub record Settling (t : Tables) (o : OpenCycle) (r : List BlockId) : Type 0 where
  pub pass : Passing
  pub is : o.phase ≡ phase.Settling pass
  pub condemned : pass.condemned ≡ r
  pub settles : Settles t o pass

pub settling_of : (t : Tables) (o : OpenCycle) (r : List BlockId) → Collects t (Some o) → condemned_at o.phase ≡ Some r → Settling t o r
settling_of t o r k e = by o.phase refl (k.open_cycle o refl) e
  where
    same : (x y : List BlockId) → Some x ≡ Some y → x ≡ y
    same x y e = cc

    by : (p : Phase) → o.phase ≡ p → KeepsPhase t o p → condemned_at p ≡ Some r → Settling t o r
    by (phase.Marking marker reply kept) f keeps e = cc (e)
    by (phase.Settling pass) f keeps e = record { pass = pass; is = f; condemned = same pass.condemned r e; settles = keeps }

-- the state has as many left
pub left_stands : (options : Options) (t : Tables) (weak : FinMap loc_cmp BlockId) (ready : Ready) (o : OpenCycle) (r : List BlockId) → IsTable t.blocks → Collects t (Some o) → condemned_at o.phase ≡ Some r
    → (z : State) → Stands (seen_over options t weak ready (collector_of t (Some o))) z → o.left ≡ left_in z
left_stands options t weak ready o r table keeps is z s =
    let k = settling_of t o r keeps is in
    let here : (b : BlockId) → IsTrue (among r b) → IsSome (get t.blocks.blocks b) = λ b i. (table.order b).0 (in_whole t.blocks.order t.blocks.began b (k.settles.within b (ap (λ l. among l b) k.condemned ∙ i))) in
    sym k.settles.left ∙ ap (count_by (awaits_in t.blocks.blocks)) k.condemned ∙ sym (left_same (seen_over options t weak ready (collector_of t (Some o))) z (collecting t o) r s refl is here)

-- a finaliser that ran over the tables
module _ (old new : Tables) (before after : OpenCycle) (b : BlockId) (is : IsFinalised old new before after b) where
  abbrev after_it : Tables
  after_it = record old { roots = fold (after_action old.blocks.blocks b) old.roots (actions_in old.blocks.blocks b); blocks = record old.blocks { blocks = with_edit old.blocks.blocks b (λ (k : HeapBlock). record k { finalised = true }) } }

  seen : collecting new after ≡ record (collecting old before) { left = before.left - 1 }
  seen =
      ap (λ (o : OpenCycle). let g : Collecting = record { owner = o.owner; mode = o.mode; start = start_of new; shades = shades_at new after.phase; condemned = condemned_at after.phase; left = o.left; rooms = length o.lent.items } in g) is.cycle
      ∙ ap (λ l. let g : Collecting = record { owner = before.owner; mode = before.mode; start = l; shades = shades_at new after.phase; condemned = condemned_at after.phase; left = before.left - 1; rooms = length before.lent.items } in g) (ap start_of is.tables)
      ∙ ap (λ f. let g : Collecting = record { owner = before.owner; mode = before.mode; start = start_of old; shades = f; condemned = condemned_at after.phase; left = before.left - 1; rooms = length before.lent.items } in g)
      (settled_shades new after.phase is.condemned is.stays ∙ sym (settled_shades old before.phase is.condemned is.was))
      ∙ ap (λ c. let g : Collecting = record { owner = before.owner; mode = before.mode; start = start_of old; shades = shades_at old before.phase; condemned = c; left = before.left - 1; rooms = length before.lent.items } in g) (is.stays ∙ sym is.was)

  pub finalises : (options : Options) (weak : FinMap loc_cmp BlockId) (value : Option BlockId) → seen_with options new weak value (collector_of new (Some after)) ≡ finalised (seen_with options old weak value (collector_of old (Some before))) b
  finalises options weak value =
      ap (λ (t : Tables). seen_with options t weak value (collector_of new (Some after))) is.tables
      ∙ ap (λ (l : List BlockId). seen_with options after_it weak value (record { cards = l; cycle = Some (collecting new after) })) (ap (λ (t : Tables). t.cards.list) is.tables)
      ∙ ap (λ g. seen_with options after_it weak value (record { cards = old.cards.list; cycle = Some g })) seen

  -- one block waits less, and all take as much as before
  pub one_less : unfinalised_by new.blocks.blocks + 1 ≡ unfinalised_by old.blocks.blocks
  one_less = ap (λ (t : Tables). unfinalised_by t.blocks.blocks + 1) is.tables ∙ one_finalised old.blocks.blocks b (found_here (awaits_in old.blocks.blocks) is.condemned b is.next)

  pub same_used : used_by new.blocks.blocks ≡ used_by old.blocks.blocks
  same_used = ap (λ (t : Tables). used_by t.blocks.blocks) is.tables ∙ finalised_used old.blocks.blocks b

  pub is_next : (options : Options) (weak : FinMap loc_cmp BlockId) (value : Option BlockId) → IsNext (seen_with options old weak value (collector_of old (Some before))) b
  is_next options weak value = (collecting old before, is.condemned, refl, is.was, is.next)

-- the edges that are shown are those of the graph
edge_shown : (options : Options) (t : Tables) (weak : FinMap loc_cmp BlockId) (ready : Ready) (gc : Collector) (a b : BlockId) → Has (edges (graph_of t) a) b → HeapEdge (seen_over options t weak ready gc) a b
edge_shown options t weak ready gc a b e = elim (in_either (map in_word (words_in t.blocks.blocks a)) (map value_of (pairs_of t.assocs.pairs a)) b e) [
  | inl w ↦ (let i = word_in (words_in t.blocks.blocks a) b w in inl (at_word i.0 (get t.blocks.blocks a) refl i.1))
  | inr v ↦ inr (value_edge t.assocs.pairs a b v)
]
  where
    at_word : (i : ℕ) (o : Option HeapBlock) → get t.blocks.blocks a ≡ o → slice_get (option_map_or (λ (k : HeapBlock). k.words) o []) i ≡ Some (word.Block b) → (k : HeapBlock) × (j : ℕ) × (get t.blocks.blocks a ≡ Some k) × (slice_get k.words j ≡ Some (word.Block b))
    at_word i None e f = cc (f)
    at_word i (Some k) e f = (k, i, e, f)

shown_edge : (options : Options) (t : Tables) (weak : FinMap loc_cmp BlockId) (ready : Ready) (gc : Collector) (a b : BlockId) → HeapEdge (seen_over options t weak ready gc) a b → Has (edges (graph_of t) a) b
shown_edge options t weak ready gc a b (inl (k, i, e, f)) =
    in_first (map in_word (words_in t.blocks.blocks a)) (map value_of (pairs_of t.assocs.pairs a)) b (in_words (words_in t.blocks.blocks a) b i (ap (λ (o : Option HeapBlock). slice_get (option_map_or (λ (k : HeapBlock). k.words) o []) i) e ∙ f))
shown_edge options t weak ready gc a b (inr (key, e)) = in_second (map in_word (words_in t.blocks.blocks a)) (map value_of (pairs_of t.assocs.pairs a)) b (edge_value t.assocs.pairs a key b e)

-- a Reclaim over the tables
module _ (old new : Tables) (before : OpenCycle) (kept gone : List BlockId) (is : IsReclaimed old new before kept gone) where
  pub reclaims : (options : Options) (was now : FinMap loc_cmp BlockId) (ready later : Ready) → now ≡ retain_keys was (λ l. not (is_word_of gone l))
      → Reclaimed (seen_over options old was ready (collector_of old (Some before))) gone (seen_over options new now later (collector_of new None))
  reclaims options was now ready later weak = record {
    blocks = is.blocks;
    holds = is.holds;
    assocs = is.assocs;
    weak = weak;
    others = (refl, is.roots, ap (λ (c : Counted). c.counts) is.counts);
    room = is.room;
    closed = refl;
    cards = λ a. (λ i. wants a ((is.cards a).0 i), λ r. (is.cards a).1 (wanted a r));
  }
    where
      wants : (a : BlockId) → WantsCard new a → RefersToNewer (seen_over options new now later (collector_of new None)) a
      wants a (old_one, (b, e, newer)) = (old_one, (b, edge_shown options new now later (collector_of new None) a b e, newer))

      wanted : (a : BlockId) → RefersToNewer (seen_over options new now later (collector_of new None)) a → WantsCard new a
      wanted a (old_one, (b, e, newer)) = (old_one, (b, shown_edge options new now later (collector_of new None) a b e, newer))

  -- none of the condemned blocks waits
  pub none_left : (options : Options) (weak : FinMap loc_cmp BlockId) (ready : Ready) → Collects old (Some before) → finalisers_left (seen_over options old weak ready (collector_of old (Some before))) ≡ 0 → count_by (awaits_in old.blocks.blocks) is.condemned ≡ 0
  none_left options weak ready keeps none =
      let k = settling_of old before is.condemned keeps is.was in
      ap (count_by (awaits_in old.blocks.blocks)) (sym k.condemned) ∙ k.settles.left ∙ sym (left_seen options old weak ready before is.condemned is.was) ∙ none

  -- so as many wait after it
  pub same_waiting : count_by (awaits_in old.blocks.blocks) is.condemned ≡ 0 → unfinalised_by new.blocks.blocks ≡ unfinalised_by old.blocks.blocks
  same_waiting none = gone_done old.blocks.blocks new.blocks.blocks gone is.blocks is.condemned none (λ b i. has_among is.condemned b (has_filter (among (graph_of old).blocks) is.condemned b (among_has (filter (among (graph_of old).blocks) is.condemned) b ((is.gone_is.1 b).0 i).0)).0)

  -- and it is one of each state that the heap serves
  pub may_reclaim : (options : Options) (weak : FinMap loc_cmp BlockId) (ready : Ready) (z : State) (t : ℕ) → Collects old (Some before) → AreTables old
      → IsSettling (seen_over options old weak ready (collector_of old (Some before))) t → finalisers_left (seen_over options old weak ready (collector_of old (Some before))) ≡ 0
      → Serves (seen_over options old weak ready (collector_of old (Some before))) z t → Reclaims z t gone kept (record (without z gone) { reclaims = z.reclaims + 1; cycle = None })
  may_reclaim options weak ready z t keeps are settling none s =
      settled_reclaims before.mode z (graph_of old) is.condemned (shown_to options old weak ready (collector_of old (Some before)) z t s before.mode are) (edges_rooted z (sound_intact z s.sound)) within t kept gone has finalised_all is.kept_is is.gone_is
    where
      k : Settling old before is.condemned
      k = settling_of old before is.condemned keeps is.was

      within : IsWithinScope before.mode (graph_of old) is.condemned
      within b i = let j = ap (λ l. among l b) k.condemned ∙ i in (k.settles.within b j, k.settles.scope b j)

      has : HasCondemned z t is.condemned
      has =
          let c = state_cycle settling.0 (Some (collecting old before)) z.cycle s.stands.cycle settling.2.0 in
          (c.0, (c.1, c.2.owner ∙ settling.2.1), c.2.condemned ∙ sym (ap (λ (o : Option Collecting). option_map_or (λ (g : Collecting). g.condemned) o None) settling.2.0) ∙ is.was)

      finalised_all : find (awaits z) is.condemned ≡ None
      finalised_all = finds_same (awaits z) (awaits_in old.blocks.blocks) is.condemned (awaits_same _ z s.stands s.sound) ∙ none_waits (awaits_in old.blocks.blocks) is.condemned (none_left options weak ready keeps none)
