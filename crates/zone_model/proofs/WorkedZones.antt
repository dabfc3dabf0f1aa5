-- Zones whose blocks stand in a list, and the steps that lead from one to the next
use Rattle.std.proofs.Common.{◌≡◌, ℕ, ◌+◌, nat_lt, nat_le, Bool, true, false, cond, ◌||◌, T, zero, suc, [], ◌∷◌, ◌++◌, List, Option, Some, None, MatchOption, refl, sym, ap, ◌∙◌, subst, IsTrue, is_some, slice_get, option_and_then, unwrap_or, inl, inr, arith}
use Rattle.std.specs.Option.{option_map, option_map_or}
use Rattle.std.specs.declared.cmp.Ordering.TheVariants.{Less, Equal, Greater}
use Rattle.std.specs.Ordering.{is_eq}
use Rattle.std.specs.List.Sorted.{IsStrictlySortedBy}
use Rattle.std.specs.FinMap.{FinMap, empty, entries-insert, entries-from_sorted, from_sorted, get, get-empty, get-insert, get-from_sorted, insert, find, put, is_sorted, same_entries_map, same_map}
use Rattle.az_base.specs.declared.block_id.BlockId.{BlockId}
use Rattle.az_base.specs.declared.misuse.Misuse.{Misuse}
use Rattle.az_base.specs.declared.misuse.Misuse.TheVariants as misuse
use Rattle.az_base.specs.declared.word.Class.TheVariants as class
use Rattle.az_base.specs.declared.word.Word.TheVariants as word
use Rattle.az_base.specs.Ids.{id_cmp, same_id, ids_total, exact_ids, among}
use Rattle.az_base.specs.declared.options.Options.{Options}
use Rattle.az_base.specs.OptionRanges.{usual_options}
use Rattle.block_layouts.specs.Layouts.{len_of, class_at}
use Rattle.zone_model.specs.declared.call.Call.TheVariants as call
use Rattle.zone_model.specs.declared.entry.Reply.TheVariants as reply
use Rattle.zone_model.specs.declared.entry.Entry.{Entry}
use Rattle.zone_model.specs.Maps.{total, list_total, each_value, map_values}
use Rattle.zone_model.proofs.MapLaws.{sorted-each, find-each, get-map_values}
use Rattle.zone_model.specs.Quanta.{used_quanta, quanta_needed}
use Rattle.zone_model.specs.Misuses.{misuse_of}
use Rattle.zone_model.specs.State.{State, Block, opening, is_escaped, count_of}
use Rattle.zone_model.specs.Reach.{Edge, WordEdge, IsHeld}
use Rattle.az_base.specs.Places.{pair_cmp}
use Rattle.zone_model.specs.Escape.{Need, Tells, with_escaped}
use Rattle.zone_model.specs.Step.{Step, Happens}
use Rattle.zone_model.specs.History.{Ends, Legal}
use Rattle.zone_model.specs.Collection.{Lists}
use Rattle.zone_model.proofs.Determined.{run_determined}
use Rattle.zone_model.proofs.WeakRuns.{run_parts}

-- blocks with their ids
abbrev pub Listed : Type 0
Listed = List (BlockId × Block)

-- the map of a list in the order of its ids
abbrev pub map_of : Listed → FinMap id_cmp Block
map_of es = from_sorted es

-- a zone with these blocks, which is used as every zone is at first
abbrev pub zone_with : Listed → (ℕ → ℕ → Option BlockId) → (ℕ → ℕ) → (ℕ → Option BlockId) → ℕ → State
zone_with es registers serials roots reclaims = record (opening usual_options) { blocks = map_of es; registers = registers; serials = serials; roots = roots; reclaims = reclaims }

-- such maps compute

pub listed_get : (es : Listed) → T (is_sorted id_cmp es) → (q : BlockId) → get (map_of es) q ≡ find id_cmp q es
listed_get es h q = get-from_sorted id_cmp es q h

pub listed_total : (f : BlockId → Block → ℕ) (es : Listed) → T (is_sorted id_cmp es) → total f (map_of es) ≡ list_total f es
unfolding total
listed_total f es h = ap (list_total f) (entries-from_sorted id_cmp es h)

pub listed_insert : (es : Listed) (k : BlockId) (b : Block) → T (is_sorted id_cmp es) → T (is_sorted id_cmp (put id_cmp k b es)) → insert (map_of es) k b ≡ map_of (put id_cmp k b es)
listed_insert es k b h g = same_entries_map _ _ (entries-insert ids_total (map_of es) k b ∙ ap (put id_cmp k b) (entries-from_sorted id_cmp es h) ∙ sym (entries-from_sorted id_cmp (put id_cmp k b es) g))

pub listed_each : (f : BlockId → Block → Block) (es : Listed) → T (is_sorted id_cmp es) → map_values id_cmp f (map_of es) ≡ map_of (each_value id_cmp f es)
listed_each f es h = same_map ids_total exact_ids _ _ (λ q. get-map_values id_cmp f exact_ids (map_of es) q ∙ ap (option_map (f q)) (listed_get es h q) ∙ sym (find-each id_cmp f exact_ids q es) ∙ sym (listed_get (each_value id_cmp f es) (subst T (sym (sorted-each id_cmp f es)) h) q))

-- what holds of each block of the list
abbrev pub Every : (BlockId → Block → Type 0) → Listed → Type 0
Every P [] = Unit {0}
Every P (e ∷ es) = P e.0 e.1 × Every P es

find_every : (P : BlockId → Block → Type 0) (es : Listed) → Every P es → (q : BlockId) (b : Block) → find id_cmp q es ≡ Some b → P q b
find_every P [] all q b h = cc (h)
find_every P ((k, x) ∷ es) all q b h =
    elim (id_cmp q k) as (λ r. id_cmp q k ≡ r → cond (is_eq r) (Some x) (find id_cmp q es) ≡ Some b → P q b) [
      | Less ↦ λ e g. find_every P es all.1 q b g
      | Equal ↦ λ e g. let same : x ≡ b = cc (g) in subst (λ (i : BlockId). P i b) (sym (exact_ids q k e)) (subst (P k) same all.0)
      | Greater ↦ λ e g. find_every P es all.1 q b g
    ] refl h

pub each_block : (P : BlockId → Block → Type 0) (es : Listed) → T (is_sorted id_cmp es) → Every P es → (q : BlockId) (b : Block) → get (map_of es) q ≡ Some b → P q b
each_block P es h all q b there = find_every P es all q b (sym (listed_get es h q) ∙ there)

-- a test of a block that passes has a block
pub tested : {X : Type 0} (f : X → Bool) (o : Option X) → IsTrue (option_map_or f o false) → (x : X) × (o ≡ Some x) × IsTrue (f x)
tested f None h = cc (h)
tested f (Some x) h = (x, refl, h)

pub same_block : (q b : BlockId) → IsTrue (same_id q b) → q ≡ b
same_block q b h = elim (id_cmp q b) as (λ r. id_cmp q b ≡ r → IsTrue (is_eq r) → q ≡ b) [ Less ↦ λ e f. cc (f) | Equal ↦ λ e f. exact_ids q b e | Greater ↦ λ e f. cc (f) ] refl h

-- one block is among one
or_false : (a : Bool) → IsTrue (a || false) → IsTrue a
or_false true h = h
or_false false h = h

pub among_one : (b q : BlockId) → IsTrue (among (b ∷ []) q) → q ≡ b
among_one b q h = same_block q b (or_false (same_id q b) h)

-- a word of null refers to nothing, and one word to what it holds
pub null_word : (i : ℕ) (q : BlockId) → slice_get (word.Null ∷ []) i ≡ Some (word.Block q) → ⊥
null_word zero q h = cc (h)
null_word (suc i) q h = cc (h)

pub one_word : (b : BlockId) (i : ℕ) (q : BlockId) → slice_get (word.Block b ∷ []) i ≡ Some (word.Block q) → q ≡ b
one_word b zero q h = cc (h)
one_word b (suc i) q h = cc (h)

-- a step with what it makes escape
pub step_by : (z : State) (e : Entry) (after : State) (need : BlockId → Bool) → z.ended e.thread ≡ false → Tells need (Need z e.thread e.call)
    → misuse_of z e.thread e.call need ≡ None → Happens (with_escaped z need) e.thread e.call e.reply after → Step z e after
step_by z e after need running needed right happens = record {
  running = running;
  need = need;
  needed = needed;
  does = subst (λ (m : Option Misuse). MatchOption m (Happens (with_escaped z need) e.thread e.call e.reply after) (λ m. (e.reply ≡ reply.Misuse m) × (after ≡ z))) (sym right) happens;
}

-- there is room for what a root makes escape
pub root_right : (z : State) (t g r : ℕ) (need : BlockId → Bool) (used more : ℕ) → used_quanta z ≡ used → quanta_needed z need ≡ more → nat_lt z.options.heap_quanta (used + more) ≡ false
    → misuse_of z t (call.SetRoot (record { 0 = g }) r) need ≡ None
root_right z t g r need used more u m fits =
    ap (λ n. cond (nat_lt z.options.heap_quanta (n + quanta_needed z need)) (Some misuse.ZoneFull) None) u
    ∙ ap (λ n. cond (nat_lt z.options.heap_quanta (used + n)) (Some misuse.ZoneFull) None) m
    ∙ ap (λ b. cond b (Some misuse.ZoneFull) None) fits

-- no step, no history
pub illegal : (o : Options) (es : List Entry) (e : Entry) (z : State) → Ends o es z → ((after : State) → Step z e after → ⊥) → Legal o (es ++ e ∷ []) → ⊥
illegal o es e z ends none legal =
    let cut = run_parts (opening o) es (e ∷ []) legal.0 legal.1 in
    none cut.2.0 (subst (λ y. Step y e cut.2.0) (run_determined (opening o) es cut.0 z cut.1 ends) cut.2.1)

-- lists of one, and of none
pub lists_none : (P : BlockId → Type 0) → ((q : BlockId) → P q → ⊥) → Lists [] P
unfolding IsStrictlySortedBy
lists_none P none = (tt, λ q. (λ h. cc (h), λ p. absurd (none q p)))

-- one block, as a list
pub one_listed : (k : BlockId) (b : Block) → insert empty k b ≡ map_of ((k, b) ∷ [])
one_listed k b = same_map ids_total exact_ids _ _ (λ q. get-insert ids_total empty k b q ∙ ap (cond (is_eq (id_cmp q k)) (Some b)) (get-empty id_cmp q) ∙ sym (listed_get ((k, b) ∷ []) tt q))

-- an escaped block is there
pub escaped_block : (z : State) (q : BlockId) → IsTrue (is_escaped z q) → (b : Block) × (get z.blocks q ≡ Some b) × IsTrue (is_some b.since)
escaped_block z q h = by_value (get z.blocks q) h
  where
    by_value : (o : Option Block) → IsTrue (is_some (option_and_then (λ (b : Block). b.since) o)) → (b : Block) × (o ≡ Some b) × IsTrue (is_some b.since)
    by_value None h = cc (h)
    by_value (Some b) h = (b, refl, h)

module _ (z : State) where
  -- nothing is held
  pub unheld : ((t r : ℕ) (q : BlockId) → z.registers t r ≡ Some q → ⊥) → ((g : ℕ) (q : BlockId) → z.roots g ≡ Some q → ⊥) → z.counts ≡ empty → (q : BlockId) → IsHeld z q → ⊥
  unheld registers roots counts q (inl h) = registers h.0 h.1 q h.2
  unheld registers roots counts q (inr (inl h)) = roots h.0 q h.1
  unheld registers roots counts q (inr (inr h)) = let n : count_of z q ≡ 0 = ap (λ m. unwrap_or (get m q) 0) counts ∙ ap (λ o. unwrap_or o 0) (get-empty id_cmp q) in omega (arith, h, n)

  -- an edge is a word
  pub word_edge : z.assocs ≡ empty → (x q : BlockId) → Edge z x q → WordEdge z.blocks x q
  word_edge none x q (inl h) = h
  word_edge none x q (inr (key, h)) = let f : None ≡ Some q = sym (ap (λ m. get m (x, key)) none ∙ get-empty pair_cmp (x, key)) ∙ h in cc (f)

-- there are a Strong word and room for a store
pub store_right : (z : State) (t into from : ℕ) (need : BlockId → Bool) (id : BlockId) (b : Block) (used more : ℕ) → z.registers t into ≡ Some id → get z.blocks id ≡ Some b
    → nat_le (len_of b.layout) 0 ≡ false → class_at b.layout 0 ≡ Some class.Strong → used_quanta z ≡ used → quanta_needed z need ≡ more → nat_lt z.options.heap_quanta (used + more) ≡ false
    → misuse_of z t (call.Store into 0 from) need ≡ None
store_right z t into from need id b used more holds there long strong u m fits = rw (holds, there, long, strong, u, m, fits) refl
