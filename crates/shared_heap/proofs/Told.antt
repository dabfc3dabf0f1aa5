-- What a heap shows and keeps where its tables change after that was told
use Rattle.std.proofs.Common.{◌≡◌, ◌<◌, ℕ, cond, true, false, map, List, [], ◌∷◌, Option, Some, None, IfSome, IsTrue, is_some, length, slice_set, slice_get, drop, refl, sym, ap, subst, ◌∙◌, arith}
use Rattle.az_base.specs.declared.block_id.BlockId.{BlockId}
use Rattle.az_base.specs.declared.options.Options.{Options}
use Rattle.az_base.specs.declared.word.Word.{Word}
use Rattle.az_base.specs.declared.word.Word.TheVariants as word
use Rattle.az_base.specs.WithValue.{with_value}
use Rattle.az_base.specs.Places.{loc_cmp, pair_cmp}
use Rattle.block_layouts.specs.Layouts.{len_of, quanta}
use Rattle.quantum_space.specs.Shapes.{Has}
use Rattle.zone_model.specs.State.{with_edit}
use Rattle.std.specs.FinMap.{FinMap, get, insert}
use Rattle.az_base.specs.Ids.{among}
use Rattle.block_table.specs.Holds.{Holds}
use Rattle.block_table.specs.Places.{in_word, somes}
use Rattle.block_table.specs.Stored.{HeapBlock}
use Rattle.block_table.specs.Table.{IsTable, Table, used_by, with_block}
use Rattle.heap_tables.specs.Unshaded.{unshaded, unshaded_table}
use Rattle.heap_tables.specs.declared.tables.Tables.{Tables}
use Rattle.heap_cycle.specs.Barriers.{IsLive, IsWatched, OnlyNotes}
use Rattle.heap_cycle.specs.Collector.{Collector}
use Rattle.heap_cycle.specs.Collects.{Collects, collector_of}
use Rattle.heap_cycle.specs.Waiting.{unfinalised_by, waits}
use Rattle.heap_cycle.specs.declared.open_cycle.OpenCycle.{OpenCycle}
use Rattle.heap_cycle.specs.Livening.{blocks_in}
use Rattle.heap_cycle.proofs.Associated.{associated_collects}
use Rattle.heap_cycle.proofs.Added.{added_collects}
use Rattle.heap_cycle.proofs.Unshown.{added_unshown}
use Rattle.heap_cycle.proofs.Written.{written_collects}
use Rattle.block_layouts.specs.declared.layout.Layout.{Layout}
use Rattle.block_layouts.specs.Layouts.{first_words}
use Rattle.heap_tables.proofs.Places.{word_in}
use Rattle.quantum_space.proofs.Lists.{has_among}
use Rattle.zone_model.proofs.IntactBirths.{no_first_edge}
use Rattle.assoc_refs.specs.Table.{Associated}
use Rattle.shared_heap.specs.Assocs.{associated}
use Rattle.shared_heap.specs.Inside.{IsHeap}
use Rattle.shared_heap.specs.Shared as shared
use Rattle.shared_heap.specs.Shared.{Shared, with_gc}
use Rattle.shared_heap.specs.declared.heap.Heap.TheInside.{Inside}
use Rattle.shared_heap.proofs.Kept.{heap_alike}
use Rattle.shared_heap.proofs.Opened.{seen_with}
use Rattle.shared_heap.proofs.Sums.{sum_edited}
use Rattle.zone_model.specs.State.{reference}

-- a word that refers to a value refers to that one
referred_to : (v : Option BlockId) (b : BlockId) → in_word (reference v) ≡ Some b → v ≡ Some b
referred_to None b e = cc (e)
referred_to (Some x) b e = e

-- a word that is no reference tells nothing
pub number_tells : (Q : Type 0) (n : ℕ) (b : BlockId) → in_word (word.Number n) ≡ Some b → Q
number_tells Q n b e = cc (e)

-- what was told of a value was told of the block to which the word refers
told_of : (Q : BlockId → Type 0) (v : Option BlockId) (b : BlockId) → v ≡ Some b → IfSome v Q → Q b
told_of Q v b e q = subst (λ v. IfSome v Q) e q

pub value_told : (t : Tables) (o : Option OpenCycle) (id : BlockId) (v : Option BlockId) → IfSome v (IsLive t o) → IfSome v (IsWatched t o id) → (b : BlockId) → in_word (reference v) ≡ Some b → IsLive t o b × IsWatched t o id b
value_told t o id v live watched b e = let is = referred_to v b e in (told_of (IsLive t o) v b is live, told_of (IsWatched t o id) v b is watched)

pub just_told : (t : Tables) (o : Option OpenCycle) (id : BlockId) (v : Option BlockId) → IfSome v (IsLive t o) → IfSome v (IsWatched t o id) → (b : BlockId) → v ≡ Some b → IsLive t o b × IsWatched t o id b
just_told t o id v live watched b is = (told_of (IsLive t o) v b is live, told_of (IsWatched t o id) v b is watched)

-- a word is written over tables of which that was told
module _ (h : Inside) (u : Tables) (o : Option OpenCycle) (b : Table) (id : BlockId) (at : ℕ) (w : Word) (wrote : b ≡ record u.blocks { blocks = with_edit u.blocks.blocks id (λ (k : HeapBlock). record k { words = slice_set k.words at w }) }) where
  pub written_heap : IsHeap h → u.blocks.blocks ≡ h.tables.blocks.blocks → u.counts.counts ≡ h.tables.counts.counts → Collects u o → Has u.blocks.order id → ((b : BlockId) → in_word w ≡ Some b → IsLive u o b × IsWatched u o id b) → IsHeap (record h { tables = record u { blocks = b }; open_cycle = o })
  written_heap i blocks counts k there told = subst (λ x. IsHeap (record h { tables = record u { blocks = x }; open_cycle = o })) (sym wrote) (record {
    fits = let e = used_same in let f = i.fits in omega (arith, e, f);
    unfinalised = sum_edited (λ id k. cond {A = ℕ} (waits k) 1 0) u.blocks.blocks id _ (λ k. refl) ∙ ap unfinalised_by blocks ∙ i.unfinalised;
    some_wait = let e = used_same in let f = i.some_wait in omega (arith, e, f);
    collects = written_collects u o id at w k there told;
    counts = rw counts i.counts;
  })
    where
      used_same : used_by (with_edit u.blocks.blocks id (λ (k : HeapBlock). record k { words = slice_set k.words at w })) ≡ used_by h.tables.blocks.blocks
      used_same = sum_edited (λ id k. quanta (len_of k.layout)) u.blocks.blocks id _ (λ k. refl) ∙ ap used_by blocks

  -- what it shows
  pub written_shown : (options : Options) (weak : FinMap loc_cmp BlockId) (value : Option BlockId) (t : Tables) (gc before : Collector) → OnlyNotes t u → seen_with options (record u { blocks = b }) weak value gc ≡ with_gc (shared.written (seen_with options t weak value before) (Some id) at w) gc
  written_shown options weak value t gc before same =
      ap (λ x. seen_with options (record u { blocks = x }) weak value gc) wrote
      ∙ ap (λ (x : Tables). seen_with options (record x { blocks = record x.blocks { blocks = with_edit x.blocks.blocks id (λ (k : HeapBlock). record k { words = slice_set k.words at w }) } }) weak value gc) same

  -- and of its collections nothing else is shown
  pub written_gc : collector_of (record u { blocks = b }) o ≡ collector_of u o
  written_gc = ap (λ x. collector_of (record u { blocks = x }) o) wrote

-- what words refer to, as a collection walks them and as it is told of them
pub words_told : (ws : List Word) → somes (map in_word ws) ≡ blocks_in ws
words_told [] = refl
words_told (word.Null ∷ ws) = words_told ws
words_told (word.Block b ∷ ws) = ap (λ l. b ∷ l) (words_told ws)
words_told (word.Number n ∷ ws) = words_told ws

pub words_live : (t : Tables) (o : Option OpenCycle) (ws : List Word) → ((b : BlockId) → IsTrue (among (blocks_in ws) b) → IsLive t o b) → (b : BlockId) → Has (somes (map in_word ws)) b → IsLive t o b
words_live t o ws live b h = live b (has_among (blocks_in ws) b (subst (λ l. Has l b) (words_told ws) h))

-- a new block refers to none
pub first_live : (t : Tables) (o : Option OpenCycle) (layout : Layout) (b : BlockId) → Has (somes (map in_word (first_words layout))) b → IsLive t o b
first_live t o layout b h = let w = word_in (first_words layout) b h in absurd (no_first_edge layout w.0 b w.1)

-- where a first is there, there is one
pub some_first : {X : Type 0} (xs : List X) (x : X) → slice_get xs 0 ≡ Some x → 0 < length xs
some_first [] x e = cc (e)
some_first (y ∷ xs) x e = omega arith

-- who isn't there isn't listed
pub unlisted : (b : Table) (id : BlockId) → IsTable b → get b.blocks id ≡ None → ¬ Has b.order id
unlisted b id table none h = let there = (table.order id).0 h in let no : false ≡ true = sym (ap is_some none) ∙ there in cc (no)

-- a block comes in
abbrev pub with_kept : Shared → BlockId → HeapBlock → Holds → Shared
with_kept h id k m = record h { blocks = insert h.blocks id k; holds = insert h.holds id m; room = drop 1 h.room }

module _ (u : Tables) (b : Table) (id : BlockId) (k : HeapBlock) (m : Holds) (put : b ≡ with_block u.blocks id k m) where
  pub added_shown : (options : Options) (weak : FinMap loc_cmp BlockId) (value : Option BlockId) (t : Tables) (gc before : Collector) → unshaded u ≡ unshaded t → seen_with options (record u { blocks = b }) weak value gc ≡ with_gc (with_kept (seen_with options t weak value before) id k m) gc
  added_shown options weak value t gc before same =
      ap (λ x. seen_with options (record u { blocks = x }) weak value gc) put
      ∙ ap (λ (x : Tables). seen_with options (record x { blocks = with_block x.blocks id k m }) weak value gc) same

  -- the collections show nothing of it
  pub added_gc : (o : Option OpenCycle) → IsTable u.blocks → get u.blocks.blocks id ≡ None → collector_of (record u { blocks = b }) o ≡ collector_of u o
  added_gc o table none = added_unshown u (record u { blocks = b }) id k m put (unlisted u.blocks id table none) table.began o refl

  -- and tables and cycle keep what they have to
  pub added_keeps : (o : Option OpenCycle) → IsTable u.blocks → get u.blocks.blocks id ≡ None → k.age ≡ 0 → 0 < length u.blocks.room → ((b : BlockId) → Has (somes (map in_word k.words)) b → IsLive u o b) → Collects u o → Collects (record u { blocks = b }) o
  added_keeps o table none age room live keeps = added_collects u o id k m (unlisted u.blocks id table none) table.began keeps none age room live (record u { blocks = b }) put refl refl

-- an association is changed over tables of which that was told
module _ (h : Inside) (u : Tables) (o : Option OpenCycle) (a : Associated) (object : BlockId) (key : ℕ) (v : Option BlockId) (set : a.pairs ≡ with_value u.assocs.pairs (object, key) v) where
  pub associated_heap : IsHeap h → u.blocks.blocks ≡ h.tables.blocks.blocks → u.counts.counts ≡ h.tables.counts.counts → Collects u o → Has u.blocks.order object → ((b : BlockId) → v ≡ Some b → IsLive u o b × IsWatched u o object b) → IsHeap (record h { tables = record u { assocs = a }; open_cycle = o })
  associated_heap i blocks counts k there told = heap_alike h (record u { assocs = a }) o i blocks counts (associated_collects u o object key v k there told (record u { assocs = a }) refl refl set)

  pub associated_shown : (options : Options) (weak : FinMap loc_cmp BlockId) (value : Option BlockId) (t : Tables) (gc before : Collector) → a.ready ≡ None → u ≡ record t { blocks = u.blocks; cards = u.cards; assocs = u.assocs } → unshaded_table u.blocks ≡ unshaded_table t.blocks → u.assocs.pairs ≡ t.assocs.pairs
      → seen_with options (record u { assocs = a }) weak value gc ≡ with_gc (associated (seen_with options t weak value before) (Some object) key v) gc
  associated_shown options weak value t gc before none rest blocks pairs =
      ap (λ (p : FinMap pair_cmp BlockId). seen_with options (record u { assocs = record a { pairs = p } }) weak value gc) (set ∙ ap (λ p. with_value p (object, key) v) pairs)
      ∙ ap (λ r. seen_with options (record u { assocs = record a { pairs = with_value t.assocs.pairs (object, key) v; ready = r } }) weak value gc) none
      ∙ ap (λ (x : Tables). seen_with options (record x { assocs = record a { pairs = with_value t.assocs.pairs (object, key) v; ready = None } }) weak value gc) rest
      ∙ ap (λ (b : Table). seen_with options (record t { blocks = b; assocs = record a { pairs = with_value t.assocs.pairs (object, key) v; ready = None } }) weak value gc) blocks
