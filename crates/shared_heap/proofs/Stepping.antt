-- The steps of the heap's calls
use Rattle.std.proofs.Common.{◌≡◌, ℕ, ◌≤◌, ◌<◌, ◌||◌, Bool, true, false, cond, not, nat_le, List, [], ◌∷◌, Option, Some, None, Result, Ok, Err, IsSome, IfSome, IsTrue, is_some, is_none, slice_get, refl, sym, ap, subst, ◌∙◌, arith, inl, inr, length}
use Rattle.std.proofs.lemmas.Bool.Decides.{nat_tests}
use Rattle.std.proofs.lemmas.Grind.{common_steps}
use Rattle.std.proofs.lemmas.Option.{slice_get_cases}
use Rattle.std.specs.Result.{result_err}
use Rattle.std.specs.Option.{option_map_or, option_and_then}
use Rattle.std.specs.FinMap.{get, len}
use Rattle.zone_model.specs.declared.entry.Stats.{Stats}
use Rattle.zone_model.specs.Stats.{stats_of}
use Rattle.az_base.specs.declared.block_id.BlockId.{BlockId}
use Rattle.az_base.specs.declared.misuse.Misuse.{Misuse}
use Rattle.az_base.specs.declared.misuse.Misuse.TheVariants as misuse
use Rattle.az_base.specs.declared.word.Class.{Class}
use Rattle.az_base.specs.declared.word.Class.TheVariants as class
use Rattle.az_base.specs.declared.word.Word.{Word}
use Rattle.az_base.specs.declared.word.Word.TheVariants as word
use Rattle.block_layouts.specs.declared.layout.Layout.{Layout}
use Rattle.block_layouts.specs.declared.layout.Shape.TheVariants as shape
use Rattle.block_layouts.specs.Layouts.{len_of, class_at, same_class}
use Rattle.block_layouts.proofs.Fitting.{class_within}
use Rattle.zone_model.specs.declared.call.Call.{Call}
use Rattle.zone_model.specs.declared.call.Call.TheVariants as call
use Rattle.zone_model.specs.declared.entry.Reply.{Reply}
use Rattle.zone_model.specs.declared.entry.Reply.TheVariants as reply
use Rattle.zone_model.specs.State.{State, Block, is_escaped, is_unescaped, with_word, with_root, with_register, word_at, reference, referent}
use Rattle.zone_model.specs.Reach.{Edge, Path}
use Rattle.zone_model.specs.Escape.{Need, EscOf}
use Rattle.zone_model.specs.Misuses.{Named, words_named, null_block, no_word, wrong_class, first_of, misuse_of}
use Rattle.zone_model.specs.Step.{seen_now}
use Rattle.zone_model.proofs.Steps.{step_plain, step_misuse}
use Rattle.block_table.specs.Stored.{HeapBlock}
use Rattle.shared_heap.specs.Cycles.{AfterBarrier}
use Rattle.heap_cycle.specs.Livening.{Livens, of_option}
use Rattle.block_table.specs.Table.{used_by}
use Rattle.shared_heap.specs.Shared.{Shared, written, rooted, stats_in, with_gc}
use Rattle.heap_tables.specs.Standing.{kept_of, escaped_view}
use Rattle.shared_heap.specs.Stands.{Stands, EscapedClosed}
use Rattle.shared_heap.specs.Steps.{Runs, Stepped, NeedsWord, first_three, after_write}
use Rattle.shared_heap.specs.Words.{word_misuse, class_misuse, class_in, is_past, is_other, reply_or}
use Rattle.shared_heap.specs.Words as own
use Rattle.shared_heap.proofs.Collecting.{live_stands, register_anchored}
use Rattle.shared_heap.proofs.Sums.{not_full, used_stands, number_stands}
use Rattle.shared_heap.proofs.Standing.{word_stands, root_stands, seen_stands, register_stands}

-- the block of the state that the heap has
pub record Has (z : State) (id : BlockId) (k : HeapBlock) : Type 0 where
  pub block : Block
  pub here : get z.blocks id ≡ Some block
  pub since : IsTrue (is_some block.since)
  pub layout : block.layout ≡ k.layout
  pub words : block.words ≡ k.words

pub has : (h : Shared) (z : State) (id : BlockId) (k : HeapBlock) → Stands h z → get h.blocks id ≡ Some k → Has z id k
has h z id k s is = go (get z.blocks id) refl (sym (s.blocks id) ∙ is)
  where
    escaped : (b : Block) → get z.blocks id ≡ Some b → (o : Option ℕ) → b.since ≡ o → kept_of z.reclaims b ≡ Some k → Has z id k
    escaped b e None f g = let none : None ≡ Some k = rw f at g in cc
    escaped b e (Some n) f g = let kept = rw f at g in record {
      block = b;
      here = e;
      since = ap is_some f;
      layout = ap (λ (o : Option HeapBlock). elim o [ None ↦ b.layout | Some k ↦ k.layout ]) kept;
      words = ap (λ (o : Option HeapBlock). elim o [ None ↦ b.words | Some k ↦ k.words ]) kept;
    }

    go : (o : Option Block) → get z.blocks id ≡ o → escaped_view z.reclaims o ≡ Some k → Has z id k
    go None e f = cc
    go (Some b) e f = escaped b e b.since refl f

-- a block of the heap has escaped
pub escaped_here : (h : Shared) (z : State) (id : BlockId) → Stands h z → IsSome (get h.blocks id) → IsTrue (is_escaped z id)
escaped_here h z id s there = go (get h.blocks id) refl there
  where
    go : (o : Option HeapBlock) → get h.blocks id ≡ o → IsSome o → IsTrue (is_escaped z id)
    go None e i = cc
    go (Some k) e i = let b = has h z id k s e in ap (λ o. is_some (option_and_then (λ (b : Block). b.since) o)) b.here ∙ b.since

-- what the class of a word says
pub past : (l : Layout) (at : ℕ) → class_at l at ≡ None → nat_le (len_of l) at ≡ true
past (shape.Scanned n) at e = grind (arith, nat_tests, common_steps)
past (shape.Unscanned n) at e = grind (arith, nat_tests, common_steps)
past (shape.Object cs) at e = elim (slice_get_cases cs at).1 [
  | inl w ↦ cc
  | inr w ↦ let le = w.0 in grind (arith, nat_tests, common_steps)
]

-- the misuses of one word
pub one_word : (l : Layout) (at : ℕ) (class : Class) → let w : Named = record { layout = l; at = at; class = class } in
    first_of ((is_past w || false, misuse.NoWord) ∷ (is_other w || false, misuse.WrongClass) ∷ []) ≡ class_misuse class (class_at l at)
one_word l at class = go (class_at l at) refl
  where
    go : (o : Option Class) → class_at l at ≡ o → first_of ((nat_le (len_of l) at || false, misuse.NoWord) ∷ (option_map_or (λ c. not (same_class c class)) (class_at l at) false || false, misuse.WrongClass) ∷ []) ≡ class_misuse class o
    go None e = rw (past l at e) refl
    go (Some c) e = rw (class_within l at c e, e) (by_test (same_class c class))
      where
        by_test : (b : Bool) → first_of ((false || false, misuse.NoWord) ∷ (not b || false, misuse.WrongClass) ∷ []) ≡ cond b None (Some misuse.WrongClass)
        by_test true = refl
        by_test false = refl

-- the first three misuses of a call that needs a word
pub three : (h : Shared) (z : State) (t : ℕ) (c : Call) (reg at : ℕ) (class : Class) (id : Option BlockId) → Stands h z → IfSome id (λ b. IsSome (get h.blocks b))
    → z.registers t reg ≡ id → NeedsWord z t c reg at class → first_three z t c ≡ word_misuse h id at class
three h z t c reg at class None s given holds needs = rw (needs.holder, holds) refl
three h z t c reg at class (Some b) s given holds needs = go (get h.blocks b) refl given
  where
    go : (o : Option HeapBlock) → get h.blocks b ≡ o → IsSome o → first_three z t c ≡ class_misuse class (option_and_then (λ k. class_at k.layout at) (get h.blocks b))
    go None e i = cc
    go (Some k) e i =
        let it = has h z b k s e in
        let named : words_named z t c ≡ (record { layout = k.layout; at = at; class = class } ∷ []) = needs.word ∙ rw (holds, it.here, it.layout) refl in
        rw (needs.holder, holds, named, e) (one_word k.layout at class)

-- a word of the heap is one of the state
pub same_word : (h : Shared) (z : State) (a : Option BlockId) (at : ℕ) → Stands h z → IfSome a (λ b. IsSome (get h.blocks b)) → word_at z a at ≡ own.word_in h a at
same_word h z None at s given = refl
same_word h z (Some b) at s given = go (get h.blocks b) refl given
  where
    go : (o : Option HeapBlock) → get h.blocks b ≡ o → IsSome o → option_and_then (λ (b : Block). slice_get b.words at) (get z.blocks b) ≡ option_and_then (λ (k : HeapBlock). slice_get k.words at) (get h.blocks b)
    go None e i = cc
    go (Some k) e i = let it = has h z b k s e in rw (it.here, e) (ap (λ ws. slice_get ws at) it.words)

pub misuse_found : (h : Shared) (a : Option BlockId) (at : ℕ) (class : Class) (r : Result BlockId Misuse) → own.Finds h a at class r → result_err r ≡ word_misuse h a at class
misuse_found h a at class (Ok id) f = sym f.2
misuse_found h a at class (Err m) f = sym f

-- a misuse is a step that changes nothing
pub misused : (h : Shared) (z : State) (t : ℕ) (c : Call) (m : Misuse) → Runs h z t → ((id : BlockId) → Need z t c id → ⊥) → misuse_of z t c (λ _. false) ≡ Some m → Stepped h z t c (reply.Misuse m)
misused h z t c m runs none wrong = (z, step_misuse z _ m runs.running none wrong refl, runs.stands)

module _ (h new : Shared) (z : State) (t reg at : ℕ) (a : Option BlockId) (runs : Runs h z t) (given : IfSome a (λ b. IsSome (get h.blocks b))) (holds : z.registers t reg ≡ a) where
  pub load_misuse : (to : ℕ) → misuse_of z t (call.Load to reg at) (λ _. false) ≡ word_misuse h a at class.Strong
  load_misuse to = three h z t (call.Load to reg at) reg at class.Strong a runs.stands given holds (record { holder = refl; word = refl })

  pub load_step : (to : ℕ) (v : Option BlockId) → word_misuse h a at class.Strong ≡ None → v ≡ referent (own.word_in h a at) → Stands new z → Stepped new z t (call.Load to reg at) (reply.Block v)
  load_step to v right is s =
      let mid = with_register z t to v in
      let reads : v ≡ referent (word_at z (z.registers t reg) at) = is ∙ sym (ap referent (ap (λ a. word_at z a at) holds ∙ same_word h z a at runs.stands given)) in
      (seen_now mid, step_plain z _ (seen_now mid) runs.running (λ id n. n) (load_misuse to ∙ right) (mid, (reads, refl), refl), seen_stands new mid (register_stands new z t to v s))

  pub get_misuse : misuse_of z t (call.Get reg at) (λ _. false) ≡ word_misuse h a at class.Plain
  get_misuse = three h z t (call.Get reg at) reg at class.Plain a runs.stands given holds (record { holder = refl; word = refl })

  pub get_step : (n : ℕ) → word_misuse h a at class.Plain ≡ None → own.word_in h a at ≡ Some (word.Number n) → Stepped h z t (call.Get reg at) (reply.Number n)
  get_step n right is =
      let reads : word_at z (z.registers t reg) at ≡ Some (word.Number n) = ap (λ a. word_at z a at) holds ∙ same_word h z a at runs.stands given ∙ is in
      (seen_now z, step_plain z _ (seen_now z) runs.running (λ id n. n) (get_misuse ∙ right) (z, (reads, refl), refl), seen_stands h z runs.stands)

  pub put_misuse : (n : ℕ) → misuse_of z t (call.Put reg at n) (λ _. false) ≡ word_misuse h a at class.Plain
  put_misuse n = three h z t (call.Put reg at n) reg at class.Plain a runs.stands given holds (record { holder = refl; word = refl })

  -- the heap after a write
  written_stands : (w : Word) → new ≡ written h a at w → Stands new (with_word z (z.registers t reg) at w)
  written_stands w is = rw (is, holds) (go a)
    where
      go : (a : Option BlockId) → Stands (written h a at w) (with_word z a at w)
      go None = record { options = runs.stands.options; blocks = runs.stands.blocks; roots = runs.stands.roots; counts = runs.stands.counts; assocs = runs.stands.assocs; weak = runs.stands.weak; cycle = runs.stands.cycle }
      go (Some id) = word_stands h z id at w runs.stands

  pub put_step : (n : ℕ) → word_misuse h a at class.Plain ≡ None → new ≡ written h a at (word.Number n) → Stepped new z t (call.Put reg at n) reply.Done
  put_step n right is =
      let mid = with_word z (z.registers t reg) at (word.Number n) in
      (seen_now mid, step_plain z _ (seen_now mid) runs.running (λ id n. n) (put_misuse n ∙ right) (mid, refl, refl), seen_stands new mid (written_stands (word.Number n) is))

  pub put_any : (n : ℕ) (r : Reply) → r ≡ reply_or (word_misuse h a at class.Plain) reply.Done → new ≡ after_write h a at (word.Number n) r → Stepped new z t (call.Put reg at n) r
  put_any n r says is = go (word_misuse h a at class.Plain) refl says
    where
      go : (m : Option Misuse) → word_misuse h a at class.Plain ≡ m → r ≡ reply_or m reply.Done → Stepped new z t (call.Put reg at n) r
      go None e f = subst (λ r. Stepped new z t (call.Put reg at n) r) (sym f) (put_step n e (is ∙ ap (after_write h a at (word.Number n)) f))
      go (Some m) e f =
          let same : new ≡ h = is ∙ ap (after_write h a at (word.Number n)) f in
          subst (λ r. Stepped new z t (call.Put reg at n) r) (sym f) (subst (λ k. Stepped k z t (call.Put reg at n) (reply.Misuse m)) (sym same) (misused h z t (call.Put reg at n) m runs (λ id n. n) (put_misuse n ∙ e)))

-- in a sound state nothing escapes where an escaped block is stored
path_escaped : (z : State) → EscapedClosed z → (a b : BlockId) (steps : List BlockId) → IsTrue (is_escaped z a) → Path (Edge z) a steps b → IsTrue (is_escaped z b)
path_escaped z s a b [] e p = subst (λ x. IsTrue (is_escaped z x)) p e
path_escaped z s a b (c ∷ steps) e p = path_escaped z s c b steps (s a c e p.0) p.1

one_only : (z : State) (b : BlockId) → IsTrue (is_escaped z b) → IsTrue (is_unescaped z b) → ⊥
one_only z b e u = go (get z.blocks b) refl
  where
    since : (block : Block) (o : Option ℕ) → block.since ≡ o → get z.blocks b ≡ Some block → ⊥
    since block None f g = let no : is_escaped z b ≡ false = ap (λ o. is_some (option_and_then (λ (b : Block). b.since) o)) g ∙ ap is_some f in cc
    since block (Some n) f g = let no : is_unescaped z b ≡ false = ap (λ o. option_map_or (λ (b : Block). is_none b.since) o false) g ∙ ap is_none f in cc

    go : (o : Option Block) → get z.blocks b ≡ o → ⊥
    go None f = let no : is_escaped z b ≡ false = ap (λ o. is_some (option_and_then (λ (b : Block). b.since) o)) f in cc
    go (Some block) f = since block block.since refl f

pub none_escape : (h : Shared) (z : State) (v : Option BlockId) → Stands h z → EscapedClosed z → IfSome v (λ b. IsSome (get h.blocks b)) → (id : BlockId) → EscOf z v id → ⊥
none_escape h z None s sound there id e = e
none_escape h z (Some b) s sound there id e = one_only z id (path_escaped z sound b id e.1.0 (escaped_here h z b s there) e.1.1) e.0

module _ (h new : Shared) (z : State) (t reg from at : ℕ) (a v : Option BlockId) (runs : Runs h z t) (sound : EscapedClosed z) (given : IfSome a (λ b. IsSome (get h.blocks b))) (there : IfSome v (λ b. IsSome (get h.blocks b)))
    (fits : used_by h.blocks ≤ h.options.heap_quanta) (holds : z.registers t reg ≡ a) (has_value : z.registers t from ≡ v) where
  pub store_misuse : misuse_of z t (call.Store reg at from) (λ _. false) ≡ word_misuse h a at class.Strong
  store_misuse =
      ap (λ full. first_of ((null_block z t (call.Store reg at from), misuse.NullBlock) ∷ (no_word z t (call.Store reg at from), misuse.NoWord) ∷ (wrong_class z t (call.Store reg at from), misuse.WrongClass) ∷ (full, misuse.ZoneFull) ∷ [])) (not_full h z runs.stands fits)
      ∙ three h z t (call.Store reg at from) reg at class.Strong a runs.stands given holds (record { holder = refl; word = refl })

  pub store_needs : (id : BlockId) → Need z t (call.Store reg at from) id → ⊥
  store_needs id n = none_escape h z v runs.stands sound there id (subst (λ v. EscOf z v id) has_value n.1)

  pub store_step : word_misuse h a at class.Strong ≡ None → new ≡ with_gc (written h a at (reference v)) new.gc → Livens h.gc new.gc (of_option v) (of_option a) → Stepped new z t (call.Store reg at from) reply.Done
  store_step right is lives =
      let mid = with_word z (z.registers t reg) at (reference (z.registers t from)) in
      let stands : Stands (written h a at (reference v)) mid = rw has_value (written_stands h (written h a at (reference v)) z t reg at a runs given holds (reference v) refl) in (
        seen_now mid,
        step_plain z _ (seen_now mid) runs.running store_needs (store_misuse ∙ right) (mid, refl, refl),
        rw is (live_stands (written h a at (reference v)) mid new.gc (of_option v) (of_option a) (subst (λ g. Livens g new.gc (of_option v) (of_option a)) (sym (written_gc a)) lives) (register_anchored mid t from v has_value) stands),
      )
    where
      written_gc : (b : Option BlockId) → (written h b at (reference v)).gc ≡ h.gc
      written_gc None = refl
      written_gc (Some id) = refl

  pub store_any : (r : Reply) → r ≡ reply_or (word_misuse h a at class.Strong) reply.Done → new ≡ with_gc (after_write h a at (reference v) r) new.gc → AfterBarrier h.gc new.gc r (of_option v) (of_option a) → Stepped new z t (call.Store reg at from) r
  store_any r says is barrier = go (word_misuse h a at class.Strong) refl says
    where
      go : (m : Option Misuse) → word_misuse h a at class.Strong ≡ m → r ≡ reply_or m reply.Done → Stepped new z t (call.Store reg at from) r
      go None e f = subst (λ r. Stepped new z t (call.Store reg at from) r) (sym f) (store_step e (is ∙ ap (λ r. with_gc (after_write h a at (reference v) r) new.gc) f) (subst (λ r. AfterBarrier h.gc new.gc r (of_option v) (of_option a)) f barrier))
      go (Some m) e f =
          let same : new ≡ h = is ∙ ap (λ r. with_gc (after_write h a at (reference v) r) new.gc) f ∙ ap (with_gc h) (subst (λ r. AfterBarrier h.gc new.gc r (of_option v) (of_option a)) f barrier) in
          subst (λ r. Stepped new z t (call.Store reg at from) r) (sym f) (subst (λ k. Stepped k z t (call.Store reg at from) (reply.Misuse m)) (sym same) (misused h z t (call.Store reg at from) m runs store_needs (store_misuse ∙ e)))

-- the roots
pub set_root_step : (h new : Shared) (z : State) (t from g : ℕ) (v : Option BlockId) → Runs h z t → EscapedClosed z → IfSome v (λ b. IsSome (get h.blocks b)) → used_by h.blocks ≤ h.options.heap_quanta → length h.roots ≡ 256 → g < 256
    → z.registers t from ≡ v → new ≡ with_gc (rooted h g v) new.gc → Livens h.gc new.gc (of_option v) [] → Stepped new z t (call.SetRoot (record { 0 = g }) from) reply.Done
set_root_step h new z t from g v runs sound there fits all l has_value is lives =
    let mid = with_root z g (z.registers t from) in
    let stands : Stands (rooted h g v) mid = rw has_value (root_stands h z g v all l runs.stands) in
    let right : misuse_of z t (call.SetRoot (record { 0 = g }) from) (λ _. false) ≡ None = ap (λ full. first_of ((full, misuse.ZoneFull) ∷ [])) (not_full h z runs.stands fits) in
    (seen_now mid, step_plain z _ (seen_now mid) runs.running (λ id n. none_escape h z v runs.stands sound there id (subst (λ v. EscOf z v id) has_value n)) right (mid, refl, refl), rw is (live_stands (rooted h g v) mid new.gc (of_option v) [] lives (register_anchored mid t from v has_value) stands))

pub get_root_step : (h new : Shared) (z : State) (t to g : ℕ) (v : Option BlockId) → Runs h z t → z.roots g ≡ v → Stands new z → Stepped new z t (call.GetRoot to (record { 0 = g })) (reply.Block v)
get_root_step h new z t to g v runs is s =
    let mid = with_register z t to v in
    (seen_now mid, step_plain z _ (seen_now mid) runs.running (λ id n. n) refl (mid, (sym is, refl), refl), seen_stands new mid (register_stands new z t to v s))

-- the statistics
stats_are : (h : Shared) (z : State) → Stands h z → stats_in h ≡ stats_of z
stats_are h z s = λ i. record {
  blocks = sym (number_stands h z s) i;
  quanta = sym (used_stands h z s) i;
  retained = sym (ap len s.counts) i;
  weak = sym (ap len s.weak) i;
  assocs = sym (ap len s.assocs) i;
}

pub stats_step : (h : Shared) (z : State) (t : ℕ) (stats : Stats) → Runs h z t → stats ≡ stats_in h → Stepped h z t call.Stats (reply.Stats stats)
stats_step h z t stats runs is =
    (seen_now z, step_plain z _ (seen_now z) runs.running (λ id n. n) refl (z, (is ∙ stats_are h z runs.stands, refl), refl), seen_stands h z runs.stands)
