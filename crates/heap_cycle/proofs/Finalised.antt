-- What running a finaliser makes of the tables and of the cycle
use Rattle.std.proofs.Common.{◌≡◌, ◌≢◌, ◌+◌, ◌-◌, ◌<◌, ◌≤◌, ◌&&◌, ◌||◌, ℕ, ◌==◌, nat_lt, Bool, true, false, not, cond, List, [], ◌∷◌, ◌++◌, Option, Some, None, IsSome, IsTrue, count_by, drop, find, fold, get_or, length, map, option_and_then, slice_get, slice_set, refl, sym, ap, subst, ◌∙◌, inl, inr, arith}
use Rattle.std.proofs.lemmas.Bool.Decides.{nat_tests}
use Rattle.std.proofs.lemmas.List.{ext_get_or, length-set, set_past}
use Rattle.std.specs.Option.{option_map, option_map_or}
use Rattle.std.specs.FinMap.{FinMap, get, same_map}
use Rattle.std.specs.List.Sorted.{IsStrictlySortedBy}
use Rattle.az_base.specs.declared.action.Action.{Action}
use Rattle.az_base.specs.declared.action.Action.TheVariants as action
use Rattle.az_base.specs.declared.action.Mode.{Mode}
use Rattle.az_base.specs.declared.action.Mode.TheVariants as mode
use Rattle.az_base.specs.declared.block_id.BlockId.{BlockId}
use Rattle.az_base.specs.declared.word.Word.{Word}
use Rattle.az_base.specs.Ids.{among, exact_ids, id_cmp, ids_total, same_id}
use Rattle.az_base.proofs.Ids.{same_turned}
use Rattle.assoc_refs.specs.Table.{pairs_of}
use Rattle.block_table.specs.Places.{in_word, somes}
use Rattle.block_table.specs.Stored.{HeapBlock}
use Rattle.block_table.specs.Table.{words_in}
use Rattle.finalise_pass.specs.Finalisers.{Finalisers, awaits, with_action, with_done, with_root}
use Rattle.finalise_pass.specs.Passing.{HasPassed, Passing}
use Rattle.finalise_pass.proofs.Runs.{runs_keep}
use Rattle.finalise_pass.proofs.Searching.{find_rest, found_passes}
use Rattle.gen_marker.specs.Marking.{in_scope}
use Rattle.quantum_space.specs.Shapes.{Has, edges}
use Rattle.quantum_space.proofs.Lists.{count_one_more, itself, once_sorted, same_or_not}
use Rattle.zone_model.specs.State.{is_nil, referent, with_edit}
use Rattle.zone_model.proofs.MapLaws.{get-map_values}
use Rattle.heap_tables.specs.Graphs.{graph_of, value_of}
use Rattle.heap_tables.specs.Running.{actions_in, finals_of, unrun, unrun_blocks}
use Rattle.heap_tables.specs.declared.tables.Tables.{Tables}
use Rattle.heap_tables.proofs.Edited.{edit_get}
use Rattle.heap_tables.proofs.Finishing.{root_set}
use Rattle.heap_cycle.specs.Collects.{Collects, KeepsCards, KeepsPhase, Settles, condemned_at, is_old_at, start_of}
use Rattle.heap_cycle.specs.Phases.{IsFinalised, after_action}
use Rattle.heap_cycle.specs.Waiting.{awaits_in, waits}
use Rattle.heap_cycle.specs.declared.open_cycle.OpenCycle.{OpenCycle}
use Rattle.heap_cycle.specs.declared.open_cycle.Phase.TheVariants as phase

-- a block of the tables waits where it awaits its finaliser in a pass over them
awaits_same : (t : Tables) (id : BlockId) → awaits (finals_of t) id ≡ awaits_in t.blocks.blocks id
awaits_same t id = by (get t.blocks.blocks id)
  where
    by : (o : Option HeapBlock) → (not (is_nil (option_map_or (λ (k : HeapBlock). k.actions) o [])) && not (option_map_or (λ (k : HeapBlock). k.finalised) o false)) ≡ option_map_or waits o false
    by None = refl
    by (Some k) = refl

pub found_same : (t : Tables) (xs : List BlockId) → find (awaits (finals_of t)) xs ≡ find (awaits_in t.blocks.blocks) xs
found_same t xs = ap (λ f. find f xs) (λ i. λ b. awaits_same t b i)

-- where some of a list pass, there is a first
found_some : (f : BlockId → Bool) (xs : List BlockId) → 0 < count_by f xs → IsSome (find f xs)
found_some f [] h = absurd (omega (arith, h))
found_some f (x ∷ xs) h = by (f x) refl (found_some f xs)
  where
    by : (t : Bool) → f x ≡ t → (0 < count_by f xs → IsSome (find f xs)) → IsSome (find f (x ∷ xs))
    by true e rest = rw e refl
    by false e rest = rw e (rest (rw e at h))

-- what was found is in the list
found_in : (f : BlockId → Bool) (xs : List BlockId) (b : BlockId) → find f xs ≡ Some b → Has xs b
found_in f [] b h = cc (h)
found_in f (x ∷ xs) b h = by (f x) refl (found_in f xs b)
  where
    by : (t : Bool) → f x ≡ t → (find f xs ≡ Some b → Has xs b) → Has (x ∷ xs) b
    by true e later = let here : Some x ≡ Some b = rw e at h in let same : x ≡ b = cc (here) in inl same
    by false e later = inr (later (rw e at h))

-- so a pass has a next block where some wait that it hasn't gone past
pub next_some : (t : Tables) (o : OpenCycle) (p : Passing) → Settles t o p → 0 < o.left → IsSome (find (awaits (finals_of t)) (drop p.passed p.condemned))
next_some t o p k h =
    subst IsSome (sym (find_rest (awaits (finals_of t)) p.condemned p.passed k.passed ∙ found_same t p.condemned))
    (found_some (awaits_in t.blocks.blocks) p.condemned (let e = k.left in omega (arith, h, e)))

-- a root after a block was put into one; past the last there is none
root_within : (rs : List (Option BlockId)) (g : ℕ) (v : Option BlockId) (q : ℕ) → q < length rs → get_or (slice_set rs g v) q None ≡ cond (g == q) v (get_or rs q None)
root_within rs g v q h = by (nat_lt g (length rs)) refl
  where
    by : (t : Bool) → nat_lt g (length rs) ≡ t → get_or (slice_set rs g v) q None ≡ cond (g == q) v (get_or rs q None)
    by true e = root_set rs g v q (grind (arith, nat_tests))
    by false e =
        let past : length rs ≤ g = grind (arith, nat_tests) in
        let other : (g == q) ≡ false = grind (arith, nat_tests) in
        ap (λ l. get_or l q None) (set_past rs g v past) ∙ sym (ap (λ t. cond t v (get_or rs q None)) other)

-- the roots after the actions of a block
module _ (blocks : FinMap id_cmp HeapBlock) (b : BlockId) where
  kept_length : (rs : List (Option BlockId)) (acts : List Action) → length (fold (after_action blocks b) rs acts) ≡ length rs
  kept_length rs [] = refl
  kept_length rs (action.Keep g ∷ acts) = kept_length (slice_set rs g.0 (Some b)) acts ∙ length-set rs g.0 (Some b)
  kept_length rs (action.Pass g at ∷ acts) =
      let v = referent (option_map_or (λ (k : HeapBlock). slice_get k.words at) (get blocks b) None) in
      kept_length (slice_set rs g.0 v) acts ∙ length-set rs g.0 v

  -- they agree with what a pass makes of them
  abbrev Agree : Finalisers → List (Option BlockId) → Type 0
  Agree f rs = (q : ℕ) → q < length rs → f.roots q ≡ get_or rs q None

  agree_set : (f : Finalisers) (rs : List (Option BlockId)) (g : ℕ) (v : Option BlockId) → Agree f rs → Agree (with_root f g v) (slice_set rs g v)
  agree_set f rs g v same q h =
      let l : q < length rs = subst (λ n. q < n) (length-set rs g v) h in
      ap (λ r. cond (g == q) v r) (same q l) ∙ sym (root_within rs g v q l)

  strong_is : (at : ℕ) → option_and_then in_word (slice_get (words_in blocks b) at) ≡ referent (option_map_or (λ (k : HeapBlock). slice_get k.words at) (get blocks b) None)
  strong_is at = by (get blocks b)
    where
      by : (o : Option HeapBlock) → option_and_then in_word (slice_get (option_map_or (λ (k : HeapBlock). k.words) o []) at) ≡ referent (option_map_or (λ (k : HeapBlock). slice_get k.words at) o None)
      by None = refl
      by (Some k) = here (slice_get k.words at)
        where
          here : (w : Option Word) → option_and_then in_word w ≡ referent w
          here None = refl
          here (Some w) = refl

  agree_after : (f : Finalisers) (rs : List (Option BlockId)) (acts : List Action) → ((at : ℕ) → f.strong b at ≡ option_and_then in_word (slice_get (words_in blocks b) at)) → Agree f rs
      → Agree (fold (with_action b) f acts) (fold (after_action blocks b) rs acts)
  agree_after f rs [] strong same = same
  agree_after f rs (action.Keep g ∷ acts) strong same = agree_after (with_root f g.0 (Some b)) (slice_set rs g.0 (Some b)) acts strong (agree_set f rs g.0 (Some b) same)
  agree_after f rs (action.Pass g at ∷ acts) strong same =
      let v = referent (option_map_or (λ (k : HeapBlock). slice_get k.words at) (get blocks b) None) in
      let is : f.strong b at ≡ v = strong at ∙ strong_is at in
      agree_after (with_root f g.0 (f.strong b at)) (slice_set rs g.0 v) acts strong (subst (λ (u : Option BlockId). Agree (with_root f g.0 u) (slice_set rs g.0 v)) (sym is) (agree_set f rs g.0 v same))

abbrev finish : HeapBlock → HeapBlock
finish k = record k { finalised = true }

abbrev unfinish : BlockId → HeapBlock → HeapBlock
unfinish q k = record k { finalised = false }

-- what doesn't speak of whether finalisers have run is the same without that
unrun_at : {X : Type 0} (f : HeapBlock → X) (none : X) → ((k : HeapBlock) → f (record k { finalised = false }) ≡ f k) → (m : FinMap id_cmp HeapBlock) (q : BlockId) → option_map_or f (get (unrun_blocks m) q) none ≡ option_map_or f (get m q) none
unrun_at f none same m q = ap (λ (o : Option HeapBlock). option_map_or f o none) (get-map_values id_cmp unfinish exact_ids m q) ∙ by (get m q)
  where
    by : (o : Option HeapBlock) → option_map_or f (option_map (unfinish q) o) none ≡ option_map_or f o none
    by None = refl
    by (Some k) = same k

-- a finaliser has run over the tables, as a pass does it
module _ (old new : Tables) (p q : Passing) (b : BlockId)
    (next : find (awaits (finals_of old)) (drop p.passed p.condemned) ≡ Some b)
    (applied : finals_of new ≡ with_done (fold (with_action b) (finals_of old) ((finals_of old).actions b)) b)
    (rest : unrun new ≡ unrun old) (same_list : q.condemned ≡ p.condemned) (on : HasPassed p (finals_of old) → HasPassed q (finals_of new))
    (long : length new.roots ≡ length old.roots)
  where
    abbrev ran : Finalisers
    ran = fold (with_action b) (finals_of old) ((finals_of old).actions b)

    abbrev rooted : List (Option BlockId)
    rooted = fold (after_action old.blocks.blocks b) old.roots (actions_in old.blocks.blocks b)

    roots_are : new.roots ≡ rooted
    roots_are = ext_get_or None new.roots rooted (long ∙ sym (kept_length old.blocks.blocks b old.roots (actions_in old.blocks.blocks b))) (λ g h.
        ap (λ (f : Finalisers). f.roots g) applied
        ∙ agree_after old.blocks.blocks b (finals_of old) old.roots (actions_in old.blocks.blocks b) (λ at. refl) (λ r l. refl) g
        (let e = kept_length old.blocks.blocks b old.roots (actions_in old.blocks.blocks b) in omega (arith, h, long, e)))

    done_is : (x : BlockId) → (finals_of new).done x ≡ (same_id b x || (finals_of old).done x)
    done_is x = ap (λ (f : Finalisers). f.done x) applied ∙ ap (λ (d : BlockId → Bool). same_id b x || d x) (runs_keep b (finals_of old) ((finals_of old).actions b)).1

    blocks_are : new.blocks.blocks ≡ with_edit old.blocks.blocks b finish
    blocks_are = same_map ids_total exact_ids _ _ (λ x.
        by (same_id x b) (get new.blocks.blocks x) (get old.blocks.blocks x)
        (sym (get-map_values id_cmp unfinish exact_ids new.blocks.blocks x) ∙ ap (λ (t : Tables). get t.blocks.blocks x) rest ∙ get-map_values id_cmp unfinish exact_ids old.blocks.blocks x)
        (done_is x ∙ ap (λ s. s || option_map_or (λ (k : HeapBlock). k.finalised) (get old.blocks.blocks x) false) (same_turned b x))
        ∙ sym (edit_get old.blocks.blocks b finish x))
      where
        alike : (k m : HeapBlock) (d : Bool) → (let u : HeapBlock = record k { finalised = false } in u) ≡ (let u : HeapBlock = record m { finalised = false } in u) → k.finalised ≡ d → k ≡ (let u : HeapBlock = record m { finalised = d } in u)
        alike k m d e f = λ i. record { layout = (e i).layout; words = (e i).words; actions = (e i).actions; finalised = f i; age = (e i).age }

        some_same : (k m : HeapBlock) → Some k ≡ Some m → k ≡ m
        some_same k m e = cc

        by : (s : Bool) (u v : Option HeapBlock) → option_map (λ (k : HeapBlock). record k { finalised = false }) u ≡ option_map (λ (k : HeapBlock). record k { finalised = false }) v
            → option_map_or (λ (k : HeapBlock). k.finalised) u false ≡ (s || option_map_or (λ (k : HeapBlock). k.finalised) v false) → u ≡ cond s (option_map finish v) v
        by false None None e d = refl
        by true None None e d = refl
        by s None (Some m) e d = cc (e)
        by s (Some k) None e d = cc (e)
        by false (Some k) (Some m) e d = ap Some (alike k m m.finalised (some_same _ _ e) d)
        by true (Some k) (Some m) e d = ap Some (alike k m true (some_same _ _ e) d)

    -- the tables are those before with the roots set, and the block finalised
    tables_are : new ≡ record old { roots = rooted; blocks = record old.blocks { blocks = with_edit old.blocks.blocks b finish } }
    tables_are = λ i. record {
      blocks = record {
        blocks = blocks_are i;
        holds = (rest i).blocks.holds;
        shades = (rest i).blocks.shades;
        order = (rest i).blocks.order;
        began = (rest i).blocks.began;
        room = (rest i).blocks.room;
      };
      roots = roots_are i;
      counts = (rest i).counts;
      assocs = (rest i).assocs;
      cards = (rest i).cards;
    }

    kept_same : {X : Type 0} (f : HeapBlock → X) (none : X) → ((k : HeapBlock) → f (record k { finalised = false }) ≡ f k) → (a : BlockId) → option_map_or f (get new.blocks.blocks a) none ≡ option_map_or f (get old.blocks.blocks a) none
    kept_same {X} f none same a = sym (unrun_at f none same new.blocks.blocks a) ∙ ap (λ (t : Tables). option_map_or f (get t.blocks.blocks a) none) rest ∙ unrun_at f none same old.blocks.blocks a

    edges_same : (a : BlockId) → edges (graph_of new) a ≡ edges (graph_of old) a
    edges_same a = λ i. somes (map in_word (kept_same (λ (k : HeapBlock). k.words) [] (λ k. refl) a i) ++ map value_of (pairs_of (rest i).assocs.pairs a))

    old_same : (a : BlockId) → is_old_at new.blocks.blocks a ≡ is_old_at old.blocks.blocks a
    old_same a = kept_same (λ (k : HeapBlock). not (nat_lt k.age 3)) false (λ k. refl) a

    scope_same : (m : Mode) (a : BlockId) → in_scope m (graph_of new) a ≡ in_scope m (graph_of old) a
    scope_same mode.Full a = refl
    scope_same mode.Young a = kept_same (λ (k : HeapBlock). nat_lt k.age 3) false (λ k. refl) a

    remembered_same : (graph_of new).remembered ≡ (graph_of old).remembered
    remembered_same = ap (λ (t : Tables). t.cards.list ++ drop t.blocks.began t.blocks.order) rest

    start_same : start_of new ≡ start_of old
    start_same = ap start_of rest

    -- the block waits no more, and the others as before
    waits_are : (x : BlockId) → awaits_in new.blocks.blocks x ≡ (not (is_nil (actions_in old.blocks.blocks x)) && not (same_id b x || (finals_of old).done x))
    waits_are x =
        sym (awaits_same new x) ∙ ap (λ (l : List Action). not (is_nil l) && not ((finals_of new).done x)) (kept_same (λ (k : HeapBlock). k.actions) [] (λ k. refl) x)
        ∙ ap (λ d. not (is_nil (actions_in old.blocks.blocks x)) && not d) (done_is x)

    waits_no_more : awaits_in new.blocks.blocks b ≡ false
    waits_no_more = waits_are b ∙ ap (λ s. not (is_nil (actions_in old.blocks.blocks b)) && not (s || (finals_of old).done b)) (itself b) ∙ never (not (is_nil (actions_in old.blocks.blocks b)))
      where
        never : (t : Bool) → (t && false) ≡ false
        never true = refl
        never false = refl

    others_wait : (x : BlockId) → x ≢ b → awaits_in old.blocks.blocks x ≡ awaits_in new.blocks.blocks x
    others_wait x other =
        let apart : same_id b x ≡ false = elim (same_or_not b x) [ inl e ↦ absurd (other (sym e)) | inr k ↦ k.1 ] in
        sym (awaits_same old x) ∙ sym (waits_are x ∙ ap (λ s. not (is_nil (actions_in old.blocks.blocks x)) && not (s || (finals_of old).done x)) apart)

    module _ (before : OpenCycle) (is : before.phase ≡ phase.Settling p) (keeps : Collects old (Some before)) where
      abbrev after : OpenCycle
      after = record before { left = before.left - 1; phase = phase.Settling q }

      was : Settles old before p
      was = subst (KeepsPhase old before) is (keeps.open_cycle before refl)

      first : find (awaits_in old.blocks.blocks) p.condemned ≡ Some b
      first = sym (find_rest (awaits (finals_of old)) p.condemned p.passed was.passed ∙ found_same old p.condemned) ∙ next

      one_less : count_by (awaits_in new.blocks.blocks) p.condemned ≡ before.left - 1
      one_less =
          let e = count_one_more (awaits_in new.blocks.blocks) (awaits_in old.blocks.blocks) p.condemned b (once_sorted p.condemned was.ascending) (found_in (awaits_in old.blocks.blocks) p.condemned b first) waits_no_more
          (found_passes (awaits_in old.blocks.blocks) p.condemned b first) others_wait in
          let n = was.left in omega (arith, e, n)

      here : (a : BlockId) (t : Bool) → among q.condemned a ≡ t → among p.condemned a ≡ t
      here a t h = sym (ap (λ l. among l a) same_list) ∙ h

      settles : Settles new after q
      settles = record {
        ascending = subst (λ l. IsStrictlySortedBy id_cmp l) (sym same_list) was.ascending;
        passed = on was.passed;
        within = λ a i. subst (λ l. Has l a) (sym start_same) (was.within a (here a true i));
        scope = λ a i. scope_same before.mode a ∙ was.scope a (here a true i);
        watched = λ a c out i e. subst (λ l. Has l a) (sym remembered_same) (was.watched a c (here a false out) (here c true i) (subst (λ l. Has l c) (edges_same a) e));
        left = ap (count_by (awaits_in new.blocks.blocks)) same_list ∙ one_less;
      }

      pub is_finalised : IsFinalised old new before after b
      is_finalised = record {
        condemned = p.condemned;
        was = ap condemned_at is;
        stays = ap Some same_list;
        next = first;
        tables = tables_are;
        cycle = refl;
        settles = settles;
      }

      cards_same : KeepsCards old → KeepsCards new
      cards_same k = record {
        rooted = λ a c e. subst (λ (t : Tables). Has t.blocks.order a) (sym rest) (k.rooted a c (subst (λ l. Has l c) (edges_same a) e));
        covered = λ a c o e y. subst (λ (t : Tables). IsTrue (among t.cards.list a)) (sym rest) (k.covered a c (sym (old_same a) ∙ o) (subst (λ l. Has l c) (edges_same a) e) (sym (old_same c) ∙ y));
        there = λ a i. subst (λ (t : Tables). Has t.blocks.order a) (sym rest) (k.there a (subst (λ (t : Tables). IsTrue (among t.cards.list a)) rest i));
        room = subst (λ (t : Tables). length t.blocks.order + length t.blocks.room ≤ length t.cards.list + t.cards.spare) (sym rest) k.room;
      }

      -- so tables and cycle keep what they have to
      pub finalised_collects : Collects new (Some after)
      finalised_collects = record {
        cards = cards_same keeps.cards;
        old = λ n a i. cc (n);
        open_cycle = λ c e. subst (λ (x : OpenCycle). KeepsPhase new x x.phase) (some_same after c e) settles;
        lent = λ c n room e at.
            let given = keeps.lent before n room refl (ap (λ (x : OpenCycle). slice_get x.lent.items n) (some_same after c e) ∙ at) in
            (given.0, subst (λ l. length l ≤ room.spare) (sym start_same) given.1);
      }
        where
          some_same : (x y : OpenCycle) → Some x ≡ Some y → x ≡ y
          some_same x y e = cc
