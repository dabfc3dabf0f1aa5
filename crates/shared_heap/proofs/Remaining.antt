-- How many blocks wait for their finaliser, and what all take, after a finaliser and after a Reclaim
use Rattle.std.proofs.Common.{◌≡◌, ◌+◌, ◌-◌, ◌≤◌, ◌&&◌, ◌||◌, ℕ, Bool, true, false, not, cond, List, [], ◌∷◌, Option, Some, None, IsTrue, option_map, count_by, find, refl, sym, ap, ◌∙◌, arith}
use Rattle.std.specs.Option.{option_map_or, option_and_then}
use Rattle.std.specs.FinMap.{FinMap, get, insert}
use Rattle.az_base.specs.declared.block_id.BlockId.{BlockId}
use Rattle.az_base.specs.Ids.{among, id_cmp, ids_total, exact_ids, same_id}
use Rattle.az_base.proofs.Ids.{same_is}
use Rattle.block_layouts.specs.Layouts.{len_of, quanta}
use Rattle.zone_model.specs.Maps.{total}
use Rattle.zone_model.specs.State.{is_nil, with_edit}
use Rattle.zone_model.proofs.MapLaws.{at_value, total-insert}
use Rattle.zone_model.proofs.Sums.{total_alike, total_split}
use Rattle.block_table.specs.Stored.{HeapBlock, older}
use Rattle.block_table.specs.Table.{used_by}
use Rattle.heap_cycle.specs.Waiting.{awaits_in, unfinalised_by, waits}
use Rattle.heap_cycle.proofs.Counting.{count_more}
use Rattle.shared_heap.proofs.Picks.{total-picked}
use Rattle.shared_heap.proofs.Sums.{one_quantum, sum_edited}

-- a sum is no more than another where no entry counts more
less_total : (f g : BlockId → HeapBlock → ℕ) (m : FinMap id_cmp HeapBlock) → ((k : BlockId) (x : HeapBlock) → f k x ≤ g k x) → total f m ≤ total g m
less_total f g m less =
    let both : total g m ≡ total f m + total (λ k x. g k x - f k x) m = total_split ids_total exact_ids g f (λ k x. g k x - f k x) m (λ k x is. let l : f k x ≤ g k x = less k x in omega (arith, l)) in
    omega (arith, both)

-- a block takes at least one quantum, and at most one finaliser
pub few_wait : (m : FinMap id_cmp HeapBlock) → unfinalised_by m ≤ used_by m
few_wait m = less_total (λ id k. cond {A = ℕ} (waits k) 1 0) (λ id k. quanta (len_of k.layout)) m (λ id k. one (waits k) (quanta (len_of k.layout)) (one_quantum (len_of k.layout)))
  where
    one : (b : Bool) (n : ℕ) → 1 ≤ n → cond {A = ℕ} b 1 0 ≤ n
    one true n l = l
    one false n l = omega arith

abbrev done : HeapBlock → HeapBlock
done k = record k { finalised = true }

-- a block that waited is finalised: one waits less
pub one_finalised : (m : FinMap id_cmp HeapBlock) (b : BlockId) → awaits_in m b ≡ true → unfinalised_by (with_edit m b (λ (k : HeapBlock). record k { finalised = true })) + 1 ≡ unfinalised_by m
one_finalised m b waited = by (get m b) refl
  where
    counts : BlockId → HeapBlock → ℕ
    counts id k = cond {A = ℕ} (waits k) 1 0

    done_waits : (k : HeapBlock) → waits (done k) ≡ false
    done_waits k = off (is_nil k.actions)
      where
        off : (t : Bool) → (not t && false) ≡ false
        off true = refl
        off false = refl

    by : (o : Option HeapBlock) → get m b ≡ o → unfinalised_by (with_edit m b done) + 1 ≡ unfinalised_by m
    by None e = let no : false ≡ true = sym (ap (λ (o : Option HeapBlock). option_map_or waits o false) e) ∙ waited in cc (no)
    by (Some k) e =
        let put : total counts (insert m b (done k)) + at_value (counts b) (get m b) ≡ total counts m + counts b (done k) = total-insert ids_total exact_ids counts m b (done k) in
        let was : at_value (counts b) (get m b) ≡ cond {A = ℕ} (waits k) 1 0 = ap (at_value (counts b)) e in
        let on : waits k ≡ true = sym (ap (λ (o : Option HeapBlock). option_map_or waits o false) e) ∙ waited in
        let one : cond {A = ℕ} (waits k) 1 0 ≡ 1 = ap (λ t. cond {A = ℕ} t 1 0) on in
        let none : counts b (done k) ≡ 0 = ap (λ t. cond {A = ℕ} t 1 0) (done_waits k) in
        let same : with_edit m b done ≡ insert m b (done k) = ap (λ (o : Option HeapBlock). option_map_or (λ x. insert m b (done x)) o m) e in
        let shown : unfinalised_by (with_edit m b done) ≡ total counts (insert m b (done k)) = ap (total counts) same in
        omega (arith, put, was, one, none, shown)

-- finalising a block changes nothing of what all take
pub finalised_used : (m : FinMap id_cmp HeapBlock) (b : BlockId) → used_by (with_edit m b (λ (k : HeapBlock). record k { finalised = true })) ≡ used_by m
finalised_used m b = sum_edited (λ id k. quanta (len_of k.layout)) m b (λ (k : HeapBlock). record k { finalised = true }) (λ k. refl)

-- where none of these waits, a search finds none
pub none_waits : (f : BlockId → Bool) (xs : List BlockId) → count_by f xs ≡ 0 → find f xs ≡ None
none_waits f [] none = refl
none_waits f (x ∷ xs) none = by (f x) refl (none_waits f xs)
  where
    by : (t : Bool) → f x ≡ t → (count_by f xs ≡ 0 → find f xs ≡ None) → cond t (Some x) (find f xs) ≡ None
    by true e rest = let more = count_more f x xs in let one : cond {A = ℕ} (f x) 1 0 ≡ 1 = ap (λ t. cond {A = ℕ} t 1 0) e in absurd (omega (arith, more, one, none))
    by false e rest = let more = count_more f x xs in rest (omega (arith, more, none))

none_there : (f : BlockId → Bool) (xs : List BlockId) → find f xs ≡ None → (b : BlockId) → IsTrue (among xs b) → f b ≡ false
none_there f [] none b i = cc (i)
none_there f (x ∷ xs) none b i = by (f x) refl none (λ rest. none_there f xs rest b)
  where
    here : (t : Bool) → f x ≡ false → same_id b x ≡ t → IsTrue (t || among xs b) → (IsTrue (among xs b) → f b ≡ false) → f b ≡ false
    here true off e h later = ap f (same_is b x e) ∙ off
    here false off e h later = later h

    by : (t : Bool) → f x ≡ t → cond t (Some x) (find f xs) ≡ None → (find f xs ≡ None → IsTrue (among xs b) → f b ≡ false) → f b ≡ false
    by true e h later = cc (h)
    by false e h later = here (same_id b x) e refl i (later h)

-- what a Reclaim leaves of a block
abbrev left_of : List BlockId → BlockId → HeapBlock → Option HeapBlock
left_of gone id k = cond (among gone id) None (Some (older k))

module _ (old new : FinMap id_cmp HeapBlock) (gone : List BlockId) (is : (b : BlockId) → get new b ≡ cond (among gone b) None (option_map older (get old b))) where
  picked : (q : BlockId) → get new q ≡ option_and_then (left_of gone q) (get old q)
  picked q = is q ∙ by (among gone q) (get old q)
    where
      by : (t : Bool) (o : Option HeapBlock) → cond t None (option_map older o) ≡ option_and_then (λ k. cond t None (Some (older k))) o
      by true None = refl
      by true (Some k) = refl
      by false None = refl
      by false (Some k) = refl

  -- all take no more after it
  pub reclaimed_used : used_by new ≤ used_by old
  reclaimed_used =
      let sum : used_by new ≡ total (λ id k. at_value (λ (k : HeapBlock). quanta (len_of k.layout)) (left_of gone id k)) old = total-picked id_cmp (λ id k. quanta (len_of k.layout)) ids_total exact_ids (left_of gone) old new picked in
      let less = less_total (λ id k. at_value (λ (k : HeapBlock). quanta (len_of k.layout)) (left_of gone id k)) (λ id k. quanta (len_of k.layout)) old (λ id k. by (among gone id) k) in
      omega (arith, sum, less)
    where
      by : (t : Bool) (k : HeapBlock) → at_value (λ (k : HeapBlock). quanta (len_of k.layout)) (cond t None (Some (older k))) ≤ quanta (len_of k.layout)
      by true k = omega arith
      by false k = omega arith

  -- as many wait, where none of those that go does
  pub reclaimed_waiting : ((b : BlockId) → IsTrue (among gone b) → awaits_in old b ≡ false) → unfinalised_by new ≡ unfinalised_by old
  reclaimed_waiting none =
      total-picked id_cmp (λ id k. cond {A = ℕ} (waits k) 1 0) ids_total exact_ids (left_of gone) old new picked
      ∙ total_alike ids_total exact_ids _ _ old (λ b k e. by b k e (among gone b) refl)
    where
      by : (b : BlockId) (k : HeapBlock) → get old b ≡ Some k → (t : Bool) → among gone b ≡ t → at_value (λ (k : HeapBlock). cond {A = ℕ} (waits k) 1 0) (cond t None (Some (older k))) ≡ cond {A = ℕ} (waits k) 1 0
      by b k e true i = sym (ap (λ t. cond {A = ℕ} t 1 0) (sym (ap (λ (o : Option HeapBlock). option_map_or waits o false) e) ∙ none b i))
      by b k e false i = refl

  -- where some blocks wait no more, neither do those of them that go
  pub gone_done : (r : List BlockId) → count_by (awaits_in old) r ≡ 0 → ((b : BlockId) → IsTrue (among gone b) → IsTrue (among r b)) → unfinalised_by new ≡ unfinalised_by old
  gone_done r none within = reclaimed_waiting (λ b i. none_there (awaits_in old) r (none_waits (awaits_in old) r none) b (within b i))
