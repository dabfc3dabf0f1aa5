-- Lists of ids in ascending order, and which ids a table has
use Rattle.az_base.proofs.Ids.{eq_ids, same_turned, same_is}
use Rattle.std.proofs.Common.{◌≡◌, ℕ, ◌+◌, Bool, true, false, cond, not, ◌&&◌, ◌||◌, List, [], ◌∷◌, ◌++◌, filter, take, Option, Some, None, is_some, slice_get, get_or, refl, sym, ap, subst, ◌∙◌, arith}
use Rattle.std.specs.List.{IsDistinct, AllByRecursion, list_any}
use Rattle.std.specs.List.Sorted.{IsSorted, IsStrictlySortedBy, IsPermutation}
use Rattle.std.specs.Map.{lookup, keys_of}
use Rattle.std.specs.Ordering.{is_eq, is_lt, ordering_reverse}
use Rattle.std.specs.declared.cmp.Ordering.{Ordering}
use Rattle.std.specs.declared.cmp.Ordering.TheVariants.{Less, Equal, Greater}
use Rattle.std.specs.FinMap.{contains_key}
use Rattle.std.proofs.lemmas.Map.Keys.{sorted_from_all_adjacent, apart_from_distinct, IsDistinct-IsPermutation, IsDistinct-from_sorted, IsDistinct-head, IsDistinct-tail}
use Rattle.std.proofs.lemmas.Map.Made.{IsDistinct-keys_filter}
use Rattle.std.proofs.lemmas.List.Sorted.{list_any-IsPermutation}
use Rattle.az_base.specs.declared.block_id.BlockId.{BlockId}
use Rattle.az_base.specs.Ids.{id_cmp, id_of, same_id, among, ids_total, id_eq}
use Rattle.zone_model.specs.State.{Block}
use Rattle.zone_model.specs.Collection.{Lists}
use Rattle.local_set.specs.LocalSets.{blocks_of}
use Rattle.local_set.specs.Tables.{Distinct}
use Rattle.local_set.proofs.Tables.{got}
use Rattle.local_set.proofs.Lists.{next_taken, among_of}

less_only : (a b : BlockId) (r : Ordering) → id_cmp a b ≡ r → is_eq r ≡ false → is_lt (ordering_reverse r) ≡ false → r ≡ Less
less_only a b Less e h k = refl
less_only a b Equal e h k = cc
less_only a b Greater e h k = cc

-- ids in order of which no two are one ascend
pub strict : (ks : List BlockId) → IsSorted id_cmp ks → IsDistinct same_id ks → IsStrictlySortedBy id_cmp ks
strict ks sorted apart = sorted_from_all_adjacent ids_total ks (id_of 0 0) (λ k l.
    let a = get_or ks k (id_of 0 0) in
    let b = get_or ks (k + 1) (id_of 0 0) in
    less_only a b (id_cmp a b) refl (apart_from_distinct same_id ks k (k + 1) (id_of 0 0) apart (omega arith) l)
    (ap is_lt (sym (ids_total.antisymm b a)) ∙ sorted k (id_of 0 0) (omega arith) l))

-- an id is among the keys of a table where it has the block
pub keys_there : (es : List (BlockId × Block)) (q : BlockId) → among (keys_of es) q ≡ contains_key (blocks_of es) q
keys_there es q = go es ∙ ap is_some (sym (got es q))
  where
    one : (t : Bool) (b : Block) (o : Option Block) (s : Bool) → s ≡ is_some o → (t || s) ≡ is_some (cond t (Some b) o)
    one true b o s h = refl
    one false b o s h = h

    go : (es : List (BlockId × Block)) → among (keys_of es) q ≡ is_some (lookup (id_eq q) es)
    go [] = refl
    go (e ∷ es) = ap (λ t. t || among (keys_of es) q) (sym (eq_ids q e.0)) ∙ one (id_eq q e.0) e.1 (lookup (id_eq q) es) (among (keys_of es) q) (go es)

pub key_there : (es : List (BlockId × Block)) (n : ℕ) (id : BlockId) → slice_get (keys_of es) n ≡ Some id → contains_key (blocks_of es) id ≡ true
key_there es n id h = sym (keys_there es id) ∙ among_of (keys_of es) n id h

-- a table without a first key is empty
pub no_first_key : (es : List (BlockId × Block)) → slice_get (keys_of es) 0 ≡ None → es ≡ []
no_first_key [] h = refl
no_first_key (e ∷ es) h = cc

module _ (p : BlockId → Bool) where
  -- of the ids that pass a test
  pub among_filter : (ks : List BlockId) (q : BlockId) → among (filter p ks) q ≡ (among ks q && p q)
  among_filter [] q = refl
  among_filter (k ∷ ks) q = go (p k) refl (same_id q k) refl (among_filter ks q)
    where
      go : (b : Bool) → p k ≡ b → (t : Bool) → same_id q k ≡ t → among (filter p ks) q ≡ (among ks q && p q) → among (cond b (k ∷ filter p ks) (filter p ks)) q ≡ ((t || among ks q) && p q)
      go true e true f rest = ap (λ t. t || among (filter p ks) q) f ∙ sym (ap p (same_is q k f) ∙ e)
      go true e false f rest = ap (λ t. t || among (filter p ks) q) f ∙ rest
      go false e true f rest = rest ∙ ap (λ b. among ks q && b) (ap p (same_is q k f) ∙ e) ∙ and_false (among ks q) ∙ sym (ap p (same_is q k f) ∙ e)
        where
          and_false : (b : Bool) → (b && false) ≡ false
          and_false true = refl
          and_false false = refl
      go false e false f rest = rest

  pub filter_more : (ks : List BlockId) (k : BlockId) → filter p (ks ++ k ∷ []) ≡ filter p ks ++ cond (p k) (k ∷ []) []
  filter_more [] k = go (p k)
    where
      go : (b : Bool) → cond b (k ∷ []) [] ≡ (let none : List BlockId = [] in none ++ cond b (k ∷ []) [])
      go true = refl
      go false = refl
  filter_more (x ∷ ks) k = go (p x) (filter_more ks k)
    where
      go : (b : Bool) → filter p (ks ++ k ∷ []) ≡ filter p ks ++ cond (p k) (k ∷ []) [] → cond b (x ∷ filter p (ks ++ k ∷ [])) (filter p (ks ++ k ∷ [])) ≡ cond b (x ∷ filter p ks) (filter p ks) ++ cond (p k) (k ∷ []) []
      go true h = ap (λ l. x ∷ l) h
      go false h = h

  keys_filter : (es : List (BlockId × Block)) → keys_of (filter (λ (e : BlockId × Block). p e.0) es) ≡ filter p (keys_of es)
  keys_filter [] = refl
  keys_filter (e ∷ es) = go (p e.0) (keys_filter es)
    where
      go : (b : Bool) → keys_of (filter (λ (e : BlockId × Block). p e.0) es) ≡ filter p (keys_of es)
          → keys_of (cond b (e ∷ filter (λ (e : BlockId × Block). p e.0) es) (filter (λ (e : BlockId × Block). p e.0) es)) ≡ cond b (e.0 ∷ filter p (keys_of es)) (filter p (keys_of es))
      go true h = ap (λ l. e.0 ∷ l) h
      go false h = h

  pub filtered_distinct : (es : List (BlockId × Block)) → IsDistinct same_id (keys_of es) → IsDistinct same_id (filter p (keys_of es))
  filtered_distinct es apart = subst (IsDistinct same_id) (keys_filter es) (IsDistinct-keys_filter same_id (λ e. p e.0) es apart)

-- the next id, unless it is among the found ones
pub next_but : (ks found : List BlockId) (n : ℕ) (id : BlockId) → slice_get ks n ≡ Some id
    → filter (λ b. not (among found b)) (take n ks) ++ cond (among found id) [] (id ∷ []) ≡ filter (λ b. not (among found b)) (take (n + 1) ks)
next_but ks found n id h =
    ap (λ l. filter (λ b. not (among found b)) (take n ks) ++ l) (turn (among found id)) ∙ sym (filter_more (λ b. not (among found b)) (take n ks) id) ∙ ap (filter (λ b. not (among found b))) (next_taken ks n id h)
  where
    turn : (b : Bool) → cond b [] (id ∷ []) ≡ cond (not b) (id ∷ []) []
    turn true = refl
    turn false = refl

-- the sorted ids of a table, but those among the found ones, are listed
pub listed_but : (es : List (BlockId × Block)) (found ids sorted : List BlockId) → ids ≡ filter (λ b. not (among found b)) (keys_of es) → IsDistinct same_id (keys_of es) → IsPermutation ids sorted → IsSorted id_cmp sorted
    → Lists sorted (λ b. (contains_key (blocks_of es) b ≡ true) × (among found b ≡ false))
listed_but es found ids sorted is apart perm ordered = (
  strict sorted ordered (IsDistinct-IsPermutation same_id same_turned ids sorted perm (subst (IsDistinct same_id) (sym is) (filtered_distinct (λ b. not (among found b)) es apart))),
  λ q. (λ h. out (contains_key (blocks_of es) q) (among found q) (sym (same q) ∙ h), λ h. same q ∙ into (contains_key (blocks_of es) q) (among found q) h.0 h.1),
)
  where
    same : (q : BlockId) → among sorted q ≡ (contains_key (blocks_of es) q && not (among found q))
    same q =
        sym (list_any-IsPermutation (same_id q) ids sorted perm) ∙ ap (λ l. among l q) is ∙ among_filter (λ b. not (among found b)) (keys_of es) q
        ∙ ap (λ t. t && not (among found q)) (keys_there es q)

    out : (a b : Bool) → (a && not b) ≡ true → (a ≡ true) × (b ≡ false)
    out true true h = cc
    out true false h = (refl, refl)
    out false b h = cc

    into : (a b : Bool) → a ≡ true → b ≡ false → (a && not b) ≡ true
    into true true h k = cc
    into true false h k = refl
    into false b h k = cc

none_any : (p : BlockId → Bool) (ks : List BlockId) → AllByRecursion (λ y. p y ≡ false) ks → list_any p ks ≡ false
none_any p [] h = refl
none_any p (k ∷ ks) h = ap (λ t. t || list_any p ks) h.0 ∙ none_any p ks h.1

distinct_of : (ks : List BlockId) → IsDistinct same_id ks → Distinct ks
distinct_of [] d = tt
distinct_of (k ∷ ks) d = (none_any (same_id k) ks (IsDistinct-head same_id k ks d), distinct_of ks (IsDistinct-tail same_id k ks d))

-- ids that ascend are different
pub listed_distinct : (ks : List BlockId) → IsStrictlySortedBy id_cmp ks → Distinct ks
listed_distinct ks s = distinct_of ks (IsDistinct-from_sorted id_cmp ks s)
