-- The lists of all objects as one finite map
use Rattle.std.proofs.Common.{◌≡◌, ℕ, ◌+◌, ◌&&◌, ◌||◌, Bool, true, false, not, cond, T, List, [], ◌∷◌, ◌++◌, map, length, slice_get, Option, Some, None, refl, sym, ap, subst, ◌∙◌, suc, arith, true≢false}
use Rattle.std.proofs.lemmas.Map.Keys.{IsDistinct-tail}
use Rattle.std.proofs.lemmas.Option.{slice_get-map}
use Rattle.std.specs.List.{list_any, IsDistinct}
use Rattle.std.specs.Map.{lookup, keys_of}
use Rattle.std.specs.Option.{option_map}
use Rattle.std.specs.declared.cmp.Ordering.{Ordering}
use Rattle.std.specs.Ordering.{nat_cmp, ordering_then, is_lt, is_eq, eq_by_cmp}
use Rattle.std.specs.Cmp.{IsTotalOrder, nat_cmp_total, tied_itself, tied_then}
use Rattle.std.specs.FinMap.{FinMap, IsAntisymmetric, is_sorted, find, entries, entries_sorted, same_map, get, retain_keys, empty, len, get-empty, get-entries, get-from_entries, get-retain_keys, len-entries, len-empty}
use Rattle.std.specs.FinMap.Entries.{below_all, where_key, is_sorted-where_key, find-where_key, same_entries}
use Rattle.az_base.specs.declared.block_id.BlockId.{BlockId}
use Rattle.az_base.specs.declared.numbers.Key.{Key}
use Rattle.az_base.specs.WithValue.{with_value}
use Rattle.az_base.specs.Ids.{id_cmp, same_id, id_eq, ids_total, exact_ids}
use Rattle.az_base.proofs.Tables.{get-with_value, none_alike}
use Rattle.az_base.proofs.Ids.{equal, eq_ids, eq_is, same_turned}
use Rattle.az_base.specs.Places.{pair_cmp, pairs_total, exact_pair}
use Rattle.assoc_refs.specs.Values.{Values, shown_pair}
use Rattle.assoc_refs.specs.Table.{without_object, pairs_of, lifted, all_pairs, shown_pairs}

-- the values of an object, in its list
abbrev pub values_in : Option Values → FinMap nat_cmp BlockId
values_in None = empty
values_in (Some v) = v.values

abbrev pub values_at : List (BlockId × Values) → BlockId → FinMap nat_cmp BlockId
values_at es object = values_in (lookup (id_eq object) es)

missing : {X : Type 0} (test : BlockId → Bool) (es : List (BlockId × X)) → list_any test (keys_of es) ≡ false → lookup test es ≡ None
missing test [] h = refl
missing test (e ∷ es) h = by (test e.0) h (missing test es)
  where
    by : (b : Bool) → (b || list_any test (keys_of es)) ≡ false → (list_any test (keys_of es) ≡ false → lookup test es ≡ None) → cond b (Some e.1) (lookup test es) ≡ None
    by true f rest = absurd (true≢false f)
    by false f rest = rest f

or_else : Option BlockId → Option BlockId → Option BlockId
or_else None o = o
or_else (Some x) o = Some x

find-append : (q : BlockId × ℕ) (xs ys : List ((BlockId × ℕ) × BlockId)) → find pair_cmp q (xs ++ ys) ≡ or_else (find pair_cmp q xs) (find pair_cmp q ys)
unfolding or_else
find-append q [] ys = refl
find-append q (x ∷ xs) ys = by (eq_by_cmp pair_cmp q x.0) (find-append q xs ys)
  where
    by : (b : Bool) → find pair_cmp q (xs ++ ys) ≡ or_else (find pair_cmp q xs) (find pair_cmp q ys)
        → cond b (Some x.1) (find pair_cmp q (xs ++ ys)) ≡ or_else (cond b (Some x.1) (find pair_cmp q xs)) (find pair_cmp q ys)
    by true h = refl
    by false h = h

find-lifted : (q object : BlockId) (k : ℕ) (ps : List (ℕ × BlockId)) → find pair_cmp (q, k) (lifted object ps) ≡ cond (same_id q object) (find nat_cmp k ps) None
find-lifted q object k [] = by (same_id q object)
  where
    by : (b : Bool) → None ≡ cond b (find {X = BlockId} nat_cmp k []) None
    by true = refl
    by false = refl
find-lifted q object k (p ∷ ps) =
    ap (λ t. cond t (Some p.1) (find pair_cmp (q, k) (lifted object ps))) (sym (tied_then (id_cmp q object) (nat_cmp k p.0)))
    ∙ ap (cond (same_id q object && is_eq (nat_cmp k p.0)) (Some p.1)) (find-lifted q object k ps)
    ∙ by (same_id q object) (is_eq (nat_cmp k p.0))
  where
    by : (a b : Bool) → cond (a && b) (Some p.1) (cond a (find nat_cmp k ps) None) ≡ cond a (cond b (Some p.1) (find nat_cmp k ps)) None
    by true b = refl
    by false b = refl

here : (k : ℕ) (o : Option BlockId) (v : Values) (s t : Bool) (rest : Option BlockId) (l : Option Values) → t ≡ s → o ≡ get v.values k → (s ≡ true → rest ≡ None) → rest ≡ get (values_in l) k
    → or_else (cond s o None) rest ≡ get (values_in (cond t (Some v) l)) k
unfolding or_else
here k None v true true rest l e f g h = g refl ∙ f
here k (Some x) v true true rest l e f g h = f
here k o v true false rest l e f g h = cc
here k o v false true rest l e f g h = cc
here k o v false false rest l e f g h = h

-- what the map has is what the object's list has
pub shown-at : (es : List (BlockId × Values)) → IsDistinct id_eq (keys_of es) → (object : BlockId) (k : ℕ) → get (shown_pairs es) (object, k) ≡ get (values_at es object) k
shown-at es once object k = get-from_entries pairs_total (all_pairs es) (object, k) ∙ found es once
  where
    found : (es : List (BlockId × Values)) → IsDistinct id_eq (keys_of es) → find pair_cmp (object, k) (all_pairs es) ≡ get (values_at es object) k
    found [] once = sym (get-empty nat_cmp k)
    found (e ∷ es) once =
        let rest : find pair_cmp (object, k) (all_pairs es) ≡ get (values_at es object) k = found es (IsDistinct-tail id_eq e.0 (keys_of es) once) in
        find-append (object, k) (lifted e.0 (entries e.1.values)) (all_pairs es)
        ∙ ap (λ o. or_else o (find pair_cmp (object, k) (all_pairs es))) (find-lifted object e.0 k (entries e.1.values))
        ∙ here k (find nat_cmp k (entries e.1.values)) e.1 (same_id object e.0) (id_eq object e.0) (find pair_cmp (object, k) (all_pairs es)) (lookup (id_eq object) es)
        (eq_ids object e.0) (sym (get-entries e.1.values k))
        (λ s. rest ∙ ap (λ l. get (values_in l) k) (missing (id_eq object) es (subst (λ x. list_any (id_eq x) (keys_of es) ≡ false) (sym (eq_is object e.0 (eq_ids object e.0 ∙ s))) (none_alike id_eq e.0 (keys_of es) once))) ∙ get-empty nat_cmp k)
        rest

-- lists in which each object has the same values are one map
pub same_shown : (es fs : List (BlockId × Values)) → IsDistinct id_eq (keys_of es) → IsDistinct id_eq (keys_of fs) → ((q : BlockId) → values_at fs q ≡ values_at es q) → shown_pairs fs ≡ shown_pairs es
same_shown es fs d e same = same_map pairs_total exact_pair _ _ (λ q. shown-at fs e q.0 q.1 ∙ ap (λ m. get m q.1) (same q.0) ∙ sym (shown-at es d q.0 q.1))

-- one value of one object has changed
pub shown-changed : (es fs : List (BlockId × Values)) → IsDistinct id_eq (keys_of es) → IsDistinct id_eq (keys_of fs) → (object : BlockId) (k : ℕ) (w : Option BlockId) (v : Values)
    → ((q : BlockId) → lookup (id_eq q) fs ≡ cond (id_eq object q) (Some v) (lookup (id_eq q) es)) → v.values ≡ with_value (values_at es object) k w
    → shown_pairs fs ≡ with_value (shown_pairs es) (object, k) w
shown-changed es fs d e object k w v is values = same_map pairs_total exact_pair _ _ (λ q.
    shown-at fs e q.0 q.1 ∙ ap (λ l. get (values_in l) q.1) (is q.0) ∙ by q.0 q.1 (id_eq object q.0) refl
    ∙ ap (λ t. cond t w (get (values_at es q.0) q.1)) (tied_then (id_cmp q.0 object) (nat_cmp q.1 k))
    ∙ sym (get-with_value pairs_total (shown_pairs es) (object, k) w q ∙ ap (cond (eq_by_cmp pair_cmp q (object, k)) w) (shown-at es d q.0 q.1)))
  where
    by : (q : BlockId) (j : ℕ) (t : Bool) → id_eq object q ≡ t → get (values_in (cond t (Some v) (lookup (id_eq q) es))) j ≡ cond (same_id q object && is_eq (nat_cmp j k)) w (get (values_at es q) j)
    by q j true h =
        ap (λ m. get m j) values ∙ get-with_value nat_cmp_total (values_at es object) k w j
        ∙ ap (λ x. cond (is_eq (nat_cmp j k)) w (get (values_at es x) j)) (eq_is object q h)
        ∙ ap (λ s. cond (s && is_eq (nat_cmp j k)) w (get (values_at es q) j)) (sym (same_turned q object ∙ sym (eq_ids object q) ∙ h))
    by q j false h = ap (λ s. cond (s && is_eq (nat_cmp j k)) w (get (values_at es q) j)) (sym (same_turned q object ∙ sym (eq_ids object q) ∙ h))

-- a list without values makes no difference
pub shown-emptied : (es fs : List (BlockId × Values)) → IsDistinct id_eq (keys_of es) → IsDistinct id_eq (keys_of fs) → (object : BlockId)
    → ((q : BlockId) → lookup (id_eq q) fs ≡ cond (id_eq object q) None (lookup (id_eq q) es)) → values_at es object ≡ empty → shown_pairs fs ≡ shown_pairs es
shown-emptied es fs d e object is none = same_shown es fs d e (λ q. ap values_in (is q) ∙ by q (id_eq object q) refl)
  where
    by : (q : BlockId) (t : Bool) → id_eq object q ≡ t → values_in (cond t None (lookup (id_eq q) es)) ≡ values_at es q
    by q true h = sym none ∙ ap (values_at es) (eq_is object q h)
    by q false h = refl

-- an object's list is gone
pub shown-without : (es fs : List (BlockId × Values)) → IsDistinct id_eq (keys_of es) → IsDistinct id_eq (keys_of fs) → (object : BlockId)
    → ((q : BlockId) → lookup (id_eq q) fs ≡ cond (id_eq object q) None (lookup (id_eq q) es)) → shown_pairs fs ≡ without_object (shown_pairs es) object
shown-without es fs d e object is = same_map pairs_total exact_pair _ _ (λ q.
    shown-at fs e q.0 q.1 ∙ ap (λ l. get (values_in l) q.1) (is q.0) ∙ by q.0 q.1 (id_eq object q.0) refl
    ∙ ap (λ x. cond (not (same_id object q.0)) x None) (sym (shown-at es d q.0 q.1))
    ∙ sym (get-retain_keys (shown_pairs es) (λ p. not (same_id object p.0)) q (λ x t. ap (λ (p : BlockId × ℕ). not (same_id object p.0)) (sym (exact_pair q x t)))))
  where
    by : (q : BlockId) (j : ℕ) (t : Bool) → id_eq object q ≡ t → get (values_in (cond t None (lookup (id_eq q) es))) j ≡ cond (not (same_id object q)) (get (values_at es q) j) None
    by q j true h = get-empty nat_cmp j ∙ ap (λ s. cond (not s) (get (values_at es q) j) None) (sym (sym (eq_ids object q) ∙ h))
    by q j false h = ap (λ s. cond (not s) (get (values_at es q) j) None) (sym (sym (eq_ids object q) ∙ h))

-- what is kept of a map by a test of its keys
module _ {K X : Type 0} {R : K → K → Ordering} (o : IsTotalOrder R) (same : IsAntisymmetric R) where
  entries-kept : (m : FinMap R X) (p : K → Bool) → entries (retain_keys m p) ≡ where_key R p (entries m)
  entries-kept m p = same_entries R o same (entries (retain_keys m p)) (where_key R p (entries m)) (entries_sorted (retain_keys m p)) (is_sorted-where_key R p (entries m) (entries_sorted m)) (λ q.
      sym (get-entries (retain_keys m p) q) ∙ get-retain_keys m p q (λ x t. ap p (sym (same q x t))) ∙ ap (λ x. cond (p q) x None) (get-entries m q)
      ∙ sym (find-where_key R p q (λ x t. ap p (sym (same q x t))) (entries m)))

  parts : (p : K → Bool) (es : List (K × X)) → length (where_key R p es) + length (where_key R (λ x. not (p x)) es) ≡ length es
  parts p [] = refl
  parts p (e ∷ es) = by (p e.0) (parts p es)
    where
      by : (b : Bool) → length (where_key R p es) + length (where_key R (λ x. not (p x)) es) ≡ length es
          → length (cond b (e ∷ where_key R p es) (where_key R p es)) + length (cond (not b) (e ∷ where_key R (λ x. not (p x)) es) (where_key R (λ x. not (p x)) es)) ≡ suc (length es)
      by true h = omega arith
      by false h = omega arith

  len-parts : (m : FinMap R X) (p : K → Bool) → len (retain_keys m p) + len (retain_keys m (λ x. not (p x))) ≡ len m
  len-parts m p =
      ap (λ n. n + len (retain_keys m (λ x. not (p x)))) (len-entries (retain_keys m p) ∙ ap length (entries-kept m p))
      ∙ ap (λ n. length (where_key R p (entries m)) + n) (len-entries (retain_keys m (λ x. not (p x))) ∙ ap length (entries-kept m (λ x. not (p x))))
      ∙ parts p (entries m) ∙ sym (len-entries m)

below-lifted : (object : BlockId) (k : ℕ) (ps : List (ℕ × BlockId)) → below_all pair_cmp (object, k) (lifted object ps) ≡ below_all nat_cmp k ps
below-lifted object k [] = refl
below-lifted object k (p ∷ ps) =
    ap (λ r. is_lt (ordering_then r (nat_cmp k p.0)) && below_all pair_cmp (object, k) (lifted object ps)) (tied_itself ids_total object)
    ∙ ap (λ b. is_lt (nat_cmp k p.0) && b) (below-lifted object k ps)

sorted-lifted : (object : BlockId) (ps : List (ℕ × BlockId)) → is_sorted pair_cmp (lifted object ps) ≡ is_sorted nat_cmp ps
sorted-lifted object [] = refl
sorted-lifted object (p ∷ ps) = ap (λ b. b && is_sorted pair_cmp (lifted object ps)) (below-lifted object p.0 ps) ∙ ap (λ b. below_all nat_cmp p.0 ps && b) (sorted-lifted object ps)

-- the pairs of an object are those of its list
object-entries : (es : List (BlockId × Values)) → IsDistinct id_eq (keys_of es) → (object : BlockId) → entries (retain_keys (shown_pairs es) (λ p. same_id object p.0)) ≡ lifted object (entries (values_at es object))
object-entries es d object =
    same_entries pair_cmp pairs_total exact_pair _ (lifted object (entries (values_at es object))) (entries_sorted (retain_keys (shown_pairs es) (λ p. same_id object p.0)))
    (subst T (sym (sorted-lifted object (entries (values_at es object)))) (entries_sorted (values_at es object))) (λ q.
    sym (get-entries (retain_keys (shown_pairs es) (λ p. same_id object p.0)) q)
    ∙ get-retain_keys (shown_pairs es) (λ p. same_id object p.0) q (λ x t. ap (λ (p : BlockId × ℕ). same_id object p.0) (sym (exact_pair q x t)))
    ∙ ap (λ x. cond (same_id object q.0) x None) (shown-at es d q.0 q.1)
    ∙ by q.0 q.1 (same_id object q.0) refl
    ∙ sym (find-lifted q.0 object q.1 (entries (values_at es object))))
  where
    by : (q : BlockId) (j : ℕ) (t : Bool) → same_id object q ≡ t → cond t (get (values_at es q) j) None ≡ cond (same_id q object) (find nat_cmp j (entries (values_at es object))) None
    by q j true h =
        ap (λ x. get (values_at es x) j) (sym (exact_ids object q (equal _ h))) ∙ get-entries (values_at es object) j
        ∙ ap (λ s. cond s (find nat_cmp j (entries (values_at es object))) None) (sym (same_turned q object ∙ h))
    by q j false h = ap (λ s. cond s (find nat_cmp j (entries (values_at es object))) None) (sym (same_turned q object ∙ h))

keys-again : (object : BlockId) (ps : List (ℕ × BlockId)) → map (λ (e : (BlockId × ℕ) × BlockId). let key : Key = record { 0 = e.0.1 } in (key, e.1)) (lifted object ps) ≡ map shown_pair ps
keys-again object [] = refl
keys-again object (p ∷ ps) = ap (λ xs. shown_pair p ∷ xs) (keys-again object ps)

pub pairs-listed : (es : List (BlockId × Values)) → IsDistinct id_eq (keys_of es) → (object : BlockId) → pairs_of (shown_pairs es) object ≡ map shown_pair (entries (values_at es object))
pairs-listed es d object = ap (map (λ (e : (BlockId × ℕ) × BlockId). let key : Key = record { 0 = e.0.1 } in (key, e.1))) (object-entries es d object) ∙ keys-again object (entries (values_at es object))

length-lifted : (object : BlockId) (ps : List (ℕ × BlockId)) → length (lifted object ps) ≡ length ps
length-lifted object [] = refl
length-lifted object (p ∷ ps) = ap suc (length-lifted object ps)

-- an object's pairs are no longer counted
pub len-without : (es : List (BlockId × Values)) → IsDistinct id_eq (keys_of es) → (object : BlockId) → len (values_at es object) + len (without_object (shown_pairs es) object) ≡ len (shown_pairs es)
len-without es d object =
    ap (λ n. n + len (without_object (shown_pairs es) object)) (len-entries (values_at es object) ∙ sym (len-entries (retain_keys (shown_pairs es) (λ p. same_id object p.0)) ∙ ap length (object-entries es d object) ∙ length-lifted object (entries (values_at es object))))
    ∙ len-parts pairs_total exact_pair (shown_pairs es) (λ p. same_id object p.0)

pub no-pairs : (es : List (BlockId × Values)) → es ≡ [] → shown_pairs es ≡ empty
no-pairs es e = ap shown_pairs e

pub got : (es : List (BlockId × Values)) → IsDistinct id_eq (keys_of es) → (object : BlockId) (k : ℕ) (o : Option Values) → lookup (id_eq object) es ≡ o → get (values_in o) k ≡ get (shown_pairs es) (object, k)
got es d object k o e = sym (shown-at es d object k ∙ ap (λ l. get (values_in l) k) e)

pub listed : (es : List (BlockId × Values)) → IsDistinct id_eq (keys_of es) → (object : BlockId) (n : ℕ) (o : Option Values) → lookup (id_eq object) es ≡ o
    → option_map shown_pair (slice_get (entries (values_in o)) n) ≡ slice_get (pairs_of (shown_pairs es) object) n
listed es d object n o e =
    sym (ap (λ xs. slice_get xs n) (pairs-listed es d object) ∙ slice_get-map shown_pair (entries (values_at es object)) n ∙ ap (λ l. option_map shown_pair (slice_get (entries (values_in l)) n)) e)

no_items : {X : Type 0} (xs : List X) → length xs ≡ 0 → xs ≡ []
no_items [] e = refl
no_items (x ∷ xs) e = absurd (omega arith)

-- an object whose list is empty
pub unpaired : (es : List (BlockId × Values)) → IsDistinct id_eq (keys_of es) → (object : BlockId) → len (values_at es object) ≡ 0 → pairs_of (shown_pairs es) object ≡ []
unpaired es d object none = pairs-listed es d object ∙ ap (map shown_pair) (no_items (entries (values_at es object)) (sym (len-entries (values_at es object)) ∙ none))

pub unlisted : (es : List (BlockId × Values)) → IsDistinct id_eq (keys_of es) → (object : BlockId) → lookup (id_eq object) es ≡ None → pairs_of (shown_pairs es) object ≡ []
unlisted es d object e = unpaired es d object (ap (λ o. len (values_in o)) e ∙ len-empty nat_cmp BlockId)

-- where there are no values at all
pub none-paired : (es : List (BlockId × Values)) → IsDistinct id_eq (keys_of es) → (object : BlockId) → len (shown_pairs es) ≡ 0 → pairs_of (shown_pairs es) object ≡ []
none-paired es d object none = unpaired es d object (nothing _ _ _ (len-without es d object) none)
  where
    nothing : (a b c : ℕ) → a + b ≡ c → c ≡ 0 → a ≡ 0
    nothing a b c e f = omega arith

pub none-listed : (n : ℕ) → None ≡ option_map shown_pair (slice_get (entries (values_in None)) n)
none-listed n = ap (λ xs. option_map shown_pair (slice_get xs n)) (sym (no_items (entries (empty {X = BlockId} {R = nat_cmp})) (sym (len-entries (empty {X = BlockId} {R = nat_cmp})) ∙ len-empty nat_cmp BlockId)))
