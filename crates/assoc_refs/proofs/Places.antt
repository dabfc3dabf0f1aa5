-- The place of a key in a list that rises by its keys
use Rattle.std.proofs.Common.{◌≡◌, ℕ, ◌+◌, ◌<◌, ◌≤◌, Bool, true, false, not, ◌&&◌, cond, T, List, [], ◌∷◌, length, slice_get, slice_set, Option, Some, None, refl, sym, ap, subst, ◌∙◌, suc, zero, arith, if◌then◌else◌, ◌-◌, ◌/◌, ◌⊎◌, inl, inr, get_or, Ok, Err}
use Rattle.std.proofs.lemmas.Grind.{common_steps}
use Rattle.std.proofs.lemmas.Option.{slice_get_within, slice_get_past, slice_get-get_or}
use Rattle.std.specs.Prelude.{insert as list_insert, remove as list_remove}
use Rattle.std.specs.Option.{option_map}
use Rattle.std.specs.declared.cmp.Ordering.TheVariants.{Less, Equal, Greater}
use Rattle.std.specs.Ordering.{nat_cmp, is_lt, is_eq, eq_by_cmp}
use Rattle.std.specs.Cmp.{nat_cmp_total, eq_by_cmp_equiv}
use Rattle.std.specs.FinMap.{nat_cmp-IsAntisymmetric, is_sorted, find, put, from_sorted, entries, entries-from_sorted, get-from_sorted, same_map, get, insert, remove, get-insert, get-remove, empty, get-empty, len, len-entries}
use Rattle.std.specs.FinMap.Entries.{below_all, where_key, by_order, is_sorted-put, is_sorted-where_key, find-put, find-where_key}
use Rattle.az_base.specs.declared.block_id.BlockId.{BlockId}
use Rattle.az_base.specs.declared.numbers.Key.{Key}
use Rattle.az_base.proofs.Sorted.{first, second, find_below}
use Rattle.assoc_refs.specs.Values.{IsPlace, Finds, numbered, shown_pair}

below : (a b : ℕ) → T (is_lt (nat_cmp a b)) → a < b
below a b h = grind (arith, common_steps)

is_less : (a b : ℕ) → a < b → nat_cmp a b ≡ Less
is_less a b h = grind (arith, common_steps)

is_equal : (a b : ℕ) → a ≡ b → nat_cmp a b ≡ Equal
is_equal a b h = grind (arith, common_steps)

is_greater : (a b : ℕ) → b < a → nat_cmp a b ≡ Greater
is_greater a b h = grind (arith, common_steps)

below_at : (k : ℕ) (es : List (ℕ × BlockId)) (j : ℕ) (e : ℕ × BlockId) → T (below_all nat_cmp k es) → slice_get es j ≡ Some e → k < e.0
below_at k [] j e h at = cc
below_at k (f ∷ es) zero e h at = subst (λ (g : ℕ × BlockId). k < g.0) (same at) (below k f.0 (first _ _ h))
  where
    same : Some f ≡ Some e → f ≡ e
    same p = cc
below_at k (f ∷ es) (suc j) e h at = below_at k es j e (second _ _ h) at

pub rises : (es : List (ℕ × BlockId)) (i j : ℕ) (a b : ℕ × BlockId) → T (is_sorted nat_cmp es) → i < j → slice_get es i ≡ Some a → slice_get es j ≡ Some b → a.0 < b.0
rises [] i j a b h l s t = cc
rises (e ∷ es) zero zero a b h l s t = absurd (omega arith)
rises (e ∷ es) zero (suc j) a b h l s t = subst (λ (g : ℕ × BlockId). g.0 < b.0) (same s) (below_at e.0 es j b (first _ _ h) t)
  where
    same : Some e ≡ Some a → e ≡ a
    same p = cc
rises (e ∷ es) (suc i) zero a b h l s t = absurd (omega arith)
rises (e ∷ es) (suc i) (suc j) a b h l s t = rises es i j a b (second _ _ h) (omega arith) s t

moved : (e : ℕ × BlockId) (k : ℕ) (es : List (ℕ × BlockId)) (i : ℕ) → IsPlace k (e ∷ es) (suc i) → IsPlace k es i
moved e k es i p j f at = let h : (suc j < suc i → f.0 < k) × (suc i ≤ suc j → k ≤ f.0) = p (suc j) f at in (λ l. h.0 (omega arith), λ l. h.1 (omega arith))

before : (e : ℕ × BlockId) (k : ℕ) (es : List (ℕ × BlockId)) (i : ℕ) → IsPlace k (e ∷ es) (suc i) → e.0 < k
before e k es i p = (p 0 e refl).0 (omega arith)

-- an insertion at its place puts the key in order
pub put-inserted : (k : ℕ) (v : BlockId) (es : List (ℕ × BlockId)) (i : ℕ) → IsPlace k es i → i ≤ length es → ((w : BlockId) → ¬ (slice_get es i ≡ Some (k, w))) → list_insert es i (k, v) ≡ put nat_cmp k v es
put-inserted k v [] zero p l n = refl
put-inserted k v [] (suc i) p l n = absurd (omega arith)
put-inserted k v (e ∷ es) zero p l n = ap (λ r. by_order r ((k, v) ∷ e ∷ es) ((e.0, v) ∷ es) (e ∷ put nat_cmp k v es)) (sym (is_less k e.0 (apart ((p 0 e refl).1 (omega arith)) (λ q. n e.1 (ap (λ x. Some (x, e.1)) (sym q))))))
  where
    apart : k ≤ e.0 → (k ≡ e.0 → ⊥) → k < e.0
    apart h f = omega (arith, h, f)
put-inserted k v (e ∷ es) (suc i) p l n =
    ap (λ xs. e ∷ xs) (put-inserted k v es i (moved e k es i p) (omega arith) n)
    ∙ ap (λ r. by_order r ((k, v) ∷ e ∷ es) ((e.0, v) ∷ es) (e ∷ put nat_cmp k v es)) (sym (is_greater k e.0 (before e k es i p)))

pub the_key : (e : ℕ × BlockId) (k : ℕ) (w : BlockId) → Some e ≡ Some (k, w) → e.0 ≡ k
the_key e k w h = cc

-- a write at the key puts the value in
pub put-written : (k : ℕ) (v w : BlockId) (es : List (ℕ × BlockId)) (i : ℕ) → IsPlace k es i → slice_get es i ≡ Some (k, w) → slice_set es i (k, v) ≡ put nat_cmp k v es
put-written k v w [] i p at = cc
put-written k v w (e ∷ es) zero p at =
    ap (λ x. (x, v) ∷ es) (sym (the_key e k w at))
    ∙ ap (λ r. by_order r ((k, v) ∷ e ∷ es) ((e.0, v) ∷ es) (e ∷ put nat_cmp k v es)) (sym (is_equal k e.0 (sym (the_key e k w at))))
put-written k v w (e ∷ es) (suc i) p at =
    ap (λ xs. e ∷ xs) (put-written k v w es i (moved e k es i p) at)
    ∙ ap (λ r. by_order r ((k, v) ∷ e ∷ es) ((e.0, v) ∷ es) (e ∷ put nat_cmp k v es)) (sym (is_greater k e.0 (before e k es i p)))

-- what a search finds
pub find-at : (k : ℕ) (w : BlockId) (es : List (ℕ × BlockId)) (i : ℕ) → IsPlace k es i → slice_get es i ≡ Some (k, w) → find nat_cmp k es ≡ Some w
find-at k w [] i p at = cc
find-at k w (e ∷ es) zero p at = ap (λ r. cond (is_eq r) (Some e.1) (find nat_cmp k es)) (is_equal k e.0 (sym (the_key e k w at))) ∙ the_value at
  where
    the_value : Some e ≡ Some (k, w) → Some e.1 ≡ Some w
    the_value h = cc
find-at k w (e ∷ es) (suc i) p at = ap (λ r. cond (is_eq r) (Some e.1) (find nat_cmp k es)) (is_greater k e.0 (before e k es i p)) ∙ find-at k w es i (moved e k es i p) at

lower : (k : ℕ) (e : ℕ) (es : List (ℕ × BlockId)) → k < e → T (below_all nat_cmp e es) → T (below_all nat_cmp k es)
lower k e [] l h = tt
lower k e (f ∷ es) l h =
    subst T (sym (ap (λ r. is_lt r && below_all nat_cmp k es) (is_less k f.0 (less_too (below e f.0 (first _ _ h)))))) (lower k e es l (second _ _ h))
  where
    less_too : e < f.0 → k < f.0
    less_too g = omega arith

pub find-none : (k : ℕ) (es : List (ℕ × BlockId)) (i : ℕ) → T (is_sorted nat_cmp es) → IsPlace k es i → ((w : BlockId) → ¬ (slice_get es i ≡ Some (k, w))) → find nat_cmp k es ≡ None
find-none k [] i s p n = refl
find-none k (e ∷ es) zero s p n =
    let l : k < e.0 = apart ((p 0 e refl).1 (omega arith)) (λ q. n e.1 (ap (λ x. Some (x, e.1)) (sym q))) in
    ap (λ r. cond (is_eq r) (Some e.1) (find nat_cmp k es)) (is_less k e.0 l) ∙ find_below nat_cmp k es (lower k e.0 es l (first _ _ s))
  where
    apart : k ≤ e.0 → (k ≡ e.0 → ⊥) → k < e.0
    apart h f = omega (arith, h, f)
find-none k (e ∷ es) (suc i) s p n = ap (λ r. cond (is_eq r) (Some e.1) (find nat_cmp k es)) (is_greater k e.0 (before e k es i p)) ∙ find-none k es i (second _ _ s) (moved e k es i p) n

keeps_all : (k : ℕ) (es : List (ℕ × BlockId)) → T (below_all nat_cmp k es) → where_key nat_cmp (λ x. not (eq_by_cmp nat_cmp k x)) es ≡ es
keeps_all k [] h = refl
keeps_all k (e ∷ es) h =
    ap (λ r. cond (not (is_eq r)) (e ∷ where_key nat_cmp (λ x. not (eq_by_cmp nat_cmp k x)) es) (where_key nat_cmp (λ x. not (eq_by_cmp nat_cmp k x)) es)) (is_less k e.0 (below k e.0 (first _ _ h)))
    ∙ ap (λ xs. e ∷ xs) (keeps_all k es (second _ _ h))

-- the entry at the key is the one that goes
pub where-removed : (k : ℕ) (w : BlockId) (es : List (ℕ × BlockId)) (i : ℕ) → T (is_sorted nat_cmp es) → IsPlace k es i → slice_get es i ≡ Some (k, w) → list_remove es i ≡ where_key nat_cmp (λ x. not (eq_by_cmp nat_cmp k x)) es
where-removed k w [] i s p at = cc
where-removed k w (e ∷ es) zero s p at =
    sym (ap (λ r. cond (not (is_eq r)) (e ∷ where_key nat_cmp (λ x. not (eq_by_cmp nat_cmp k x)) es) (where_key nat_cmp (λ x. not (eq_by_cmp nat_cmp k x)) es)) (is_equal k e.0 (sym (the_key e k w at)))
    ∙ keeps_all k es (subst (λ x. T (below_all nat_cmp x es)) (the_key e k w at) (first _ _ s)))
where-removed k w (e ∷ es) (suc i) s p at =
    ap (λ xs. e ∷ xs) (where-removed k w es i (second _ _ s) (moved e k es i p) at)
    ∙ sym (ap (λ r. cond (not (is_eq r)) (e ∷ where_key nat_cmp (λ x. not (eq_by_cmp nat_cmp k x)) es) (where_key nat_cmp (λ x. not (eq_by_cmp nat_cmp k x)) es)) (is_greater k e.0 (before e k es i p)))

abbrev plain_pair : Key × BlockId → ℕ × BlockId
plain_pair e = (e.0.0, e.1)

pub numbered-length : (es : List (Key × BlockId)) → length (numbered es) ≡ length es
numbered-length [] = refl
numbered-length (e ∷ es) = ap suc (numbered-length es)

pub numbered-get : (es : List (Key × BlockId)) (i : ℕ) → slice_get (numbered es) i ≡ option_map plain_pair (slice_get es i)
numbered-get [] i = refl
numbered-get (e ∷ es) zero = refl
numbered-get (e ∷ es) (suc i) = numbered-get es i

pub numbered-insert : (es : List (Key × BlockId)) (i : ℕ) (x : Key × BlockId) → numbered (list_insert es i x) ≡ list_insert (numbered es) i (x.0.0, x.1)
numbered-insert [] zero x = refl
numbered-insert [] (suc i) x = refl
numbered-insert (e ∷ es) zero x = refl
numbered-insert (e ∷ es) (suc i) x = ap (λ xs. (e.0.0, e.1) ∷ xs) (numbered-insert es i x)

pub numbered-remove : (es : List (Key × BlockId)) (i : ℕ) → numbered (list_remove es i) ≡ list_remove (numbered es) i
numbered-remove [] zero = refl
numbered-remove [] (suc i) = refl
numbered-remove (e ∷ es) zero = refl
numbered-remove (e ∷ es) (suc i) = ap (λ xs. (e.0.0, e.1) ∷ xs) (numbered-remove es i)

pub numbered-set : (es : List (Key × BlockId)) (i : ℕ) (x : Key × BlockId) → numbered (slice_set es i x) ≡ slice_set (numbered es) i (x.0.0, x.1)
numbered-set [] i x = refl
numbered-set (e ∷ es) zero x = refl
numbered-set (e ∷ es) (suc i) x = ap (λ xs. (e.0.0, e.1) ∷ xs) (numbered-set es i x)

-- lists that rise, as maps
pub sorted-put : (k : ℕ) (v : BlockId) (es : List (ℕ × BlockId)) → T (is_sorted nat_cmp es) → T (is_sorted nat_cmp (put nat_cmp k v es))
sorted-put k v es s = is_sorted-put nat_cmp nat_cmp_total k v es s

pub sorted-where : (k : ℕ) (es : List (ℕ × BlockId)) → T (is_sorted nat_cmp es) → T (is_sorted nat_cmp (where_key nat_cmp (λ x. not (eq_by_cmp nat_cmp k x)) es))
sorted-where k es s = is_sorted-where_key nat_cmp (λ x. not (eq_by_cmp nat_cmp k x)) es s

pub map-put : (k : ℕ) (v : BlockId) (es : List (ℕ × BlockId)) → T (is_sorted nat_cmp es) → from_sorted {R = nat_cmp} (put nat_cmp k v es) ≡ insert (from_sorted es) k v
map-put k v es s = same_map nat_cmp_total nat_cmp-IsAntisymmetric _ _ (λ q.
    get-from_sorted nat_cmp (put nat_cmp k v es) q (sorted-put k v es s) ∙ find-put nat_cmp nat_cmp_total q k v es
    ∙ sym (get-insert nat_cmp_total (from_sorted es) k v q ∙ ap (cond (eq_by_cmp nat_cmp q k) (Some v)) (get-from_sorted nat_cmp es q s)))

turned : (b : Bool) (x : Option BlockId) → cond (not b) x None ≡ cond b None x
turned true x = refl
turned false x = refl

pub map-where : (k : ℕ) (es : List (ℕ × BlockId)) → T (is_sorted nat_cmp es) → from_sorted {R = nat_cmp} (where_key nat_cmp (λ x. not (eq_by_cmp nat_cmp k x)) es) ≡ remove (from_sorted es) k
map-where k es s = same_map nat_cmp_total nat_cmp-IsAntisymmetric _ _ (λ q.
    get-from_sorted nat_cmp (where_key nat_cmp (λ x. not (eq_by_cmp nat_cmp k x)) es) q (sorted-where k es s)
    ∙ find-where_key nat_cmp (λ x. not (eq_by_cmp nat_cmp k x)) q (λ x e. ap (λ y. not (eq_by_cmp nat_cmp k y)) (sym (nat_cmp-IsAntisymmetric q x e))) es
    ∙ turned (eq_by_cmp nat_cmp k q) (find nat_cmp q es)
    ∙ ap (λ t. cond t None (find nat_cmp q es)) ((eq_by_cmp_equiv nat_cmp_total).symm k q)
    ∙ sym (get-remove nat_cmp_total (from_sorted es) k q ∙ ap (cond (eq_by_cmp nat_cmp q k) None) (get-from_sorted nat_cmp es q s)))

pub map-empty : from_sorted {X = BlockId} {R = nat_cmp} [] ≡ empty
map-empty = same_map nat_cmp_total nat_cmp-IsAntisymmetric _ _ (λ q. get-from_sorted nat_cmp [] q tt ∙ sym (get-empty nat_cmp q))

pub map-none : (es : List (Key × BlockId)) → es ≡ [] → from_sorted {R = nat_cmp} (numbered es) ≡ empty
map-none es e = ap (λ xs. from_sorted {R = nat_cmp} (numbered xs)) e ∙ map-empty

pub map-length : (es : List (Key × BlockId)) → T (is_sorted nat_cmp (numbered es)) → length es ≡ len (from_sorted {R = nat_cmp} (numbered es))
map-length es s = sym (len-entries (from_sorted (numbered es)) ∙ ap length (entries-from_sorted nat_cmp (numbered es) s) ∙ numbered-length es)

shown_again : (e : Key × BlockId) → shown_pair (plain_pair e) ≡ e
shown_again e = refl

again : (o : Option (Key × BlockId)) → option_map shown_pair (option_map plain_pair o) ≡ o
again None = refl
again (Some e) = refl

pub map-nth : (es : List (Key × BlockId)) (n : ℕ) → T (is_sorted nat_cmp (numbered es)) → slice_get es n ≡ option_map shown_pair (slice_get (entries (from_sorted {R = nat_cmp} (numbered es))) n)
map-nth es n s = sym (ap (λ xs. option_map shown_pair (slice_get xs n)) (entries-from_sorted nat_cmp (numbered es) s) ∙ ap (option_map shown_pair) (numbered-get es n) ∙ again (slice_get es n))

-- an item of the list, as the code reads it
pub numbered-item : (es : List (Key × BlockId)) (i : ℕ) (x : Key × BlockId) → i < length es → x ≡ get_or es i x → slice_get (numbered es) i ≡ Some (x.0.0, x.1)
numbered-item es i x l e = numbered-get es i ∙ ap (option_map plain_pair) (slice_get-get_or es i x l ∙ ap Some (sym e))

earlier_or_same : (j m : ℕ) → j < m + 1 → (j < m) ⊎ (j ≡ m)
earlier_or_same zero zero l = inr refl
earlier_or_same zero (suc m) l = inl (omega arith)
earlier_or_same (suc j) zero l = absurd (omega arith)
earlier_or_same (suc j) (suc m) l = elim (earlier_or_same j m (omega arith)) as (λ _. (suc j < suc m) ⊎ (suc j ≡ suc m)) [ inl h ↦ inl (omega arith) | inr e ↦ inr (ap suc e) ]

-- the keys before the first place are below the key, and those from the second on are not
abbrev pub IsBetween : ℕ → List (ℕ × BlockId) → ℕ → ℕ → Type 0
IsBetween k es low high = (j : ℕ) (e : ℕ × BlockId) → slice_get es j ≡ Some e → (j < low → e.0 < k) × (high ≤ j → k ≤ e.0)

same_some : (a b : ℕ × BlockId) → Some a ≡ Some b → a ≡ b
same_some a b h = cc

pub narrow-low : (es : List (ℕ × BlockId)) (k low high m : ℕ) (x : ℕ × BlockId) → T (is_sorted nat_cmp es) → slice_get es m ≡ Some x → x.0 < k → IsBetween k es low high → IsBetween k es (m + 1) high
narrow-low es k low high m x s at below_it was j e h = (λ l. by (earlier_or_same j m l), (was j e h).1)
  where
    by : (j < m) ⊎ (j ≡ m) → e.0 < k
    by (inl l) = let r : e.0 < x.0 = rises es j m e x s l h at in omega arith
    by (inr q) = subst (λ (f : ℕ × BlockId). f.0 < k) (same_some x e (sym at ∙ ap (slice_get es) (sym q) ∙ h)) below_it

later_or_same : (m j : ℕ) → m ≤ j → (m < j) ⊎ (m ≡ j)
later_or_same m j l = earlier_or_same m j (omega arith)

pub narrow-high : (es : List (ℕ × BlockId)) (k low high m : ℕ) (x : ℕ × BlockId) → T (is_sorted nat_cmp es) → slice_get es m ≡ Some x → k ≤ x.0 → IsBetween k es low high → IsBetween k es low m
narrow-high es k low high m x s at above_it was j e h = ((was j e h).0, λ l. by (later_or_same m j l))
  where
    by : (m < j) ⊎ (m ≡ j) → k ≤ e.0
    by (inl l) = let r : x.0 < e.0 = rises es m j x e s l at h in omega arith
    by (inr q) = subst (λ (f : ℕ × BlockId). k ≤ f.0) (same_some x e (sym at ∙ ap (slice_get es) q ∙ h)) above_it

value_of : (a b : ℕ × BlockId) → Some a ≡ Some b → Some a.1 ≡ Some b.1
value_of a b h = cc

-- what a search says of the map
pub get-found : (es : List (Key × BlockId)) (k i : ℕ) (x : Key × BlockId) → T (is_sorted nat_cmp (numbered es)) → Finds k (numbered es) (Ok i) → x ≡ get_or es i x → get (from_sorted {R = nat_cmp} (numbered es)) k ≡ Some x.1
get-found es k i x s f e =
    get-from_sorted nat_cmp (numbered es) k s ∙ find-at k f.1 (numbered es) i f.0 f.2
    ∙ value_of (k, f.1) (x.0.0, x.1) (sym f.2 ∙ numbered-item es i x (subst (λ n. i < n) (numbered-length es) (slice_get_within (numbered es) i _ f.2)) e)

pub get-absent : (es : List (Key × BlockId)) (k i : ℕ) → T (is_sorted nat_cmp (numbered es)) → Finds k (numbered es) (Err i) → get (from_sorted {R = nat_cmp} (numbered es)) k ≡ None
get-absent es k i s f = get-from_sorted nat_cmp (numbered es) k s ∙ find-none k (numbered es) i s f.0 f.2

-- the list after a write, an insertion, a removal
pub list-written : (es : List (Key × BlockId)) (k : Key) (v : BlockId) (i : ℕ) → Finds k.0 (numbered es) (Ok i) → numbered (slice_set es i (k, v)) ≡ put nat_cmp k.0 v (numbered es)
list-written es k v i f = numbered-set es i (k, v) ∙ put-written k.0 v f.1 (numbered es) i f.0 f.2

pub list-inserted : (es : List (Key × BlockId)) (k : Key) (v : BlockId) (i : ℕ) → Finds k.0 (numbered es) (Err i) → numbered (list_insert es i (k, v)) ≡ put nat_cmp k.0 v (numbered es)
list-inserted es k v i f = numbered-insert es i (k, v) ∙ put-inserted k.0 v (numbered es) i f.0 f.1 f.2

pub list-removed : (es : List (Key × BlockId)) (k i : ℕ) → T (is_sorted nat_cmp (numbered es)) → Finds k (numbered es) (Ok i) → numbered (list_remove es i) ≡ where_key nat_cmp (λ x. not (eq_by_cmp nat_cmp k x)) (numbered es)
list-removed es k i s f = numbered-remove es i ∙ where-removed k f.1 (numbered es) i s f.0 f.2

-- and as maps
pub map-changed : (es fs : List (Key × BlockId)) (k : ℕ) (v : BlockId) → T (is_sorted nat_cmp (numbered es)) → numbered fs ≡ put nat_cmp k v (numbered es) → from_sorted {R = nat_cmp} (numbered fs) ≡ insert (from_sorted (numbered es)) k v
map-changed es fs k v s e = ap from_sorted e ∙ map-put k v (numbered es) s

pub sorted-changed : (es fs : List (Key × BlockId)) (k : ℕ) (v : BlockId) → T (is_sorted nat_cmp (numbered es)) → numbered fs ≡ put nat_cmp k v (numbered es) → T (is_sorted nat_cmp (numbered fs))
sorted-changed es fs k v s e = subst (λ xs. T (is_sorted nat_cmp xs)) (sym e) (sorted-put k v (numbered es) s)

pub map-left : (es fs : List (Key × BlockId)) (k : ℕ) → T (is_sorted nat_cmp (numbered es)) → numbered fs ≡ where_key nat_cmp (λ x. not (eq_by_cmp nat_cmp k x)) (numbered es) → from_sorted {R = nat_cmp} (numbered fs) ≡ remove (from_sorted (numbered es)) k
map-left es fs k s e = ap from_sorted e ∙ map-where k (numbered es) s

pub sorted-left : (es fs : List (Key × BlockId)) (k : ℕ) → T (is_sorted nat_cmp (numbered es)) → numbered fs ≡ where_key nat_cmp (λ x. not (eq_by_cmp nat_cmp k x)) (numbered es) → T (is_sorted nat_cmp (numbered fs))
sorted-left es fs k s e = subst (λ xs. T (is_sorted nat_cmp xs)) (sym e) (sorted-where k (numbered es) s)

same_key : (q k : ℕ) → eq_by_cmp nat_cmp q k ≡ true → q ≡ k
same_key q k h = grind (arith, common_steps)

unchanged : (es : List (Key × BlockId)) (k i : ℕ) → T (is_sorted nat_cmp (numbered es)) → Finds k (numbered es) (Err i) → (q : ℕ) (b : Bool) → eq_by_cmp nat_cmp q k ≡ b
    → get (from_sorted {R = nat_cmp} (numbered es)) q ≡ cond (eq_by_cmp nat_cmp q k) None (get (from_sorted {R = nat_cmp} (numbered es)) q)
unchanged es k i s f q true e = ap (get (from_sorted {R = nat_cmp} (numbered es))) (same_key q k e) ∙ get-absent es k i s f ∙ ap (λ t. cond t None (get (from_sorted {R = nat_cmp} (numbered es)) q)) (sym e)
unchanged es k i s f q false e = ap (λ t. cond t None (get (from_sorted {R = nat_cmp} (numbered es)) q)) (sym e)

-- a key that isn't there stays away
pub map-absent : (es : List (Key × BlockId)) (k i : ℕ) → T (is_sorted nat_cmp (numbered es)) → Finds k (numbered es) (Err i) → from_sorted {R = nat_cmp} (numbered es) ≡ remove (from_sorted (numbered es)) k
map-absent es k i s f = same_map nat_cmp_total nat_cmp-IsAntisymmetric _ _ (λ q. unchanged es k i s f q (eq_by_cmp nat_cmp q k) refl ∙ sym (get-remove nat_cmp_total (from_sorted (numbered es)) k q))

pub half_within : (low high : ℕ) → low < high → (low ≤ low + (high - low) / 2) × (low + (high - low) / 2 < high)
half_within low high l = (omega arith, omega arith)

-- the n-th pair, as the code reads it
pub nth-there : (es : List (Key × BlockId)) (n : ℕ) (x : Key × BlockId) → T (is_sorted nat_cmp (numbered es)) → n < length es → x ≡ get_or es n x → Some x ≡ option_map shown_pair (slice_get (entries (from_sorted {R = nat_cmp} (numbered es))) n)
nth-there es n x s l e = ap Some e ∙ sym (slice_get-get_or es n x l) ∙ map-nth es n s

pub nth-past : (es : List (Key × BlockId)) (n : ℕ) → T (is_sorted nat_cmp (numbered es)) → length es ≤ n → None ≡ option_map shown_pair (slice_get (entries (from_sorted {R = nat_cmp} (numbered es))) n)
nth-past es n s l = sym (slice_get_past es n l) ∙ map-nth es n s

pub sorted-either : (es fs gs : List (Key × BlockId)) (b : Bool) → T (is_sorted nat_cmp (numbered es)) → T (is_sorted nat_cmp (numbered gs)) → fs ≡ (if b then gs else es) → T (is_sorted nat_cmp (numbered fs))
sorted-either es fs gs true s t e = subst (λ xs. T (is_sorted nat_cmp (numbered xs))) (sym e) t
sorted-either es fs gs false s t e = subst (λ xs. T (is_sorted nat_cmp (numbered xs))) (sym e) s
