-- Blocks by position
use Rattle.std.proofs.Common.{◌++◌, cond, ◌≤◌, ◌≡◌, ℕ, zero, suc, ◌+◌, ◌<◌, Bool, true, false, List, [], ◌∷◌, Option, Some, None, length, take, position, slice_get, get_or, is_some, refl, sym, ap, ◌∙◌, subst, arith, inl, inr, ◌⊎◌}
use Rattle.std.specs.List.{IsDistinct, AllByRecursion, list_any}
use Rattle.std.specs.Option.{option_map}
use Rattle.std.specs.Map.{keys_of}
use Rattle.std.proofs.lemmas.Map.Made.{is_some-lookup}
use Rattle.std.proofs.lemmas.List.Quantifiers.{position-Some}
use Rattle.std.proofs.lemmas.Option.{slice_get-get_or}
use Rattle.az_base.specs.declared.block_id.BlockId.{BlockId}
use Rattle.az_base.specs.Ids.{id_eq, among}
use Rattle.az_base.proofs.Ids.{eq_ids, eq_is, eq_self}
use Rattle.quantum_space.specs.declared.spot.Spot.{Spot}
use Rattle.quantum_space.specs.Shapes.{Has, Once}
use Rattle.quantum_space.proofs.Lists.{among_has, has_among, has_at}
use Rattle.space_graph.specs.Graphs.{spot_for}

-- keys that differ by test stand once each
not_after : (b : BlockId) (xs : List BlockId) → AllByRecursion (λ y. id_eq b y ≡ false) xs → ¬ Has xs b
not_after b [] a h = h
not_after b (x ∷ xs) a (inl e) = let t : id_eq b b ≡ false = subst (λ y. id_eq b y ≡ false) e a.0 in let s = eq_self b in cc
not_after b (x ∷ xs) a (inr h) = not_after b xs a.1 h

pub once_each : (xs : List BlockId) → IsDistinct id_eq xs → Once xs
unfolding IsDistinct
once_each [] d = tt
once_each (x ∷ xs) d = (not_after x xs d.0, once_each xs d.1)

by_test : (b : BlockId) (ks : List BlockId) → list_any (id_eq b) ks ≡ among ks b
by_test b ks = ap (λ (t : BlockId → Bool). list_any t ks) (λ i y. eq_ids b y i)

-- a block is found exactly where it is among the keys
pub has_row : (es : List (BlockId × Spot)) (b : BlockId) → Has (keys_of es) b → is_some (spot_for es b) ≡ true
has_row es b h = is_some-lookup (id_eq b) es ∙ by_test b (keys_of es) ∙ has_among (keys_of es) b h

pub row_has : (es : List (BlockId × Spot)) (b : BlockId) → is_some (spot_for es b) ≡ true → Has (keys_of es) b
row_has es b h = among_has (keys_of es) b (sym (is_some-lookup (id_eq b) es ∙ by_test b (keys_of es)) ∙ h)

pub found_has : (es : List (BlockId × Spot)) (b : BlockId) (x : Spot) → spot_for es b ≡ Some x → Has (keys_of es) b
found_has es b x e = row_has es b (ap is_some e)

pub none_has : (es : List (BlockId × Spot)) (b : BlockId) → spot_for es b ≡ None → ¬ Has (keys_of es) b
none_has es b e h = let t = has_row es b h in let f = ap is_some e in cc

-- a list without repeats has a block at one place
one_place : (xs : List BlockId) (n k : ℕ) (b : BlockId) → Once xs → slice_get xs n ≡ Some b → slice_get xs k ≡ Some b → k ≡ n
one_place [] n k b o e f = cc
one_place (x ∷ xs) zero zero b o e f = refl
one_place (x ∷ xs) zero (suc k) b o e f = let same : x ≡ b = ap (λ (y : Option BlockId). elim y [ None ↦ x | Some z ↦ z ]) e in absurd (o.0 (subst (Has xs) (sym same) (has_at xs k b f)))
one_place (x ∷ xs) (suc n) zero b o e f = let same : x ≡ b = ap (λ (y : Option BlockId). elim y [ None ↦ x | Some z ↦ z ]) f in absurd (o.0 (subst (Has xs) (sym same) (has_at xs n b e)))
one_place (x ∷ xs) (suc n) (suc k) b o e f = ap suc (one_place xs n k b o.1 e f)

pub key_found : (es : List (BlockId × Spot)) (id : BlockId) (n : ℕ) → position (id_eq id) (keys_of es) ≡ Some n → slice_get (keys_of es) n ≡ Some id
key_found es id n at =
    let r = position-Some (id_eq id) (keys_of es) n id at in
    slice_get-get_or (keys_of es) n id r.0 ∙ ap (λ x. Some x) (sym (eq_is id (get_or (keys_of es) n id) r.1))

-- the first blocks
pub first_has : (ks : List BlockId) (b n : ℕ) (id : BlockId) → slice_get ks n ≡ Some id → n < b → Has (take b ks) id
first_has [] b n id e l = cc
first_has (x ∷ xs) zero n id e l = absurd (omega (arith, l))
first_has (x ∷ xs) (suc b) zero id e l = inl (ap (λ (y : Option BlockId). elim y [ None ↦ x | Some z ↦ z ]) e)
first_has (x ∷ xs) (suc b) (suc n) id e l = inr (first_has xs b n id e (omega (arith, l)))

pub has_first : (ks : List BlockId) (b : ℕ) (id : BlockId) → Has (take b ks) id → (k : ℕ) × (k < b) × (slice_get ks k ≡ Some id)
has_first [] zero id h = absurd h
has_first [] (suc b) id h = absurd h
has_first (x ∷ xs) zero id h = absurd h
has_first (x ∷ xs) (suc b) id (inl e) = (0, omega arith, ap (λ y. Some y) e)
has_first (x ∷ xs) (suc b) id (inr h) = let r = has_first xs b id h in (suc r.0, omega (arith, r.1), r.2)

pub first_all : (ks : List BlockId) (b : ℕ) (id : BlockId) → Has (take b ks) id → Has ks id
first_all ks b id h = let r = has_first ks b id h in has_at ks r.0 id r.2

pub first_below : (ks : List BlockId) (b n : ℕ) (id : BlockId) → Once ks → slice_get ks n ≡ Some id → Has (take b ks) id → n < b
first_below ks b n id once e h = let r = has_first ks b id h in let same = one_place ks r.0 n id once r.2 e in omega (arith, same, r.1)

pub once_first : (ks : List BlockId) (b : ℕ) → Once ks → Once (take b ks)
once_first [] zero o = tt
once_first [] (suc b) o = tt
once_first (x ∷ xs) zero o = tt
once_first (x ∷ xs) (suc b) o = (λ h. o.0 (first_all xs b x h), once_first xs b o.1)

pub key_count : (es : List (BlockId × Spot)) → length (keys_of es) ≡ length es
key_count [] = refl
key_count (e ∷ es) = ap suc (key_count es)

pub first_at : (ks : List BlockId) (b n : ℕ) → n < b → slice_get (take b ks) n ≡ slice_get ks n
first_at [] zero n l = refl
first_at [] (suc b) n l = refl
first_at (x ∷ xs) zero n l = absurd (omega (arith, l))
first_at (x ∷ xs) (suc b) zero l = refl
first_at (x ∷ xs) (suc b) (suc n) l = first_at xs b n (omega (arith, l))

pub first_past : (ks : List BlockId) (b n : ℕ) → b ≤ n → slice_get (take b ks) n ≡ None
first_past [] zero n l = refl
first_past [] (suc b) n l = refl
first_past (x ∷ xs) zero n l = refl
first_past (x ∷ xs) (suc b) zero l = absurd (omega (arith, l))
first_past (x ∷ xs) (suc b) (suc n) l = first_past xs b n (omega (arith, l))

pub key_at : (es : List (BlockId × Spot)) (n : ℕ) → slice_get (keys_of es) n ≡ option_map (λ (e : BlockId × Spot). e.0) (slice_get es n)
key_at [] n = refl
key_at (e ∷ es) zero = refl
key_at (e ∷ es) (suc n) = key_at es n

-- a row is found
pub row_found : (es : List (BlockId × Spot)) (n : ℕ) (id : BlockId) (x : Spot) → Once (keys_of es) → slice_get es n ≡ Some (id, x) → spot_for es id ≡ Some x
row_found [] n id x o e = cc
row_found (r ∷ es) zero id x o e =
    let s : r ≡ (id, x) = ap (λ (y : Option (BlockId × Spot)). elim y [ None ↦ r | Some z ↦ z ]) e in
    subst (λ (q : BlockId × Spot). cond (id_eq id q.0) (Some q.1) (spot_for es id) ≡ Some x) (sym s) (ap (λ b. cond b (Some x) (spot_for es id)) (eq_self id))
row_found (r ∷ es) (suc n) id x o e = go (id_eq id r.0) refl (row_found es n id x o.1 e)
  where
    there : Has (keys_of es) id
    there = has_at (keys_of es) n id (key_at es n ∙ ap (option_map (λ (e : BlockId × Spot). e.0)) e)

    go : (b : Bool) → id_eq id r.0 ≡ b → spot_for es id ≡ Some x → cond b (Some r.1) (spot_for es id) ≡ Some x
    go true f h = absurd (o.0 (subst (Has (keys_of es)) (eq_is id r.0 f) there))
    go false f h = h

pub first_count : (es : List (BlockId × Spot)) (b : ℕ) → b ≤ length es → b ≡ length (take b (keys_of es))
first_count [] zero l = refl
first_count [] (suc b) l = absurd (omega (arith, l))
first_count (e ∷ es) zero l = refl
first_count (e ∷ es) (suc b) l = ap suc (first_count es b (omega (arith, l)))

pub all_first : (ks : List BlockId) (n : ℕ) (id : BlockId) → length ks ≤ n → Has ks id → Has (take n ks) id
all_first [] n id l h = absurd h
all_first (x ∷ xs) zero id l h = absurd (omega (arith, l))
all_first (x ∷ xs) (suc n) id l (inl e) = inl e
all_first (x ∷ xs) (suc n) id l (inr h) = inr (all_first xs n id (omega (arith, l)) h)

-- a block more
pub keys_more : (es : List (BlockId × Spot)) (id : BlockId) (x : Spot) → keys_of (es ++ (id, x) ∷ []) ≡ keys_of es ++ id ∷ []
keys_more [] id x = refl
keys_more (e ∷ es) id x = ap (λ l. e.0 ∷ l) (keys_more es id x)

pub first_more : (ks : List BlockId) (id : BlockId) (n : ℕ) → n ≤ length ks → take n (ks ++ id ∷ []) ≡ take n ks
first_more [] id zero l = refl
first_more [] id (suc n) l = absurd (omega (arith, l))
first_more (k ∷ ks) id zero l = refl
first_more (k ∷ ks) id (suc n) l = ap (λ l. k ∷ l) (first_more ks id n (omega (arith, l)))

pub rows_longer : (es : List (BlockId × Spot)) (id : BlockId) (x : Spot) → length (es ++ (id, x) ∷ []) ≡ length es + 1
rows_longer [] id x = refl
rows_longer (e ∷ es) id x = let l = rows_longer es id x in omega (arith, l)

pub found_last : (es : List (BlockId × Spot)) (id : BlockId) (x : Spot) → spot_for es id ≡ None → spot_for (es ++ (id, x) ∷ []) id ≡ Some x
found_last [] id x e = ap (λ b. cond b (Some x) None) (eq_self id)
found_last (r ∷ es) id x e = go (id_eq id r.0) e (found_last es id x)
  where
    go : (b : Bool) → cond b (Some r.1) (spot_for es id) ≡ None → (spot_for es id ≡ None → spot_for (es ++ (id, x) ∷ []) id ≡ Some x) → cond b (Some r.1) (spot_for (es ++ (id, x) ∷ []) id) ≡ Some x
    go true f rest = cc
    go false f rest = rest f

pub found_still : (es : List (BlockId × Spot)) (id q : BlockId) (x y : Spot) → spot_for es q ≡ Some y → spot_for (es ++ (id, x) ∷ []) q ≡ Some y
found_still [] id q x y e = cc
found_still (r ∷ es) id q x y e = go (id_eq q r.0) e (found_still es id q x y)
  where
    go : (b : Bool) → cond b (Some r.1) (spot_for es q) ≡ Some y → (spot_for es q ≡ Some y → spot_for (es ++ (id, x) ∷ []) q ≡ Some y) → cond b (Some r.1) (spot_for (es ++ (id, x) ∷ []) q) ≡ Some y
    go true f rest = f
    go false f rest = rest f

pub found_back : (es : List (BlockId × Spot)) (id q : BlockId) (x y : Spot) → spot_for (es ++ (id, x) ∷ []) q ≡ Some y → (spot_for es q ≡ Some y) ⊎ ((q ≡ id) × (x ≡ y))
found_back [] id q x y e = go (id_eq q id) refl e
  where
    go : (b : Bool) → id_eq q id ≡ b → cond b (Some x) None ≡ Some y → (spot_for [] q ≡ Some y) ⊎ ((q ≡ id) × (x ≡ y))
    go true f h = inr (eq_is q id f, (let s : x ≡ y = cc in s))
    go false f h = cc
found_back (r ∷ es) id q x y e = go (id_eq q r.0) e (found_back es id q x y)
  where
    go : (b : Bool) → cond b (Some r.1) (spot_for (es ++ (id, x) ∷ []) q) ≡ Some y → (spot_for (es ++ (id, x) ∷ []) q ≡ Some y → (spot_for es q ≡ Some y) ⊎ ((q ≡ id) × (x ≡ y)))
        → (cond b (Some r.1) (spot_for es q) ≡ Some y) ⊎ ((q ≡ id) × (x ≡ y))
    go true f rest = inl f
    go false f rest = rest f
