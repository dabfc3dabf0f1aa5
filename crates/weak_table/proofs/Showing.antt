-- What locations show, and what single changes keep
use Rattle.std.proofs.Common.{◌≡◌, ℕ, ◌+◌, ◌-◌, ◌<◌, Bool, true, false, not, cond, ◌||◌, List, [], ◌∷◌, ◌++◌, Option, Some, None, is_some, refl, sym, ap, ◌∙◌, arith, true≢false, ◌⊎◌, inl, inr, zero, suc, take, length, get_or}
use Rattle.std.proofs.Math.Seq.{take-suc}
use Rattle.std.specs.Ordering.{eq_by_cmp}
use Rattle.std.specs.Cmp.{eq_by_cmp_equiv}
use Rattle.std.specs.FinMap.{FinMap, get, insert, remove, retain_keys, empty, len, same_map, get-insert, get-remove, get-retain_keys, get-empty, len-remove, empty_of_len}
use Rattle.az_base.specs.declared.block_id.BlockId.{BlockId}
use Rattle.az_base.specs.declared.weak_loc.WeakLoc.{WeakLoc}
use Rattle.az_base.specs.declared.weak_loc.WeakLoc.TheVariants as loc
use Rattle.az_base.specs.Ids.{same_id, among, ids_total}
use Rattle.az_base.specs.Places.{loc_cmp, locs_total, exact_locs}
use Rattle.az_base.specs.Ids.{id_eq}
use Rattle.az_base.specs.Places.{loc_eq}
use Rattle.weak_table.specs.Grouped.{Grouped}
use Rattle.weak_table.specs.Shows.{shows_one, shows, block_of, is_word_of, IsWeak}
use Rattle.az_base.proofs.Ids.{eq_ids, eq_is, eq_self}
use Rattle.az_base.proofs.Places.{eq_locs, loc_is, loc_self}

turn : (a b : WeakLoc) → loc_eq a b ≡ eq_by_cmp loc_cmp b a
turn a b = eq_locs a b ∙ (eq_by_cmp_equiv locs_total).symm a b

pub get-removed : (m : FinMap loc_cmp BlockId) (l q : WeakLoc) → get (remove m l) q ≡ cond (loc_eq l q) None (get m q)
get-removed m l q = get-remove locs_total m l q ∙ ap (λ t. cond t None (get m q)) (sym (turn l q))

pub get-added : (m : FinMap loc_cmp BlockId) (l : WeakLoc) (v : BlockId) (q : WeakLoc) → get (insert m l v) q ≡ cond (loc_eq l q) (Some v) (get m q)
get-added m l v q = get-insert locs_total m l v q ∙ ap (λ t. cond t (Some v) (get m q)) (sym (turn l q))

pub removed-there : (m : FinMap loc_cmp BlockId) (l : WeakLoc) → get (remove m l) l ≡ None
removed-there m l = get-removed m l l ∙ ap (λ t. cond t None (get m l)) (loc_self l)

-- what is taken away first makes no difference
pub added-again : (m : FinMap loc_cmp BlockId) (l : WeakLoc) (v : BlockId) → insert (remove m l) l v ≡ insert m l v
added-again m l v = same_map locs_total exact_locs _ _ (λ q. get-added (remove m l) l v q ∙ ap (cond (loc_eq l q) (Some v)) (get-removed m l q) ∙ by q (loc_eq l q) ∙ sym (get-added m l v q))
  where
    by : (q : WeakLoc) (t : Bool) → cond t (Some v) (cond t None (get m q)) ≡ cond t (Some v) (get m q)
    by q true = refl
    by q false = refl

module _ (shown words : Grouped) (ready : Option BlockId) (w : IsWeak shown words ready) (s t : Grouped) (l : WeakLoc) where
  pub cleared-weak : s.groups ≡ remove shown.groups l → t.groups ≡ remove words.groups l → s.room ≡ shown.room → t.room ≡ words.room → IsWeak s t ready
  cleared-weak e f r u = record {
    owned = λ q. ap (λ m. get m q) f ∙ get-removed words.groups l q ∙ ap (cond (loc_eq l q) None) (w.owned q) ∙ by q (loc_eq l q)
        ∙ ap (λ o. cond (is_some o) (block_of q) None) (sym (ap (λ m. get m q) e ∙ get-removed shown.groups l q));
    room = λ v h. (r ∙ (w.room v h).0, u ∙ (w.room v h).1);
  }
    where
      by : (q : WeakLoc) (t : Bool) → cond t None (cond (is_some (get shown.groups q)) (block_of q) None) ≡ cond (is_some (cond t None (get shown.groups q))) (block_of q) None
      by q true = refl
      by q false = refl

  pub word-weak : (v b : BlockId) (i : ℕ) → l ≡ loc.Word b i → s.groups ≡ insert shown.groups l v → t.groups ≡ insert words.groups l b → IsWeak s t None
  word-weak v b i is e f = record {
    owned = λ q. ap (λ m. get m q) f ∙ get-added words.groups l b q ∙ by q (loc_eq l q) refl
        ∙ ap (λ o. cond (is_some o) (block_of q) None) (sym (ap (λ m. get m q) e ∙ get-added shown.groups l v q));
    room = λ v h. cc;
  }
    where
      by : (q : WeakLoc) (t : Bool) → loc_eq l q ≡ t → cond t (Some b) (get words.groups q) ≡ cond (is_some (cond t (Some v) (get shown.groups q))) (block_of q) None
      by q true h = sym (ap block_of (sym (loc_is l q h) ∙ is))
      by q false h = w.owned q

  pub root-weak : (v : BlockId) → ((b : BlockId) (i : ℕ) → l ≡ loc.Word b i → ⊥) → s.groups ≡ insert shown.groups l v → IsWeak s words None
  root-weak v not_word e = record {
    owned = λ q. by q (loc_eq l q) refl ∙ ap (λ o. cond (is_some o) (block_of q) None) (sym (ap (λ m. get m q) e ∙ get-added shown.groups l v q));
    room = λ v h. cc;
  }
    where
      not_in : (k : WeakLoc) → ((b : BlockId) (i : ℕ) → k ≡ loc.Word b i → ⊥) → block_of k ≡ None
      not_in (loc.Root n) f = refl
      not_in (loc.Word b i) f = absurd (f b i refl)

      same_none : (q : WeakLoc) (b : Bool) → block_of q ≡ None → cond b (block_of q) None ≡ block_of q
      same_none q true e = refl
      same_none q false e = sym e

      by : (q : WeakLoc) (t : Bool) → loc_eq l q ≡ t → get words.groups q ≡ cond (is_some (cond t (Some v) (get shown.groups q))) (block_of q) None
      by q true h = w.owned q ∙ same_none q (is_some (get shown.groups q)) (ap block_of (sym (loc_is l q h)) ∙ not_in l not_word)
      by q false h = w.owned q

zero_or : (n : ℕ) → (n ≡ 0) ⊎ (0 < n)
zero_or zero = inl refl
zero_or (suc n) = inr (omega arith)

-- a map with one key less is shorter
pub shorter : (m : FinMap loc_cmp BlockId) (l : WeakLoc) (b : BlockId) → get m l ≡ Some b → len (remove m l) < len m
shorter m l b e =
    let some : is_some (get m l) ≡ true = ap is_some e in
    fewer (is_some (get m l)) (len m) (len (remove m l)) some (len-remove locs_total m l) (not_empty (len m) refl)
  where
    nothing : Some b ≡ None → ⊥
    nothing h = cc

    not_empty : (n : ℕ) → len m ≡ n → 0 < len m
    not_empty n h = elim (zero_or n) as (λ _. 0 < len m) [ inl z ↦ absurd (nothing (sym e ∙ ap (λ x. get x l) (empty_of_len m (h ∙ z)) ∙ get-empty loc_cmp l)) | inr p ↦ omega (arith, h, p) ]

    fewer : (t : Bool) (n k : ℕ) → t ≡ true → k ≡ cond t (n - 1) n → 0 < n → k < n
    fewer true n k e f g = omega (arith, f, g)
    fewer false n k e f g = absurd (true≢false (sym e))

pub empty-weak : (s t : Grouped) → s.groups ≡ empty → t.groups ≡ empty → IsWeak s t None
empty-weak s t e f = record {
  owned = λ q. ap (λ m. get m q) f ∙ get-empty loc_cmp q ∙ sym (ap (λ o. cond (is_some o) (block_of q) None) (ap (λ m. get m q) e ∙ get-empty loc_cmp q));
  room = λ v h. cc;
}

-- some of the locations that pass the test show null now, and the others what they did
abbrev pub Dropped : (WeakLoc → Bool) → FinMap loc_cmp BlockId → FinMap loc_cmp BlockId → Type 0
Dropped T m n = (q : WeakLoc) → (get n q ≡ get m q) ⊎ ((get n q ≡ None) × (T q ≡ true))

pub dropped-none : (T : WeakLoc → Bool) (m : FinMap loc_cmp BlockId) → Dropped T m m
dropped-none T m q = inl refl

pub dropped-more : (T : WeakLoc → Bool) (m n : FinMap loc_cmp BlockId) (l : WeakLoc) → Dropped T m n → T l ≡ true → Dropped T m (remove n l)
dropped-more T m n l was passes q = by (loc_eq l q) refl (was q)
  where
    by : (t : Bool) → loc_eq l q ≡ t → (get n q ≡ get m q) ⊎ ((get n q ≡ None) × (T q ≡ true)) → (get (remove n l) q ≡ get m q) ⊎ ((get (remove n l) q ≡ None) × (T q ≡ true))
    by true e h = inr (get-removed n l q ∙ ap (λ t. cond t None (get n q)) e, ap T (sym (loc_is l q e)) ∙ passes)
    by false e (inl h) = inl (get-removed n l q ∙ ap (λ t. cond t None (get n q)) e ∙ h)
    by false e (inr h) = inr (get-removed n l q ∙ ap (λ t. cond t None (get n q)) e ∙ h.0, h.1)

pub dropped-all : (T : WeakLoc → Bool) (m n : FinMap loc_cmp BlockId) → Dropped T m n → ((q : WeakLoc) → T q ≡ true → get n q ≡ None) → n ≡ retain_keys m (λ l. not (T l))
dropped-all T m n was none = same_map locs_total exact_locs _ _ (λ q. by q (T q) refl (was q) ∙ sym (get-retain_keys m (λ l. not (T l)) q (λ x e. ap (λ l. not (T l)) (sym (exact_locs q x e)))))
  where
    by : (q : WeakLoc) (t : Bool) → T q ≡ t → (get n q ≡ get m q) ⊎ ((get n q ≡ None) × (T q ≡ true)) → get n q ≡ cond (not (T q)) (get m q) None
    by q true e h = none q e ∙ ap (λ t. cond (not t) (get m q) None) (sym e)
    by q false e (inl h) = h ∙ ap (λ t. cond (not t) (get m q) None) (sym e)
    by q false e (inr h) = absurd (true≢false (sym h.1 ∙ e))

a_block : (o : Option BlockId) (id : BlockId) → shows id o ≡ true → o ≡ Some id
a_block None id e = absurd (true≢false (sym e))
a_block (Some v) id e = ap Some (sym (eq_is id v (eq_ids id v ∙ e)))

itself : (id : BlockId) (o : Option BlockId) → o ≡ Some id → shows id o ≡ true
itself id o e = ap (shows id) e ∙ sym (eq_ids id id) ∙ eq_self id

-- the locations that show one block
module _ (id : BlockId) (m n : FinMap loc_cmp BlockId) (was : Dropped (λ l. shows id (get m l)) m n) where
  pub shows-passes : (l : WeakLoc) → get n l ≡ Some id → shows id (get m l) ≡ true
  shows-passes l e = by (was l)
    where
      by : (get n l ≡ get m l) ⊎ ((get n l ≡ None) × (shows id (get m l) ≡ true)) → shows id (get m l) ≡ true
      by (inl h) = itself id (get m l) (sym h ∙ e)
      by (inr h) = h.1

  pub shows-none : ((q : WeakLoc) → get n q ≡ Some id → ⊥) → (q : WeakLoc) → shows id (get m q) ≡ true → get n q ≡ None
  shows-none none q e = by (was q)
    where
      by : (get n q ≡ get m q) ⊎ ((get n q ≡ None) × (shows id (get m q) ≡ true)) → get n q ≡ None
      by (inl h) = absurd (none q (h ∙ a_block (get m q) id e))
      by (inr h) = h.0

-- the locations that are words of one block
module _ (shown words : Grouped) (ready : Option BlockId) (w : IsWeak shown words ready) (block : BlockId) where
  word_entry : (b : Bool) (o : Option BlockId) → cond b o None ≡ Some block → (b ≡ true) × (o ≡ Some block)
  word_entry true o e = (refl, e)
  word_entry false o e = cc

  pub word-shows : (l : WeakLoc) → get words.groups l ≡ Some block → is_some (get shown.groups l) ≡ true
  word-shows l e = (word_entry (is_some (get shown.groups l)) (block_of l) (sym (w.owned l) ∙ e)).0

  pub word-passes : (l : WeakLoc) → get words.groups l ≡ Some block → is_word_of block l ≡ true
  word-passes l e = by l (word_entry (is_some (get shown.groups l)) (block_of l) (sym (w.owned l) ∙ e)).1
    where
      same : (b : BlockId) → Some b ≡ Some block → block ≡ b
      same b e = cc

      by : (k : WeakLoc) → block_of k ≡ Some block → is_word_of block k ≡ true
      by (loc.Root n) e = cc
      by (loc.Word b i) e = sym (eq_ids block b) ∙ ap (id_eq block) (sym (same b e)) ∙ eq_self block

  pub word-none : ((q : WeakLoc) → get words.groups q ≡ Some block → ⊥) → (q : WeakLoc) → is_word_of block q ≡ true → get shown.groups q ≡ None
  word-none none q e = by (get shown.groups q) refl
    where
      its_block : (k : WeakLoc) → is_word_of block k ≡ true → block_of k ≡ Some block
      its_block (loc.Root n) e = absurd (true≢false (sym e))
      its_block (loc.Word b i) e = ap Some (sym (eq_is block b (eq_ids block b ∙ e)))

      by : (o : Option BlockId) → get shown.groups q ≡ o → get shown.groups q ≡ None
      by None h = h
      by (Some v) h = absurd (none q (w.owned q ∙ ap (λ o. cond (is_some o) (block_of q) None) h ∙ its_block q e))

some-block : (o : Option BlockId) → is_some o ≡ true → (b : BlockId) × (o ≡ Some b)
some-block None e = absurd (true≢false (sym e))
some-block (Some b) e = (b, refl)

pub shorter-some : (m : FinMap loc_cmp BlockId) (l : WeakLoc) → is_some (get m l) ≡ true → len (remove m l) < len m
shorter-some m l e = let b = some-block (get m l) e in shorter m l b.0 b.1

-- one more block is condemned
among-more : (xs : List BlockId) (id v : BlockId) → among (xs ++ id ∷ []) v ≡ (among xs v || same_id id v)
among-more [] id v = only (same_id v id) ∙ sym (eq_ids v id) ∙ turned ∙ eq_ids id v
  where
    only : (b : Bool) → (b || false) ≡ b
    only true = refl
    only false = refl

    turned : id_eq v id ≡ id_eq id v
    turned = eq_ids v id ∙ (eq_by_cmp_equiv ids_total).symm v id ∙ sym (eq_ids id v)
among-more (x ∷ xs) id v = ap (λ b. same_id v x || b) (among-more xs id v) ∙ grouped (same_id v x) (among xs v) (same_id id v)
  where
    grouped : (a b c : Bool) → (a || (b || c)) ≡ ((a || b) || c)
    grouped true b c = refl
    grouped false b c = refl

pub condemned-more : (m : FinMap loc_cmp BlockId) (xs : List BlockId) (id : BlockId) (n : FinMap loc_cmp BlockId) → n ≡ retain_keys m (λ l. not (shows_one xs (get m l)))
    → retain_keys n (λ l. not (shows id (get n l))) ≡ retain_keys m (λ l. not (shows_one (xs ++ id ∷ []) (get m l)))
condemned-more m xs id n is = same_map locs_total exact_locs _ _ (λ q.
    get-retain_keys n (λ l. not (shows id (get n l))) q (λ x e. ap (λ l. not (shows id (get n l))) (sym (exact_locs q x e)))
    ∙ ap (λ o. cond (not (shows id o)) o None) (ap (λ x. get x q) is ∙ get-retain_keys m (λ l. not (shows_one xs (get m l))) q (λ x e. ap (λ l. not (shows_one xs (get m l))) (sym (exact_locs q x e))))
    ∙ by (get m q)
    ∙ sym (get-retain_keys m (λ l. not (shows_one (xs ++ id ∷ []) (get m l))) q (λ x e. ap (λ l. not (shows_one (xs ++ id ∷ []) (get m l))) (sym (exact_locs q x e)))))
  where
    at : (v : BlockId) (s t : Bool) → same_id id v ≡ t → cond (not (shows id (cond (not s) (Some v) None))) (cond (not s) (Some v) None) None ≡ cond (not (s || t)) (Some v) None
    at v true t e = refl
    at v false t e = ap (λ x. cond (not x) (Some v) None) e

    by : (o : Option BlockId) → cond (not (shows id (cond (not (shows_one xs o)) o None))) (cond (not (shows_one xs o)) o None) None ≡ cond (not (shows_one (xs ++ id ∷ []) o)) o None
    by None = refl
    by (Some v) = at v (among xs v) (same_id id v) refl ∙ ap (λ b. cond (not b) (Some v) None) (sym (among-more xs id v))

pub condemned-none : (m : FinMap loc_cmp BlockId) → m ≡ retain_keys m (λ l. not (shows_one [] (get m l)))
condemned-none m = same_map locs_total exact_locs _ _ (λ q. by (get m q) ∙ sym (get-retain_keys m (λ l. not (shows_one [] (get m l))) q (λ x e. ap (λ l. not (shows_one [] (get m l))) (sym (exact_locs q x e)))))
  where
    by : (o : Option BlockId) → o ≡ cond (not (shows_one [] o)) o None
    by None = refl
    by (Some v) = refl

pub take-next : (ids : List BlockId) (k : ℕ) (x : BlockId) → k < length ids → x ≡ get_or ids k x → take k ids ++ x ∷ [] ≡ take (k + 1) ids
take-next ids k x l e = ap (λ y. take k ids ++ y ∷ []) e ∙ sym (take-suc ids k x l) ∙ ap (λ n. take n ids) (one_more k)
  where
    one_more : (n : ℕ) → suc n ≡ n + 1
    one_more n = omega arith
