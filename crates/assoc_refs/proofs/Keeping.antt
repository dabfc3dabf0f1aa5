-- What single changes of the lists keep
use Rattle.std.proofs.Common.{◌≡◌, ℕ, ◌+◌, ◌-◌, ◌<◌, ◌≤◌, ◌^◌, Bool, true, false, cond, List, [], Option, Some, None, is_some, refl, sym, ap, subst, ◌∙◌, arith, suc, zero}
use Rattle.std.specs.HashMap.{HashMap, spare}
use Rattle.std.specs.List.{IsDistinct}
use Rattle.std.specs.Map.{lookup, keys_of}
use Rattle.std.specs.Option.{MatchOption}
use Rattle.std.specs.Ordering.{nat_cmp, eq_by_cmp}
use Rattle.std.specs.FinMap.{FinMap, get, insert, remove, empty, len, get-empty, len-insert, len-remove, empty_of_len, same_map, get-remove}
use Rattle.az_base.specs.declared.block_id.BlockId.{BlockId}
use Rattle.az_base.specs.WithValue.{with_value}
use Rattle.az_base.specs.Ids.{id_eq}
use Rattle.az_base.proofs.Ids.{equal, eq_is}
use Rattle.az_base.specs.Places.{pair_cmp, pairs_total, exact_pair}
use Rattle.assoc_refs.specs.Values.{Values}
use Rattle.assoc_refs.specs.Table.{without_object, pairs_of, shown_pairs, HasRoom, IsTable}
use Rattle.assoc_refs.proofs.Flat.{unlisted, values_in, values_at, shown-at, same_shown, shown-changed, shown-emptied, shown-without, len-without}

-- the object's list is this one now, and the others stay
abbrev pub Relists : BlockId → Option Values → List (BlockId × Values) → List (BlockId × Values) → Type 0
Relists object v es fs = (q : BlockId) → lookup (id_eq q) fs ≡ cond (id_eq object q) v (lookup (id_eq q) es)

counted : (b : Bool) (n m : ℕ) → b ≡ false → m ≡ cond b n (n + 1) → m ≡ n + 1
counted true n m e f = cc
counted false n m e f = f

still_counted : (b : Bool) (n m : ℕ) → b ≡ true → m ≡ cond b n (n + 1) → m ≡ n
still_counted true n m e f = f
still_counted false n m e f = cc

uncounted : (b : Bool) (n m : ℕ) → b ≡ true → m ≡ cond b (n - 1) n → m ≡ n - 1
uncounted true n m e f = f
uncounted false n m e f = cc

module _ {S : Type 0} {MayHave : BlockId → Type 0} (lists : HashMap BlockId Values S) (blank : Values) (n : ℕ) (r : Option BlockId) (t : IsTable lists blank n r MayHave) (object : BlockId) where
  pub room-absent : r ≡ Some object → lookup (id_eq object) lists.entries ≡ None → (0 < spare lists) × (0 < blank.spare)
  room-absent e none = subst (λ o. MatchOption o ((0 < spare lists) × (0 < blank.spare)) (λ v. 0 < v.spare)) none (t.room object e).0

  pub room-present : (v : Values) → r ≡ Some object → lookup (id_eq object) lists.entries ≡ Some v → 0 < v.spare
  room-present v e some = subst (λ o. MatchOption o ((0 < spare lists) × (0 < blank.spare)) (λ v. 0 < v.spare)) some (t.room object e).0

  pub room-counted : r ≡ Some object → n + 1 < 2 ^ 64
  room-counted e = (t.room object e).1

  -- the value before
  pub value-there : (k : ℕ) (o : Option Values) → lookup (id_eq object) lists.entries ≡ o → get (shown_pairs lists.entries) (object, k) ≡ get (values_in o) k
  value-there k o e = shown-at lists.entries t.once object k ∙ ap (λ l. get (values_in l) k) e

  pub absent-none : (k : ℕ) → lookup (id_eq object) lists.entries ≡ None → get (shown_pairs lists.entries) (object, k) ≡ None
  absent-none k e = value-there k None e ∙ get-empty nat_cmp k

  pub never-none : (k : ℕ) (old : BlockId) → get (shown_pairs lists.entries) (object, k) ≡ Some old → lookup (id_eq object) lists.entries ≡ None → ⊥
  never-none k old some none = nothing (sym some ∙ absent-none k none)
    where
      nothing : Some old ≡ None → ⊥
      nothing e = cc

  -- what can't have values has none
  pub unmet : ¬ MayHave object → pairs_of (shown_pairs lists.entries) object ≡ []
  unmet out = by (lookup (id_eq object) lists.entries) refl
    where
      by : (o : Option Values) → lookup (id_eq object) lists.entries ≡ o → pairs_of (shown_pairs lists.entries) object ≡ []
      by None e = unlisted lists.entries t.once object e
      by (Some v) e = absurd (out (t.met object v e))

  module _ (later : HashMap BlockId Values S) (once : IsDistinct id_eq (keys_of later.entries)) where
    -- what has a list may have values, where the object's list alone has changed
    pub stays-met : (x : Option Values) → Relists object x lists.entries later.entries → ((w : Values) → x ≡ Some w → MayHave object) → (q : BlockId) (v : Values) → lookup (id_eq q) later.entries ≡ Some v → MayHave q
    stays-met x is has q v e = by (id_eq object q) refl
      where
        by : (b : Bool) → id_eq object q ≡ b → MayHave q
        by true same = subst MayHave (eq_is object q same) (has v (sym (ap (λ b. cond b x (lookup (id_eq q) lists.entries)) same) ∙ sym (is q) ∙ e))
        by false other = t.met q v (sym (ap (λ b. cond b x (lookup (id_eq q) lists.entries)) other) ∙ sym (is q) ∙ e)

    -- a list with the same values and more room
    module _ (v w : Values) (there : lookup (id_eq object) lists.entries ≡ Some v) (is : Relists object (Some w) lists.entries later.entries) (same : w.values ≡ v.values) where
      same_at : (q : BlockId) → values_at later.entries q ≡ values_at lists.entries q
      same_at q = ap values_in (is q) ∙ by (id_eq object q) refl
        where
          by : (b : Bool) → id_eq object q ≡ b → values_in (cond b (Some w) (lookup (id_eq q) lists.entries)) ≡ values_at lists.entries q
          by true e = same ∙ sym (ap values_in there) ∙ ap (values_at lists.entries) (eq_is object q e)
          by false e = refl

      pub wider-shown : shown_pairs later.entries ≡ shown_pairs lists.entries
      wider-shown = same_shown lists.entries later.entries t.once once same_at

      pub wider-table : spare later ≡ spare lists → v.spare ≤ w.spare → IsTable later blank n r MayHave
      wider-table room grows = record {
        once = once;
        total = t.total ∙ sym (ap len wider-shown);
        blank = t.blank;
        room = λ q e. (subst (λ o. MatchOption o ((0 < spare later) × (0 < blank.spare)) (λ v. 0 < v.spare)) (sym (is q)) (by q (id_eq object q) refl (t.room q e).0), (t.room q e).1);
        met = stays-met (Some w) is (λ _ _. t.met object v there);
      }
        where
          by : (q : BlockId) (b : Bool) → id_eq object q ≡ b → HasRoom lists blank q → MatchOption (cond b (Some w) (lookup (id_eq q) lists.entries)) ((0 < spare later) × (0 < blank.spare)) (λ v. 0 < v.spare)
          by q true e h =
              let has : 0 < v.spare = subst (λ o. MatchOption o ((0 < spare lists) × (0 < blank.spare)) (λ v. 0 < v.spare)) (ap (λ x. lookup (id_eq x) lists.entries) (sym (eq_is object q e)) ∙ there) h in
              omega (arith, has, grows)
          by q false e h = subst (λ s. MatchOption (lookup (id_eq q) lists.entries) ((0 < s) × (0 < blank.spare)) (λ v. 0 < v.spare)) (sym room) h

    -- room was made in the object's list
    pub ready-table : (w : Values) → IsTable later blank n r MayHave → lookup (id_eq object) later.entries ≡ Some w → 0 < w.spare → n + 1 < 2 ^ 64 → IsTable later blank n (Some object) MayHave
    ready-table w u there room fits = record {
      once = once;
      total = u.total;
      blank = t.blank;
      room = λ q e. (subst (λ x. HasRoom later blank x) (same e) (subst (λ o. MatchOption o ((0 < spare later) × (0 < blank.spare)) (λ v. 0 < v.spare)) (sym there) room), fits);
      met = u.met;
    }
      where
        same : {q : BlockId} → Some object ≡ Some q → object ≡ q
        same e = cc

    -- the object's value under a key has changed
    pub changed-shown : (v w : Values) (k : ℕ) (x : Option BlockId) → lookup (id_eq object) lists.entries ≡ Some v → Relists object (Some w) lists.entries later.entries → w.values ≡ with_value v.values k x
        → shown_pairs later.entries ≡ with_value (shown_pairs lists.entries) (object, k) x
    changed-shown v w k x there is values = shown-changed lists.entries later.entries t.once once object k x w is (values ∙ ap (λ l. with_value (values_in l) k x) (sym there))

    pub first-shown : (w : Values) (k : ℕ) (x : BlockId) → lookup (id_eq object) lists.entries ≡ None → Relists object (Some w) lists.entries later.entries → w.values ≡ insert blank.values k x
        → shown_pairs later.entries ≡ insert (shown_pairs lists.entries) (object, k) x
    first-shown w k x none is values = shown-changed lists.entries later.entries t.once once object k (Some x) w is (values ∙ ap (λ m. insert m k x) (t.blank ∙ ap values_in (sym none)))

    pub grown-table : {MayNowHave : BlockId → Type 0} (k : ℕ) (x : BlockId) (other : Values) → ((q : BlockId) (v : Values) → lookup (id_eq q) later.entries ≡ Some v → MayNowHave q) → get (shown_pairs lists.entries) (object, k) ≡ None → shown_pairs later.entries ≡ insert (shown_pairs lists.entries) (object, k) x → other.values ≡ empty
        → IsTable later other (n + 1) None MayNowHave
    grown-table k x other met none is empty_list = record {
      once = once;
      total = ap (λ m. m + 1) t.total ∙ sym (counted (is_some (get (shown_pairs lists.entries) (object, k))) (len (shown_pairs lists.entries)) (len (shown_pairs later.entries)) (ap is_some none) (ap len is ∙ len-insert pairs_total (shown_pairs lists.entries) (object, k) x));
      blank = empty_list;
      room = λ q e. cc;
      met = met;
    }

    pub kept-table : (k : ℕ) (x old : BlockId) → ((q : BlockId) (v : Values) → lookup (id_eq q) later.entries ≡ Some v → MayHave q) → get (shown_pairs lists.entries) (object, k) ≡ Some old → shown_pairs later.entries ≡ insert (shown_pairs lists.entries) (object, k) x → IsTable later blank n None MayHave
    kept-table k x old met some is = record {
      once = once;
      total = t.total ∙ sym (still_counted (is_some (get (shown_pairs lists.entries) (object, k))) (len (shown_pairs lists.entries)) (len (shown_pairs later.entries)) (ap is_some some) (ap len is ∙ len-insert pairs_total (shown_pairs lists.entries) (object, k) x));
      blank = t.blank;
      room = λ q e. cc;
      met = met;
    }

    pub taken-table : (k : ℕ) (old : BlockId) → ((q : BlockId) (v : Values) → lookup (id_eq q) later.entries ≡ Some v → MayHave q) → get (shown_pairs lists.entries) (object, k) ≡ Some old → shown_pairs later.entries ≡ remove (shown_pairs lists.entries) (object, k) → IsTable later blank (n - 1) None MayHave
    taken-table k old met some is = record {
      once = once;
      total = ap (λ m. m - 1) t.total ∙ sym (uncounted (is_some (get (shown_pairs lists.entries) (object, k))) (len (shown_pairs lists.entries)) (len (shown_pairs later.entries)) (ap is_some some) (ap len is ∙ len-remove pairs_total (shown_pairs lists.entries) (object, k)));
      blank = t.blank;
      room = λ q e. cc;
      met = met;
    }

    -- the object has no list any more
    pub pruned-shown : (v : Values) → lookup (id_eq object) lists.entries ≡ Some v → len v.values ≡ 0 → Relists object None lists.entries later.entries → shown_pairs later.entries ≡ shown_pairs lists.entries
    pruned-shown v there none is = shown-emptied lists.entries later.entries t.once once object is (ap values_in there ∙ empty_of_len v.values none)

    pub pruned-table : (v : Values) → lookup (id_eq object) lists.entries ≡ Some v → len v.values ≡ 0 → Relists object None lists.entries later.entries → IsTable later blank n None MayHave
    pruned-table v there none is = record {
      once = once;
      total = t.total ∙ sym (ap len (pruned-shown v there none is));
      blank = t.blank;
      room = λ q e. cc;
      met = stays-met None is (λ w e. cc);
    }

    pub erased-shown : Relists object None lists.entries later.entries → shown_pairs later.entries ≡ without_object (shown_pairs lists.entries) object
    erased-shown is = shown-without lists.entries later.entries t.once once object is

    pub erased-table : (o : Option Values) → lookup (id_eq object) lists.entries ≡ o → Relists object None lists.entries later.entries → IsTable later blank (n - len (values_in o)) None MayHave
    erased-table o there is = record {
      once = once;
      total =
          let all : len (values_at lists.entries object) + len (without_object (shown_pairs lists.entries) object) ≡ len (shown_pairs lists.entries) = len-without lists.entries t.once object in
          left n (len (values_in o)) (len (shown_pairs later.entries))
          (t.total ∙ sym all ∙ ap (λ l. len (values_in l) + len (without_object (shown_pairs lists.entries) object)) there ∙ ap (λ m. len (values_in o) + len m) (sym (erased-shown is)));
      blank = t.blank;
      room = λ q e. cc;
      met = stays-met None is (λ w e. cc);
    }
      where
        left : (a b c : ℕ) → a ≡ b + c → a - b ≡ c
        left a b c e = omega arith

  -- no more goes than there is
  pub enough : (o : Option Values) → lookup (id_eq object) lists.entries ≡ o → len (values_in o) ≤ n
  enough o there =
      let all : len (values_at lists.entries object) + len (without_object (shown_pairs lists.entries) object) ≡ len (shown_pairs lists.entries) = len-without lists.entries t.once object in
      subst (λ l. len (values_in l) ≤ n) there (within n (len (values_at lists.entries object)) _ (t.total ∙ sym all))
    where
      within : (a b c : ℕ) → a ≡ b + c → b ≤ a
      within a b c e = omega arith

  pub some-counted : (k : ℕ) (old : BlockId) → get (shown_pairs lists.entries) (object, k) ≡ Some old → 1 ≤ n
  some-counted k old some = by n refl
    where
      by : (m : ℕ) → n ≡ m → 1 ≤ n
      by zero e = absurd (nothing (sym some ∙ ap (λ p. get p (object, k)) (empty_of_len (shown_pairs lists.entries) (sym t.total ∙ e)) ∙ get-empty pair_cmp (object, k)))
        where
          nothing : Some old ≡ None → ⊥
          nothing e = cc
      by (suc m) e = omega arith

-- what isn't there stays away
pub stays-away : (m : FinMap pair_cmp BlockId) (p : BlockId × ℕ) → get m p ≡ None → m ≡ remove m p
stays-away m p none = same_map pairs_total exact_pair _ _ (λ q. by q (eq_by_cmp pair_cmp q p) refl ∙ sym (get-remove pairs_total m p q))
  where
    by : (q : BlockId × ℕ) (b : Bool) → eq_by_cmp pair_cmp q p ≡ b → get m q ≡ cond (eq_by_cmp pair_cmp q p) None (get m q)
    by q true e = ap (get m) (exact_pair q p (equal _ e)) ∙ none ∙ ap (λ b. cond b None (get m q)) (sym e)
    by q false e = ap (λ b. cond b None (get m q)) (sym e)

pub none_of : (o : Option Values) → is_some o ≡ false → o ≡ None
none_of None e = refl
none_of (Some v) e = cc

pub none_value : (o : Option BlockId) → is_some o ≡ false → o ≡ None
none_value None e = refl
none_value (Some v) e = cc

pub some_value : (o : Option BlockId) → is_some o ≡ true → (v : BlockId) × (o ≡ Some v)
some_value None e = cc
some_value (Some v) e = (v, refl)
