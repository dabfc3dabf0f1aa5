-- Sums over finite maps, told from the entries that are there
use Rattle.std.proofs.Common.{◌≡◌, ℕ, ◌+◌, ◌≤◌, Bool, true, false, cond, ◌&&◌, ◌==◌, T, List, [], ◌∷◌, Option, Some, None, IsTrue, refl, sym, ap, subst, ◌∙◌, arith, is_some, is_none}
use Rattle.std.specs.Option.{option_map}
use Rattle.std.specs.declared.cmp.Ordering.{Ordering}
use Rattle.std.specs.declared.cmp.Ordering.TheVariants.{Less, Equal, Greater}
use Rattle.std.specs.Ordering.{is_eq, is_lt}
use Rattle.std.specs.Cmp.{IsTotalOrder, tied_itself}
use Rattle.std.specs.FinMap.{FinMap, IsAntisymmetric, entries, entries_sorted, entries-from_sorted, find, from_sorted, get, get-entries, get-from_sorted, get-retain_keys, is_sorted, retain_keys, same_map}
use Rattle.std.specs.FinMap.Entries.{below_all}
use Rattle.az_base.specs.declared.block_id.BlockId.{BlockId}
use Rattle.az_base.specs.Ids.{ids_total, exact_ids}
use Rattle.block_layouts.specs.Layouts.{quanta, len_of}
use Rattle.zone_model.specs.Maps.{total, list_total, map_values, each_value}
use Rattle.zone_model.proofs.MapLaws.{sorted-each, get-map_values}
use Rattle.zone_model.specs.State.{State, Block, is_own, is_unescaped}
use Rattle.zone_model.specs.Escape.{with_escaped}
use Rattle.zone_model.specs.Quanta.{quanta_where, used_quanta, own_quanta, quanta_needed}
use Rattle.zone_model.proofs.Totals.{total-retain_keys}
use Rattle.zone_model.proofs.Blocks.{escape_at, is_inside}

first : (a b : Bool) → T (a && b) → T a
first true b p = tt
first false b p = p

second : (a b : Bool) → T (a && b) → T b
second true b p = p
second false b p = absurd p

less : (o : Ordering) → T (is_lt o) → o ≡ Less
less Less p = refl
less Equal p = absurd p
less Greater p = absurd p

module _ {K X : Type 0} {R : K → K → Ordering} (o : IsTotalOrder R) (same : IsAntisymmetric R) where
  find_below : (q : K) (es : List (K × X)) → T (below_all R q es) → find R q es ≡ None
  find_below q [] h = refl
  find_below q (e ∷ es) h = ap (λ r. cond (is_eq r) (Some e.1) (find R q es)) (less _ (first _ _ h)) ∙ find_below q es (second _ _ h)

  -- what is found in the rest of a list in order is found in the list
  found_later : (e : K × X) (es : List (K × X)) (k : K) (x : X) → T (below_all R e.0 es) → find R k es ≡ Some x → find R k (e ∷ es) ≡ Some x
  found_later e es k x below is =
      elim (R k e.0) as (λ r. R k e.0 ≡ r → cond (is_eq r) (Some e.1) (find R k es) ≡ Some x) [
        | Less ↦ λ t. is
        | Equal ↦ λ t. let none : None ≡ Some x = sym (find_below e.0 es below) ∙ ap (λ q. find R q es) (sym (same k e.0 t)) ∙ is in cc (none)
        | Greater ↦ λ t. is
      ] refl

  list_split : (f g h : K → X → ℕ) (es : List (K × X)) → T (is_sorted R es) → ((k : K) (x : X) → find R k es ≡ Some x → f k x ≡ g k x + h k x) → list_total f es ≡ list_total g es + list_total h es
  list_split f g h [] s e = omega arith
  list_split f g h (x ∷ es) s e =
      let here : f x.0 x.1 ≡ g x.0 x.1 + h x.0 x.1 = e x.0 x.1 (ap (λ r. cond (is_eq r) (Some x.1) (find R x.0 es)) (tied_itself o x.0)) in
      let rest : list_total f es ≡ list_total g es + list_total h es =
      list_split f g h es (second (below_all R x.0 es) (is_sorted R es) s) (λ k v is. e k v (found_later x es k v (first (below_all R x.0 es) (is_sorted R es) s) is)) in
      omega (arith, here, rest)

  -- a sum in two parts
  pub total_split : (f g h : K → X → ℕ) (m : FinMap R X) → ((k : K) (x : X) → get m k ≡ Some x → f k x ≡ g k x + h k x) → total f m ≡ total g m + total h m
  unfolding total
  total_split f g h m e = list_split f g h (entries m) (entries_sorted m) (λ k x is. e k x (get-entries m k ∙ is))

  nothing : (es : List (K × X)) → list_total (λ k x. 0) es ≡ 0
  nothing [] = refl
  nothing (x ∷ es) = let rest : list_total (λ k v. 0) es ≡ 0 = nothing es in omega (arith, rest)

  pub total_nothing : (m : FinMap R X) → total (λ k x. 0) m ≡ 0
  unfolding total
  total_nothing m = nothing (entries m)

  -- sums are alike where each entry counts alike
  pub total_alike : (f g : K → X → ℕ) (m : FinMap R X) → ((k : K) (x : X) → get m k ≡ Some x → f k x ≡ g k x) → total f m ≡ total g m
  total_alike f g m e =
      let two : total f m ≡ total g m + total (λ k x. 0) m = total_split f g (λ k x. 0) m (λ k x is. let one : f k x ≡ g k x = e k x is in omega arith) in
      let none : total (λ k (x : X). 0) m ≡ 0 = total_nothing m in
      omega (arith, two, none)

  -- the sum over the entries that are left
  pub total_left : (f : K → X → ℕ) (m : FinMap R X) (p : K → Bool) → total f (retain_keys m p) ≡ total (λ k x. cond (p k) (f k x) 0) m
  total_left f m p =
      total_alike f (λ k x. cond (p k) (f k x) 0) (retain_keys m p) (λ k x is. at k x (p k) (sym (get-retain_keys m p k (λ y e. ap p (sym (same k y e)))) ∙ is))
      ∙ total-retain_keys o same (λ k x. cond (p k) (f k x) 0) m p (λ k x is no. ap (λ b. cond b (f k x) 0) no)
    where
      at : (k : K) (x : X) (b : Bool) → cond b (get m k) None ≡ Some x → f k x ≡ cond b (f k x) 0
      at k x true h = refl
      at k x false h = cc

  -- it is no more than the whole
  pub left_less : (f : K → X → ℕ) (m : FinMap R X) (p : K → Bool) → total f (retain_keys m p) ≤ total f m
  left_less f m p =
      let left : total f (retain_keys m p) ≡ total (λ k x. cond (p k) (f k x) 0) m = total_left f m p in
      let both : total f m ≡ total (λ k x. cond (p k) (f k x) 0) m + total (λ k x. cond (p k) 0 (f k x)) m = total_split f _ _ m (λ k x is. two (p k) (f k x)) in
      omega (arith, left, both)
    where
      two : (b : Bool) (n : ℕ) → n ≡ cond b n 0 + cond b 0 n
      two true n = omega arith
      two false n = omega arith

list_each : {K X Y : Type 0} (R : K → K → Ordering) (f : K → Y → ℕ) (g : K → X → Y) (es : List (K × X)) → list_total f (each_value R g es) ≡ list_total (λ k x. f k (g k x)) es
list_each R f g [] = refl
list_each R f g (e ∷ es) = ap (λ n. f e.0 (g e.0 e.1) + n) (list_each R f g es)

find_each : {K X Y : Type 0} (R : K → K → Ordering) (g : K → X → Y) → IsAntisymmetric R → (q : K) (es : List (K × X)) → find R q (each_value R g es) ≡ option_map (g q) (find R q es)
find_each R g same q [] = refl
find_each R g same q (e ∷ es) =
    elim (R q e.0) as (λ r. R q e.0 ≡ r → cond (is_eq r) (Some (g e.0 e.1)) (find R q (each_value R g es)) ≡ option_map (g q) (cond (is_eq r) (Some e.1) (find R q es))) [
      | Less ↦ λ t. find_each R g same q es
      | Equal ↦ λ t. ap (λ k. Some (g k e.1)) (sym (same q e.0 t))
      | Greater ↦ λ t. find_each R g same q es
    ] refl

each_sorted : {K X Y : Type 0} {R : K → K → Ordering} (g : K → X → Y) (m : FinMap R X) → T (is_sorted R (each_value R g (entries m)))
each_sorted {R = R} g m = subst T (sym (sorted-each R g (entries m))) (entries_sorted m)

-- another value at each key, as a list
each_listed : {K X Y : Type 0} {R : K → K → Ordering} → IsTotalOrder R → IsAntisymmetric R → (g : K → X → Y) (m : FinMap R X) → map_values R g m ≡ from_sorted (each_value R g (entries m))
each_listed {R = R} o same g m = same_map o same _ _ (λ q.
    get-map_values R g same m q ∙ ap (option_map (g q)) (get-entries m q)
    ∙ sym (get-from_sorted R (each_value R g (entries m)) q (each_sorted g m) ∙ find_each R g same q (entries m)))

-- the sum over other values
pub total_each : {K X Y : Type 0} {R : K → K → Ordering} → IsTotalOrder R → IsAntisymmetric R → (f : K → Y → ℕ) (g : K → X → Y) (m : FinMap R X) → total f (map_values R g m) ≡ total (λ k x. f k (g k x)) m
unfolding total
total_each {R = R} o same f g m =
    ap (total f) (each_listed o same g m)
    ∙ ap (list_total f) (entries-from_sorted R (each_value R g (entries m)) (each_sorted g m)) ∙ list_each R f g (entries m)

-- what escapes, where it hadn't escaped, is used in addition
pub escaped_used : (z : State) (need : BlockId → Bool) → ((q : BlockId) → need q ≡ true → IsTrue (is_unescaped z q)) → used_quanta (with_escaped z need) ≡ used_quanta z + quanta_needed z need
escaped_used z need inside =
    total_each ids_total exact_ids (λ id b. cond (is_some b.since) (quanta (len_of b.layout)) 0) (λ id b. escape_at z (need id) b) z.blocks
    ∙ total_split ids_total exact_ids _ _ _ z.blocks (λ q b is. by_need q b (need q) refl is)
  where
    none_counts : (v : Option ℕ) (n : ℕ) → is_none v ≡ true → n ≡ cond (is_some v) n 0 + n
    none_counts None n h = omega arith
    none_counts (Some x) n h = cc

    by_need : (q : BlockId) (b : Block) (t : Bool) → need q ≡ t → get z.blocks q ≡ Some b
        → cond (is_some (escape_at z t b).since) (quanta (len_of (escape_at z t b).layout)) 0 ≡ cond (is_some b.since) (quanta (len_of b.layout)) 0 + cond t (quanta (len_of b.layout)) 0
    by_need q b true e is = none_counts b.since (quanta (len_of b.layout)) (sym (ap is_inside is) ∙ inside q e)
    by_need q b false e is = omega arith

-- the quanta of a thread's unescaped blocks are those of its part
pub own_in_part : (z : State) (t : ℕ) → quanta_where (λ id b. true) (retain_keys z.blocks (is_own z t)) ≡ own_quanta z t
own_in_part z t =
    total_left ids_total exact_ids (λ id b. quanta (len_of b.layout)) z.blocks (is_own z t)
    ∙ total_alike ids_total exact_ids _ _ z.blocks (λ q b is. ap (λ o. cond ((q.thread == t) && is_inside o) (quanta (len_of b.layout)) 0) is)
