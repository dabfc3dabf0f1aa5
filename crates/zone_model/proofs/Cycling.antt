-- A thread's own cycle: what others leave of its phase, and what its steps make of it
use Rattle.std.proofs.Common.{◌≡◌, ◌+◌, ◌<◌, ℕ, suc, Bool, true, false, cond, not, ◌&&◌, ◌||◌, ◌⊎◌, inl, inr, List, [], ◌∷◌, Option, Some, None, IsTrue, length, filter, find, fold, refl, sym, ap, subst, ◌∙◌, arith, option_map, option_and_then}
use Rattle.std.specs.List.{AllByRecursion}
use Rattle.std.specs.List.Sorted.{IsStrictlySortedBy}
use Rattle.std.specs.Option.{option_map_or}
use Rattle.std.specs.FinMap.{FinMap, get}
use Rattle.std.specs.Ordering.{is_eq}
use Rattle.std.specs.declared.cmp.Ordering.{Ordering}
use Rattle.std.specs.declared.cmp.Ordering.TheVariants.{Less, Equal, Greater}
use Rattle.std.specs.Cmp.{tied_itself}
use Rattle.std.proofs.lemmas.Map.Keys.{sorted_head, sorted_tail}
use Rattle.az_base.specs.declared.action.Mode.{Mode}
use Rattle.az_base.specs.declared.block_id.BlockId.{BlockId}
use Rattle.az_base.specs.Ids.{id_cmp, same_id, among, ids_total, exact_ids}
use Rattle.zone_model.specs.declared.call.Call.TheVariants as call
use Rattle.zone_model.specs.declared.entry.Reply.{Reply}
use Rattle.zone_model.specs.declared.entry.Reply.TheVariants as reply
use Rattle.zone_model.specs.State.{State, Cycle, Block, is_nil}
use Rattle.zone_model.specs.Collection.{awaits, new_cycle, actions_of, with_action, with_finalised}
use Rattle.zone_model.specs.Step.{Step, Happens, seen_now}
use Rattle.zone_model.specs.Phases.{Free, Marking, Settling, CycleStays, left_in, left_among, May}
use Rattle.zone_model.specs.Replies.{replied}
use Rattle.zone_model.proofs.Steps.{plain_happens}
use Rattle.zone_model.proofs.Made.{actions_same}
use Rattle.zone_model.proofs.Blocks.{edit_get}
use Rattle.zone_model.proofs.Replied.{one_condemned}
use Rattle.zone_model.proofs.OthersCycles.{seen_stays}

-- two tests that agree on the list's ids
filter_same : (f g : BlockId → Bool) (xs : List BlockId) → ((b : BlockId) → IsTrue (among xs b) → f b ≡ g b) → filter f xs ≡ filter g xs
filter_same f g [] same = refl
filter_same f g (x ∷ xs) same =
    let rest = filter_same f g xs (λ b m. same b (or_second (same_id b x) (among xs b) m)) in
    ap (λ t. cond t (x ∷ filter f xs) (filter f xs)) (same x (or_first (same_id x x) (among xs x) (ap is_eq (tied_itself ids_total x)))) ∙ ap (λ ys. cond (g x) (x ∷ ys) ys) rest
  where
    or_first : (a b : Bool) → IsTrue a → IsTrue (a || b)
    or_first true b h = refl
    or_first false b h = cc (h)

    or_second : (a b : Bool) → IsTrue b → IsTrue (a || b)
    or_second true b h = refl
    or_second false b h = h

-- what leaves a thread's cycle leaves its phase
pub free_stays : (t : ℕ) (y z : State) → CycleStays t y z → Free y t → Free z t
free_stays t y z stays free c has = let before = stays.before c has in free before.0 before.1

pub marking_stays : (t : ℕ) (y z : State) → CycleStays t y z → Marking y t → Marking z t
marking_stays t y z stays m = let d = stays.still m.0 m.1 in (d.0, d.1, d.2.condemned ∙ m.2)

pub settling_stays : (n t : ℕ) (y z : State) → CycleStays t y z → Settling n y t → Settling n z t
settling_stays n t y z stays s =
    let d = stays.still s.condemned.0 s.condemned.1 in
    record {
      r = s.r;
      condemned = (d.0, d.1, d.2.condemned ∙ s.condemned.2);
      ascending = s.ascending;
      left = ap length (filter_same (awaits z) (awaits y) s.r (λ b m. d.2.left s.r b s.condemned.2 m)) ∙ s.left;
    }

-- what a search finds where so many pass
finds : (f : BlockId → Bool) (xs : List BlockId) → 0 < length (filter f xs) → (b : BlockId) × (find f xs ≡ Some b)
finds f [] more = absurd (omega (arith, more))
finds f (x ∷ xs) more = by (f x) (λ m. finds f xs m) more
  where
    by : (t : Bool) → (0 < length (filter f xs) → (b : BlockId) × (find f xs ≡ Some b)) → 0 < length (cond t (x ∷ filter f xs) (filter f xs)) → (b : BlockId) × (cond t (Some x) (find f xs) ≡ Some b)
    by true rest m = (x, refl)
    by false rest m = rest m

finds_none : (f : BlockId → Bool) (xs : List BlockId) → length (filter f xs) ≡ 0 → find f xs ≡ None
finds_none f [] none = refl
finds_none f (x ∷ xs) none = by (f x) (λ m. finds_none f xs m) none
  where
    by : (t : Bool) → (length (filter f xs) ≡ 0 → find f xs ≡ None) → length (cond t (x ∷ filter f xs) (filter f xs)) ≡ 0 → cond t (Some x) (find f xs) ≡ None
    by true rest m = absurd (omega (arith, m))
    by false rest m = rest m

-- how many are left, as the state tells it
pub settling_left : (n : ℕ) (z : State) (t : ℕ) → Settling n z t → left_in z ≡ n
settling_left n z t s = ap (λ o. left_among z (condemned_set o)) s.condemned.1.0 ∙ ap (left_among z) s.condemned.2 ∙ s.left
  where
    condemned_set : Option Cycle → Option (List BlockId)
    condemned_set o = option_and_then (λ (c : Cycle). c.condemned) o

settles : (n : ℕ) (z : State) (t : ℕ) → Settling n z t → Settling (left_in z) z t
settles n z t s = subst (λ k. Settling k z t) (sym (settling_left n z t s)) s

-- Condemn
condemn_happens : (z a : State) (t : ℕ) (r : Reply) → Happens z t call.Condemn r a → Settling (left_in a) a t
condemn_happens z a t reply.Busy h = absurd h.0
condemn_happens z a t (reply.Condemned r) h =
    let c = h.1.0 in
    let n = length (filter (awaits h.0) r.list) in
    let now : Settling n h.0 t = record {
      r = r.list;
      condemned = (record c { condemned = Some r.list }, (ap (λ (y : State). y.cycle) h.1.4, h.1.1.1), refl);
      ascending = h.1.3.ascending;
      left = refl;
    } in
    settles n a t (subst (λ y. Settling n y t) (sym h.2) (settling_stays n t h.0 (seen_now h.0) (seen_stays t h.0) now))
condemn_happens z a t _ h = absurd h.1

-- Finalise
some_of : {X : Type 0} (x y : X) → Some x ≡ Some y → x ≡ y
some_of x y h = cc

abbrev waits_of : Option Block → Bool
waits_of o = option_map_or (λ (b : Block). not (is_nil b.actions) && not b.finalised) o false

and_false : (b : Bool) → (b && false) ≡ false
and_false true = refl
and_false false = refl

abbrev done : Block → Block
done k = record k { finalised = true }

-- after its finaliser a block waits no more, and the others wait as before
finalised_waits : (z : State) (b q : BlockId) → awaits (with_finalised (fold (with_action b) z (actions_of z b)) b) q ≡ cond (same_id q b) false (awaits z q)
finalised_waits z b q =
    let y = fold (with_action b) z (actions_of z b) in
    ap waits_of (edit_get y.blocks b done q) ∙ ap (λ (m : FinMap id_cmp Block). waits_of (cond (same_id q b) (option_map done (get m q)) (get m q))) (actions_same b (actions_of z b) z).1 ∙ by (same_id q b) (get z.blocks q)
  where
    by : (t : Bool) (o : Option Block) → waits_of (cond t (option_map done o) o) ≡ cond t false (waits_of o)
    by true None = refl
    by true (Some k) = and_false (not (is_nil k.actions))
    by false o = refl

not_same : (x y : BlockId) → id_cmp x y ≡ Less → same_id y x ≡ false
not_same x y less = by (id_cmp y x) refl
  where
    by : (r : Ordering) → id_cmp y x ≡ r → is_eq r ≡ false
    by Less e = refl
    by Equal e = let same : y ≡ x = exact_ids y x e in let no : Equal ≡ Less = sym (subst (λ w. id_cmp w x ≡ Equal) same e) ∙ subst (λ w. id_cmp x w ≡ Less) same less in cc (no)
    by Greater e = refl

rest_same : (f g : BlockId → Bool) (b : BlockId) → ((q : BlockId) → g q ≡ cond (same_id q b) false (f q)) → (xs : List BlockId) → AllByRecursion (λ y. id_cmp b y ≡ Less) xs → filter g xs ≡ filter f xs
rest_same f g b one [] apart = refl
rest_same f g b one (x ∷ xs) apart =
    ap (λ t. cond t (x ∷ filter g xs) (filter g xs)) (one x ∙ ap (λ t. cond t false (f x)) (not_same b x apart.0)) ∙ ap (λ ys. cond (f x) (x ∷ ys) ys) (rest_same f g b one xs apart.1)

one_less : (f g : BlockId → Bool) (b : BlockId) → f b ≡ true → ((q : BlockId) → g q ≡ cond (same_id q b) false (f q)) → (xs : List BlockId) → IsStrictlySortedBy id_cmp xs → find f xs ≡ Some b → length (filter g xs) + 1 ≡ length (filter f xs)
one_less f g b waits one [] sorted found = let no : None ≡ Some b = found in cc (no)
one_less f g b waits one (x ∷ xs) sorted found = by (f x) refl (λ k. one_less f g b waits one xs (sorted_tail id_cmp x xs sorted) k) found
  where
    off : f x ≡ false → g x ≡ false
    off is = one x ∙ still (same_id x b)
      where
        still : (t : Bool) → cond t false (f x) ≡ false
        still true = refl
        still false = is

    by : (t : Bool) → f x ≡ t → (find f xs ≡ Some b → length (filter g xs) + 1 ≡ length (filter f xs)) → cond t (Some x) (find f xs) ≡ Some b → length (filter g (x ∷ xs)) + 1 ≡ length (cond t (x ∷ filter f xs) (filter f xs))
    by true is rest found =
        let same : x ≡ b = some_of x b found in
        let gone : g x ≡ false = one x ∙ ap (λ t. cond t false (f x)) (ap (λ w. same_id x w) (sym same) ∙ ap is_eq (tied_itself ids_total x)) in
        ap (λ t. length (cond t (x ∷ filter g xs) (filter g xs)) + 1) gone ∙ ap (λ ys. length ys + 1) (rest_same f g b one xs (subst (λ w. AllByRecursion (λ y. id_cmp w y ≡ Less) xs) same (sorted_head id_cmp x xs sorted))) ∙ more (length (filter f xs))
      where
        more : (n : ℕ) → n + 1 ≡ suc n
        more n = omega arith
    by false is rest found =
        ap (λ t. length (cond t (x ∷ filter g xs) (filter g xs)) + 1) (off is) ∙ rest found

found_waits : (f : BlockId → Bool) (xs : List BlockId) (b : BlockId) → find f xs ≡ Some b → f b ≡ true
found_waits f [] b h = let no : None ≡ Some b = h in cc (no)
found_waits f (x ∷ xs) b h = by (f x) refl (λ k. found_waits f xs b k) h
  where
    by : (t : Bool) → f x ≡ t → (find f xs ≡ Some b → f b ≡ true) → cond t (Some x) (find f xs) ≡ Some b → f b ≡ true
    by true is rest k = ap f (sym (some_of x b k)) ∙ is
    by false is rest k = rest k

finalise_happens : (z a : State) (t : ℕ) (left : ℕ) (r : Reply) → Settling left z t → Happens z t call.Finalise r a → (left_in a + 1 ≡ left) × Settling (left_in a) a t
finalise_happens z a t left reply.Busy s h = absurd h.0
finalise_happens z a t left (reply.Finalised b) s h =
    let y = with_finalised (fold (with_action b) z (actions_of z b)) b in
    let found : find (awaits z) s.r ≡ Some b = ap (find (awaits z)) (one_condemned z t s.r h.1.0 s.condemned h.1.1) ∙ h.1.2 in
    let fewer : length (filter (awaits y) s.r) + 1 ≡ left = one_less (awaits z) (awaits y) b (found_waits (awaits z) s.r b found) (finalised_waits z b) s.r s.ascending found ∙ s.left in
    let n = length (filter (awaits y) s.r) in
    let now : Settling n y t = record { r = s.r; condemned = (s.condemned.0, ((actions_same b (actions_of z b) z).2 ∙ s.condemned.1.0, s.condemned.1.1), s.condemned.2); ascending = s.ascending; left = refl } in
    let there : Settling n h.0 t = subst (λ w. Settling n w t) (sym h.1.3) now in
    let after : Settling n a t = subst (λ w. Settling n w t) (sym h.2) (settling_stays n t h.0 (seen_now h.0) (seen_stays t h.0) there) in
    (ap (λ k. k + 1) (settling_left n a t after) ∙ fewer, settles n a t after)
finalise_happens z a t left _ s h = absurd h.1

reclaim_happens : (z a : State) (t : ℕ) (r : Reply) → Happens z t call.Reclaim r a → Free a t
reclaim_happens z a t reply.Busy h = absurd h.0
reclaim_happens z a t (reply.Settled gone kept) h = subst (λ y. Free y t) (sym h.2) (free_stays t h.0 (seen_now h.0) (seen_stays t h.0) (λ c has. let no : None ≡ Some c = sym (ap (λ (y : State). y.cycle) h.1.does) ∙ has.0 in cc (no)))
reclaim_happens z a t _ h = absurd h.1

begin_happens : (z a : State) (t : ℕ) (mode : Mode) (r : Reply) → Free z t → Happens z t (call.Begin mode) r a → ((r ≡ reply.Busy) × Free a t) ⊎ ((r ≡ reply.Begun) × Marking a t)
begin_happens z a t mode reply.Busy free h = inl (refl, subst (λ y. Free y t) (sym h.1) free)
begin_happens z a t mode reply.Begun free h =
    inr (refl, subst (λ y. Marking y t) (sym h.2) (marking_stays t h.0 (seen_now h.0) (seen_stays t h.0) (new_cycle z t mode, (ap (λ (y : State). y.cycle) h.1.1, refl), refl)))
begin_happens z a t mode _ free h = absurd h.1

-- what each step of a cycle makes of its thread's phase
module _ (z : State) (t : ℕ) (r : Reply) (a : State) where
  pub begin_step : (mode : Mode) → Free z t → Step z (replied t (call.Begin mode) r) a → ((r ≡ reply.Busy) × Free a t) ⊎ ((r ≡ reply.Begun) × Marking a t)
  begin_step mode free step = begin_happens z a t mode r free (plain_happens z (replied t (call.Begin mode) r) a step (λ id n. n) refl)

  pub condemn_step : Step z (replied t call.Condemn r) a → Settling (left_in a) a t
  condemn_step step = condemn_happens z a t r (plain_happens z (replied t call.Condemn r) a step (λ id n. n) refl)

  pub finalise_step : (left : ℕ) → Settling left z t → Step z (replied t call.Finalise r) a → (left_in a + 1 ≡ left) × Settling (left_in a) a t
  finalise_step left s step = finalise_happens z a t left r s (plain_happens z (replied t call.Finalise r) a step (λ id n. n) refl)

  pub reclaim_step : Step z (replied t call.Reclaim r) a → Free a t
  reclaim_step step = reclaim_happens z a t r (plain_happens z (replied t call.Reclaim r) a step (λ id n. n) refl)

-- so the phase tells which step of a cycle may come next
pub settling_may : (n : ℕ) (z : State) (t : ℕ) → Settling n z t → (0 < n → May z t call.Finalise) × (n ≡ 0 → May z t call.Reclaim)
settling_may n z t s = (
  λ more. let one = finds (awaits z) s.r (subst (λ n. 0 < n) (sym s.left) more) in (s.r, s.condemned, one.0, one.1),
  λ none. (s.r, s.condemned, finds_none (awaits z) s.r (s.left ∙ none)),
)
