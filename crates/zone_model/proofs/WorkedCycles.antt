-- The steps of a cycle of thread 1, from a zone in which none is open
use Rattle.std.proofs.Common.{◌≡◌, ◌+◌, Bool, true, false, not, cond, [], ◌∷◌, List, Option, Some, None, refl, sym, ap, ◌∙◌, subst, IsTrue, is_some, option_and_then, arith}
use Rattle.std.specs.declared.cmp.Ordering.{Ordering}
use Rattle.std.specs.Cmp.{IsTotalOrder}
use Rattle.std.specs.FinMap.{FinMap, IsAntisymmetric, get, retain_keys, get-retain_keys, same_map}
use Rattle.std.specs.List.Sorted.{IsStrictlySortedBy}
use Rattle.az_base.specs.declared.action.Mode.{Mode}
use Rattle.az_base.specs.declared.action.Mode.TheVariants as mode
use Rattle.az_base.specs.declared.block_id.BlockId.{BlockId}
use Rattle.az_base.specs.Ids.{ids_total, exact_ids, among}
use Rattle.az_base.specs.declared.weak_loc.WeakLoc.{WeakLoc}
use Rattle.az_base.specs.declared.weak_loc.WeakLoc.TheVariants as weak
use Rattle.az_base.specs.Places.{pairs_total, exact_pair, locs_total, exact_locs}
use Rattle.zone_model.specs.State.{State, Cycle, moment, with_cycle, without, is_escaped, is_word_of}
use Rattle.zone_model.specs.Reach.{AnchoredFor}
use Rattle.zone_model.specs.Collection.{HasCondemned, MayCondemn, WasAnchored, with_condemned, shows_one, Reclaims, Lists}
use Rattle.zone_model.specs.Step.{Step}
use Rattle.zone_model.specs.History.{Run}
use Rattle.zone_model.specs.WorkedCollections.{begun, condemned, settled, nothing_collected}
use Rattle.zone_model.proofs.Steps.{step_plain, plain_happens}
use Rattle.zone_model.proofs.WorkedZones.{lists_none}

-- a cycle of thread 1 that begins in this zone
abbrev pub cycle_of : State → Mode → Cycle
cycle_of y m = record { owner = 1; mode = m; start = is_escaped y; moments = moment y ∷ []; condemned = None }

-- the zone with it
abbrev pub opened : State → Mode → State
opened y m = with_cycle y (Some (cycle_of y m))

-- and once it has condemned these blocks
abbrev pub closing : State → Mode → List BlockId → State
closing y m r = with_condemned (opened y m) (cycle_of y m) r

module _ (y : State) (running : y.ended 1 ≡ false) (m : Mode) where
  pub begin_step : Step (with_cycle y None) (begun m) (opened y m)
  begin_step = step_plain (with_cycle y None) (begun m) (opened y m) running (λ id n. n) refl (with_cycle y (Some (record (cycle_of y m) { moments = [] })), (refl, refl), refl)

  pub condemn_step : (r : List BlockId) → MayCondemn (opened y m) (cycle_of y m) r → Step (opened y m) (condemned r) (closing y m r)
  condemn_step r may = step_plain (opened y m) (condemned r) (closing y m r) running (λ id n. n) refl (closing y m r, (cycle_of y m, (refl, refl), refl, may, refl), refl)

-- what a Condemn of such a cycle rests on
pub may_of : (y : State) (m : Mode) (r : List BlockId) (after : State) → Step (opened y m) (condemned r) after → MayCondemn (opened y m) (cycle_of y m) r
may_of y m r after step =
    let happens = plain_happens (opened y m) (condemned r) after step (λ id n. n) refl in
    let same : happens.1.0 ≡ cycle_of y m = let e = happens.1.1.0 in cc (e) in
    subst (λ c. MayCondemn (opened y m) c r) same happens.1.3

-- the condemned set of a zone with this cycle
pub the_condemned : (z : State) (c : Cycle) (r : List BlockId) → z.cycle ≡ Some (record c { condemned = Some r }) → (s : List BlockId) → HasCondemned z 1 s → s ≡ r
the_condemned z c r cycle s (d, (is_open, owner), has) =
    let same : Some d ≡ Some (record c { condemned = Some r }) = sym is_open ∙ cycle in
    let both : Some s ≡ Some r = sym has ∙ ap (λ (o : Option Cycle). option_and_then (λ x. x.condemned) o) same in
    cc (both)

module _ {K X : Type 0} {R : K → K → Ordering} (same : IsAntisymmetric R) where
  -- a map from which nothing is taken
  pub retain_all : (o : IsTotalOrder R) (p : K → Bool) (n : FinMap R X) → ((k : K) → p k ≡ true) → retain_keys n p ≡ n
  retain_all o p n all = same_map o same _ _ (λ q. get-retain_keys n p q (λ x e. all x ∙ sym (all q)) ∙ ap (λ b. cond b (get n q) None) (all q))

no_weak : (o : Option BlockId) → not (shows_one [] o) ≡ true
no_weak None = refl
no_weak (Some b) = refl

not_found : (o : Option BlockId) → IsTrue (is_some o) → o ≡ None → ⊥
not_found o h e = let f : false ≡ true = sym (ap is_some e) ∙ h in cc (f)

pub nothing_among : (P : BlockId → Type 0) → Lists [] (λ b. IsTrue (among [] b) × P b)
nothing_among P = lists_none _ (λ q p. let f : false ≡ true = p.0 in cc (f))

-- what is anchored as the cycle begins is reached by it
pub now : (y : State) (m : Mode) (b : BlockId) → AnchoredFor m y b → WasAnchored (cycle_of y m) b
now y m b anchored = (0, moment y, omega arith, refl, for_moment m anchored)
  where
    for_moment : (m : Mode) → AnchoredFor m y b → AnchoredFor m (moment y) b
    for_moment mode.Full h = h
    for_moment mode.Young h = h

-- a collection of nothing in a zone whose escaped blocks are all anchored leaves nothing but its number
module _ (y : State) (running : y.ended 1 ≡ false) (anchored : (b : BlockId) → IsTrue (is_escaped y b) → AnchoredFor mode.Full y b) where
  abbrev marked : State
  marked = record y { cycle = Some (record (cycle_of y mode.Full) { condemned = Some [] }) }

  abbrev after : State
  after = record y { reclaims = y.reclaims + 1; cycle = None }

  may_none : MayCondemn (opened y mode.Full) (cycle_of y mode.Full) []
  unfolding IsStrictlySortedBy
  may_none = record {
    ascending = tt;
    start = λ b h. cc (h);
    scope = λ b h. cc (h);
    not_held = λ b h. cc (h);
    closed = λ a b out h. cc (h);
    complete = λ b started within none. absurd (none (started, now y mode.Full b (anchored b started)));
  }

  same_marked : closing y mode.Full [] ≡ marked
  same_marked = ap (λ w. record marked { weak = w }) (retain_all exact_locs locs_total _ y.weak (λ l. no_weak (get y.weak l)))

  same_after : record (without marked []) { reclaims = y.reclaims + 1; cycle = None } ≡ after
  same_after =
      ap (λ m. record after { blocks = m; assocs = retain_keys y.assocs (λ pair. not (among [] pair.0)); weak = retain_keys y.weak (λ l. not (is_word_of [] l)) }) (retain_all exact_ids ids_total _ y.blocks (λ k. refl))
      ∙ ap (λ m. record after { assocs = m; weak = retain_keys y.weak (λ l. not (is_word_of [] l)) }) (retain_all exact_pair pairs_total _ y.assocs (λ k. refl))
      ∙ ap (λ m. record after { weak = m }) (retain_all exact_locs locs_total _ y.weak no_word)
    where
      no_word : (l : WeakLoc) → not (is_word_of [] l) ≡ true
      no_word (weak.Root w) = refl
      no_word (weak.Word b i) = refl

  reclaims_none : Reclaims marked 1 [] [] after
  reclaims_none = record {
    r = [];
    condemned = (record (cycle_of y mode.Full) { condemned = Some [] }, (refl, refl), refl);
    finalised = refl;
    kept_ones = nothing_among _;
    gone_ones = nothing_among _;
    does = sym same_after;
  }

  -- from its Condemn on
  pub rest_run : Run (opened y mode.Full) (condemned [] ∷ settled [] [] ∷ []) after
  rest_run = (
    marked,
    subst (Step (opened y mode.Full) (condemned [])) same_marked (condemn_step y running mode.Full [] may_none),
    (after, step_plain marked (settled [] []) after running (λ id n. n) refl (after, reclaims_none, refl), refl),
  )

  pub nothing_run : Run (with_cycle y None) nothing_collected after
  nothing_run = (
    opened y mode.Full,
    begin_step y running mode.Full,
    rest_run,
  )
