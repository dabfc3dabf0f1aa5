-- The gate at its start and at its end
use Rattle.std.proofs.Common.{◌≡◌, ℕ, zero, suc, ◌+◌, ◌<◌, ◌≤◌, true≢false, List, [], ◌∷◌, ◌++◌, length, map, All, AllPairs, Contains, Option, Some, None, refl, ap, sym, ◌∙◌, subst, ⊎_elim, inl, inr, arith}
use mathlib.Core.Option.{some, some-injective, some-ne-none}
use mathlib.Core.List.{IsPrefix}
use lib.ListN.{get_elem?}
use Rattle.atomic_table.specs.Table.{State, opening, Final, Seen}
use Rattle.az_base.specs.declared.options.Options.{Options}
use Rattle.zone_model.specs.declared.entry.Entry.{Entry}
use Rattle.zone_gate.specs.declared.view.View.{View}
use Rattle.zone_gate.specs.declared.view.Owned.{Owned}
use Rattle.zone_model.specs.History.{entries_of}
use Rattle.zone_gate.specs.Gathering.{KnowsAll, Last}
use Rattle.zone_gate.specs.Owning.{Distinct, Has, HasThread, OwnIn, fresh, most_threads, owned}
use Rattle.zone_gate.specs.Rule.{Apart, Away, Fits, Home, RuleHolds}
use Rattle.zone_gate.specs.Shown.{SeatShown}
use Rattle.zone_gate.specs.Views.{resting}
use Rattle.zone_gate.proofs.Gathers.{all_begin, all_own, all_threads, knows_first}
use Rattle.zone_gate.proofs.Owning.{OwnIn-fresh}

-- the threads of a rising list are few, and no thread is in it twice
pub rising_few : (ts : List ℕ) (low : ℕ) → low ≤ most_threads → All (λ t. (low < t) × (t ≤ most_threads)) ts → AllPairs (λ t u. t < u) ts → length ts + low ≤ most_threads
rising_few [] low le all rising = omega arith
rising_few (t ∷ ts) low le all rising =
    let here = all 0 t (omega arith) in
    let above = here.0 in
    let within = here.1 in
    let rest = rising_few ts t within (λ k d l. (rising 0 (suc k) d (omega arith) (omega arith), (all (suc k) d (omega arith)).1)) (λ i j d l k. rising (suc i) (suc j) d (omega arith) (omega arith)) in
    omega arith

HasThread-fresh : (ts : List ℕ) (t : ℕ) → HasThread t (fresh ts) → Contains ts t
HasThread-fresh [] t h = absurd h
HasThread-fresh (u ∷ ts) t (inl e) = (0, omega arith, e)
HasThread-fresh (u ∷ ts) t (inr h) = let there = HasThread-fresh ts t h in (suc there.0, (let l = there.1 in omega arith), there.2)

below_all : (ts : List ℕ) (t : ℕ) → All (λ u. t < u) ts → ¬ Contains ts t
below_all ts t all there = let e = there.2 in let l = all there.0 t there.1 in omega arith

Distinct-fresh : (ts : List ℕ) → AllPairs (λ t u. t < u) ts → Distinct (fresh ts)
Distinct-fresh [] rising = tt
Distinct-fresh (t ∷ ts) rising = (
  (λ h. below_all ts t (λ k d l. rising 0 (suc k) d (omega arith) (omega arith)) (HasThread-fresh ts t h)),
  Distinct-fresh ts (λ i j d l k. rising (suc i) (suc j) d (omega arith) (omega arith)),
)

length-fresh : (ts : List ℕ) → length (fresh ts) ≡ length ts
length-fresh [] = refl
length-fresh (t ∷ ts) = ap suc (length-fresh ts)

some_owner : (own : List Owned) → 0 < length own → (t : ℕ) × HasThread t own
some_owner [] h = absurd (omega arith)
some_owner (x ∷ xs) h = (x.thread, inl refl)

module _ {X : Type 0} (list_of : X → List Entry) (options_of : X → Options) (options : Options) (threads : List ℕ) where
  abbrev Rule : State (Option X) View → Type 0
  Rule = RuleHolds list_of options_of options threads

  pub starts : (y : X) → list_of y ≡ [] → options_of y ≡ options → AllPairs (λ t u. t < u) threads → length threads ≤ most_threads
      → Rule (opening (0 ∷ 0 ∷ []) (Some y ∷ []) (resting options [] (fresh threads)))
  starts y empty chosen rising few = record {
    list = [];
    serving = 0;
    low = omega arith;
    words = refl;
    each = one;
    apart = alone;
    few = (let h = length-fresh threads in omega arith);
    named = λ k d l. absurd (omega arith);
    slot = inl (record { value = y; at = refl; list_is = empty; options_are = chosen });
  }
    where
      first : View
      first = resting options [] (fresh threads)

      one : (id : ℕ) (v : View) → get_elem? (resting options [] (fresh threads) ∷ []) id ≡ some v → Fits options threads [] 0 0 v
      one zero v e = subst (Fits options threads [] 0 0) (some-injective (resting options [] (fresh threads)) v e) (record {
        options_are = λ _. refl;
        seen = ([], refl);
        untold = ([], refl);
        own = OwnIn-fresh threads;
        own_seen = OwnIn-fresh threads;
        distinct = Distinct-fresh threads rising;
        listed = HasThread-fresh threads;
        waits = λ m i. absurd (cc (i));
        holder = λ h. absurd (true≢false (sym h));
      })
      one (suc id) v e = absurd (some-ne-none v (sym e))

      alone : Apart (resting options [] (fresh threads) ∷ [])
      alone zero zero v w ei ej sh = refl
      alone zero (suc j) v w ei ej sh = absurd (some-ne-none w (sym ej))
      alone (suc i) j v w ei ej sh = absurd (some-ne-none v (sym ei))

  -- a seat at rest that has every thread finds the value at home
  pub closes : (id : ℕ) (o : Options) (seen : List Entry) (own : List Owned) (ws : List ℕ) (xs : List (Option X)) → ((t : ℕ) → Contains threads t → HasThread t own)
      → Final (Seen Rule id (resting o seen own)) ws xs → Last list_of options_of options threads seen own xs
  closes id o seen own ws xs every final =
      let s = final.0 in
      let r = final.1.0 in
      let at = final.1.1 in
      let f = r.each id (resting o seen own) at in
      ⊎_elim
      (λ (h : Home list_of options_of options r.list s.homes). record {
        value = h.value;
        at = final.4 0 (Some h.value) h.at;
        options_are = h.options_are;
        begins = subst (λ l. IsPrefix seen l) (sym h.list_is) f.seen;
        owns = subst (λ l. OwnIn l own) (sym h.list_is) f.own;
        named = subst (All (λ e. Contains threads e.thread)) (sym h.list_is) r.named;
      })
      (λ (a : Away s.homes s.views).
      let g = r.each a.id a.view a.there in
      let some_one = some_owner a.view.own (g.waits r.serving (g.holder a.holds).0).0 in
      let same : id ≡ a.id = r.apart id a.id (resting o seen own) a.view at a.there (inl (some_one.0, every some_one.0 (g.listed some_one.0 some_one.1), some_one.1)) in
      let is : resting o seen own ≡ a.view = some-injective (resting o seen own) a.view (sym at ∙ (ap (get_elem? s.views) same ∙ a.there)) in
      absurd (true≢false (sym a.holds ∙ ap (λ (u : View). u.holds) (sym is))))
      r.slot

module _ {X : Type 0} (list_of : X → List Entry) (options_of : X → Options) where
  pub starts_with : (y : X) (options : Options) (threads ts : List ℕ) (xs : List (Option X)) → threads ≡ ts → xs ≡ Some y ∷ [] → list_of y ≡ [] → options_of y ≡ options → AllPairs (λ t u. t < u) ts → All (λ t. (0 < t) × (t ≤ most_threads)) ts
      → RuleHolds list_of options_of options threads (opening (0 ∷ 0 ∷ []) xs (resting options [] (fresh threads)))
  starts_with y options threads ts xs same is empty chosen rising all =
      subst (λ (z : List ℕ × List (Option X)). RuleHolds list_of options_of options z.0 (opening (0 ∷ 0 ∷ []) z.1 (resting options [] (fresh z.0)))) (λ i. (sym same i, sym is i))
      (starts list_of options_of options ts y empty chosen rising (let h = rising_few ts 0 (omega arith) all rising in omega arith))

  -- what is known of the value at the end
  pub record Known (options : Options) (threads : List ℕ) (ss : List SeatShown) (value : X) : Type 0 where
    pub begins : All (λ s. IsPrefix s.seen (list_of value)) ss
    pub own : All (λ s. entries_of s.thread (list_of value) ≡ s.own) ss
    pub others : All (λ e. Contains threads e.thread) (list_of value)
    pub options_are : options_of value ≡ options

  pub ends : (options : Options) (threads : List ℕ) (id : ℕ) (v : View) (ws : List ℕ) (xs : List (Option X)) (ss : List SeatShown) → v ≡ resting v.options v.seen v.own → KnowsAll v ss
      → ((t : ℕ) → Contains threads t → Contains (map (λ s. s.thread) ss) t) → Final (Seen (RuleHolds list_of options_of options threads) id v) ws xs
      → (value : X) × (get_elem? xs 0 ≡ some (Some value)) × Known options threads ss value
  ends options threads id v ws xs ss at_rest known every final =
      let last = closes list_of options_of options threads id v.options v.seen v.own ws xs (λ t h. all_threads v ss t known (every t h))
      (subst (λ (u : View). Final (Seen (RuleHolds list_of options_of options threads) id u) ws xs) at_rest final) in
      (last.value, last.at, record { begins = all_begin v (list_of last.value) ss known last.begins; own = all_own v (list_of last.value) ss known last.owns; others = last.named; options_are = last.options_are })

  -- the same of the value that was taken
  pub ends_as : (options : Options) (threads : List ℕ) (ss : List SeatShown) (xs : List (Option X)) (found : Option X) (result : X) → (value : X) × (get_elem? xs 0 ≡ some (Some value)) × Known options threads ss value
      → get_elem? xs 0 ≡ some found → found ≡ Some result → Known options threads ss result
  ends_as options threads ss xs found result e at is =
      let same : Some e.0 ≡ Some result = some-injective (Some e.0) (Some result) (sym e.1 ∙ (at ∙ ap some is)) in
      let value : e.0 ≡ result = cc in subst (Known options threads ss) value e.2

  pub ends_full : (options : Options) (threads : List ℕ) (ss : List SeatShown) (xs : List (Option X)) (found : Option X) → (value : X) × (get_elem? xs 0 ≡ some (Some value)) × Known options threads ss value
      → get_elem? xs 0 ≡ some found → found ≡ None → ⊥
  ends_full options threads ss xs found e at is =
      let same : Some e.0 ≡ None = some-injective (Some e.0) None (sym e.1 ∙ (at ∙ ap some is)) in absurd (cc)

  -- the same from what is known where a gate closes: the first seat was taken alone, and then the others
  pub closing : (options : Options) (threads shown : List ℕ) (id : ℕ) (first w : View) (ws : List ℕ) (xs : List (Option X)) (s : SeatShown) (all left : List SeatShown) → threads ≡ shown
      → first ≡ resting s.options s.seen (owned s.thread s.own ∷ []) → IsPrefix first.seen w.seen → ((x : Owned) → Has x first.own → Has x w.own) → KnowsAll w left → all ≡ left ++ s ∷ [] → w ≡ resting w.options w.seen w.own
      → ((t : ℕ) → Contains shown t → Contains (map (λ s. s.thread) all) t) → Final (Seen (RuleHolds list_of options_of options threads) id w) ws xs
      → (value : X) × (get_elem? xs 0 ≡ some (Some value)) × Known options threads all value
  closing options threads shown id first w ws xs s all left same is p f k parts at_rest every final =
      ends options threads id w ws xs all at_rest (knows_first first w s all left s.options is p f k parts) (λ t h. every t (subst (λ ts. Contains ts t) same h)) final
