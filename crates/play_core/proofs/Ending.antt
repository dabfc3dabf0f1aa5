-- One turn after another, and the ends
use Rattle.std.proofs.Common.{◌≡◌, ◌==◌, ◌<◌, ◌+◌, ℕ, zero, suc, Bool, true, false, cond, ◌||◌, not, List, [], ◌∷◌, ◌++◌, Some, None, filter, length, take, take-suc, slice_get, refl, sym, ap, ap₂, subst, ◌∙◌, arith, append_assoc, append-nil, ne_eqb, true≢false, Result, Ok, Err, OnErr}
use Rattle.std.specs.List.{list_any}
use Rattle.std.specs.Option.{option_map_or}
use Rattle.std.proofs.lemmas.List.{map-append}
use Rattle.std.proofs.lemmas.List.Elements.{filter-append}
use Rattle.std.proofs.lemmas.Option.{slice_get_within, get_or_from_slice_get}
use Rattle.zone_model.specs.declared.act.Act.TheVariants as act
use Rattle.zone_model.specs.declared.call.Call.TheVariants as call
use Rattle.zone_model.specs.declared.entry.Reply.{Reply}
use Rattle.zone_history.specs.Histories.{Request}
use Rattle.local_set.specs.LocalSets.{LocalSet}
use Rattle.play_order.specs.Play.{leaves}
use Rattle.play_order.specs.Playing.{Seen, IsTold, SoFar}
use Rattle.play_order.proofs.Playing.{so_far_more}
use Rattle.play_core.specs.Playing.{Turns, ends_among}
use Rattle.play_core.specs.Worlds.{WorldShown, threads_in, local_of, seen, is_running, line_of, Steps, IsBelow, Ascending}

pub turns_append : (w mid after : Seen) (rs ss : List Request) → Turns w rs mid → Turns mid ss after → Turns w (rs ++ ss) after
turns_append w mid after [] ss h k = subst (λ x. Turns x ss after) h k
turns_append w mid after (r ∷ rs) ss h k = (h.0, h.1, h.2, h.3, turns_append h.2 mid after rs ss h.4 k)

pub turns_options : (w after : Seen) (rs : List Request) → Turns w rs after → after.options ≡ w.options
turns_options w after [] h = ap (λ (x : Seen). x.options) h
turns_options w after (r ∷ rs) h = turns_options h.2 after rs h.4 ∙ h.3.options

-- what was asked for so far, and then this
pub so_far_turns : (asked rs : List Request) (w after : Seen) → SoFar asked w → Turns w rs after → SoFar (asked ++ rs) after
so_far_turns asked [] w after so h = subst (λ xs. SoFar xs after) (sym (append-nil asked)) (subst (SoFar asked) (sym h) so)
so_far_turns asked (r ∷ rs) w after so h =
    subst (λ xs. SoFar xs after) (append_assoc asked (r ∷ []) rs) (so_far_turns (asked ++ r ∷ []) rs h.2 after (so_far_more asked w h.2 r h.1 h.0 so h.3) h.4)

-- a thread that runs leaves
pub leave_turns : (w after : WorldShown) (t : ℕ) (reply : Reply) → is_running w t ≡ true → IsTold (seen w) t → Steps w after t call.Leave reply → Turns (seen w) (ends_among w (t ∷ [])) (seen after)
leave_turns w after t reply run told steps =
    subst (λ b. Turns (seen w) (leaves (cond b (t ∷ []) [])) (seen after)) (sym run) (told, line_of w t call.Leave reply, seen after, steps.turn, refl)

-- one that doesn't stays as it is
pub stay_turns : (w : WorldShown) (t : ℕ) → is_running w t ≡ false → Turns (seen w) (ends_among w (t ∷ [])) (seen w)
stay_turns w t run = subst (λ b. Turns (seen w) (leaves (cond b (t ∷ []) [])) (seen w)) (sym run) refl

-- the first of the threads have left
pub record SoEnded (w : WorldShown) (n : ℕ) (mid : WorldShown) : Type 0 where
  pub turned : Turns (seen w) (ends_among w (take n (threads_in w.locals))) (seen mid)
  pub threads : threads_in mid.locals ≡ threads_in w.locals
  pub others : (u : ℕ) → list_any (λ v. v == u) (take n (threads_in w.locals)) ≡ false → local_of mid u ≡ local_of w u

below_at : (t : ℕ) (ts : List ℕ) (i u : ℕ) → IsBelow t ts → slice_get ts i ≡ Some u → t < u
below_at t [] i u below here = absurd (none u here)
  where
    none : (u : ℕ) → None ≡ Some u → ⊥
    none u h = cc (h)
below_at t (x ∷ xs) zero u below here = subst (λ y. t < y) (one x u here) below.0
  where
    one : (x u : ℕ) → Some x ≡ Some u → x ≡ u
    one x u h = cc (h)
below_at t (x ∷ xs) (suc i) u below here = below_at t xs i u below.1 here

-- no number of an ascending list stands before its place
fresh : (ts : List ℕ) (i t : ℕ) → Ascending ts → slice_get ts i ≡ Some t → list_any (λ v. v == t) (take i ts) ≡ false
fresh [] zero t up here = refl
fresh [] (suc i) t up here = refl
fresh (x ∷ xs) zero t up here = refl
fresh (x ∷ xs) (suc i) t up here = ap₂ (λ a b. a || b) (ne_eqb x t (λ e. let lt = below_at x xs i t up.0 here in omega (arith, lt, e))) (fresh xs i t up.1 here)

any_append : (u : ℕ) (ts us : List ℕ) → list_any (λ v. v == u) (ts ++ us) ≡ (list_any (λ v. v == u) ts || list_any (λ v. v == u) us)
any_append u [] us = refl
any_append u (t ∷ ts) us = by (t == u) (any_append u ts us)
  where
    by : (b : Bool) → list_any (λ v. v == u) (ts ++ us) ≡ (list_any (λ v. v == u) ts || list_any (λ v. v == u) us) → (b || list_any (λ v. v == u) (ts ++ us)) ≡ ((b || list_any (λ v. v == u) ts) || list_any (λ v. v == u) us)
    by true rest = refl
    by false rest = rest

neither : (a b : Bool) → (a || b) ≡ false → (a ≡ false) × (b ≡ false)
neither true b h = absurd (true≢false h)
neither false b h = (refl, h)

first_false : (a : Bool) → (a || false) ≡ false → a ≡ false
first_false true h = absurd (true≢false h)
first_false false h = refl

take_next : (ts : List ℕ) (i t : ℕ) → slice_get ts i ≡ Some t → take (i + 1) ts ≡ take i ts ++ t ∷ []
take_next ts i t here =
    let next : i + 1 ≡ suc i = omega arith in
    ap (λ n. take n ts) next ∙ take-suc ts i t (slice_get_within ts i t here) ∙ ap (λ u. take i ts ++ u ∷ []) (get_or_from_slice_get ts i t t here)

ends_append : (w : WorldShown) (ts us : List ℕ) → ends_among w (ts ++ us) ≡ ends_among w ts ++ ends_among w us
ends_append w ts us = ap leaves (filter-append (is_running w) ts us) ∙ map-append (λ t. let r : Request = (t, act.Call call.Leave) in r) (filter (is_running w) ts) (filter (is_running w) us)

-- the next one leaves
pub ended_more : (w mid after : WorldShown) (i t : ℕ) → SoEnded w i mid → Ascending (threads_in mid.locals) → slice_get (threads_in mid.locals) i ≡ Some t
    → Turns (seen mid) (ends_among mid (t ∷ [])) (seen after) → ((u : ℕ) → (t == u) ≡ false → local_of after u ≡ local_of mid u) → threads_in after.locals ≡ threads_in mid.locals → SoEnded w (i + 1) after
ended_more w mid after i t so up here turned others threads =
    let ts = threads_in w.locals in
    let there : slice_get ts i ≡ Some t = ap (λ us. slice_get us i) (sym so.threads) ∙ here in
    let same : local_of mid t ≡ local_of w t = so.others t (fresh ts i t (subst Ascending so.threads up) there) in
    let run : is_running mid t ≡ is_running w t = ap (λ o. option_map_or (λ (l : LocalSet). not l.ended) o false) same in
    let ends : ends_among mid (t ∷ []) ≡ ends_among w (t ∷ []) = ap (λ b. leaves (cond b (t ∷ []) [])) run in
    let next = take_next ts i t there in
    record {
      turned = subst (λ rs. Turns (seen w) rs (seen after)) (sym (ap (ends_among w) next ∙ ends_append w (take i ts) (t ∷ [])))
          (turns_append (seen w) (seen mid) (seen after) (ends_among w (take i ts)) (ends_among w (t ∷ [])) so.turned (subst (λ rs. Turns (seen mid) rs (seen after)) ends turned));
      threads = threads ∙ so.threads;
      others = λ u off.
          let apart = neither (list_any (λ v. v == u) (take i ts)) (list_any (λ v. v == u) (t ∷ [])) (sym (any_append u (take i ts) (t ∷ [])) ∙ ap (list_any (λ v. v == u)) (sym next) ∙ off) in
          others u (first_false (t == u) apart.1) ∙ so.others u apart.0;
    }

length_threads : (ls : List LocalSet) → length (threads_in ls) ≡ length ls
length_threads [] = refl
length_threads (l ∷ ls) = ap suc (length_threads ls)

-- the number of threads is the same
pub still_within : (w mid : WorldShown) (n at : ℕ) → threads_in mid.locals ≡ threads_in w.locals → n ≡ length w.locals → at < n → at < length mid.locals
still_within w mid n at same is lt = subst (λ m. at < m) (is ∙ sym (length_threads w.locals) ∙ ap length (sym same) ∙ length_threads mid.locals) lt

pub on_err : {U E : Type 0} (r : Result U E) (P : Type 0) → P → OnErr r P
on_err (Ok u) P p = tt
on_err (Err e) P p = p
