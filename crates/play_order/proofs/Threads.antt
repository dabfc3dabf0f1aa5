-- In the order of the places each thread's entries stand in its own order
use Rattle.std.proofs.Common.{◌≡◌, ℕ, ◌==◌, Bool, true, false, cond, List, [], ◌∷◌, ◌++◌, filter, flat_map, refl, sym, ap, ap₂, subst, ◌∙◌, append_assoc, append-nil, eqb-true, eq-eqb}
use Rattle.std.specs.List.{AllByRecursion}
use Rattle.std.proofs.lemmas.List.Elements.{filter-append}
use Rattle.std.proofs.lemmas.Grind.{flat_map-append}
use Rattle.zone_model.specs.declared.entry.Entry.{Entry}
use Rattle.zone_model.specs.History.{entries_of}
use Rattle.play_order.specs.Places.{Played, latest_first, publishes, in_order, waiting_entries, published}
use Rattle.play_order.specs.Play.{own_entries}
use Rattle.play_order.proofs.Order.{order_more, waits_more}
use Rattle.zone_model.specs.Replies.{AllOf}

-- the entries of each line are its thread's
abbrev pub OwnLines : List Played → Type 0
OwnLines lines = AllByRecursion (λ l. AllOf l.thread l.entries) lines

of_append : (t : ℕ) (es fs : List Entry) → AllOf t es → AllOf t fs → AllOf t (es ++ fs)
of_append t [] fs h k = k
of_append t (e ∷ es) fs h k = (h.0, of_append t es fs h.1 k)

of_cond : (t : ℕ) (b : Bool) (es fs : List Entry) → AllOf t es → AllOf t fs → AllOf t (cond b es fs)
of_cond t true es fs h k = h
of_cond t false es fs h k = k

-- a list of one thread's entries, seen by a thread
pub all_own : (t : ℕ) (es : List Entry) → AllOf t es → entries_of t es ≡ es
all_own t [] h = refl
all_own t (e ∷ es) h = rw (eq-eqb e.thread t h.0) (ap (λ es. e ∷ es) (all_own t es h.1))

none_own : (t u : ℕ) (es : List Entry) → (t == u) ≡ false → AllOf t es → entries_of u es ≡ []
none_own t u [] other h = refl
none_own t u (e ∷ es) other h = rw (ap (λ n. n == u) h.0 ∙ other) (none_own t u es other h.1)

pub of_more : (t : ℕ) (es fs : List Entry) → entries_of t (es ++ fs) ≡ entries_of t es ++ entries_of t fs
of_more t es fs = filter-append (λ (e : Entry). e.thread == t) es fs

pub own_append : (t : ℕ) (ds es : List Played) → own_entries t (ds ++ es) ≡ own_entries t ds ++ own_entries t es
own_append t ds es = ap (flat_map (λ (l : Played). l.entries)) (filter-append (λ (l : Played). l.thread == t) ds es) ∙ flat_map-append (λ (l : Played). l.entries) (filter (λ l. l.thread == t) ds) (filter (λ l. l.thread == t) es)

own_single : (t : ℕ) (x : Played) → own_entries t (x ∷ []) ≡ cond (x.thread == t) x.entries []
own_single t x = by (x.thread == t)
  where
    by : (b : Bool) → flat_map (λ (l : Played). l.entries) (cond b (x ∷ []) []) ≡ cond b x.entries []
    by true = append-nil x.entries
    by false = refl

module _ (pending : ℕ) where
  -- what is published and what waits of a thread are its lines' entries in their order
  pub record InTurn (ds : List Played) : Type 0 where
    pub waits : (t : ℕ) → AllOf t (waiting_entries pending t ds)
    pub own : (t : ℕ) → entries_of t (in_order pending ds) ++ waiting_entries pending t ds ≡ own_entries t ds

  module _ (ds : List Played) (x : Played) (at : InTurn ds) (mine : AllOf x.thread x.entries) where
    abbrev w : List Entry
    w = waiting_entries pending x.thread ds

    abbrev pub_now : Bool
    pub_now = publishes pending (latest_first [] ds) x

    -- what it publishes is its thread's
    published_own : AllOf x.thread (published pending ds x)
    published_own = of_append x.thread (cond pub_now w []) (cond x.local [] x.entries) (of_cond x.thread pub_now w [] (at.waits x.thread) tt) (of_cond x.thread x.local [] x.entries tt mine)

    left_own : (t : ℕ) → AllOf t (waiting_entries pending t (ds ++ x ∷ []))
    left_own t = subst (AllOf t) (sym (waits_more pending ds x t)) (by (x.thread == t) refl)
      where
        by : (c : Bool) → (x.thread == t) ≡ c → AllOf t (cond c (cond pub_now [] (waiting_entries pending t ds) ++ cond x.local x.entries []) (waiting_entries pending t ds))
        by true e = of_append t (cond pub_now [] (waiting_entries pending t ds)) (cond x.local x.entries []) (of_cond t pub_now [] (waiting_entries pending t ds) tt (at.waits t)) (of_cond t x.local x.entries [] (subst (λ u. AllOf u x.entries) (eqb-true x.thread t e) mine) tt)
        by false e = at.waits t

    -- the pieces of its thread, put together
    pieces : (l p : Bool) (j w e : List Entry) → (l ≡ false → p ≡ true) → (j ++ (cond p w [] ++ cond l [] e)) ++ (cond p [] w ++ cond l e []) ≡ (j ++ w) ++ e
    pieces false true j w e h = append-nil (j ++ (w ++ e)) ∙ sym (append_assoc j w e)
    pieces false false j w e h = absurd (bad (h refl))
      where
        bad : false ≡ true → ⊥
        bad h = cc (h)
    pieces true true j w e h = ap (λ v. (j ++ v) ++ e) (append-nil w)
    pieces true false j w e h = ap (λ v. v ++ (w ++ e)) (append-nil j) ∙ sym (append_assoc j w e)

    publishes_shared : x.local ≡ false → pub_now ≡ true
    publishes_shared h = rw (h) refl

    own_more : (t : ℕ) → entries_of t (in_order pending (ds ++ x ∷ [])) ++ waiting_entries pending t (ds ++ x ∷ []) ≡ own_entries t (ds ++ x ∷ [])
    own_more t =
        ap₂ (λ a b. a ++ b) (ap (entries_of t) (order_more pending ds x) ∙ of_more t (in_order pending ds) (published pending ds x)) (waits_more pending ds x t)
        ∙ by (x.thread == t) refl
        ∙ sym (own_append t ds (x ∷ []) ∙ ap (λ es. own_entries t ds ++ es) (own_single t x))
      where
        its : (u : ℕ) → x.thread ≡ u → (entries_of u (in_order pending ds) ++ entries_of u (published pending ds x)) ++ (cond pub_now [] (waiting_entries pending u ds) ++ cond x.local x.entries []) ≡ own_entries u ds ++ x.entries
        its u e = subst (λ u. (entries_of u (in_order pending ds) ++ entries_of u (published pending ds x)) ++ (cond pub_now [] (waiting_entries pending u ds) ++ cond x.local x.entries []) ≡ own_entries u ds ++ x.entries) e
            (ap (λ es. (entries_of x.thread (in_order pending ds) ++ es) ++ (cond pub_now [] w ++ cond x.local x.entries [])) (all_own x.thread (published pending ds x) published_own)
            ∙ pieces x.local pub_now (entries_of x.thread (in_order pending ds)) w x.entries publishes_shared
            ∙ ap (λ es. es ++ x.entries) (at.own x.thread))

        by : (c : Bool) → (x.thread == t) ≡ c
            → (entries_of t (in_order pending ds) ++ entries_of t (published pending ds x)) ++ cond c (cond pub_now [] (waiting_entries pending t ds) ++ cond x.local x.entries []) (waiting_entries pending t ds) ≡ own_entries t ds ++ cond c x.entries []
        by true e = its t (eqb-true x.thread t e)
        by false e = ap (λ es. (entries_of t (in_order pending ds) ++ es) ++ waiting_entries pending t ds) (none_own x.thread t (published pending ds x) e published_own)
            ∙ ap (λ es. es ++ waiting_entries pending t ds) (append-nil (entries_of t (in_order pending ds))) ∙ at.own t ∙ sym (append-nil (own_entries t ds))

    in_turn_more : InTurn (ds ++ x ∷ [])
    in_turn_more = record { waits = left_own; own = own_more }

  in_turn_on : (done later : List Played) → InTurn done → OwnLines later → InTurn (done ++ later)
  in_turn_on done [] at own = subst InTurn (sym (append-nil done)) at
  in_turn_on done (x ∷ later) at own = subst InTurn (append_assoc done (x ∷ []) later) (in_turn_on (done ++ x ∷ []) later (in_turn_more done x at own.0) own.1)

  pub in_turn : (ds : List Played) → OwnLines ds → InTurn ds
  in_turn ds own = in_turn_on [] ds (record { waits = λ t. tt; own = λ t. refl }) own
