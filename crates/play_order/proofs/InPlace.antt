-- Waiting lists stand where the places say
use Rattle.std.proofs.Common.{◌≡◌, ℕ, ◌==◌, Bool, true, false, cond, MatchBool, not, ◌||◌, List, [], ◌∷◌, ◌++◌, length, refl, sym, ap, ap₂, ◌∙◌, subst, append_assoc, append-nil, eqb-true}
use Rattle.play_order.specs.Places.{Played, Singles, latest_first, publishes, waiting_entries}
use Rattle.play_order.specs.Waiting.{Queues, InPlace, Waits, Publishes, Plays}
use Rattle.play_order.proofs.Order.{Counts, count_more, order_more, waits_more}

pub singles_more : (ds : List Played) (x : Played) → Singles ds → (x.local ≡ true → length x.entries ≡ 1) → Singles (ds ++ x ∷ [])
singles_more [] x s h = (h, tt)
singles_more (l ∷ ds) x s h = (s.0, singles_more ds x s.1 h)

-- as many lines wait as entries
pub counted : (pending : ℕ) (done later : List Played) → Counts pending done → Singles later → Counts pending (done ++ later)
counted pending done [] c s = subst (Counts pending) (sym (append-nil done)) c
counted pending done (x ∷ later) c s = subst (Counts pending) (append_assoc done (x ∷ []) later) (counted pending (done ++ x ∷ []) later (count_more pending done x c s.0) s.1)

pub all_counted : (pending : ℕ) (ds : List Played) → Singles ds → Counts pending ds
all_counted pending ds s = counted pending [] ds (λ t. refl) s

module _ (pending : ℕ) (ds : List Played) (x : Played) (d after : Queues) (at : InPlace pending ds d) (single : x.local ≡ true → length x.entries ≡ 1) where
  -- a line publishes where it isn't local, or the list is full
  publishing : (b : Bool) → x.local ≡ b → publishes pending (latest_first [] ds) x ≡ (not b || (length (d.waits x.thread) == pending))
  publishing b is = ap₂ (λ l n. not l || (n == pending)) is (all_counted pending ds at.single x.thread ∙ ap length (sym (at.waits x.thread)))

  -- the journal and its own waiting list, by what the line is and does
  abbrev Own : Bool → Bool → Type 0
  Own l b = (after.journal ≡ d.journal ++ (cond b (d.waits x.thread) [] ++ cond l [] x.entries)) × (after.waits x.thread ≡ cond b [] (d.waits x.thread) ++ cond l x.entries [])

  own : Plays pending d x after → Own x.local (publishes pending (latest_first [] ds) x)
  own p = by x.local refl p.does
    where
      local : (b : Bool) → MatchBool b ((after.journal ≡ d.journal ++ d.waits x.thread) × (after.waits x.thread ≡ x.entries)) ((after.journal ≡ d.journal) × (after.waits x.thread ≡ d.waits x.thread ++ x.entries)) → Own true b
      local true h = (h.0 ∙ ap (λ es. d.journal ++ es) (sym (append-nil (d.waits x.thread))), h.1)
      local false h = (h.0 ∙ sym (append-nil d.journal), h.1)

      by : (l : Bool) → x.local ≡ l → MatchBool l (Waits pending d x after) (Publishes d x after) → Own l (publishes pending (latest_first [] ds) x)
      by true is h = subst (Own true) (sym (publishing true is)) (local (length (d.waits x.thread) == pending) h)
      by false is h = subst (Own false) (sym (publishing false is)) (h.0, h.1)

  pub plays_in_place : Plays pending d x after → InPlace pending (ds ++ x ∷ []) after
  plays_in_place p =
      let o = own p in
      record {
        journal = o.0 ∙ ap₂ (λ j w. j ++ (cond (publishes pending (latest_first [] ds) x) w [] ++ cond x.local [] x.entries)) at.journal (at.waits x.thread) ∙ sym (order_more pending ds x);
        waits = λ t. by t (x.thread == t) refl ∙ sym (waits_more pending ds x t);
        single = singles_more ds x at.single single;
      }
    where
      its : (u : ℕ) → x.thread ≡ u → after.waits u ≡ cond (publishes pending (latest_first [] ds) x) [] (waiting_entries pending u ds) ++ cond x.local x.entries []
      its u e = subst (λ u. after.waits u ≡ cond (publishes pending (latest_first [] ds) x) [] (waiting_entries pending u ds) ++ cond x.local x.entries []) e
          ((own p).1 ∙ ap (λ w. cond (publishes pending (latest_first [] ds) x) [] w ++ cond x.local x.entries []) (at.waits x.thread))

      by : (t : ℕ) (c : Bool) → (x.thread == t) ≡ c → after.waits t ≡ cond c (cond (publishes pending (latest_first [] ds) x) [] (waiting_entries pending t ds) ++ cond x.local x.entries []) (waiting_entries pending t ds)
      by t true e = its t (eqb-true x.thread t e)
      by t false e = p.others t e ∙ at.waits t
