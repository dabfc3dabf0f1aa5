-- At the end nothing waits
use Rattle.std.proofs.Common.{◌≡◌, ℕ, ◌==◌, ◌||◌, Bool, true, false, cond, List, [], ◌∷◌, ◌++◌, filter, refl, sym, ap, ap₂, subst, ◌∙◌, append_assoc, append-nil, eqb-true, eq-eqb, true≢false, ◌⊎◌, inl, inr}
use Rattle.std.specs.List.{AllByRecursion, list_any, range_with_len}
use Rattle.std.proofs.lemmas.List.Elements.{recursion_from_All}
use Rattle.az_base.specs.declared.options.Options.{Options}
use Rattle.zone_model.specs.History.{entries_of}
use Rattle.zone_history.specs.Histories.{Request, is_asked}
use Rattle.play_order.specs.Places.{Played, latest_first, publishes, in_order, waiting_entries}
use Rattle.play_order.specs.Play.{threads_of, leaves, with_leaves, own_entries, AreTurns}
use Rattle.play_order.proofs.Order.{waits_more}
use Rattle.play_order.proofs.Threads.{OwnLines, in_turn}

-- turns in two parts
pub turns_split : (o : Options) (ds : List Played) (a b : List Request) (ls : List Played) → AreTurns o ds (a ++ b) ls
    → (ms : List Played) × (vs : List Played) × (ls ≡ ms ++ vs) × AreTurns o ds a ms × AreTurns o (ds ++ ms) b vs
turns_split o ds [] b ls h = ([], ls, refl, tt, subst (λ es. AreTurns o es b ls) (sym (append-nil ds)) h)
turns_split o ds (x ∷ a) b [] h = absurd h
turns_split o ds (x ∷ a) b (l ∷ ls) h =
    let rest = turns_split o (ds ++ l ∷ []) a b ls h.1 in
    (l ∷ rest.0, rest.1, ap (λ es. l ∷ es) rest.2, (h.0, rest.3), subst (λ es. AreTurns o es b rest.1) (append_assoc ds (l ∷ []) rest.0) rest.4)

pub turns_own : (o : Options) (ds : List Played) (a : List Request) (ls : List Played) → AreTurns o ds a ls → OwnLines ls
turns_own o ds [] [] h = tt
turns_own o ds [] (l ∷ ls) h = absurd h
turns_own o ds (x ∷ a) [] h = absurd h
turns_own o ds (x ∷ a) (l ∷ ls) h = (recursion_from_All _ l.entries h.0.own, turns_own o (ds ++ l ∷ []) a ls h.1)

module _ (pending : ℕ) where
  -- a line that isn't local leaves nothing of its thread, and else what waited
  its_none : (ds : List Played) (x : Played) (t : ℕ) → x.local ≡ false → x.thread ≡ t → waiting_entries pending t (ds ++ x ∷ []) ≡ []
  its_none ds x t shared is = waits_more pending ds x t ∙ by (eq t is)
    where
      eq : (t : ℕ) → x.thread ≡ t → (x.thread == t) ≡ true
      eq t is = eq-eqb x.thread t is

      by : (x.thread == t) ≡ true → cond (x.thread == t) (cond (publishes pending (latest_first [] ds) x) [] (waiting_entries pending t ds) ++ cond x.local x.entries []) (waiting_entries pending t ds) ≡ []
      by e = rw (e, shared) refl

  still_none : (ds : List Played) (x : Played) (t : ℕ) → x.local ≡ false → waiting_entries pending t ds ≡ [] → waiting_entries pending t (ds ++ x ∷ []) ≡ []
  still_none ds x t shared none = waits_more pending ds x t ∙ by (x.thread == t)
    where
      by : (b : Bool) → cond b (cond (publishes pending (latest_first [] ds) x) [] (waiting_entries pending t ds) ++ cond x.local x.entries []) (waiting_entries pending t ds) ≡ []
      by true = rw (shared) refl
      by false = none

  others_none : (ds : List Played) (x : Played) (t : ℕ) → (x.thread == t) ≡ false → waiting_entries pending t ds ≡ [] → waiting_entries pending t (ds ++ x ∷ []) ≡ []
  others_none ds x t other none = waits_more pending ds x t ∙ ap (λ b. cond b (cond (publishes pending (latest_first [] ds) x) [] (waiting_entries pending t ds) ++ cond x.local x.entries []) (waiting_entries pending t ds)) other ∙ none

  -- of a thread without lines nothing waits
  quiet : (t : ℕ) (ds later : List Played) → list_any (λ (l : Played). l.thread == t) later ≡ false → waiting_entries pending t ds ≡ [] → waiting_entries pending t (ds ++ later) ≡ []
  quiet t ds [] h none = ap (waiting_entries pending t) (append-nil ds) ∙ none
  quiet t ds (x ∷ later) h none =
      let parts = or_false (x.thread == t) (list_any (λ (l : Played). l.thread == t) later) h in
      ap (waiting_entries pending t) (sym (append_assoc ds (x ∷ []) later)) ∙ quiet t (ds ++ x ∷ []) later parts.1 (others_none ds x t parts.0 none)
    where
      or_false : (a b : Bool) → (a || b) ≡ false → (a ≡ false) × (b ≡ false)
      or_false true b h = absurd (true≢false h)
      or_false false b h = (refl, h)

  -- after the leave of its thread nothing waits
  left_none : (o : Options) (t : ℕ) (ds : List Played) (ts : List ℕ) (vs : List Played) → AreTurns o ds (leaves ts) vs → (waiting_entries pending t ds ≡ []) ⊎ (list_any (λ u. u == t) ts ≡ true) → waiting_entries pending t (ds ++ vs) ≡ []
  left_none o t ds [] [] h (inl none) = ap (waiting_entries pending t) (append-nil ds) ∙ none
  left_none o t ds [] [] h (inr some) = absurd (true≢false (sym some))
  left_none o t ds [] (v ∷ vs) h s = absurd h
  left_none o t ds (u ∷ ts) [] h s = absurd h
  left_none o t ds (u ∷ ts) (v ∷ vs) h s = ap (waiting_entries pending t) (sym (append_assoc ds (v ∷ []) vs)) ∙ left_none o t (ds ++ v ∷ []) ts vs h.1 (next s)
    where
      by : (b : Bool) → (u == t) ≡ b → (b || list_any (λ u. u == t) ts) ≡ true → (waiting_entries pending t (ds ++ v ∷ []) ≡ []) ⊎ (list_any (λ u. u == t) ts ≡ true)
      by true e some = inl (its_none ds v t h.0.local (h.0.thread ∙ eqb-true u t e))
      by false e some = inr some

      next : (waiting_entries pending t ds ≡ []) ⊎ (((u == t) || list_any (λ u. u == t) ts) ≡ true) → (waiting_entries pending t (ds ++ v ∷ []) ≡ []) ⊎ (list_any (λ u. u == t) ts ≡ true)
      next (inl none) = inl (still_none ds v t h.0.local none)
      next (inr some) = by (u == t) refl some

-- the lines that were played have the threads of what was asked for
pub played_threads : (o : Options) (t : ℕ) (ds : List Played) (lines : List Request) (ms : List Played) → AreTurns o ds lines ms → list_any (λ (l : Played). l.thread == t) ms ≡ is_asked lines t
played_threads o t ds [] [] h = refl
played_threads o t ds [] (m ∷ ms) h = absurd h
played_threads o t ds (l ∷ lines) [] h = absurd h
played_threads o t ds (l ∷ lines) (m ∷ ms) h = ap₂ (λ a b. a || b) (ap (λ n. n == t) h.0.thread) (played_threads o t (ds ++ m ∷ []) lines ms h.1)

-- each line's thread is 1 to 16
abbrev pub InRange : List Request → Type 0
InRange lines = AllByRecursion (λ (l : Request). list_any (λ u. u == l.0) (range_with_len 1 16) ≡ true) lines

pub range_has : (t : ℕ) (lines : List Request) → InRange lines → is_asked lines t ≡ true → list_any (λ u. u == t) (range_with_len 1 16) ≡ true
range_has t [] h k = absurd (true≢false (sym k))
range_has t (l ∷ lines) h k = by (l.0 == t) refl k (range_has t lines h.1)
  where
    by : (b : Bool) → (l.0 == t) ≡ b → (b || is_asked lines t) ≡ true → (is_asked lines t ≡ true → list_any (λ u. u == t) (range_with_len 1 16) ≡ true) → list_any (λ u. u == t) (range_with_len 1 16) ≡ true
    by true e k rest = subst (λ n. list_any (λ u. u == n) (range_with_len 1 16) ≡ true) (eqb-true l.0 t e) h.0
    by false e k rest = rest k

kept : (p : ℕ → Bool) (t : ℕ) (xs : List ℕ) → p t ≡ true → list_any (λ u. u == t) xs ≡ true → list_any (λ u. u == t) (filter p xs) ≡ true
kept p t [] h k = k
kept p t (x ∷ xs) h k = by (x == t) refl (p x) refl k (kept p t xs h)
  where
    by : (a : Bool) → (x == t) ≡ a → (b : Bool) → p x ≡ b → (a || list_any (λ u. u == t) xs) ≡ true → (list_any (λ u. u == t) xs ≡ true → list_any (λ u. u == t) (filter p xs) ≡ true)
        → list_any (λ u. u == t) (cond b (x ∷ filter p xs) (filter p xs)) ≡ true
    by true e true f k rest = rw (e) refl
    by true e false f k rest = absurd (true≢false (sym h ∙ ap p (sym (eqb-true x t e)) ∙ f))
    by false e true f k rest = rw (e) (rest k)
    by false e false f k rest = rest k

or_falls : (t : ℕ) (lines : List Request) (ms : List Played) (o : Options) → AreTurns o [] lines ms → is_asked lines t ≡ false → list_any (λ (l : Played). l.thread == t) ms ≡ false
or_falls t lines ms o turns h = played_threads o t [] lines ms turns ∙ h

-- at the end nothing waits
pub all_published : (pending : ℕ) (o : Options) (lines : List Request) (ls : List Played) → InRange lines → AreTurns o [] (with_leaves lines) ls → (t : ℕ) → waiting_entries pending t ls ≡ []
all_published pending o lines ls range turns t =
    let parts = turns_split o [] lines (leaves (threads_of lines)) ls turns in
    ap (waiting_entries pending t) parts.2 ∙ left_none pending o t parts.0 (threads_of lines) parts.1 parts.4 (by (is_asked lines t) refl parts.0 parts.3)
  where
    by : (b : Bool) → is_asked lines t ≡ b → (ms : List Played) → AreTurns o [] lines ms → (waiting_entries pending t ms ≡ []) ⊎ (list_any (λ u. u == t) (threads_of lines) ≡ true)
    by true h ms turns = inr (kept (is_asked lines) t (range_with_len 1 16) h (range_has t lines range h))
    by false h ms turns = inl (quiet pending t [] ms (or_falls t lines ms o turns h) refl)

-- so the history has each thread's entries in the order of its lines
pub own_of : (pending : ℕ) (o : Options) (lines : List Request) (ls : List Played) → InRange lines → AreTurns o [] (with_leaves lines) ls → (t : ℕ) → entries_of t (in_order pending ls) ≡ own_entries t ls
own_of pending o lines ls range turns t =
    sym (append-nil (entries_of t (in_order pending ls)))
    ∙ ap (λ es. entries_of t (in_order pending ls) ++ es) (sym (all_published pending o lines ls range turns t))
    ∙ (in_turn pending ls (turns_own o [] (with_leaves lines) ls turns)).own t
