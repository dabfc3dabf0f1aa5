-- What `play` makes of what is asked for is a history of it, and the only one in this order
use Rattle.std.proofs.Common.{◌≡◌, ℕ, zero, suc, ◌+◌, ◌<◌, ◌≤◌, ◌==◌, ◌||◌, Bool, true, false, cond, MatchBool, All, List, [], ◌∷◌, ◌++◌, map, filter, flat_map, refl, sym, ap, ap₂, subst, ◌∙◌, append_assoc, append-nil, arith, eqb-true, ne_eqb, true≢false, eq-or-lt_of_le, inl, inr}
use Rattle.std.proofs.lemmas.Bool.{eqb-false}
use Rattle.std.specs.List.{AllByRecursion, list_any, range_with_len}
use Rattle.std.proofs.lemmas.List.Elements.{recursion_from_All}
use Rattle.az_base.specs.declared.options.Options.{Options}
use Rattle.zone_model.specs.declared.act.Act.TheVariants as act
use Rattle.zone_model.specs.declared.call.Call.TheVariants as call
use Rattle.zone_model.specs.declared.entry.Entry.{Entry}
use Rattle.zone_model.specs.declared.entry.Stats.{Stats}
use Rattle.zone_model.specs.Bare.{bare_entry}
use Rattle.zone_model.specs.State.{opening}
use Rattle.zone_model.specs.Stats.{stats_of}
use Rattle.zone_model.specs.History.{Ends, Matches, entries_of, calls_of}
use Rattle.zone_history.specs.Histories.{Request, is_asked, asked_of, IsHistoryOf}
use Rattle.play_order.specs.Places.{Played}
use Rattle.zone_model.specs.Replies.{NoCondemn}
use Rattle.play_order.specs.Play.{threads_of, leaves, with_leaves, own_entries, IsProper, AreTurns, IsPlayOf}
use Rattle.play_order.proofs.Threads.{own_append}
use Rattle.play_order.proofs.Ends.{InRange, turns_split, own_of, range_has, played_threads}
use Rattle.zone_model.proofs.Alone.{runs_once}
use Rattle.play_order.proofs.Once.{NoCondemns, order_once}

-- a number of a range stands in its list
pub stands_in : (t a n : ℕ) → a ≤ t → t < a + n → list_any (λ u. u == t) (range_with_len a n) ≡ true
stands_in t a zero low high = absurd (omega (arith, low, high))
stands_in t a (suc n) low high = by (a == t) refl (stands_in t (a + 1) n)
  where
    by : (b : Bool) → (a == t) ≡ b → (a + 1 ≤ t → t < (a + 1) + n → list_any (λ u. u == t) (range_with_len (a + 1) n) ≡ true) → ((a == t) || list_any (λ u. u == t) (range_with_len (a + 1) n)) ≡ true
    by true e rest = rw (e) refl
    by false e rest = let other = eqb-false a t e in rw (e) (rest (past a t low other) (omega (arith, high)))
      where
        past : (a t : ℕ) → a ≤ t → (a ≡ t → ⊥) → a + 1 ≤ t
        past a t low other = elim (eq-or-lt_of_le low) [
          | inl same ↦ absurd (other same)
          | inr less ↦ omega (arith, less)
        ]

in_range : (lines : List Request) → AllByRecursion IsProper lines → InRange lines
in_range [] h = tt
in_range (l ∷ lines) h = (stands_in l.0 1 16 h.0.0 (let most = h.0.1 in omega (arith, most)), in_range lines h.1)

leave_plain : NoCondemn (act.Call call.Leave)
leave_plain h = cc (h)

leaves_plain : (ts : List ℕ) → NoCondemns (leaves ts)
leaves_plain [] = tt
leaves_plain (t ∷ ts) = (leave_plain, leaves_plain ts)

plain_more : (lines rest : List Request) → AllByRecursion IsProper lines → NoCondemns rest → NoCondemns (lines ++ rest)
plain_more [] rest h k = k
plain_more (l ∷ lines) rest h k = (h.0.2, plain_more lines rest h.1 k)

-- two plays of one list of requests are one, but for the room of their lists, and end alike
pub play_once : (o : Options) (requests : List Request) (h g : List Entry) (s u : Stats) → All IsProper requests → IsPlayOf o requests h s → IsPlayOf o requests g u → (map bare_entry h ≡ map bare_entry g) × (s ≡ u)
play_once o requests h g s u proper p q =
    let each = recursion_from_All _ requests proper in
    let range = in_range requests each in
    let same = order_once o o.pending (with_leaves requests) p.lines q.lines (plain_more requests (leaves (threads_of requests)) each (leaves_plain (threads_of requests)))
    (record { legal = (p.last, subst (λ es. Ends o es p.last) p.ordered p.legal); own = own_of o.pending o requests p.lines range p.turns })
    (record { legal = (q.last, subst (λ es. Ends o es q.last) q.ordered q.legal); own = own_of o.pending o requests q.lines range q.turns })
    p.turns q.turns in
    let one = ap (map bare_entry) p.ordered ∙ same ∙ sym (ap (map bare_entry) q.ordered) in
    (one, p.counted ∙ ap stats_of (runs_once (opening o) h g p.last q.last p.legal q.legal one) ∙ sym q.counted)

-- the lines that were played match what was asked for
matches_lines : (o : Options) (t : ℕ) (ds : List Played) (lines : List Request) (ms : List Played) (tail : List Entry) → AreTurns o ds lines ms → calls_of tail ≡ call.Leave ∷ [] → Matches (own_entries t ms ++ tail) (asked_of lines t)
matches_lines o t ds [] [] tail h k = k
matches_lines o t ds [] (m ∷ ms) tail h k = absurd h
matches_lines o t ds (l ∷ lines) [] tail h k = absurd h
matches_lines o t ds (l ∷ lines) (m ∷ ms) tail h k = by (m.thread == t) (l.0 == t) (ap (λ n. n == t) h.0.thread) (matches_lines o t (ds ++ m ∷ []) lines ms tail h.1 k)
  where
    by : (b c : Bool) → b ≡ c → Matches (own_entries t ms ++ tail) (asked_of lines t)
        → Matches (flat_map (λ (l : Played). l.entries) (cond b (m ∷ filter (λ (l : Played). l.thread == t) ms) (filter (λ (l : Played). l.thread == t) ms)) ++ tail)
        (map (λ (l : Request). l.1) (cond c (l ∷ filter (λ (l : Request). l.0 == t) lines) (filter (λ (l : Request). l.0 == t) lines)))
    by true true e rest = (m.entries, own_entries t ms ++ tail, append_assoc m.entries (own_entries t ms) tail, h.0.group, rest)
    by false false e rest = rest
    by true false e rest = absurd (true≢false e)
    by false true e rest = absurd (true≢false (sym e))

-- the number stands once in the list
Once : ℕ → List ℕ → Type 0
Once t [] = ⊥
Once t (u ∷ ts) = MatchBool (u == t) (list_any (λ v. v == t) ts ≡ false) (Once t ts)

left_no : (o : Options) (t : ℕ) (ds : List Played) (ts : List ℕ) (vs : List Played) → AreTurns o ds (leaves ts) vs → list_any (λ u. u == t) ts ≡ false → own_entries t vs ≡ []
left_no o t ds [] [] h k = refl
left_no o t ds [] (v ∷ vs) h k = absurd h
left_no o t ds (u ∷ ts) [] h k = absurd h
left_no o t ds (u ∷ ts) (v ∷ vs) h k = by (u == t) refl k (left_no o t (ds ++ v ∷ []) ts vs h.1)
  where
    by : (b : Bool) → (u == t) ≡ b → (b || list_any (λ u. u == t) ts) ≡ false → (list_any (λ u. u == t) ts ≡ false → own_entries t vs ≡ []) → own_entries t (v ∷ vs) ≡ []
    by true e k rest = absurd (true≢false k)
    by false e k rest = rw (ap (λ n. n == t) h.0.thread ∙ e) (rest k)

left_once : (o : Options) (t : ℕ) (ds : List Played) (ts : List ℕ) (vs : List Played) → AreTurns o ds (leaves ts) vs → Once t ts → calls_of (own_entries t vs) ≡ call.Leave ∷ []
unfolding Once
left_once o t ds [] [] h k = absurd k
left_once o t ds [] (v ∷ vs) h k = absurd h
left_once o t ds (u ∷ ts) [] h k = absurd h
left_once o t ds (u ∷ ts) (v ∷ vs) h k = by (u == t) refl k (left_once o t (ds ++ v ∷ []) ts vs h.1)
  where
    by : (b : Bool) → (u == t) ≡ b → MatchBool b (list_any (λ v. v == t) ts ≡ false) (Once t ts) → (Once t ts → calls_of (own_entries t vs) ≡ call.Leave ∷ []) → calls_of (own_entries t (v ∷ vs)) ≡ call.Leave ∷ []
    by true e k rest = rw (ap (λ n. n == t) h.0.thread ∙ e) (ap calls_of (ap (λ es. v.entries ++ es) (left_no o t (ds ++ v ∷ []) ts vs h.1 k) ∙ append-nil v.entries) ∙ h.0.group)
    by false e k rest = rw (ap (λ n. n == t) h.0.thread ∙ e) (rest k)

filter_no : (p : ℕ → Bool) (t : ℕ) (xs : List ℕ) → list_any (λ u. u == t) xs ≡ false → list_any (λ u. u == t) (filter p xs) ≡ false
filter_no p t [] k = k
filter_no p t (x ∷ xs) k = by (x == t) refl (p x) k (filter_no p t xs)
  where
    by : (a : Bool) → (x == t) ≡ a → (b : Bool) → (a || list_any (λ u. u == t) xs) ≡ false → (list_any (λ u. u == t) xs ≡ false → list_any (λ u. u == t) (filter p xs) ≡ false)
        → list_any (λ u. u == t) (cond b (x ∷ filter p xs) (filter p xs)) ≡ false
    by true e b k rest = absurd (true≢false k)
    by false e true k rest = rw (e) (rest k)
    by false e false k rest = rest k

filter_without : (p : ℕ → Bool) (t : ℕ) (xs : List ℕ) → p t ≡ false → list_any (λ u. u == t) (filter p xs) ≡ false
filter_without p t [] h = refl
filter_without p t (x ∷ xs) h = by (x == t) refl (p x) refl (filter_without p t xs h)
  where
    by : (a : Bool) → (x == t) ≡ a → (b : Bool) → p x ≡ b → list_any (λ u. u == t) (filter p xs) ≡ false → list_any (λ u. u == t) (cond b (x ∷ filter p xs) (filter p xs)) ≡ false
    by true e true f rest = absurd (true≢false (sym f ∙ ap p (eqb-true x t e) ∙ h))
    by a e false f rest = rest
    by false e true f rest = rw (e) rest

filter_once : (p : ℕ → Bool) (t : ℕ) (xs : List ℕ) → p t ≡ true → Once t xs → Once t (filter p xs)
unfolding Once
filter_once p t [] h k = k
filter_once p t (x ∷ xs) h k = by (x == t) refl (p x) refl k (filter_once p t xs h)
  where
    by : (a : Bool) → (x == t) ≡ a → (b : Bool) → p x ≡ b → MatchBool a (list_any (λ u. u == t) xs ≡ false) (Once t xs) → (Once t xs → Once t (filter p xs)) → Once t (cond b (x ∷ filter p xs) (filter p xs))
    by true e true f k rest = rw (e) (filter_no p t xs k)
    by true e false f k rest = absurd (true≢false (sym h ∙ ap p (sym (eqb-true x t e)) ∙ f))
    by false e true f k rest = rw (e) (rest k)
    by false e false f k rest = rest k

above : (t a n : ℕ) → t < a → list_any (λ u. u == t) (range_with_len a n) ≡ false
above t a zero h = refl
above t a (suc n) h = rw (ne_eqb a t (λ e. omega (arith, h, e))) (above t (a + 1) n (omega (arith, h)))

range_once : (t a n : ℕ) → list_any (λ u. u == t) (range_with_len a n) ≡ true → Once t (range_with_len a n)
unfolding Once
range_once t a zero h = absurd (true≢false (sym h))
range_once t a (suc n) h = by (a == t) refl h (range_once t (a + 1) n)
  where
    by : (b : Bool) → (a == t) ≡ b → (b || list_any (λ u. u == t) (range_with_len (a + 1) n)) ≡ true → (list_any (λ u. u == t) (range_with_len (a + 1) n) ≡ true → Once t (range_with_len (a + 1) n))
        → MatchBool (a == t) (list_any (λ u. u == t) (range_with_len (a + 1) n) ≡ false) (Once t (range_with_len (a + 1) n))
    by true e h rest = rw (e) (above t (a + 1) n (let k = eqb-true a t e in omega (arith, k)))
    by false e h rest = rw (e) (rest h)

nothing_own : (t : ℕ) (ms : List Played) → list_any (λ (l : Played). l.thread == t) ms ≡ false → own_entries t ms ≡ []
nothing_own t [] h = refl
nothing_own t (m ∷ ms) h = by (m.thread == t) h (nothing_own t ms)
  where
    by : (b : Bool) → (b || list_any (λ (l : Played). l.thread == t) ms) ≡ false → (list_any (λ (l : Played). l.thread == t) ms ≡ false → own_entries t ms ≡ [])
        → flat_map (λ (l : Played). l.entries) (cond b (m ∷ filter (λ (l : Played). l.thread == t) ms) (filter (λ (l : Played). l.thread == t) ms)) ≡ []
    by true h rest = absurd (true≢false h)
    by false h rest = rest h

-- what `play` makes of what is asked for is a history of it
pub play_history : (o : Options) (lines : List Request) (h : List Entry) (s : Stats) → All IsProper lines → IsPlayOf o lines h s → IsHistoryOf o lines h s
play_history o lines h s proper p =
    let range = in_range lines (recursion_from_All _ lines proper) in
    let parts = turns_split o [] lines (leaves (threads_of lines)) p.lines p.turns in
    let own : (t : ℕ) → entries_of t h ≡ own_entries t parts.0 ++ own_entries t parts.1 =
    λ t. ap (entries_of t) p.ordered ∙ own_of o.pending o lines p.lines range p.turns t ∙ ap (own_entries t) parts.2 ∙ own_append t parts.0 parts.1 in
    record {
      last = p.last;
      legal = p.legal;
      counted = p.counted;
      own = λ t has. subst (λ es. Matches es (asked_of lines t)) (sym (own t))
          (matches_lines o t [] lines parts.0 (own_entries t parts.1) parts.3 (left_once o t parts.0 (threads_of lines) parts.1 parts.4 (filter_once (is_asked lines) t (range_with_len 1 16) has (range_once t 1 16 (range_has t lines range has)))));
      others = λ t none. own t ∙ ap₂ (λ a b. a ++ b) (nothing_own t parts.0 (played_threads o t [] lines parts.0 parts.3 ∙ none)) (left_no o t parts.0 (threads_of lines) parts.1 parts.4 (filter_without (is_asked lines) t (range_with_len 1 16) none));
    }
