-- The lines of a script
use Rattle.std.proofs.Common.{◌≡◌, ◌==◌, ◌<◌, ◌≤◌, ◌+◌, ◌-◌, ℕ, zero, suc, Bool, true, false, cond, not, ◌||◌, List, [], ◌∷◌, ◌++◌, Result, Ok, Err, IfOk, OnOk, filter, length, map, take, take-suc, slice_index_or, refl, sym, ap, ap₂, subst, ◌∙◌, arith, eq-eqb, eqb-true, eq-or-lt_of_le, inl, inr}
use Rattle.std.specs.List.{list_any, range_with_len}
use Rattle.std.specs.Option.{option_map_or}
use Rattle.std.proofs.lemmas.Bool.{eqb-false}
use Rattle.std.proofs.lemmas.List.{map-append}
use Rattle.std.proofs.lemmas.List.Elements.{filter-append}
use Rattle.az_base.specs.declared.misuse.NoMemory.{NoMemory}
use Rattle.az_base.specs.declared.options.Options.{Options}
use Rattle.call_words.specs.Ranges.{IsNamed}
use Rattle.heap_script.specs.declared.line.Line.{Line}
use Rattle.zone_model.specs.declared.act.Act.TheVariants as act
use Rattle.zone_model.specs.declared.call.Call.{Call}
use Rattle.zone_model.specs.declared.call.Call.TheVariants as call
use Rattle.zone_model.specs.declared.entry.Entry.{Entry}
use Rattle.zone_model.specs.declared.entry.Reply.{Reply}
use Rattle.zone_model.specs.declared.entry.Reply.TheVariants as reply
use Rattle.zone_model.specs.declared.entry.Stats.{Stats}
use Rattle.zone_model.specs.Bare.{bare_reply, bare_entry}
use Rattle.zone_model.specs.History.{Legal, Ends, is_cycle_step}
use Rattle.zone_model.specs.Phases.{May}
use Rattle.zone_model.specs.Replies.{SameButRoom}
use Rattle.zone_model.specs.State.{State, opening}
use Rattle.zone_model.specs.Stats.{stats_of}
use Rattle.zone_escape.specs.Publications.{is_leave, LeavesCycle}
use Rattle.zone_history.specs.Histories.{Request, IsHistoryOf, is_asked}
use Rattle.local_set.specs.LocalSets.{LocalSet}
use Rattle.play_order.specs.Play.{IsPlayOf, leaves, threads_of}
use Rattle.play_order.specs.Playing.{Seen, SoFar}
use Rattle.play_order.proofs.Playing.{so_far_none, so_far_all}
use Rattle.play_order.proofs.Rooms.{history_alike, play_alike}
use Rattle.play_order.proofs.Whole.{stands_in}
use Rattle.play_core.specs.Opening.{opening_seen}
use Rattle.play_core.specs.Playing.{requests, CanPlay, Turns, ends_of}
use Rattle.play_core.specs.Worlds.{WorldShown, AtEnd, IsQuiet, CyclesStay, threads_in, seen, is_running, Steps, IsBelow, Ascending}
use Rattle.play_core.proofs.Cycles.{quiet_still, plain_leaves}
use Rattle.play_core.proofs.Ending.{so_far_turns, turns_options}

-- whose lines there are
pub asked_is : (lines : List Line) (t : ℕ) → is_asked (requests lines) t ≡ list_any (λ line. line.thread == t) lines
asked_is [] t = refl
asked_is (line ∷ lines) t = ap (λ b. (line.thread == t) || b) (asked_is lines t)

-- a line asks its thread
pub asked_at : (lines : List Line) (i : ℕ) (line : Line) → i < length lines → line ≡ slice_index_or lines i line → is_asked (requests lines) line.thread ≡ true
asked_at [] i line lt is = absurd (omega (arith, lt))
asked_at (x ∷ lines) zero line lt is = ap (λ b. b || is_asked (requests lines) line.thread) (eq-eqb x.thread line.thread (ap (λ (l : Line). l.thread) (sym is)))
asked_at (x ∷ lines) (suc i) line lt is = ap (λ b. (x.thread == line.thread) || b) (asked_at lines i line (omega (arith, lt)) is) ∙ or_true (x.thread == line.thread)
  where
    or_true : (b : Bool) → (b || true) ≡ true
    or_true true = refl
    or_true false = refl

-- one more line
pub requests_more : (lines : List Line) (i : ℕ) (line : Line) → i < length lines → line ≡ slice_index_or lines i line → requests (take (i + 1) lines) ≡ requests (take i lines) ++ (line.thread, line.act) ∷ []
requests_more lines i line lt is =
    let next : i + 1 ≡ suc i = omega arith in
    ap (λ n. requests (take n lines)) next ∙ ap requests (take-suc lines i line lt ∙ ap (λ l. take i lines ++ l ∷ []) (sym is)) ∙ map-append (λ (l : Line). let x : Request = (l.thread, l.act) in x) (take i lines) (line ∷ [])

-- the threads
range_more : (a n : ℕ) → range_with_len a (suc n) ≡ range_with_len a n ++ (a + n) ∷ []
range_more a zero = ap (λ b. b ∷ []) (omega arith)
range_more a (suc n) = ap (λ xs. a ∷ xs) (range_more (a + 1) n ∙ ap (λ b. range_with_len (a + 1) n ++ b ∷ []) (omega arith))

pub threads_more : (p : ℕ → Bool) (n : ℕ) → 1 ≤ n → filter p (range_with_len 1 (n - 1)) ++ filter p (n ∷ []) ≡ filter p (range_with_len 1 ((n + 1) - 1))
threads_more p zero one = absurd (omega (arith, one))
threads_more p (suc n) one =
    let less : suc n - 1 ≡ n = omega arith in
    let more : (suc n + 1) - 1 ≡ suc n = omega arith in
    let at : 1 + n ≡ suc n = omega arith in
    ap (λ m. filter p (range_with_len 1 m) ++ filter p (suc n ∷ [])) less ∙ sym (filter-append p (range_with_len 1 n) (suc n ∷ []))
    ∙ ap (filter p) (ap (λ m. range_with_len 1 n ++ m ∷ []) (sym at) ∙ sym (range_more 1 n)) ∙ ap (λ m. filter p (range_with_len 1 m)) (sym more)

below_range : (t a n : ℕ) → t < a → IsBelow t (range_with_len a n)
below_range t a zero lt = tt
below_range t a (suc n) lt = (lt, below_range t (a + 1) n (omega (arith, lt)))

below_filter : (p : ℕ → Bool) (t : ℕ) (ts : List ℕ) → IsBelow t ts → IsBelow t (filter p ts)
below_filter p t [] h = tt
below_filter p t (u ∷ us) h = by (p u) (below_filter p t us h.1)
  where
    by : (b : Bool) → IsBelow t (filter p us) → IsBelow t (cond b (u ∷ filter p us) (filter p us))
    by true rest = (h.0, rest)
    by false rest = rest

ascending_filter : (p : ℕ → Bool) (ts : List ℕ) → Ascending ts → Ascending (filter p ts)
ascending_filter p [] h = tt
ascending_filter p (t ∷ ts) h = by (p t) (ascending_filter p ts h.1)
  where
    by : (b : Bool) → Ascending (filter p ts) → Ascending (cond b (t ∷ filter p ts) (filter p ts))
    by true rest = (below_filter p t ts h.0, rest)
    by false rest = rest

ascending_range : (a n : ℕ) → Ascending (range_with_len a n)
ascending_range a zero = tt
ascending_range a (suc n) = (below_range a (a + 1) n (omega arith), ascending_range (a + 1) n)

-- they ascend
pub threads_ascend : (rs : List Request) → Ascending (threads_of rs)
threads_ascend rs = ascending_filter (is_asked rs) (range_with_len 1 16) (ascending_range 1 16)

any_filter : (p : ℕ → Bool) (t : ℕ) (ts : List ℕ) → p t ≡ true → list_any (λ u. u == t) ts ≡ true → list_any (λ u. u == t) (filter p ts) ≡ true
any_filter p t [] has h = h
any_filter p t (u ∷ us) has h = by (u == t) refl h (any_filter p t us has)
  where
    kept : (b : Bool) → list_any (λ v. v == t) (filter p us) ≡ true → list_any (λ v. v == t) (cond b (u ∷ filter p us) (filter p us)) ≡ true
    kept true k = ap (λ c. (u == t) || c) k ∙ or_true (u == t)
      where
        or_true : (b : Bool) → (b || true) ≡ true
        or_true true = refl
        or_true false = refl
    kept false k = k

    by : (b : Bool) → (u == t) ≡ b → (b || list_any (λ v. v == t) us) ≡ true → (list_any (λ v. v == t) us ≡ true → list_any (λ v. v == t) (filter p us) ≡ true) → list_any (λ v. v == t) (filter p (u ∷ us)) ≡ true
    by true e k rest = ap (λ b. list_any (λ v. v == t) (cond b (u ∷ filter p us) (filter p us))) (ap p (eqb-true u t e) ∙ has) ∙ ap (λ b. b || list_any (λ v. v == t) (filter p us)) e
    by false e k rest = kept (p u) (rest k)

-- a thread that is asked for something runs
pub can_go : (w : WorldShown) (rs : List Request) (t : ℕ) → CanPlay w rs → is_asked rs t ≡ true → (1 ≤ t) × (t ≤ 16) → is_running w t ≡ true
can_go w rs t can asked range = can.running t ∙ any_filter (is_asked rs) t (range_with_len 1 16) asked (stands_in t 1 16 range.0 (let most = range.1 in omega (arith, most)))

named_stays : (c : Call) → IsNamed (act.Call c) → is_leave c ≡ false
named_stays call.Leave h = absurd h
named_stays c h = refl

-- what lines ask for is no step of a cycle by itself
pub named_quiet : (c : Call) → IsNamed (act.Call c) → is_cycle_step c ≡ false
named_quiet (call.Begin mode) h = absurd h
named_quiet call.Condemn h = absurd h
named_quiet call.Finalise h = absurd h
named_quiet call.Reclaim h = absurd h
named_quiet c h = refl

-- and so its thread may make it
pub named_may : (w : WorldShown) (t : ℕ) (c : Call) → IsNamed (act.Call c) → AtEnd w (λ z. May z t c)
named_may w t (call.Begin mode) h = absurd h
named_may w t call.Condemn h = absurd h
named_may w t call.Finalise h = absurd h
named_may w t call.Reclaim h = absurd h
named_may w t call.Leave h = absurd h
named_may w t _ h = λ z ends. tt

-- and goes on
pub can_still : (w after : WorldShown) (rs : List Request) (t : ℕ) (c : Call) (reply : Reply) → CanPlay w rs → is_running w t ≡ true → IsNamed (act.Call c) → Steps w after t c reply → (LeavesCycle c reply → CyclesStay w after) → threads_in after.locals ≡ threads_in w.locals → CanPlay after rs
can_still w after rs t c reply can run named steps leaves threads = record {
  threads = threads ∙ can.threads;
  running = λ u. by u (t == u) refl ∙ can.running u;
  quiet = quiet_still w after (leaves (plain_leaves c reply (named_quiet c named))) can.quiet;
}
  where
    by : (u : ℕ) (b : Bool) → (t == u) ≡ b → is_running after u ≡ is_running w u
    by u true e = subst (λ v. is_running after v ≡ is_running w v) (eqb-true t u e) (steps.running ∙ ap not (named_stays c named) ∙ sym run)
    by u false e = ap (λ o. option_map_or (λ (l : LocalSet). not l.ended) o false) (steps.others u e)

filter_all : (p : ℕ → Bool) (ts : List ℕ) → ((u : ℕ) → list_any (λ v. v == u) ts ≡ true → p u ≡ true) → filter p ts ≡ ts
filter_all p [] h = refl
filter_all p (t ∷ ts) h =
    ap (λ b. cond b (t ∷ filter p ts) (filter p ts)) (h t (ap (λ b. b || list_any (λ v. v == t) ts) (eq-eqb t t refl)))
    ∙ ap (λ us. t ∷ us) (filter_all p ts (λ u k. h u (ap (λ b. (t == u) || b) k ∙ or_true (t == u))))
  where
    or_true : (b : Bool) → (b || true) ≡ true
    or_true true = refl
    or_true false = refl

ends_are : (w : WorldShown) (rs : List Request) → CanPlay w rs → ends_of w ≡ leaves (threads_of rs)
ends_are w rs can = ap (λ ts. leaves (filter (is_running w) ts)) can.threads ∙ ap leaves (filter_all (is_running w) (threads_of rs) (λ u k. can.running u ∙ k))

-- the lines, and then the ends
pub play_of : (rs : List Request) (w after : WorldShown) (r : Result Stats NoMemory) → SoFar rs (seen w) → CanPlay w rs → OnOk r (Turns (seen w) (ends_of w) (seen after))
    → IfOk r (λ stats. (z : State) → Ends after.options after.journal z → stats ≡ stats_of z) → OnOk r (Legal after.options after.journal) → IfOk r (λ stats. IsPlayOf after.options rs after.journal stats)
play_of rs w after (Ok stats) so can turns counted legal =
    so_far_all rs (seen after) stats (so_far_turns rs (leaves (threads_of rs)) (seen w) (seen after) so (subst (λ ends. Turns (seen w) ends (seen after)) (ends_are w rs can) turns)) legal (counted legal.0 legal.1)
play_of rs w after (Err e) so can turns counted legal = tt

-- no cycle is open at first
pub quiet_opened : (w : WorldShown) (o : Options) → seen w ≡ opening_seen o → IsQuiet w
quiet_opened w o is z ends =
    let first : z ≡ opening w.options = subst (λ (es : List Entry). Ends w.options es z) (ap (λ (s : Seen). s.queues.journal) is) ends in
    ap (λ (y : State). y.cycle) first

-- at first
pub so_far_opened : (w : WorldShown) (o : Options) → seen w ≡ opening_seen o → SoFar [] (seen w)
so_far_opened w o is = so_far_none (seen w) (ap (λ (s : Seen). s.queues.journal) is) (λ t. ap (λ (s : Seen). s.queues.waits t) is)

bare_twice : (r : Reply) → bare_reply (bare_reply r) ≡ bare_reply r
bare_twice (reply.Reclaimed g) = refl
bare_twice (reply.Condemned g) = refl
bare_twice (reply.Settled g d) = refl
bare_twice r = refl

all_bare : (es : List Entry) → SameButRoom (map bare_entry es) es
all_bare [] = refl
all_bare (e ∷ es) = ap₂ (λ r fs. (let x : Entry = record { thread = e.thread; call = e.call; reply = r } in x) ∷ fs) (bare_twice e.reply) (all_bare es)

-- the history has its entries with their room
pub with_room : (o : Options) (rs : List Request) (journal es : List Entry) (stats : Stats) → map bare_entry es ≡ journal → IsPlayOf o rs journal stats → IsPlayOf o rs es stats
with_room o rs journal es stats is play = play_alike o rs journal es stats (subst (λ j. SameButRoom j es) is (all_bare es)) play

-- the same of a history
pub history_with_room : (o : Options) (rs : List Request) (journal es : List Entry) (stats : Stats) → map bare_entry es ≡ journal → IsHistoryOf o rs journal stats → IsHistoryOf o rs es stats
history_with_room o rs journal es stats is h = history_alike o rs journal es stats (subst (λ j. SameButRoom j es) is (all_bare es)) h

-- the options stay
pub options_of : (w after : WorldShown) (rs : List Request) (o : Options) (r : Result Stats NoMemory) → w.options ≡ o → OnOk r (Turns (seen w) rs (seen after)) → OnOk r (after.options ≡ o)
options_of w after rs o (Ok stats) is turns = turns_options (seen w) (seen after) rs turns ∙ is
options_of w after rs o (Err e) is turns = tt

-- what a world played of these lines is the play of the script
pub play_is : (o p : Options) (ls ms : List Line) (journal es : List Entry) (stats : Stats) → p ≡ o → ls ≡ ms → map bare_entry es ≡ journal → IsPlayOf p (requests ls) journal stats → IsPlayOf o (requests ms) es stats
play_is o p ls ms journal es stats options lines entries play =
    with_room o (requests ms) journal es stats entries (subst (λ q. IsPlayOf q (requests ms) journal stats) options (subst (λ (xs : List Line). IsPlayOf p (requests xs) journal stats) lines play))
