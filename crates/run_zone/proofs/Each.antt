-- From what each thread gave to what all did
use Rattle.std.proofs.Common.{◌≡◌, ◌<◌, ◌++◌, ℕ, zero, suc, List, [], ◌∷◌, map, length, slice_index_or, Result, Ok, All, Contains, refl, sym, ap, subst, ◌∙◌, arith}
use Rattle.az_base.specs.declared.options.Options.{Options}
use Rattle.zone_model.specs.declared.entry.Entry.{Entry}
use Rattle.zone_model.specs.declared.entry.Stats.{Stats}
use Rattle.zone_model.specs.History.{Ends, Legal, entries_of, Matches}
use Rattle.zone_gate.specs.Shown.{GateShown, IsSeatOf, SeatShown, new_seat}
use Rattle.zone_history.specs.Histories.{IsHistoryOf, asked_of}
use Rattle.heap_script.specs.declared.line.Line.{Line}
use Rattle.heap_script.specs.Scripts.{AllNamed, AllThreads}
use Rattle.play_order.specs.Play.{threads_of}
use Rattle.play_core.specs.Playing.{requests}
use Rattle.auto_zone.specs.Shown.{SessionShown}
use Rattle.auto_zone.specs.Sessions.{IsClosed}
use Rattle.zone_escape.specs.Cores.{IsUnused}
use Rattle.run_zone.specs.declared.job.Job.{Job}
use Rattle.run_zone.specs.Works.{acts_of}
use Rattle.run_zone.specs.Runs.{IsDealt, CanDo, Does, EachDoes}
use Rattle.run_zone.proofs.Dealt.{dealt_asked, dealt_named, asked_stands, no_entries}

pub each_does : {E : Type 0} (js : List Job) (rs : List (Result SeatShown E)) → length rs ≡ length js
    → ((i : ℕ) (d : Result SeatShown E) → i < length js → (j : Job) × ((e : Job) → slice_index_or js i e ≡ j) × Does j (slice_index_or rs i d)) → EachDoes js rs
each_does [] [] same h = tt
each_does [] (r ∷ rs) same h = cc (same)
each_does (j ∷ js) [] same h = cc (same)
each_does (j ∷ js) (r ∷ rs) same h =
    let first = h 0 r (omega arith) in (
      subst (λ x. Does x r) (sym (first.1 j)) first.2,
      each_does js rs (omega (arith, same)) (λ i d k. h (suc i) d (omega (arith, k))),
    )

cons_head : {X : Type 0} (a b : X) (xs ys : List X) → a ∷ xs ≡ b ∷ ys → a ≡ b
cons_head a b xs ys e = cc (e)

cons_tail : {X : Type 0} (a b : X) (xs ys : List X) → a ∷ xs ≡ b ∷ ys → xs ≡ ys
cons_tail a b xs ys e = cc (e)

pub nothing : {X : Type 0} (xs : List X) (n : ℕ) → n ≡ length xs → n ≡ 0 → xs ≡ []
nothing [] n same none = refl
nothing (x ∷ xs) n same none = absurd (omega (arith, same, none))

-- a session moves from what is left to what is done
pub session_moved : (js : List Job) (j : Job) (rest : List SessionShown) → map (λ (i : Job). i.session) js ++ j.session ∷ rest ≡ map (λ (i : Job). i.session) (js ++ j ∷ []) ++ rest
session_moved [] j rest = refl
session_moved (i ∷ js) j rest = ap (λ xs. i.session ∷ xs) (session_moved js j rest)

abbrev pub seat_of : Job → SeatShown
seat_of j = j.session.seat

-- the seats of the jobs are the zone's, in their order
pub job_seats : (z : GateShown) (ts : List ℕ) (js : List Job) (ss : List SessionShown) → map (λ (j : Job). j.session) js ≡ ss → map (λ (s : SessionShown). s.seat) ss ≡ map (new_seat z.id z.options) ts → map seat_of js ≡ map (new_seat z.id z.options) ts
job_seats z ts js ss is seats = flat js ∙ ap (map (λ (s : SessionShown). s.seat)) is ∙ seats
  where
    flat : (js : List Job) → map seat_of js ≡ map (λ (s : SessionShown). s.seat) (map (λ (j : Job). j.session) js)
    flat [] = refl
    flat (j ∷ js) = ap (λ xs. seat_of j ∷ xs) (flat js)

pub seats_of_zone : (z : GateShown) (o : Options) (ts : List ℕ) (ss : List SessionShown) → z.options ≡ o → map (λ (s : SessionShown). s.seat) ss ≡ map (new_seat z.id o) ts → map (λ (s : SessionShown). s.seat) ss ≡ map (new_seat z.id z.options) ts
seats_of_zone z o ts ss same h = h ∙ ap (λ o. map (new_seat z.id o) ts) (sym same)

-- so each of them can be done
pub can_do : (z : GateShown) (lines : List Line) (ts : List ℕ) (js : List Job) → map seat_of js ≡ map (new_seat z.id z.options) ts → All (IsDealt lines) js → AllNamed lines → All (CanDo z) js
can_do z lines ts [] seats dealt named k d m = absurd (omega (arith, m))
can_do z lines [] (j ∷ js) seats dealt named k d m = cc (seats)
can_do z lines (t ∷ ts) (j ∷ js) seats dealt named zero d m = (
  (ap (λ (s : SeatShown). s.gate) (cons_head (seat_of j) (new_seat z.id z.options t) _ _ seats), ap (λ (s : SeatShown). s.options) (cons_head (seat_of j) (new_seat z.id z.options t) _ _ seats)),
  subst AllNamed (sym (dealt 0 j (omega arith))) (dealt_named lines j.session.seat.thread named),
)
can_do z lines (t ∷ ts) (j ∷ js) seats dealt named (suc k) d m = can_do z lines ts js (cons_tail (seat_of j) (new_seat z.id z.options t) _ _ seats) (λ i e n. dealt (suc i) e (omega (arith, n))) named k d (omega (arith, m))

-- each seat afterwards is of the zone and of its thread, and its entries match the thread's lines
pub record Gone (z : GateShown) (lines : List Line) (t : ℕ) (s : SeatShown) : Type 0 where
  pub of : IsSeatOf z s
  pub thread : s.thread ≡ t
  pub matches : Matches s.own (asked_of (requests lines) t)

abbrev pub AllGone : GateShown → List Line → List ℕ → List SeatShown → Type 0
AllGone z lines [] [] = Unit {0}
AllGone z lines (t ∷ ts) (s ∷ ss) = Gone z lines t s × AllGone z lines ts ss
AllGone z lines _ _ = ⊥

gone_one : (E : Type 0) (z : GateShown) (lines : List Line) (t : ℕ) (j : Job) (s : SeatShown) → seat_of j ≡ new_seat z.id z.options t → IsDealt lines j → j.session.local.waiting ≡ [] → Does {E = E} j (Ok s) → Gone z lines t s
gone_one E z lines t j s seat dealt waiting does = record {
  of = (does.place.gate ∙ ap (λ (x : SeatShown). x.gate) seat, does.place.options ∙ ap (λ (x : SeatShown). x.options) seat);
  thread = does.place.thread ∙ ap (λ (x : SeatShown). x.thread) seat;
  matches = subst (Matches s.own) asked (subst (λ es. Matches es (acts_of j.lines.items)) (sym own) does.matches);
}
  where
    own : s.own ≡ does.entries
    own = does.own ∙ ap (λ w. (j.session.seat.own ++ w) ++ does.entries) waiting ∙ ap (λ (x : SeatShown). (x.own ++ []) ++ does.entries) seat

    asked : acts_of j.lines.items ≡ asked_of (requests lines) t
    asked = ap acts_of dealt ∙ dealt_asked lines j.session.seat.thread ∙ ap (λ (x : SeatShown). asked_of (requests lines) x.thread) seat

pub all_gone : (E : Type 0) (z : GateShown) (lines : List Line) (ts : List ℕ) (js : List Job) (ss : List SeatShown) → map seat_of js ≡ map (new_seat z.id z.options) ts → All (IsDealt lines) js → All (λ (j : Job). j.session.local.waiting ≡ []) js → EachDoes {E = E} js (map Ok ss) → AllGone z lines ts ss
all_gone E z lines [] [] [] seats dealt waits each = tt
all_gone E z lines [] [] (s ∷ ss) seats dealt waits each = absurd each
all_gone E z lines [] (j ∷ js) ss seats dealt waits each = cc (seats)
all_gone E z lines (t ∷ ts) [] ss seats dealt waits each = cc (seats)
all_gone E z lines (t ∷ ts) (j ∷ js) [] seats dealt waits each = absurd each
all_gone E z lines (t ∷ ts) (j ∷ js) (s ∷ ss) seats dealt waits each = (
  gone_one E z lines t j s (cons_head (seat_of j) (new_seat z.id z.options t) _ _ seats) (dealt 0 j (omega arith)) (waits 0 j (omega arith)) each.0,
  all_gone E z lines ts js ss (cons_tail (seat_of j) (new_seat z.id z.options t) _ _ seats) (λ k d m. dealt (suc k) d (omega (arith, m))) (λ k d m. waits (suc k) d (omega (arith, m))) each.1,
)

-- nothing waits in a new session
pub waits_none : (o : Options) (js : List Job) (ss : List SessionShown) → map (λ (j : Job). j.session) js ≡ ss → All (λ (s : SessionShown). IsUnused s.local o) ss → All (λ (j : Job). j.session.local.waiting ≡ []) js
waits_none o [] ss is fresh k d m = absurd (omega (arith, m))
waits_none o (j ∷ js) [] is fresh k d m = cc (is)
waits_none o (j ∷ js) (s ∷ ss) is fresh zero d m = ap (λ (x : SessionShown). x.local.waiting) (cons_head j.session s _ _ is) ∙ (fresh 0 s (omega arith)).out
waits_none o (j ∷ js) (s ∷ ss) is fresh (suc k) d m = waits_none o js ss (cons_tail j.session s _ _ is) (λ i e n. fresh (suc i) e (omega (arith, n))) k d (omega (arith, m))

-- so all threads of a new zone, whose workers were not refused, have gone
pub gone_of : (E : Type 0) (z : GateShown) (o : Options) (lines : List Line) (ts : List ℕ) (sessions : List SessionShown) (js : List Job) (rs : List (Result SeatShown E)) (ended : List SeatShown)
    → z.options ≡ o → map (λ (s : SessionShown). s.seat) sessions ≡ map (new_seat z.id o) ts → All (λ (s : SessionShown). IsUnused s.local o) sessions → map (λ (j : Job). j.session) js ≡ sessions → All (IsDealt lines) js → EachDoes js rs → rs ≡ map Ok ended → AllGone z lines ts ended
gone_of E z o lines ts sessions js rs ended same seats unused is dealt each all =
    all_gone E z lines ts js ended (job_seats z ts js sessions is (seats_of_zone z o ts sessions same seats)) dealt (waits_none o js sessions is unused) (subst (EachDoes js) all each)

pub gone_gate : (z : GateShown) (lines : List Line) (ts : List ℕ) (ss : List SeatShown) → AllGone z lines ts ss → All (λ (s : SeatShown). IsSeatOf z s) ss
gone_gate z lines [] [] h k d m = absurd (omega (arith, m))
gone_gate z lines [] (s ∷ ss) h k d m = absurd h
gone_gate z lines (t ∷ ts) [] h k d m = absurd h
gone_gate z lines (t ∷ ts) (s ∷ ss) h zero d m = h.0.of
gone_gate z lines (t ∷ ts) (s ∷ ss) h (suc k) d m = gone_gate z lines ts ss h.1 k d (omega (arith, m))

pub gone_threads : (z : GateShown) (lines : List Line) (ts : List ℕ) (ss : List SeatShown) → AllGone z lines ts ss → map (λ (s : SeatShown). s.thread) ss ≡ ts
gone_threads z lines [] [] h = refl
gone_threads z lines [] (s ∷ ss) h = absurd h
gone_threads z lines (t ∷ ts) [] h = absurd h
gone_threads z lines (t ∷ ts) (s ∷ ss) h = ap (λ (x : ℕ). x ∷ map (λ (s : SeatShown). s.thread) ss) h.0.thread ∙ ap (λ xs. t ∷ xs) (gone_threads z lines ts ss h.1)

-- the entries of each of the threads match its lines
gone_matches : (z : GateShown) (lines : List Line) (history : List Entry) (t : ℕ) (ts : List ℕ) (ss : List SeatShown) → AllGone z lines ts ss → All (λ (s : SeatShown). entries_of s.thread history ≡ s.own) ss → (k : ℕ) → k < length ts → slice_index_or ts k t ≡ t → Matches (entries_of t history) (asked_of (requests lines) t)
gone_matches z lines history t [] ss h own k m is = absurd (omega (arith, m))
gone_matches z lines history t (u ∷ ts) [] h own k m is = absurd h
gone_matches z lines history t (u ∷ ts) (s ∷ ss) h own zero m is =
    let thread = h.0.thread ∙ is in
    subst (λ v. Matches (entries_of v history) (asked_of (requests lines) t)) thread (subst (λ es. Matches es (asked_of (requests lines) t)) (sym (own 0 s (omega arith))) (subst (λ v. Matches s.own (asked_of (requests lines) v)) is h.0.matches))
gone_matches z lines history t (u ∷ ts) (s ∷ ss) h own (suc k) m is = gone_matches z lines history t ts ss h.1 (λ i d n. own (suc i) d (omega (arith, n))) k (omega (arith, m)) is

-- what is left of a zone whose threads have gone is a history of the lines
pub gone_history : (z : GateShown) (o : Options) (lines : List Line) (ts threads : List ℕ) (ss : List SeatShown) (history : List Entry) (stats : Stats) → z.options ≡ o → z.threads ≡ threads → ts ≡ threads → threads ≡ threads_of (requests lines) → AllThreads lines → AllGone z lines ts ss → IsClosed z.options z.threads ss history stats → IsHistoryOf o (requests lines) history stats
gone_history z o lines ts threads ss history stats options all same asked within gone closed =
    let legal = subst (λ p. Legal p history) options closed.legal in
    record {
      last = legal.0;
      legal = legal.1;
      counted = closed.counted legal.0 (subst (λ p. Ends p history legal.0) (sym options) legal.1);
      own = λ t has. let c = subst (λ us. Contains us t) (sym (same ∙ asked)) (asked_stands lines t within has) in gone_matches z lines history t ts ss gone closed.own c.0 c.1 c.2;
      others = λ t none. no_entries lines t history (subst (λ us. All (λ (e : Entry). Contains us e.thread) history) (all ∙ asked) closed.others) none;
    }

pub as_long : (z : GateShown) (ts : List ℕ) (ss : List SessionShown) → map (λ (s : SessionShown). s.seat) ss ≡ map (new_seat z.id z.options) ts → length ss ≡ length ts
as_long z [] [] h = refl
as_long z [] (s ∷ ss) h = cc (h)
as_long z (t ∷ ts) [] h = cc (h)
as_long z (t ∷ ts) (s ∷ ss) h = ap suc (as_long z ts ss (cons_tail s.seat (new_seat z.id z.options t) _ _ h))
