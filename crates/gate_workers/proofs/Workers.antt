-- From what each worker left to what the closed list has
use Rattle.std.proofs.Common.{◌≡◌, ◌<◌, ℕ, zero, suc, List, [], ◌∷◌, ◌++◌, map, length, slice_index_or, Result, Ok, All, refl, sym, ap, subst, ◌∙◌, arith}
use Rattle.zone_model.specs.declared.entry.Entry.{Entry}
use Rattle.zone_model.specs.History.{entries_of}
use Rattle.zone_gate.specs.Shown.{GateShown, SeatShown, IsSeatOf, new_seat}
use Rattle.gate_workers.specs.declared.worker.Job.{Job}
use Rattle.gate_workers.specs.Workers.{Does, EachDoes, HoldsLines, written}

cons_head : {X : Type 0} (a b : X) (xs ys : List X) → a ∷ xs ≡ b ∷ ys → a ≡ b
cons_head a b xs ys e = cc (e)

cons_tail : {X : Type 0} (a b : X) (xs ys : List X) → a ∷ xs ≡ b ∷ ys → xs ≡ ys
cons_tail a b xs ys e = cc (e)

pub none_left : {X : Type 0} (xs : List X) (n : ℕ) → n ≡ length xs → n ≡ 0 → xs ≡ []
none_left [] n same none = refl
none_left (x ∷ xs) n same none = absurd (omega (arith, same, none))

-- the seats of a gate, each still without entries
abbrev pub new_seats : GateShown → List ℕ → List SeatShown
new_seats g ts = map (new_seat g.id g.options) ts

module _ (g : GateShown) where
  pub each_does : {E : Type 0} (js : List Job) (rs : List (Result SeatShown E)) → length rs ≡ length js
      → ((i : ℕ) (d : Result SeatShown E) → i < length js → (j : Job) × ((e : Job) → slice_index_or js i e ≡ j) × Does g j (slice_index_or rs i d)) → EachDoes g js rs
  each_does [] [] same h = tt
  each_does [] (r ∷ rs) same h = cc (same)
  each_does (j ∷ js) [] same h = cc (same)
  each_does (j ∷ js) (r ∷ rs) same h =
      let first = h 0 r (omega arith) in (
        subst (λ x. Does g x r) (sym (first.1 j)) first.2,
        each_does js rs (omega (arith, same)) (λ i d k. h (suc i) d (omega (arith, k))),
      )

  -- the seats of all jobs are the gate's
  pub jobs_sit : (ts : List ℕ) (js : List Job) → map (λ (j : Job). j.seat) js ≡ new_seats g ts → All (λ (j : Job). IsSeatOf g j.seat) js
  jobs_sit [] [] h k d m = absurd (omega (arith, m))
  jobs_sit [] (j ∷ js) h k d m = cc (h)
  jobs_sit (t ∷ ts) [] h k d m = cc (h)
  jobs_sit (t ∷ ts) (j ∷ js) h zero d m =
      let is = cons_head j.seat (new_seat g.id g.options t) _ _ h in
      (ap (λ (s : SeatShown). s.gate) is, ap (λ (s : SeatShown). s.options) is)
  jobs_sit (t ∷ ts) (j ∷ js) h (suc k) d m = jobs_sit ts js (cons_tail j.seat (new_seat g.id g.options t) _ _ h) k d (omega (arith, m))

  -- the seat of a thread, with these lines as its own entries
  pub record Left (t : ℕ) (lines : List ℕ) (s : SeatShown) : Type 0 where
    pub of : IsSeatOf g s
    pub thread : s.thread ≡ t
    pub own : s.own ≡ written t lines

  -- so it is for each thread with the lines at its place
  abbrev pub AllLeft : {A : Type 0} → (A → List ℕ) → List ℕ → List A → List SeatShown → Type 0
  AllLeft items [] ls [] = Unit {0}
  AllLeft items (t ∷ ts) (l ∷ ls) (s ∷ ss) = Left t (items l) s × AllLeft items ts ls ss
  AllLeft items _ _ _ = ⊥

  module _ (E : Type 0) {A : Type 0} (lines_in : Job → A) (items : A → List ℕ) (agree : (j : Job) → items (lines_in j) ≡ j.lines.items) where
    left_one : (t : ℕ) (l : A) (j : Job) (s : SeatShown) → j.seat ≡ new_seat g.id g.options t → lines_in j ≡ l → Does {E = E} g j (Ok s) → Left t (items l) s
    left_one t l j s seat lines does = record {
      of = does.0;
      thread = does.1 ∙ ap (λ (x : SeatShown). x.thread) seat;
      own = does.2 ∙ ap (λ (x : SeatShown). x.own ++ written x.thread j.lines.items) seat ∙ ap (written t) (sym (agree j) ∙ ap items lines);
    }

    pub all_left : (ts : List ℕ) (ls : List A) (js : List Job) (ss : List SeatShown) → map (λ (j : Job). j.seat) js ≡ new_seats g ts → map lines_in js ≡ ls → EachDoes {E = E} g js (map Ok ss) → AllLeft items ts ls ss
    all_left [] [] [] [] seats lines each = tt
    all_left [] [] [] (s ∷ ss) seats lines each = absurd each
    all_left [] (l ∷ ls) [] ss seats lines each = cc (lines)
    all_left [] ls (j ∷ js) ss seats lines each = cc (seats)
    all_left (t ∷ ts) ls [] ss seats lines each = cc (seats)
    all_left (t ∷ ts) [] (j ∷ js) ss seats lines each = cc (lines)
    all_left (t ∷ ts) (l ∷ ls) (j ∷ js) [] seats lines each = absurd each
    all_left (t ∷ ts) (l ∷ ls) (j ∷ js) (s ∷ ss) seats lines each = (
      left_one t l j s (cons_head j.seat (new_seat g.id g.options t) _ _ seats) (cons_head (lines_in j) l _ _ lines) each.0,
      all_left ts ls js ss (cons_tail j.seat (new_seat g.id g.options t) _ _ seats) (cons_tail (lines_in j) l _ _ lines) each.1,
    )

  module _ {A : Type 0} (items : A → List ℕ) where
    pub left_sit : (ts : List ℕ) (ls : List A) (ss : List SeatShown) → AllLeft items ts ls ss → All (λ (s : SeatShown). IsSeatOf g s) ss
    left_sit [] ls [] h k d m = absurd (omega (arith, m))
    left_sit [] ls (s ∷ ss) h k d m = absurd h
    left_sit (t ∷ ts) [] ss h k d m = absurd h
    left_sit (t ∷ ts) (l ∷ ls) [] h k d m = absurd h
    left_sit (t ∷ ts) (l ∷ ls) (s ∷ ss) h zero d m = h.0.of
    left_sit (t ∷ ts) (l ∷ ls) (s ∷ ss) h (suc k) d m = left_sit ts ls ss h.1 k d (omega (arith, m))

    pub left_threads : (ts : List ℕ) (ls : List A) (ss : List SeatShown) → AllLeft items ts ls ss → map (λ (s : SeatShown). s.thread) ss ≡ ts
    left_threads [] ls [] h = refl
    left_threads [] ls (s ∷ ss) h = absurd h
    left_threads (t ∷ ts) [] ss h = absurd h
    left_threads (t ∷ ts) (l ∷ ls) [] h = absurd h
    left_threads (t ∷ ts) (l ∷ ls) (s ∷ ss) h = ap (λ (x : ℕ). x ∷ map (λ (s : SeatShown). s.thread) ss) h.0.thread ∙ ap (λ xs. t ∷ xs) (left_threads ts ls ss h.1)

    pub left_lines : (ts : List ℕ) (ls : List A) (ss : List SeatShown) (list : List Entry) → AllLeft items ts ls ss → All (λ (s : SeatShown). entries_of s.thread list ≡ s.own) ss → HoldsLines items ts ls list
    left_lines [] ls [] list h own = tt
    left_lines [] ls (s ∷ ss) list h own = absurd h
    left_lines (t ∷ ts) [] ss list h own = tt
    left_lines (t ∷ ts) (l ∷ ls) [] list h own = absurd h
    left_lines (t ∷ ts) (l ∷ ls) (s ∷ ss) list h own = (
      subst (λ u. entries_of u list ≡ written t (items l)) h.0.thread (own 0 s (omega arith) ∙ h.0.own),
      left_lines ts ls ss list h.1 (λ k d m. own (suc k) d (omega (arith, m))),
    )

-- where each thread's lines are the same numbers, so are its entries
pub same_lines : {A : Type 0} (items : A → List ℕ) (numbers : List ℕ) (ts : List ℕ) (ls : List A) (list : List Entry) → length ls ≡ length ts
    → All (λ l. items l ≡ numbers) ls → HoldsLines items ts ls list → All (λ t. entries_of t list ≡ written t numbers) ts
same_lines items numbers [] ls list long same holds k d m = absurd (omega (arith, m))
same_lines items numbers (t ∷ ts) [] list long same holds k d m = cc (long)
same_lines items numbers (t ∷ ts) (l ∷ ls) list long same holds zero d m = holds.0 ∙ ap (written t) (same 0 l (omega arith))
same_lines items numbers (t ∷ ts) (l ∷ ls) list long same holds (suc k) d m =
    same_lines items numbers ts ls list (omega (arith, long)) (λ j e h. same (suc j) e (omega (arith, h))) holds.1 k d (omega (arith, m))
