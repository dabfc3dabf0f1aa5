-- What a thread knows after others' entries
use Rattle.std.proofs.Common.{◌≡◌, ℕ, ◌==◌, Bool, true, false, cond, ◌||◌, List, [], ◌∷◌, ◌++◌, refl, sym, ap, subst, ◌∙◌}
use Rattle.std.proofs.lemmas.List.Elements.{filter-append}
use Rattle.std.specs.List.{list_any}
use mathlib.Core.List.{IsPrefix}
use Rattle.zone_model.specs.declared.entry.Entry.{Entry}
use Rattle.zone_model.specs.State.{State, opening}
use Rattle.zone_model.specs.History.{Run, Ends, entries_of}
use Rattle.zone_model.specs.Part.{part_of}
use Rattle.zone_model.specs.Phases.{NoneOf, CycleStays}
use Rattle.zone_model.specs.Sound.{Sound}
use Rattle.zone_model.proofs.Determined.{run_determined}
use Rattle.zone_model.proofs.Soundness.{step_sound, ends_sound}
use Rattle.zone_model.proofs.SoundLaws.{others_leave_cycle, others_parts}
use Rattle.zone_gate.specs.Shown.{SeatShown}
use Rattle.escape_plan.specs.Together.{Belongs}
use Rattle.local_set.specs.LocalSets.{LocalSet}
use Rattle.zone_escape.proofs.Shown.{belongs_still}
use Rattle.auto_zone.specs.Sessions.{AlwaysIn}

-- a run over two lists has a state between them
pub split_run : (z : State) (es later : List Entry) (last : State) → Run z (es ++ later) last → (mid : State) × Run z es mid × Run mid later last
split_run z [] later last r = (z, refl, r)
split_run z (e ∷ es) later last r = let s = split_run r.0 es later last r.2 in (s.0, (r.0, r.1, s.1), s.2)

or_first : (a b : Bool) → (a || b) ≡ false → a ≡ false
or_first true b h = h
or_first false b h = refl

or_second : (a b : Bool) → (a || b) ≡ false → b ≡ false
or_second true b h = cc (h)
or_second false b h = h

-- what the others do leaves the thread's part
run_part : (y : State) (later : List Entry) (z : State) (t : ℕ) → Sound y → Run y later z → NoneOf t later → part_of z t ≡ part_of y t
run_part y [] z t s run none = ap (λ w. part_of w t) run
run_part y (e ∷ es) z t s run none =
    run_part run.0 es z t (step_sound y e run.0 s run.1) run.2 (or_second (e.thread == t) (list_any (λ e. e.thread == t) es) none)
    ∙ others_parts y s e run.0 run.1 t (or_first (e.thread == t) (list_any (λ e. e.thread == t) es) none)

none_of : (t : ℕ) (es : List Entry) → entries_of t es ≡ [] → NoneOf t es
none_of t [] h = refl
none_of t (e ∷ es) h = by (e.thread == t) (none_of t es) h
  where
    by : (b : Bool) → (entries_of t es ≡ [] → NoneOf t es) → cond b (e ∷ entries_of t es) (entries_of t es) ≡ [] → (b || list_any (λ e. e.thread == t) es) ≡ false
    by true rest k = cc (k)
    by false rest k = rest k

nothing_more : {X : Type 0} (xs ys : List X) → xs ++ ys ≡ xs → ys ≡ []
nothing_more [] ys h = h
nothing_more (x ∷ xs) ys h = nothing_more xs ys cc

-- what others do leaves this of a thread's cycle
abbrev pub StaysSo : (State → ℕ → Type 0) → Type 0
StaysSo P = (t : ℕ) (y z : State) → CycleStays t y z → P y t → P z t

-- what a session has seen begins the list, and the list has no entry of its thread but those: so what waits is local from the thread's part of the list's state on, and its cycle is there where it was
pub still_belongs : {P : State → ℕ → Type 0} → StaysSo P → (s : SeatShown) (l : LocalSet) (list : List Entry) (z : State) → AlwaysIn P s l → IsPrefix s.seen list → entries_of s.thread list ≡ s.own → Ends s.options list z → Belongs l z × P z s.thread
still_belongs keeps s l list z always begins own ends =
    let later = begins.0 in
    let whole : Ends s.options (s.seen ++ later) z = subst (λ es. Ends s.options es z) (sym begins.1) ends in
    let parts = split_run (opening s.options) s.seen later z whole in
    let same : parts.0 ≡ always.state = run_determined (opening s.options) s.seen parts.0 always.state parts.1 always.ends in
    let run : Run always.state later z = subst (λ y. Run y later z) same parts.2 in
    let alone : entries_of s.thread s.seen ++ entries_of s.thread later ≡ entries_of s.thread s.seen =
    sym (filter-append (λ e. e.thread == s.thread) s.seen later) ∙ ap (entries_of s.thread) begins.1 ∙ own ∙ sym always.own in
    let none : NoneOf s.thread later = none_of s.thread later (nothing_more (entries_of s.thread s.seen) (entries_of s.thread later) alone) in
    let sound = ends_sound s.options s.seen always.state always.ends in
    let part : part_of z s.thread ≡ part_of always.state s.thread = run_part always.state later z s.thread sound run none in
    let stays = others_leave_cycle always.state sound later z s.thread run none in (
      belongs_still l always.state z (subst (λ t. part_of z t ≡ part_of always.state t) (sym always.thread) part) always.belongs,
      keeps s.thread always.state z stays always.phase,
    )
