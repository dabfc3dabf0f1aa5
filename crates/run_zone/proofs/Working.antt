-- The lines of a session, one after another
use Rattle.std.proofs.Common.{◌≡◌, ◌≤◌, ◌+◌, ◌⊎◌, inl, inr, ℕ, false, List, [], ◌∷◌, ◌++◌, length, refl, sym, ap, subst, ◌∙◌, append_assoc, append-nil, Result, Ok, Err, OnErr, MatchResult, arith, take, slice_index_or, ◌<◌, zero, suc}
use Rattle.std.proofs.Common.{drop, take-append-drop}
use Rattle.std.proofs.lemmas.List.{length-append, map-append}
use mathlib.Core.List.{IsPrefix}
use Rattle.az_base.specs.declared.options.Options.{Options}
use Rattle.zone_model.specs.declared.call.Call.{Call}
use Rattle.zone_model.specs.declared.call.Call.TheVariants as call
use Rattle.zone_model.specs.declared.act.Act.TheVariants as act
use Rattle.zone_model.specs.declared.entry.Entry.{Entry}
use Rattle.zone_model.specs.declared.entry.Reply.{Reply}
use Rattle.zone_model.specs.declared.entry.Reply.TheVariants as reply
use Rattle.zone_model.specs.History.{calls_of, Matches}
use Rattle.zone_model.specs.declared.act.Act.{Act}
use Rattle.zone_model.specs.Part.{Part, part_after, opening_part, PartStep, PartRun, Solo, is_local}
use Rattle.zone_gate.specs.declared.cut.Cut.{Cut}
use Rattle.zone_gate.specs.Shown.{SeatShown}
use Rattle.local_set.specs.declared.errors.LocalErr.{LocalErr}
use Rattle.local_set.specs.declared.errors.LocalErr.TheVariants as err
use Rattle.auto_zone.specs.Shown.{SessionShown}
use Rattle.local_set.specs.LocalSets.{LocalSet, part_in}
use Rattle.local_set.specs.Calls.{Answers, Same, entry_of}
use Rattle.auto_zone.specs.Sessions.{SamePlace, Called, CalledOff, Synced, NotSynced, Left}
use Rattle.zone_gate.proofs.Begins.{prefix_self, prefix_trans}
use Rattle.auto_zone.proofs.Places.{place_on, place_same}
use Rattle.heap_script.specs.declared.line.Line.{Line}
use Rattle.run_zone.specs.Works.{acts_of, Groups, SharedAt, CutsFit, last_length, NewCuts, Lines, Stopped, Worked}

abbrev options_of : Part → Options
options_of p = p.options

after_options : (p : Part) (c : Call) (r : Reply) → (part_after p c r).options ≡ p.options
after_options p (call.New to layout actions) (reply.Block id) = refl
after_options p (call.Load to from at) (reply.Block b) = refl
after_options p (call.GetRoot to root) (reply.Block b) = refl
after_options p (call.Take to id) (reply.Block b) = refl
after_options p (call.GetAssoc to object key) (reply.Block b) = refl
after_options p (call.ReadWeak to loc) (reply.Block b) = refl
after_options p (call.Store into at from) reply.Done = refl
after_options p (call.Put into at number) reply.Done = refl
after_options p (call.Copy to from) reply.Done = refl
after_options p (call.DropReg reg) reply.Done = refl
after_options p call.CollectLocal (reply.Reclaimed gone) = refl
after_options p call.Leave (reply.Reclaimed gone) = refl
after_options p _ _ = refl

own_options : (p : Part) (c : Call) (r : Reply) (after : Part) → PartStep p c r after → after.options ≡ p.options
own_options p c (reply.Misuse m) after h = ap options_of h
own_options p c reply.Busy after h = ap options_of h
own_options p c r after h = ap options_of h.2 ∙ after_options _ c r

run_options : (p : Part) (es : List Entry) (last : Part) → PartRun p es last → last.options ≡ p.options
run_options p [] last r = ap options_of r
run_options p (e ∷ es) last r = run_options r.0 es last r.2 ∙ own_options p e.call e.reply r.0 r.1

pub same_options : (s : SeatShown) (l : LocalSet) → Solo s.options (s.own ++ l.waiting) (part_in l) → l.options ≡ s.options
same_options s l solo = run_options (opening_part s.options) (s.own ++ l.waiting) (part_in l) solo

fit_longer : (o : Options) (own more : List Entry) → IsPrefix own more → (m : ℕ) (xs : List Cut) → CutsFit o own m xs → CutsFit o more m xs
fit_longer o own more longer m [] fit = tt
fit_longer o own more longer m (x ∷ xs) fit = (one fit.0, fit_longer o own more longer x.length xs fit.1)
  where
    one : SharedAt o own x.length ⊎ (m + o.pending ≤ x.length) → SharedAt o more x.length ⊎ (m + o.pending ≤ x.length)
    one (inl h) = inl (h.0, h.1, h.2 ++ longer.0, h.3, sym longer.1 ∙ ap (λ w. w ++ longer.0) h.4 ∙ append_assoc h.0 (h.1 ∷ h.2) longer.0, h.5, h.6, h.7)
    one (inr h) = inr h

fit_append : (o : Options) (own : List Entry) (m : ℕ) (xs ys : List Cut) → CutsFit o own m xs → CutsFit o own (last_length m xs) ys → CutsFit o own m (xs ++ ys)
fit_append o own m [] ys a b = b
fit_append o own m (x ∷ xs) ys a b = (a.0, fit_append o own x.length xs ys a.1 b)

last_append : (m : ℕ) (xs ys : List Cut) → last_length m (xs ++ ys) ≡ last_length (last_length m xs) ys
last_append m [] ys = refl
last_append m (x ∷ xs) ys = last_append x.length xs ys

pub cuts_none : (s : SeatShown) → NewCuts s s
cuts_none s = ([], sym (append-nil s.cuts), tt, refl)

pub cuts_on : (s t u : SeatShown) → t.options ≡ s.options → IsPrefix t.own u.own → NewCuts s t → NewCuts t u → NewCuts s u
cuts_on s t u same longer a b =
    let later : CutsFit s.options u.own (last_length (length s.own) a.0) b.0 = subst (λ n. CutsFit s.options u.own n b.0) (sym a.3) (subst (λ o. CutsFit o u.own (length t.own) b.0) same b.2) in (
      a.0 ++ b.0,
      b.1 ∙ ap (λ w. w ++ b.0) a.1 ∙ append_assoc s.cuts a.0 b.0,
      fit_append s.options u.own (length s.own) a.0 b.0 (fit_longer s.options t.own u.own longer (length s.own) a.0 a.2) later,
      last_append (length s.own) a.0 b.0 ∙ ap (λ n. last_length n b.0) a.3 ∙ b.3,
    )

pub groups_on : (es fs : List Entry) (cs ds : List Act) → Groups es cs → Groups fs ds → Groups (es ++ fs) (cs ++ ds)
groups_on es fs [] ds a b = subst (λ w. Groups (w ++ fs) ds) (sym a) b
groups_on es fs (c ∷ cs) ds a b = (a.0, a.1 ++ fs, ap (λ w. w ++ fs) a.2 ∙ append_assoc a.0 a.1 fs, a.3, groups_on a.1 fs cs ds a.4 b)

matches_groups : (es : List Entry) (e : Entry) (cs : List Act) → Groups es cs → e.call ≡ call.Leave → Matches (es ++ e ∷ []) cs
matches_groups es e [] a leave = ap (λ w. calls_of (w ++ e ∷ [])) a ∙ ap (λ c. c ∷ []) leave
matches_groups es e (c ∷ cs) a leave = (a.0, a.1 ++ e ∷ [], ap (λ w. w ++ e ∷ []) a.2 ∙ append_assoc a.0 a.1 (e ∷ []), a.3, matches_groups a.1 e cs a.4 leave)

pub lines_none : (s : SeatShown) (l : LocalSet) → Lines s s l l []
lines_none s l = record {
  place = place_same s;
  entries = [];
  groups = refl;
  own = sym (append-nil (s.own ++ l.waiting));
  grows = prefix_self s.own;
  begins = prefix_self s.seen;
  cuts = cuts_none s;
}

pub lines_on : (s t u : SeatShown) (l k m : LocalSet) (cs ds : List Act) → Lines s t l k cs → Lines t u k m ds → Lines s u l m (cs ++ ds)
lines_on s t u l k m cs ds a b = record {
  place = place_on s t u a.place b.place;
  entries = a.entries ++ b.entries;
  groups = groups_on a.entries b.entries cs ds a.groups b.groups;
  own = b.own ∙ ap (λ w. w ++ b.entries) a.own ∙ append_assoc (s.own ++ l.waiting) a.entries b.entries;
  grows = prefix_trans s.own t.own u.own a.grows b.grows;
  begins = prefix_trans s.seen t.seen u.seen a.begins b.begins;
  cuts = cuts_on s t u a.place.options b.grows a.cuts b.cuts;
}

pub stopped_on : (s t u : SeatShown) (l k m : LocalSet) (cs ds all : List Act) → Lines s t l k cs → Stopped t u k m [] → all ≡ cs ++ ds → Stopped s u l m all
stopped_on s t u l k m cs ds all a b parts = record {
  place = place_on s t u a.place b.place;
  front = cs;
  rest = ds;
  parts = parts;
  entries = a.entries;
  groups = a.groups;
  own = b.own ∙ ap (λ w. (t.own ++ k.waiting) ++ w) (nothing b.entries b.front b.rest b.parts b.groups) ∙ append-nil (t.own ++ k.waiting) ∙ a.own;
  begins = prefix_trans s.seen t.seen u.seen a.begins b.begins;
}
  where
    nothing : (es : List Entry) (front rest : List Act) → [] ≡ front ++ rest → Groups es front → es ≡ []
    nothing es [] rest h is = is
    nothing es (c ∷ front) rest h is = cc (h)

-- a local call
pub lines_local : (s u : SeatShown) (l m : LocalSet) (c : Call) (r : Reply) → u ≡ s → Answers l m c (Ok r) → Lines s u l m (act.Call c ∷ [])
lines_local s u l m c r same made = subst (λ x. Lines s x l m (act.Call c ∷ [])) (sym same) (record {
  place = place_same s;
  entries = entry_of l.thread c r ∷ [];
  groups = (entry_of l.thread c r ∷ [], [], refl, refl, refl);
  own = ap (λ w. s.own ++ w) made.waiting ∙ sym (append_assoc s.own l.waiting (entry_of l.thread c r ∷ []));
  grows = prefix_self s.own;
  begins = prefix_self s.seen;
  cuts = cuts_none s;
})

-- a local call that was not made
pub lines_same : (s u : SeatShown) (l m : LocalSet) → u ≡ s → Same l m → Lines s u l m []
lines_same s u l m same k = subst (λ x. Lines s x l m []) (sym same) (record {
  place = place_same s;
  entries = [];
  groups = refl;
  own = ap (λ (w : LocalSet). s.own ++ w.waiting) k ∙ sym (append-nil (s.own ++ l.waiting));
  grows = prefix_self s.own;
  begins = prefix_self s.seen;
  cuts = cuts_none s;
})

one_more : {X : Type 0} (front : List X) (e : X) (own : List X) → own ≡ front ++ e ∷ [] → length own ≡ length front + 1
one_more front e own is = ap length is ∙ length-append front (e ∷ [])

pub shared_cut : (s u : SeatShown) (l : LocalSet) (e : Entry) → u.own ≡ s.own ++ l.waiting ++ e ∷ [] → Solo s.options (s.own ++ l.waiting) (part_in l) → is_local (part_in l) e.call ≡ false → (x : Cut) → u.cuts ≡ s.cuts ++ x ∷ [] → x.length ≡ length u.own → NewCuts s u
shared_cut s u l e own solo not_local x cuts long = (x ∷ [], cuts, (inl (s.own ++ l.waiting, e, [], part_in l, own, sym (long ∙ one_more (s.own ++ l.waiting) e u.own own), solo, not_local), tt), long)

pub lines_called : (s u : SeatShown) (l m : LocalSet) (c : Call) (r : Reply) → SamePlace s u → is_local (part_in l) c ≡ false → Called s u l m c r → Lines s u l m (act.Call c ∷ [])
lines_called s u l m c r place not_local k = record {
  place = place;
  entries = entry_of s.thread c r ∷ [];
  groups = (entry_of s.thread c r ∷ [], [], refl, refl, refl);
  own = ap (λ w. u.own ++ w) k.out ∙ append-nil u.own ∙ k.own;
  grows = (l.waiting ++ entry_of s.thread c r ∷ [], sym (append_assoc s.own l.waiting (entry_of s.thread c r ∷ [])) ∙ sym k.own);
  begins = k.begins;
  cuts = shared_cut s u l (entry_of s.thread c r) k.own k.solo not_local k.cut.0 k.cut.1 k.cut.2;
}

pub lines_synced : (s u : SeatShown) (l m : LocalSet) → SamePlace s u → l.options.pending ≤ length l.waiting → Synced s u l m → Lines s u l m []
lines_synced s u l m place full k = record {
  place = place;
  entries = [];
  groups = refl;
  own = ap (λ w. u.own ++ w) k.out ∙ append-nil u.own ∙ k.own ∙ sym (append-nil (s.own ++ l.waiting));
  grows = (l.waiting, sym k.own);
  begins = k.begins;
  cuts = (k.cut.0 ∷ [], k.cut.1, (inr long, tt), k.cut.2);
}
  where
    long : length s.own + s.options.pending ≤ k.cut.0.length
    long =
        let size : length u.own ≡ length s.own + length l.waiting = ap length k.own ∙ length-append s.own l.waiting in
        let room : s.options.pending ≤ length l.waiting = subst (λ (o : Options). o.pending ≤ length l.waiting) (same_options s l k.solo) full in
        let cut = k.cut.2 in
        omega (arith, size, room, cut)

pub stopped_off : (s u : SeatShown) (l m : LocalSet) → SamePlace s u → CalledOff s u l m → Stopped s u l m []
stopped_off s u l m place k = record {
  place = place;
  front = [];
  rest = [];
  parts = refl;
  entries = [];
  groups = refl;
  own = k.own ∙ sym (append-nil (s.own ++ l.waiting));
  begins = k.begins;
}

pub stopped_not_synced : (s u : SeatShown) (l m : LocalSet) → SamePlace s u → NotSynced s u l m → Stopped s u l m []
stopped_not_synced s u l m place k = record {
  place = place;
  front = [];
  rest = [];
  parts = refl;
  entries = [];
  groups = refl;
  own = ap (λ (w : LocalSet). u.own ++ w.waiting) k.local ∙ ap (λ w. w ++ l.waiting) k.own ∙ sym (append-nil (s.own ++ l.waiting));
  begins = k.begins;
}

pub stopped_lines : (s u : SeatShown) (l m : LocalSet) → Lines s u l m [] → Stopped s u l m []
stopped_lines s u l m k = record { place = k.place; front = []; rest = []; parts = refl; entries = k.entries; groups = k.groups; own = k.own; begins = k.begins }

pub worked : (s t u : SeatShown) (l k : LocalSet) (cs : List Act) → Lines s t l k cs → SamePlace t u → Left t u k → Worked s u l cs
worked s t u l k cs a place left =
    let e = left.own.0 in
    let own : u.own ≡ (s.own ++ l.waiting) ++ (a.entries ++ e ∷ []) = left.own.1 ∙ ap (λ w. w ++ e ∷ []) a.own ∙ append_assoc (s.own ++ l.waiting) a.entries (e ∷ []) in
    record {
      place = place_on s t u a.place place;
      entries = a.entries ++ e ∷ [];
      matches = matches_groups a.entries e cs a.groups left.own.2;
      own = own;
      begins = prefix_trans s.seen t.seen u.seen a.begins left.begins;
      cuts = cuts_on s t u a.place.options (k.waiting ++ e ∷ [], sym (append_assoc t.own k.waiting (e ∷ [])) ∙ sym left.own.1) a.cuts
          (shared_cut t u k e left.own.1 left.solo (subst (λ c. is_local (part_in k) c ≡ false) (sym left.own.2) refl) left.cut.0 left.cut.1 left.cut.2);
    }

pub on_err : {T E P : Type 0} (r : Result T E) → P → OnErr r P
on_err (Ok x) p = tt
on_err (Err e) p = p

-- a local call that was refused
pub refused_same : (l m : LocalSet) (c : Call) (e : LocalErr) → Answers l m c (Err e) → Same l m
refused_same l m c err.NotLocal h = h.1
refused_same l m c err.PendingFull h = h.2
refused_same l m c err.NoMemory h = h.2

pub stopped_local : (s u : SeatShown) (l m : LocalSet) (c : Call) (e : LocalErr) → Answers l m c (Err e) × (u ≡ s) → Stopped s u l m []
stopped_local s u l m c e h = stopped_lines s u l m (lines_same s u l m h.1 (refused_same l m c e h.0))

pub left_or_stopped : {E : Type 0} (r : Result SeatShown (SessionShown × E)) (s t : SeatShown) (l k : LocalSet) (cs : List Act) → Lines s t l k cs
    → MatchResult r (λ u. SamePlace t u × Left t u k) (λ e. SamePlace t e.0.seat × CalledOff t e.0.seat k e.0.local)
    → MatchResult r (λ u. Worked s u l cs) (λ e. Stopped s e.0.seat l e.0.local cs)
left_or_stopped (Ok u) s t l k cs a h = worked s t u l k cs a h.0 h.1
left_or_stopped (Err e) s t l k cs a h = stopped_on s t e.0.seat l k e.0.local cs [] cs a (stopped_off t e.0.seat k e.0.local h.0 h.1) (sym (append-nil cs))

take_next : {X : Type 0} (xs : List X) (i n : ℕ) (x : X) → n ≡ i + 1 → i < length xs → x ≡ slice_index_or xs i x → take i xs ++ x ∷ [] ≡ take n xs
take_next xs i zero x e m h = absurd (omega (arith, e))
take_next [] i (suc n) x e m h = absurd (omega (arith, m))
take_next (y ∷ xs) zero (suc zero) x e m h = ap (λ z. z ∷ []) h
take_next (y ∷ xs) zero (suc (suc n)) x e m h = absurd (omega (arith, e))
take_next (y ∷ xs) (suc i) (suc n) x e m h = ap (λ w. y ∷ w) (take_next xs i n x (omega (arith, e)) (omega (arith, m)) h)

take_one : {X : Type 0} (xs : List X) (i : ℕ) (x : X) → i < length xs → x ≡ slice_index_or xs i x → take i xs ++ x ∷ [] ≡ take (i + 1) xs
take_one xs i x m h = take_next xs i (i + 1) x refl m h

pub acts_split : (lines : List Line) (i : ℕ) → acts_of lines ≡ acts_of (take i lines) ++ acts_of (drop i lines)
acts_split lines i = ap acts_of (sym (take-append-drop i lines)) ∙ map-append (λ (line : Line). line.act) (take i lines) (drop i lines)

pub acts_one : (lines : List Line) (i : ℕ) (x : Line) → i < length lines → x ≡ slice_index_or lines i x → acts_of (take i lines) ++ x.act ∷ [] ≡ acts_of (take (i + 1) lines)
acts_one lines i x m h = sym (map-append (λ (line : Line). line.act) (take i lines) (x ∷ [])) ∙ ap acts_of (take_one lines i x m h)
