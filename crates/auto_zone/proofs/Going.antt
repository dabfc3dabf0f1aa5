-- A collection, turn after turn
use Rattle.std.proofs.Common.{◌≡◌, ◌≤◌, ◌<◌, ◌+◌, inl, inr, ℕ, zero, suc, Bool, true, false, List, [], ◌∷◌, ◌++◌, length, replicate, refl, sym, ap, subst, ◌∙◌, append_assoc, append-nil, arith, Result, Ok, IfOk}
use Rattle.std.proofs.lemmas.List.{map-append, length-append, replicate-append-replicate}
use Rattle.az_base.specs.declared.action.Mode.{Mode}
use Rattle.zone_model.specs.declared.call.Call.{Call}
use Rattle.zone_model.specs.declared.call.Call.TheVariants as call
use Rattle.zone_model.specs.declared.entry.Entry.{Entry}
use Rattle.zone_model.specs.declared.entry.Reply.{Reply}
use Rattle.zone_model.specs.declared.entry.Reply.TheVariants as reply
use Rattle.zone_model.specs.History.{calls_of}
use Rattle.zone_model.specs.Part.{Solo}
use Rattle.zone_gate.specs.declared.cut.Cut.{Cut}
use Rattle.zone_gate.specs.Shown.{SeatShown}
use Rattle.local_set.specs.LocalSets.{LocalSet, part_in}
use Rattle.local_set.specs.Calls.{entry_of}
use Rattle.auto_zone.specs.Stages.{IsSettled, begun_reply}
use Rattle.auto_zone.specs.Sessions.{Always, SamePlace, Called}
use Rattle.auto_zone.specs.Collects.{IsSlice, Greyless, Slices, from_on, lengths, Went, OneSlice, NewSlices, IsNarrow, Steps, Closes, Turns, TurnsOf, PlacesIn, last_of, Collected}
use Rattle.auto_zone.proofs.Locally.{always_solo}
use Rattle.zone_gate.proofs.Begins.{prefix_self, prefix_trans}
use Rattle.auto_zone.proofs.Places.{place_on, place_same}

pub went_none : (s : SeatShown) → Went s s [] []
went_none s = record { place = place_same s; own = sym (append-nil s.own); begins = prefix_self s.seen; cuts = sym (append-nil s.cuts) }

pub went_on : (s t u : SeatShown) (es fs : List Entry) (xs ys : List Cut) → Went s t es xs → Went t u fs ys → Went s u (es ++ fs) (xs ++ ys)
went_on s t u es fs xs ys a b = record {
  place = place_on s t u a.place b.place;
  own = b.own ∙ ap (λ w. w ++ fs) a.own ∙ append_assoc s.own es fs;
  begins = prefix_trans s.seen t.seen u.seen a.begins b.begins;
  cuts = b.cuts ∙ ap (λ w. w ++ ys) a.cuts ∙ append_assoc s.cuts xs ys;
}

called_went : (s u : SeatShown) (l m : LocalSet) (c : Call) (r : Reply) → l.waiting ≡ [] → SamePlace s u → (k : Called s u l m c r) → Went s u (entry_of s.thread c r ∷ []) (k.cut.0 ∷ [])
called_went s u l m c r out place k = record {
  place = place;
  own = k.own ∙ ap (λ w. (s.own ++ w) ++ entry_of s.thread c r ∷ []) out ∙ ap (λ w. w ++ entry_of s.thread c r ∷ []) (append-nil s.own);
  begins = k.begins;
  cuts = k.cut.1;
}

from_append : (k n m : ℕ) → from_on k n ++ from_on (k + n) m ≡ from_on k (n + m)
from_append k zero m = ap (λ i. from_on i m) (same k) ∙ ap (λ i. from_on k i) (zero_first m)
  where
    same : (k : ℕ) → k + zero ≡ k
    same k = omega arith

    zero_first : (m : ℕ) → m ≡ zero + m
    zero_first m = omega arith
from_append k (suc n) m = ap (λ i. k ∷ (from_on (k + 1) n ++ from_on i m)) (moved k n) ∙ ap (λ w. k ∷ w) (from_append (k + 1) n m) ∙ ap (λ i. from_on k i) (sucs n m)
  where
    moved : (k n : ℕ) → k + suc n ≡ (k + 1) + n
    moved k n = omega arith

    sucs : (n m : ℕ) → suc (n + m) ≡ suc n + m
    sucs n m = omega arith

calls_long : (es : List Entry) (cs : List Call) → calls_of es ≡ cs → length es ≡ length cs
calls_long es cs h = map_long es ∙ ap length h
  where
    map_long : (es : List Entry) → length es ≡ length (calls_of es)
    map_long [] = refl
    map_long (e ∷ es) = ap suc (map_long es)

pub steps_none : (s : SeatShown) → Steps s s []
steps_none s = record { entries = []; cuts = []; went = went_none s; calls = refl; lengths_are = refl }

pub steps_on : (s t u : SeatShown) (cs ds : List Call) → Steps s t cs → Steps t u ds → Steps s u (cs ++ ds)
steps_on s t u cs ds a b = record {
  entries = a.entries ++ b.entries;
  cuts = a.cuts ++ b.cuts;
  went = went_on s t u a.entries b.entries a.cuts b.cuts a.went b.went;
  calls = map-append (λ (e : Entry). e.call) a.entries b.entries ∙ ap (λ w. w ++ calls_of b.entries) a.calls ∙ ap (λ w. cs ++ w) b.calls;
  lengths_are =
      map-append (λ (x : Cut). x.length) a.cuts b.cuts ∙ ap (λ w. w ++ lengths b.cuts) a.lengths_are ∙ ap (λ w. from_on (length s.own + 1) (length cs) ++ w) (b.lengths_are ∙ ap (λ k. from_on k (length ds)) there)
      ∙ from_append (length s.own + 1) (length cs) (length ds) ∙ ap (λ k. from_on (length s.own + 1) k) (sym (length-append cs ds));
}
  where
    there : length t.own + 1 ≡ (length s.own + 1) + length cs
    there =
        let size : length t.own ≡ length s.own + length a.entries = ap length a.went.own ∙ length-append s.own a.entries in
        let long : length a.entries ≡ length cs = calls_long a.entries cs a.calls in
        omega (arith, size, long)

pub steps_one : (s u : SeatShown) (l m : LocalSet) (c : Call) (r : Reply) → l.waiting ≡ [] → SamePlace s u → Called s u l m c r → Steps s u (c ∷ [])
steps_one s u l m c r out place k = record {
  entries = entry_of s.thread c r ∷ [];
  cuts = k.cut.0 ∷ [];
  went = went;
  calls = refl;
  lengths_are = ap (λ n. n ∷ []) (k.cut.2 ∙ ap length went.own ∙ length-append s.own (entry_of s.thread c r ∷ []));
}
  where
    went : Went s u (entry_of s.thread c r ∷ []) (k.cut.0 ∷ [])
    went = called_went s u l m c r out place k

pub finalise_on : (s t u : SeatShown) (l m : LocalSet) (n : ℕ) (r : Reply) → Steps s t (replicate n call.Finalise) → l.waiting ≡ [] → SamePlace t u → Called t u l m call.Finalise r → Steps s u (replicate (n + 1) call.Finalise)
finalise_on s t u l m n r before out place k =
    subst (Steps s u) (replicate-append-replicate n 1 call.Finalise) (steps_on s t u (replicate n call.Finalise) (call.Finalise ∷ []) before (steps_one t u l m call.Finalise r out place k))

pub finalised_all : (s t u : SeatShown) (l m : LocalSet) (left now next : ℕ) (r : Reply) → ((n : ℕ) × Steps s t (replicate n call.Finalise) × (n + now ≡ left)) → l.waiting ≡ [] → SamePlace t u → Called t u l m call.Finalise r → next + 1 ≡ now
    → (n : ℕ) × Steps s u (replicate n call.Finalise) × (n + next ≡ left)
finalised_all s t u l m left now next r before out place k less = (before.0 + 1, finalise_on s t u l m before.0 r before.1 out place k, count before.0 left now next before.2 less)
  where
    count : (n left now next : ℕ) → n + now ≡ left → next + 1 ≡ now → (n + 1) + next ≡ left
    count n left now next a b = omega (arith, a, b)

-- slices
snoc : (n budget : ℕ) (xs : List Cut) (x : Cut) (before after : Bool) → Slices n budget before xs → IsSlice n budget x → Greyless after x → Slices n budget after (xs ++ x ∷ [])
snoc n budget [] x before after s one grey = absurd s
snoc n budget (y ∷ []) x before after s one grey = (s.0, (one, grey))
snoc n budget (y ∷ z ∷ zs) x before after s one grey = (s.0, snoc n budget (z ∷ zs) x before after s.1 one grey)

pub slices_first : (s u : SeatShown) (budget : ℕ) (done : Bool) → OneSlice s u budget done → NewSlices s u budget done
slices_first s u budget done one = (one.0 ∷ [], one.1, (one.2, one.3))

pub slices_on : (s t u : SeatShown) (budget : ℕ) (before after : Bool) → NewSlices s t budget before → OneSlice t u budget after → NewSlices s u budget after
slices_on s t u budget before after more one = (
  more.0 ++ one.0 ∷ [],
  went_on s t u [] [] more.0 (one.0 ∷ []) more.1 one.1,
  snoc (length s.own) budget more.0 one.0 before after more.2 (subst (λ es. IsSlice (length es) budget one.0) (more.1.own ∙ append-nil s.own) one.2) one.3,
)

-- the rest of a collection
pub closes : (s t u v w : SeatShown) (l m k n : LocalSet) (budget left : ℕ) (q r : Reply) → NewSlices s t budget true
    → l.waiting ≡ [] → SamePlace t u → Called t u l m call.Condemn q → Steps u v (replicate left call.Finalise)
    → k.waiting ≡ [] → SamePlace v w → Called v w k n call.Reclaim r → IsSettled r → Closes s w budget r
unfolding steps_on steps_one
closes s t u v w l m k n budget left q r slices out place condemn finals none last reclaim settled =
    let one = steps_one t u l m call.Condemn q out place condemn in
    let two = steps_on t u v (call.Condemn ∷ []) (replicate left call.Finalise) one finals in
    let three = steps_one v w k n call.Reclaim r none last reclaim in
    let all = steps_on t v w (call.Condemn ∷ replicate left call.Finalise) (call.Reclaim ∷ []) two three in
    let same : t.own ≡ s.own = slices.1.own ∙ append-nil s.own in
    let thread : v.thread ≡ s.thread = two.went.place.thread ∙ slices.1.place.thread in
    let last_is : entry_of v.thread call.Reclaim r ≡ entry_of s.thread call.Reclaim r = ap (λ i. entry_of i call.Reclaim r) thread in
    record {
      left = left;
      more = all.entries;
      first = slices.0;
      rest = all.cuts;
      went = went_on s t w [] all.entries slices.0 all.cuts slices.1 all.went;
      calls = all.calls;
      slices = slices.2;
      lengths_are = all.lengths_are ∙ ap (λ es. from_on (length es + 1) (length (call.Condemn ∷ replicate left call.Finalise ++ call.Reclaim ∷ []))) same ∙ ap (λ i. from_on (length s.own + 1) i) (sym (calls_long all.entries _ all.calls));
      ends = (
        reclaim.ends.0,
        two.entries,
        reclaim.ends.1 ∙ ap (λ e. reclaim.ends.0 ++ e ∷ []) last_is,
        ap (λ e. two.entries ++ e ∷ []) last_is,
      );
      settled = settled;
    }

-- where the cuts lie
places_append : (b n : ℕ) (xs ys : List Cut) → PlacesIn b n xs → PlacesIn b n ys → PlacesIn b n (xs ++ ys)
places_append b n [] ys p q = q
places_append b n (x ∷ xs) ys p q = (p.0, p.1, places_append b n xs ys p.2 q)

slices_places : (b n k budget : ℕ) (done : Bool) (xs : List Cut) → Slices k budget done xs → b < k → k ≤ b + n → PlacesIn b n xs
slices_places b n k budget done [] s low high = absurd s
slices_places b n k budget done (x ∷ []) s low high = (subst (λ i. b < i) (sym s.0.0) low, subst (λ i. i ≤ b + n) (sym s.0.0) high, tt)
slices_places b n k budget done (x ∷ y ∷ ys) s low high = (subst (λ i. b < i) (sym s.0.0) low, subst (λ i. i ≤ b + n) (sym s.0.0) high, slices_places b n k budget done (y ∷ ys) s.1 low high)

head_is : (a b : ℕ) (xs ys : List ℕ) → a ∷ xs ≡ b ∷ ys → a ≡ b
head_is a b xs ys h = cc

tail_is : (a b : ℕ) (xs ys : List ℕ) → a ∷ xs ≡ b ∷ ys → xs ≡ ys
tail_is a b xs ys h = cc

run_places : (b n k i : ℕ) (xs : List Cut) → lengths xs ≡ from_on k i → b < k → k + i ≤ b + n + 1 → PlacesIn b n xs
run_places b n k i [] h low high = tt
run_places b n k zero (x ∷ xs) h low high = absurd cc
run_places b n k (suc i) (x ∷ xs) h low high =
    let here : x.length ≡ k = head_is x.length k (lengths xs) (from_on (k + 1) i) h in
    (omega (arith, here, low), omega (arith, here, high), run_places b n (k + 1) i xs (tail_is x.length k (lengths xs) (from_on (k + 1) i) h) (omega (arith, low)) (omega (arith, high)))

last_append : (m : ℕ) (xs ys : List Cut) → last_of m (xs ++ ys) ≡ last_of (last_of m xs) ys
last_append m [] ys = refl
last_append m (x ∷ xs) ys = last_append x.length xs ys

run_last : (m k i : ℕ) (xs : List Cut) → lengths xs ≡ from_on k (suc i) → last_of m xs ≡ k + i
run_last m k i [] h = absurd cc
run_last m k zero (x ∷ []) h = head_is x.length k [] [] h ∙ plus k
  where
    plus : (k : ℕ) → k ≡ k + zero
    plus k = omega arith
run_last m k zero (x ∷ y ∷ xs) h = let no : y.length ∷ lengths xs ≡ [] = tail_is x.length k (y.length ∷ lengths xs) [] h in absurd cc
run_last m k (suc i) (x ∷ xs) h = run_last x.length (k + 1) i xs (tail_is x.length k (lengths xs) (from_on (k + 1) (suc i)) h) ∙ plus k i
  where
    plus : (k i : ℕ) → (k + 1) + i ≡ k + suc i
    plus k i = omega arith

turns_settled : (s u : SeatShown) (b n budget : ℕ) (r : Reply) → IsSettled r → Turns s u b n budget → TurnsOf s u b n budget r
turns_settled s u b n budget (reply.Settled gone kept) is turns = turns
turns_settled s u b n budget _ is turns = absurd is

-- a collection that settled
pub collected : (s t u : SeatShown) (l k m : LocalSet) (mode : Mode) (budget : ℕ) (r : Reply) → SamePlace s t → Called s t l k (call.Begin mode) (begun_reply true) → IsNarrow true s t → Closes t u budget r → m.waiting ≡ [] → Always u m → Collected s u l m mode budget r
collected s t u l k m mode budget r place began_by narrow rest out always =
    let e = entry_of s.thread (call.Begin mode) (begun_reply true) in
    let x = narrow refl in
    let b = length (s.own ++ l.waiting) in
    let long : length t.own ≡ b + 1 = ap length began_by.own ∙ length-append (s.own ++ l.waiting) (e ∷ []) in
    let own : u.own ≡ (s.own ++ l.waiting) ++ (e ∷ rest.more) = rest.went.own ∙ ap (λ w. w ++ rest.more) began_by.own ∙ append_assoc (s.own ++ l.waiting) (e ∷ []) rest.more in
    let cuts : u.cuts ≡ s.cuts ++ (x.0 ∷ (rest.first ++ rest.rest)) = rest.went.cuts ∙ ap (λ w. w ++ (rest.first ++ rest.rest)) x.1 ∙ append_assoc s.cuts (x.0 ∷ []) (rest.first ++ rest.rest) in
    let first_at : x.0.length ≡ b + 1 = x.2 ∙ long in
    let slices : Slices (b + 1) budget true rest.first = subst (λ i. Slices i budget true rest.first) long rest.slices in
    let more_long : length rest.more ≡ suc (length (replicate rest.left call.Finalise ++ call.Reclaim ∷ [])) = calls_long rest.more _ rest.calls in
    let runs : lengths rest.rest ≡ from_on (b + 2) (length rest.more) = rest.lengths_are ∙ ap (λ i. from_on i (length rest.more)) (two b (length t.own) long) in
    let last : last_of x.0.length (rest.first ++ rest.rest) ≡ length u.own =
    last_append x.0.length rest.first rest.rest
    ∙ run_last (last_of x.0.length rest.first) (b + 2) (length (replicate rest.left call.Finalise ++ call.Reclaim ∷ [])) rest.rest (runs ∙ ap (λ i. from_on (b + 2) i) more_long)
    ∙ sums b (length (replicate rest.left call.Finalise ++ call.Reclaim ∷ [])) (length rest.more) (length u.own) more_long (ap length own ∙ length-append (s.own ++ l.waiting) (e ∷ rest.more)) in
    record {
      group = e ∷ rest.more;
      is_group = inr (e, rest.more, rest.left, refl, refl, refl, rest.calls);
      own = own;
      out = out;
      begins = prefix_trans s.seen t.seen u.seen began_by.begins rest.went.begins;
      ends = (
        rest.ends.0,
        e ∷ rest.ends.1,
        call.Reclaim,
        rest.ends.2 ∙ ap (λ i. rest.ends.0 ++ entry_of i call.Reclaim r ∷ []) place.thread,
        ap (λ w. e ∷ w) (rest.ends.3 ∙ ap (λ i. rest.ends.1 ++ entry_of i call.Reclaim r ∷ []) place.thread),
      );
      cuts = (
        x.0,
        rest.first ++ rest.rest,
        cuts,
        (
          subst (λ i. b < i) (sym first_at) (omega arith),
          subst (λ i. i ≤ b + suc (length rest.more)) (sym first_at) (omega arith),
          places_append b (suc (length rest.more)) rest.first rest.rest (slices_places b (suc (length rest.more)) (b + 1) budget true rest.first slices (omega arith) (omega arith))
              (run_places b (suc (length rest.more)) (b + 2) (length rest.more) rest.rest runs (omega arith) (omega arith)),
        ),
        last,
      );
      turns = turns_settled s u b (suc (length rest.more)) budget r rest.settled (record {
        begun = x.0;
        first = rest.first;
        rest = rest.rest;
        cuts = cuts;
        begin = (first_at, subst (λ i. i ≤ budget) (sym x.3) (omega arith));
        slices = slices;
        steps = (length rest.more, omega arith, runs);
      });
      solo = began_by.solo;
      solo_after = ended_solo;
    }
  where
    two : (b n : ℕ) → n ≡ b + 1 → n + 1 ≡ b + 2
    two b n h = omega (arith, h)

    sums : (b i n w : ℕ) → n ≡ suc i → w ≡ b + suc n → (b + 2) + i ≡ w
    sums b i n w h k = omega (arith, h, k)

    ended_solo : Solo s.options u.own (part_in m)
    ended_solo = subst (λ o. Solo o u.own (part_in m)) (rest.went.place.options ∙ place.options)
        (subst (λ es. Solo u.options es (part_in m)) (ap (λ w. u.own ++ w) out ∙ append-nil u.own) (always_solo u m always))

-- a collection that found another thread's open
pub refused : (s t : SeatShown) (l k : LocalSet) (mode : Mode) (budget : ℕ) → SamePlace s t → Called s t l k (call.Begin mode) (begun_reply false) → Always t k → Collected s t l k mode budget reply.Busy
refused s t l k mode budget place c always =
    let e = entry_of s.thread (call.Begin mode) (begun_reply false) in
    let b = length (s.own ++ l.waiting) in
    let at : c.cut.0.length ≡ b + 1 = c.cut.2 ∙ ap length c.own ∙ length-append (s.own ++ l.waiting) (e ∷ []) in
    record {
      group = e ∷ [];
      is_group = inl (e, refl, refl, refl);
      own = c.own;
      out = c.out;
      begins = c.begins;
      ends = (c.ends.0, [], call.Begin mode, c.ends.1, refl);
      cuts = (c.cut.0, [], c.cut.1, (subst (λ i. b < i) (sym at) (omega arith), subst (λ i. i ≤ b + 1) (sym at) (omega arith), tt), c.cut.2);
      turns = (c.cut.0, c.cut.1, at);
      solo = c.solo;
      solo_after = subst (λ o. Solo o t.own (part_in k)) place.options (subst (λ es. Solo t.options es (part_in k)) (ap (λ w. t.own ++ w) c.out ∙ append-nil t.own) (always_solo t k always));
    }

pub collected_if : (s t u : SeatShown) (l k m : LocalSet) (mode : Mode) (budget : ℕ) (r : Reply) (begun : Bool) → begun ≡ true → SamePlace s t → Called s t l k (call.Begin mode) (begun_reply begun) → IsNarrow begun s t → Closes t u budget r → m.waiting ≡ [] → Always u m → Collected s u l m mode budget r
collected_if s t u l k m mode budget r begun is place c narrow rest out always =
    collected s t u l k m mode budget r place (subst (λ b. Called s t l k (call.Begin mode) (begun_reply b)) is c) (subst (λ b. IsNarrow b s t) is narrow) rest out always

pub refused_if : (s t : SeatShown) (l k : LocalSet) (mode : Mode) (budget : ℕ) (begun : Bool) → begun ≡ false → SamePlace s t → Called s t l k (call.Begin mode) (begun_reply begun) → Always t k → Collected s t l k mode budget reply.Busy
refused_if s t l k mode budget begun is place c always = refused s t l k mode budget place (subst (λ b. Called s t l k (call.Begin mode) (begun_reply b)) is c) always

pub ok_of : {E B : Type 0} (P : B → Type 0) (r : Result B E) (b : B) → r ≡ Ok b → IfOk r P → P b
ok_of P r b is h = subst (λ x. IfOk x P) is h
