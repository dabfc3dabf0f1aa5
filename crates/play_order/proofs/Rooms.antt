-- What a play is doesn't look at the room of the lists in its replies
use Rattle.std.proofs.Common.{◌≡◌, ℕ, zero, suc, ◌+◌, ◌==◌, ◌&&◌, ◌||◌, not, Bool, true, false, cond, List, [], ◌∷◌, ◌++◌, length, map, filter, flat_map, refl, sym, ap, ap₂, subst, ◌∙◌, eqb-true, ne_eqb, arith, ◌<◌, if◌then◌else◌, inl, inr, Option, Some, None, MatchOption}
use Rattle.std.specs.List.{AllByRecursion}
use Rattle.std.proofs.lemmas.List.{map-append}
use Rattle.std.proofs.lemmas.List.Elements.{All-from_recursion, recursion_from_All}
use Rattle.az_base.specs.declared.action.Mode.{Mode}
use Rattle.az_base.specs.declared.misuse.Misuse.{Misuse}
use Rattle.az_base.specs.declared.options.Options.{Options}
use Rattle.zone_model.specs.declared.act.Act.{Act}
use Rattle.zone_model.specs.declared.act.Act.TheVariants as act
use Rattle.zone_model.specs.declared.call.Call.{Call}
use Rattle.zone_model.specs.declared.call.Call.TheVariants as call
use Rattle.zone_model.specs.declared.entry.Entry.{Entry}
use Rattle.zone_model.specs.declared.entry.Reply.{Reply}
use Rattle.zone_model.specs.declared.entry.Reply.TheVariants as reply
use Rattle.zone_model.specs.declared.entry.Stats.{Stats}
use Rattle.zone_model.specs.Bare.{bare_reply, bare_entry}
use Rattle.zone_model.specs.Effect.{Effect}
use Rattle.zone_model.specs.Escape.{with_escaped}
use Rattle.zone_model.specs.History.{Run, IsGroup, IsRefused, IsCollection, Matches, calls_of, entries_of}
use Rattle.zone_model.specs.Misuses.{misuse_of}
use Rattle.zone_model.specs.Part.{Part, part_after, leave_part, PartStep, PartRun, Solo, opening_part}
use Rattle.zone_model.specs.Replies.{replied, SameButRoom}
use Rattle.zone_model.specs.State.{State, opening}
use Rattle.zone_model.specs.Step.{Step, Happens}
use Rattle.zone_history.specs.Histories.{Request, IsHistoryOf, asked_of}
use Rattle.play_order.specs.Places.{Played, Placed, waiting, publishes, publisher, place, placed, entries_at, entries_below}
use Rattle.play_order.specs.Play.{IsTurn, AreTurns, IsPlayOf, own_entries, with_leaves}

abbrev Both : Type 0 → Type 0 → Type 0
Both P Q = (P → Q) × (Q → P)

heads : (e f : Entry) (es fs : List Entry) → SameButRoom (e ∷ es) (f ∷ fs) → (bare_entry e ≡ bare_entry f) × SameButRoom es fs
heads e f es fs h = (cc, cc)

no_head : (e : Entry) (es : List Entry) → SameButRoom (e ∷ es) [] → ⊥
no_head e es h = cc (h)

-- an effect doesn't look at the room
effect_bare : (z : State) (t : ℕ) (c : Call) (r : Reply) (a : State) → Both (Effect z t c r a) (Effect z t c (bare_reply r) a)
effect_bare z t call.CollectLocal (reply.Reclaimed g) a = ((λ h. h), (λ h. h))
effect_bare z t call.Leave (reply.Reclaimed g) a = ((λ h. h), (λ h. h))
effect_bare z t call.Condemn (reply.Condemned r) a = ((λ h. h), (λ h. h))
effect_bare z t call.Reclaim (reply.Settled g d) a = ((λ h. h), (λ h. h))
effect_bare z t _ (reply.Reclaimed g) a = ((λ h. absurd h), (λ h. absurd h))
effect_bare z t _ (reply.Condemned r) a = ((λ h. absurd h), (λ h. absurd h))
effect_bare z t _ (reply.Settled g d) a = ((λ h. absurd h), (λ h. absurd h))
effect_bare z t c r a = ((λ h. h), (λ h. h))

-- nor does what happens
happens_bare : (z : State) (t : ℕ) (c : Call) (r : Reply) (a : State) → Both (Happens z t c r a) (Happens z t c (bare_reply r) a)
happens_bare z t c (reply.Reclaimed g) a = ((λ h. (h.0, (effect_bare z t c (reply.Reclaimed g) h.0).0 h.1, h.2)), (λ h. (h.0, (effect_bare z t c (reply.Reclaimed g) h.0).1 h.1, h.2)))
happens_bare z t c (reply.Condemned g) a = ((λ h. (h.0, (effect_bare z t c (reply.Condemned g) h.0).0 h.1, h.2)), (λ h. (h.0, (effect_bare z t c (reply.Condemned g) h.0).1 h.1, h.2)))
happens_bare z t c (reply.Settled g d) a = ((λ h. (h.0, (effect_bare z t c (reply.Settled g d) h.0).0 h.1, h.2)), (λ h. (h.0, (effect_bare z t c (reply.Settled g d) h.0).1 h.1, h.2)))
happens_bare z t c r a = ((λ h. h), (λ h. h))

misuse_bare : (r : Reply) (m : Misuse) → bare_reply r ≡ reply.Misuse m → r ≡ reply.Misuse m
misuse_bare (reply.Reclaimed g) m h = cc (h)
misuse_bare (reply.Condemned g) m h = cc (h)
misuse_bare (reply.Settled g d) m h = cc (h)
misuse_bare r m h = h

busy_bare : (r : Reply) → bare_reply r ≡ reply.Busy → r ≡ reply.Busy
busy_bare (reply.Reclaimed g) h = cc (h)
busy_bare (reply.Condemned g) h = cc (h)
busy_bare (reply.Settled g d) h = cc (h)
busy_bare r h = h

begun_bare : (r : Reply) → bare_reply r ≡ reply.Begun → r ≡ reply.Begun
begun_bare (reply.Reclaimed g) h = cc (h)
begun_bare (reply.Condemned g) h = cc (h)
begun_bare (reply.Settled g d) h = cc (h)
begun_bare r h = h

does_bare : (z : State) (o : Option Misuse) (y : State) (t : ℕ) (c : Call) (r : Reply) (a : State)
    → Both (MatchOption o (Happens y t c r a) (λ m. (r ≡ reply.Misuse m) × (a ≡ z))) (MatchOption o (Happens y t c (bare_reply r) a) (λ m. (bare_reply r ≡ reply.Misuse m) × (a ≡ z)))
does_bare z None y t c r a = happens_bare y t c r a
does_bare z (Some m) y t c r a = ((λ h. (ap bare_reply h.0, h.1)), (λ h. (misuse_bare r m h.0, h.1)))

step_bare : (z : State) (t : ℕ) (c : Call) (r : Reply) (a : State) → Both (Step z (replied t c r) a) (Step z (replied t c (bare_reply r)) a)
step_bare z t c r a = (
  (λ k. record { running = k.running; need = k.need; needed = k.needed; does = (does_bare z (misuse_of z t c k.need) (with_escaped z k.need) t c r a).0 k.does }),
  (λ k. record { running = k.running; need = k.need; needed = k.needed; does = (does_bare z (misuse_of z t c k.need) (with_escaped z k.need) t c r a).1 k.does }),
)

step_alike : (z : State) (e f : Entry) (a : State) → bare_entry e ≡ bare_entry f → Step z e a → Step z f a
step_alike z e f a same h =
    (step_bare z f.thread f.call f.reply a).1 (subst (λ (x : Entry). Step z x a) same ((step_bare z e.thread e.call e.reply a).0 h))

-- a run doesn't look at it
run_alike : (z : State) (es fs : List Entry) (a : State) → SameButRoom es fs → Run z es a → Run z fs a
run_alike z [] [] a same h = h
run_alike z [] (f ∷ fs) a same h = absurd (no_head f fs (sym same))
run_alike z (e ∷ es) [] a same h = absurd (no_head e es same)
run_alike z (e ∷ es) (f ∷ fs) a same h = let i = heads e f es fs same in (h.0, step_alike z e f h.0 i.0 h.1, run_alike h.0 es fs a i.1 h.2)

after_bare : (p : Part) (c : Call) (r : Reply) → part_after p c (bare_reply r) ≡ part_after p c r
after_bare p call.CollectLocal (reply.Reclaimed g) = refl
after_bare p call.Leave (reply.Reclaimed g) = refl
after_bare p call.Condemn (reply.Condemned r) = refl
after_bare p call.Reclaim (reply.Settled g d) = refl
after_bare p _ (reply.Reclaimed g) = refl
after_bare p _ (reply.Condemned g) = refl
after_bare p _ (reply.Settled g d) = refl
after_bare p c r = refl

own_bare : (p : Part) (c : Call) (r : Reply) (a : Part) → Both (PartStep p c r a) (PartStep p c (bare_reply r) a)
own_bare p c (reply.Reclaimed g) a = ((λ h. (h.0, h.1, h.2 ∙ sym (after_bare (leave_part p h.0) c (reply.Reclaimed g)))), (λ h. (h.0, h.1, h.2 ∙ after_bare (leave_part p h.0) c (reply.Reclaimed g))))
own_bare p c (reply.Condemned g) a = ((λ h. (h.0, h.1, h.2 ∙ sym (after_bare (leave_part p h.0) c (reply.Condemned g)))), (λ h. (h.0, h.1, h.2 ∙ after_bare (leave_part p h.0) c (reply.Condemned g))))
own_bare p c (reply.Settled g d) a = ((λ h. (h.0, h.1, h.2 ∙ sym (after_bare (leave_part p h.0) c (reply.Settled g d)))), (λ h. (h.0, h.1, h.2 ∙ after_bare (leave_part p h.0) c (reply.Settled g d))))
own_bare p c r a = ((λ h. h), (λ h. h))

own_alike : (p : Part) (e f : Entry) (a : Part) → bare_entry e ≡ bare_entry f → PartStep p e.call e.reply a → PartStep p f.call f.reply a
own_alike p e f a same h = (own_bare p f.call f.reply a).1 (subst (λ (x : Entry). PartStep p x.call x.reply a) same ((own_bare p e.call e.reply a).0 h))

-- nor does a part
part_alike : (p : Part) (es fs : List Entry) (a : Part) → SameButRoom es fs → PartRun p es a → PartRun p fs a
part_alike p [] [] a same h = h
part_alike p [] (f ∷ fs) a same h = absurd (no_head f fs (sym same))
part_alike p (e ∷ es) [] a same h = absurd (no_head e es same)
part_alike p (e ∷ es) (f ∷ fs) a same h = let i = heads e f es fs same in (h.0, own_alike p e f h.0 i.0 h.1, part_alike h.0 es fs a i.1 h.2)

-- the calls are the same
calls_alike : (es fs : List Entry) → SameButRoom es fs → calls_of es ≡ calls_of fs
calls_alike [] [] same = refl
calls_alike [] (f ∷ fs) same = absurd (no_head f fs (sym same))
calls_alike (e ∷ es) [] same = absurd (no_head e es same)
calls_alike (e ∷ es) (f ∷ fs) same = let i = heads e f es fs same in ap₂ (λ c cs. c ∷ cs) (ap (λ (x : Entry). x.call) i.0) (calls_alike es fs i.1)

refused_alike : (m : Mode) (es fs : List Entry) → SameButRoom es fs → IsRefused m es → IsRefused m fs
refused_alike m es [] same h = absurd (no_head h.0 [] (subst (λ xs. SameButRoom xs []) h.1 same))
refused_alike m es (f ∷ []) same h =
    let i = heads h.0 f [] [] (subst (λ xs. SameButRoom xs (f ∷ [])) h.1 same) in
    (f, refl, sym (ap (λ (x : Entry). x.call) i.0) ∙ h.2, busy_bare f.reply (sym (ap (λ (x : Entry). x.reply) i.0) ∙ ap bare_reply h.3))
refused_alike m es (f ∷ g ∷ fs) same h = absurd (no_head g fs (sym (heads h.0 f [] (g ∷ fs) (subst (λ xs. SameButRoom xs (f ∷ g ∷ fs)) h.1 same)).1))

collected_alike : (m : Mode) (es fs : List Entry) → SameButRoom es fs → IsCollection m es → IsCollection m fs
collected_alike m es [] same h = absurd (no_head h.0 h.1 (subst (λ xs. SameButRoom xs []) h.3 same))
collected_alike m es (f ∷ fs) same h =
    let i = heads h.0 f h.1 fs (subst (λ xs. SameButRoom xs (f ∷ fs)) h.3 same) in
    (f, fs, h.2, refl, sym (ap (λ (x : Entry). x.call) i.0) ∙ h.4, begun_bare f.reply (sym (ap (λ (x : Entry). x.reply) i.0) ∙ ap bare_reply h.5), sym (calls_alike h.1 fs i.1) ∙ h.6)

group_alike : (a : Act) (es fs : List Entry) → SameButRoom es fs → IsGroup a es → IsGroup a fs
group_alike (act.Call c) es fs same h = sym (calls_alike es fs same) ∙ h
group_alike (act.Collect m) es fs same h = elim h [
  | inl x ↦ inl (refused_alike m es fs same x)
  | inr x ↦ inr (collected_alike m es fs same x)
]

all_alike : (t : ℕ) (es fs : List Entry) → SameButRoom es fs → AllByRecursion (λ e. e.thread ≡ t) es → AllByRecursion (λ e. e.thread ≡ t) fs
all_alike t es [] same h = tt
all_alike t [] (f ∷ fs) same h = absurd (no_head f fs (sym same))
all_alike t (e ∷ es) (f ∷ fs) same h = let i = heads e f es fs same in (sym (ap (λ (x : Entry). x.thread) i.0) ∙ h.0, all_alike t es fs i.1 h.1)

append_alike : (cs ds es fs : List Entry) → SameButRoom cs ds → SameButRoom es fs → SameButRoom (cs ++ es) (ds ++ fs)
append_alike cs ds es fs h k = map-append bare_entry cs es ∙ ap₂ (λ x y. x ++ y) h k ∙ sym (map-append bare_entry ds fs)

-- lists that are the same come apart alike
split_alike : (p q es : List Entry) → SameButRoom (p ++ q) es → (a : List Entry) × (b : List Entry) × (es ≡ a ++ b) × SameButRoom p a × SameButRoom q b
split_alike [] q es h = ([], es, refl, refl, h)
split_alike (x ∷ p) q [] h = absurd (no_head x (p ++ q) h)
split_alike (x ∷ p) q (e ∷ es) h =
    let i = heads x e (p ++ q) es h in
    let s = split_alike p q es i.1 in
    (e ∷ s.0, s.1, ap (λ xs. e ∷ xs) s.2, ap₂ (λ y ys. y ∷ ys) i.0 s.3, s.4)

-- lines that are the same but for the room
record AlikeLine (x y : Played) : Type 0 where
  thread : y.thread ≡ x.thread
  local : y.local ≡ x.local
  entries : SameButRoom x.entries y.entries

abbrev AlikeLines : List Played → List Played → Type 0
AlikeLines [] [] = Unit {0}
AlikeLines (x ∷ xs) (y ∷ ys) = AlikeLine x y × AlikeLines xs ys
AlikeLines _ _ = ⊥

abbrev AlikePlaces : List Placed → List Placed → Type 0
AlikePlaces [] [] = Unit {0}
AlikePlaces (x ∷ xs) (y ∷ ys) = (y.0 ≡ x.0) × AlikeLine x.1 y.1 × AlikePlaces xs ys
AlikePlaces _ _ = ⊥

line_self : (x : Played) → AlikeLine x x
line_self x = record { thread = refl; local = refl; entries = refl }

places_self : (xs : List Placed) → AlikePlaces xs xs
places_self [] = tt
places_self (x ∷ xs) = (refl, line_self x.1, places_self xs)

line_trans : (x y w : Played) → AlikeLine x y → AlikeLine y w → AlikeLine x w
line_trans x y w h k = record { thread = k.thread ∙ h.thread; local = k.local ∙ h.local; entries = h.entries ∙ k.entries }

places_trans : (xs ys ws : List Placed) → AlikePlaces xs ys → AlikePlaces ys ws → AlikePlaces xs ws
places_trans [] [] [] h k = tt
places_trans (x ∷ xs) (y ∷ ys) (w ∷ ws) h k = (k.0 ∙ h.0, line_trans x.1 y.1 w.1 h.1 k.1, places_trans xs ys ws h.2 k.2)
places_trans [] (y ∷ ys) ws h k = absurd h
places_trans (x ∷ xs) [] ws h k = absurd h
places_trans [] [] (w ∷ ws) h k = absurd k
places_trans (x ∷ xs) (y ∷ ys) [] h k = absurd k

at_is : (m : ℕ) (x : Placed) (xs : List Placed) → entries_at m (x ∷ xs) ≡ cond (x.0 == m) (x.1.entries ++ entries_at m xs) (entries_at m xs)
at_is m x xs = by (x.0 == m)
  where
    by : (b : Bool) → flat_map (λ (l : Placed). l.1.entries) (cond b (x ∷ filter (λ l. l.0 == m) xs) (filter (λ l. l.0 == m) xs)) ≡ cond b (x.1.entries ++ entries_at m xs) (entries_at m xs)
    by true = refl
    by false = refl

cond_alike : (b : Bool) (cs ds es fs : List Entry) → SameButRoom cs ds → SameButRoom es fs → SameButRoom (cond b (cs ++ es) es) (cond b (ds ++ fs) fs)
cond_alike true cs ds es fs h k = append_alike cs ds es fs h k
cond_alike false cs ds es fs h k = k

at_alike : (m : ℕ) (xs ys : List Placed) → AlikePlaces xs ys → SameButRoom (entries_at m xs) (entries_at m ys)
at_alike m [] [] h = refl
at_alike m [] (y ∷ ys) h = absurd h
at_alike m (x ∷ xs) [] h = absurd h
at_alike m (x ∷ xs) (y ∷ ys) h =
    ap (map bare_entry) (at_is m x xs) ∙ cond_alike (x.0 == m) x.1.entries y.1.entries (entries_at m xs) (entries_at m ys) h.1.entries (at_alike m xs ys h.2)
    ∙ sym (ap (map bare_entry) (at_is m y ys ∙ ap (λ n. cond (n == m) (y.1.entries ++ entries_at m ys) (entries_at m ys)) h.0))

-- the entries at a place are replaced by others that are the same
record Filled (at : ℕ) (xs : List Placed) (b : List Entry) : Type 0 where
  ys : List Placed
  alike : AlikePlaces xs ys
  here : entries_at at ys ≡ b
  there : (m : ℕ) → (at == m) ≡ false → entries_at m ys ≡ entries_at m xs

filled : (at : ℕ) (xs : List Placed) (b : List Entry) → SameButRoom (entries_at at xs) b → Filled at xs b
filled at [] [] h = record { ys = []; alike = tt; here = refl; there = λ m o. refl }
filled at [] (e ∷ b) h = absurd (no_head e b (sym h))
filled at (x ∷ xs) b h = by (x.0 == at) refl (subst (λ es. SameButRoom es b) (at_is at x xs) h) (filled at xs)
  where
    by : (c : Bool) → (x.0 == at) ≡ c → SameButRoom (cond c (x.1.entries ++ entries_at at xs) (entries_at at xs)) b → ((b : List Entry) → SameButRoom (entries_at at xs) b → Filled at xs b) → Filled at (x ∷ xs) b
    by true e k rest =
        let s = split_alike x.1.entries (entries_at at xs) b k in
        let f = rest s.1 s.4 in
        let y : Placed = (x.0, record { thread = x.1.thread; local = x.1.local; entries = s.0 }) in
        record {
          ys = y ∷ f.ys;
          alike = (refl, record { thread = refl; local = refl; entries = s.3 }, f.alike);
          here = at_is at y f.ys ∙ ap (λ c. cond c (s.0 ++ entries_at at f.ys) (entries_at at f.ys)) e ∙ ap (λ es. s.0 ++ es) f.here ∙ sym s.2;
          there = λ m o.
              let off : (x.0 == m) ≡ false = ap (λ n. n == m) (eqb-true x.0 at e) ∙ o in
              at_is m y f.ys ∙ ap (λ c. cond c (s.0 ++ entries_at m f.ys) (entries_at m f.ys)) off ∙ f.there m o
              ∙ sym (at_is m x xs ∙ ap (λ c. cond c (x.1.entries ++ entries_at m xs) (entries_at m xs)) off);
        }
    by false e k rest =
        let f = rest b k in
        record {
          ys = x ∷ f.ys;
          alike = (refl, line_self x.1, f.alike);
          here = at_is at x f.ys ∙ ap (λ c. cond c (x.1.entries ++ entries_at at f.ys) (entries_at at f.ys)) e ∙ f.here;
          there = λ m o. at_is m x f.ys ∙ ap (λ es. cond (x.0 == m) (x.1.entries ++ es) es) (f.there m o) ∙ sym (at_is m x xs);
        }

below_same : (n : ℕ) (xs ys : List Placed) → ((m : ℕ) → m < n → entries_at m ys ≡ entries_at m xs) → entries_below n ys ≡ entries_below n xs
below_same zero xs ys h = refl
below_same (suc n) xs ys h = ap₂ (λ x y. x ++ y) (below_same n xs ys (λ m lt. h m (omega (arith, lt)))) (h n (omega arith))

-- a list that is the same as the entries below a place is that of lines that are the same
record Lifted (n : ℕ) (xs : List Placed) (es : List Entry) : Type 0 where
  ys : List Placed
  alike : AlikePlaces xs ys
  below : entries_below n ys ≡ es

lifted : (n : ℕ) (xs : List Placed) (es : List Entry) → SameButRoom (entries_below n xs) es → Lifted n xs es
lifted zero xs [] h = record { ys = xs; alike = places_self xs; below = refl }
lifted zero xs (e ∷ es) h = absurd (no_head e es (sym h))
lifted (suc n) xs es h =
    let s = split_alike (entries_below n xs) (entries_at n xs) es h in
    let f = lifted n xs s.0 s.3 in
    let g = filled n f.ys s.1 (sym (at_alike n xs f.ys f.alike) ∙ s.4) in
    record {
      ys = g.ys;
      alike = places_trans xs f.ys g.ys f.alike g.alike;
      below = ap₂ (λ x y. x ++ y) (below_same n f.ys g.ys (λ m lt. g.there m (ne_eqb n m (λ e. omega (arith, lt, e)))) ∙ f.below) g.here ∙ sym s.2;
    }

length_alike : (xs ys : List Played) → AlikeLines xs ys → length ys ≡ length xs
length_alike [] [] h = refl
length_alike (x ∷ xs) (y ∷ ys) h = ap suc (length_alike xs ys h.1)
length_alike [] (y ∷ ys) h = absurd h
length_alike (x ∷ xs) [] h = absurd h

-- places look at threads and at what is local alone
module _ (pending : ℕ) where
  abbrev waits_then : ℕ → ℕ → Bool → ℕ → ℕ
  waits_then t thread own before = if thread == t then (if own then (if before == pending then 1 else before + 1) else 0) else before

  waiting_alike : (t : ℕ) (xs ys : List Played) → AlikeLines xs ys → waiting pending t ys ≡ waiting pending t xs
  waiting_alike t [] [] h = refl
  waiting_alike t (x ∷ xs) (y ∷ ys) h =
      ap₂ (λ u b. waits_then t u b (waiting pending t ys)) h.0.thread h.0.local ∙ ap (λ n. waits_then t x.thread x.local n) (waiting_alike t xs ys h.1)
  waiting_alike t [] (y ∷ ys) h = absurd h
  waiting_alike t (x ∷ xs) [] h = absurd h

  publishes_alike : (xs ys : List Played) (x y : Played) → AlikeLines xs ys → AlikeLine x y → publishes pending ys y ≡ publishes pending xs x
  publishes_alike xs ys x y h k =
      ap₂ (λ b n. not b || (n == pending)) k.local (ap (λ t. waiting pending t ys) k.thread ∙ waiting_alike x.thread xs ys h)

  publisher_alike : (t : ℕ) (es fs xs ys : List Played) → AlikeLines es fs → AlikeLines xs ys → publisher pending t fs ys ≡ publisher pending t es xs
  publisher_alike t es fs [] [] h k = length_alike es fs h
  publisher_alike t es fs (x ∷ xs) (y ∷ ys) h k =
      ap₂ (λ (b : Bool) (n : ℕ). if b then n else publisher pending t (y ∷ fs) ys)
      (ap₂ (λ u b. (t == u) && b) k.0.thread (publishes_alike es fs x y h k.0)) (length_alike es fs h)
      ∙ ap (λ n. if (t == x.thread) && publishes pending es x then length es else n) (publisher_alike t (x ∷ es) (y ∷ fs) xs ys (k.0, h) k.1)
  publisher_alike t es fs [] (y ∷ ys) h k = absurd k
  publisher_alike t es fs (x ∷ xs) [] h k = absurd k

  place_alike : (es fs : List Played) (x y : Played) (xs ys : List Played) → AlikeLines es fs → AlikeLine x y → AlikeLines xs ys → place pending fs y ys ≡ place pending es x xs
  place_alike es fs x y xs ys h k i =
      ap₂ (λ (b : Bool) (n : ℕ). if b then publisher pending y.thread (y ∷ fs) ys else n) k.local (length_alike es fs h)
      ∙ ap (λ n. if x.local then n else length es) (ap (λ t. publisher pending t (y ∷ fs) ys) k.thread ∙ publisher_alike x.thread (x ∷ es) (y ∷ fs) xs ys (k, h) i)

  abbrev lines_at : List Placed → List Played
  lines_at ys = map (λ (y : Placed). y.1) ys

  lines_alike : (es xs : List Played) (ys : List Placed) → AlikePlaces (placed pending es xs) ys → AlikeLines xs (lines_at ys)
  lines_alike es [] [] h = tt
  lines_alike es (x ∷ xs) (y ∷ ys) h = (h.1, lines_alike (x ∷ es) xs ys h.2)
  lines_alike es [] (y ∷ ys) h = absurd h
  lines_alike es (x ∷ xs) [] h = absurd h

  -- lines that are the same stand at the same places
  placed_alike : (es fs xs : List Played) (ys : List Placed) → AlikeLines es fs → AlikePlaces (placed pending es xs) ys → placed pending fs (lines_at ys) ≡ ys
  placed_alike es fs [] [] h k = refl
  placed_alike es fs (x ∷ xs) (y ∷ ys) h k =
      ap₂ (λ n ps. let p : Placed = (n, y.1) in p ∷ ps) (place_alike es fs x y.1 xs (lines_at ys) h k.1 (lines_alike (x ∷ es) xs ys k.2) ∙ sym k.0) (placed_alike (x ∷ es) (y.1 ∷ fs) xs ys (k.1, h) k.2)
  placed_alike es fs [] (y ∷ ys) h k = absurd k
  placed_alike es fs (x ∷ xs) [] h k = absurd k

own_lines_alike : (t : ℕ) (xs ys : List Played) → AlikeLines xs ys → SameButRoom (own_entries t xs) (own_entries t ys)
own_lines_alike t [] [] h = refl
own_lines_alike t (x ∷ xs) (y ∷ ys) h =
    ap (map bare_entry) (own_is x xs) ∙ cond_alike (x.thread == t) x.entries y.entries (own_entries t xs) (own_entries t ys) h.0.entries (own_lines_alike t xs ys h.1)
    ∙ sym (ap (map bare_entry) (own_is y ys ∙ ap (λ n. cond (n == t) (y.entries ++ own_entries t ys) (own_entries t ys)) h.0.thread))
  where
    own_is : (l : Played) (ls : List Played) → own_entries t (l ∷ ls) ≡ cond (l.thread == t) (l.entries ++ own_entries t ls) (own_entries t ls)
    own_is l ls = by (l.thread == t)
      where
        by : (b : Bool) → flat_map (λ (l : Played). l.entries) (cond b (l ∷ filter (λ l. l.thread == t) ls) (filter (λ l. l.thread == t) ls)) ≡ cond b (l.entries ++ own_entries t ls) (own_entries t ls)
        by true = refl
        by false = refl
own_lines_alike t [] (y ∷ ys) h = absurd h
own_lines_alike t (x ∷ xs) [] h = absurd h

more_alike : (es fs : List Played) (x y : Played) → AlikeLines es fs → AlikeLine x y → AlikeLines (es ++ x ∷ []) (fs ++ y ∷ [])
more_alike [] [] x y h k = (k, tt)
more_alike (e ∷ es) (f ∷ fs) x y h k = (h.0, more_alike es fs x y h.1 k)
more_alike [] (f ∷ fs) x y h k = absurd h
more_alike (e ∷ es) [] x y h k = absurd h

turn_alike : (o : Options) (es fs : List Played) (r : Request) (x y : Played) → AlikeLines es fs → AlikeLine x y → IsTurn o es r x → IsTurn o fs r y
turn_alike o es fs r x y h k turn = record {
  thread = k.thread ∙ turn.thread;
  group = group_alike r.1 x.entries y.entries k.entries turn.group;
  own = All-from_recursion (λ (e : Entry). e.thread ≡ y.thread) y.entries
      (subst (λ t. AllByRecursion (λ (e : Entry). e.thread ≡ t) y.entries) (sym k.thread) (all_alike x.thread x.entries y.entries k.entries (recursion_from_All (λ (e : Entry). e.thread ≡ x.thread) x.entries turn.own)));
  part = turn.part;
  given = subst (λ t. Solo o (own_entries t fs) turn.part) (sym k.thread) (part_alike (opening_part o) (own_entries x.thread es) (own_entries x.thread fs) turn.part (own_lines_alike x.thread es fs h) turn.given);
  local = k.local ∙ turn.local;
}

turns_alike : (o : Options) (es fs : List Played) (rs : List Request) (xs ys : List Played) → AlikeLines es fs → AlikeLines xs ys → AreTurns o es rs xs → AreTurns o fs rs ys
turns_alike o es fs [] [] [] h k turns = tt
turns_alike o es fs (r ∷ rs) (x ∷ xs) (y ∷ ys) h k turns = (turn_alike o es fs r x y h k.0 turns.0, turns_alike o (es ++ x ∷ []) (fs ++ y ∷ []) rs xs ys (more_alike es fs x y h k.0) k.1 turns.1)
turns_alike o es fs rs [] (y ∷ ys) h k turns = absurd k
turns_alike o es fs rs (x ∷ xs) [] h k turns = absurd k
turns_alike o es fs [] (x ∷ xs) (y ∷ ys) h k turns = absurd turns
turns_alike o es fs (r ∷ rs) [] [] h k turns = absurd turns

-- a history that is the same as a play, but for the room, is one
pub play_alike : (o : Options) (requests : List Request) (one other : List Entry) (stats : Stats) → SameButRoom one other → IsPlayOf o requests one stats → IsPlayOf o requests other stats
play_alike o requests one other stats same p =
    let n = length p.lines in
    let f = lifted n (placed o.pending [] p.lines) other (sym (ap (map bare_entry) p.ordered) ∙ same) in
    let lines = lines_at o.pending f.ys in
    let alike = lines_alike o.pending [] p.lines f.ys f.alike in
    record {
      last = p.last;
      legal = run_alike _ one other p.last same p.legal;
      counted = p.counted;
      lines = lines;
      turns = turns_alike o [] [] (with_leaves requests) p.lines lines tt alike p.turns;
      ordered = sym (ap₂ (λ (m : ℕ) ps. entries_below m ps) (length_alike p.lines lines alike) (placed_alike o.pending [] [] p.lines f.ys tt f.alike) ∙ f.below);
    }

matches_alike : (acts : List Act) (es fs : List Entry) → SameButRoom es fs → Matches es acts → Matches fs acts
matches_alike [] es fs same h = sym (calls_alike es fs same) ∙ h
matches_alike (a ∷ acts) es fs same h =
    let s = split_alike h.0 h.1 fs (subst (λ xs. SameButRoom xs fs) h.2 same) in
    (s.0, s.1, s.2, group_alike a h.0 s.0 s.3 h.3, matches_alike acts h.1 s.1 s.4 h.4)

entries_alike : (t : ℕ) (es fs : List Entry) → SameButRoom es fs → SameButRoom (entries_of t es) (entries_of t fs)
entries_alike t [] [] same = refl
entries_alike t [] (f ∷ fs) same = absurd (no_head f fs (sym same))
entries_alike t (e ∷ es) [] same = absurd (no_head e es same)
entries_alike t (e ∷ es) (f ∷ fs) same = let i = heads e f es fs same in by i.0 (entries_alike t es fs i.1) (e.thread == t) (f.thread == t) (ap (λ (x : Entry). x.thread == t) i.0)
  where
    by : bare_entry e ≡ bare_entry f → SameButRoom (entries_of t es) (entries_of t fs) → (a b : Bool) → a ≡ b → SameButRoom (cond a (e ∷ entries_of t es) (entries_of t es)) (cond b (f ∷ entries_of t fs) (entries_of t fs))
    by head rest true true k = ap₂ (λ x w. x ∷ w) head rest
    by head rest true false k = cc (k)
    by head rest false true k = cc (k)
    by head rest false false k = rest

none_alike : (es fs : List Entry) → SameButRoom es fs → es ≡ [] → fs ≡ []
none_alike es [] same none = refl
none_alike es (f ∷ fs) same none = absurd (no_head f fs (sym (subst (λ xs. SameButRoom xs (f ∷ fs)) none same)))

-- nor does a history of what threads are asked for
pub history_alike : (o : Options) (requests : List Request) (es fs : List Entry) (stats : Stats) → SameButRoom es fs → IsHistoryOf o requests es stats → IsHistoryOf o requests fs stats
history_alike o requests es fs stats same h = record {
  last = h.last;
  legal = run_alike (opening o) es fs h.last same h.legal;
  counted = h.counted;
  own = λ t has. matches_alike (asked_of requests t) (entries_of t es) (entries_of t fs) (entries_alike t es fs same) (h.own t has);
  others = λ t none. none_alike (entries_of t es) (entries_of t fs) (entries_alike t es fs same) (h.others t none);
}
