-- Taking in seats, and what is known at the end
use Rattle.std.proofs.Common.{◌≡◌, ℕ, zero, suc, ◌+◌, ◌<◌, List, [], ◌∷◌, ◌++◌, length, map, get_or, All, Contains, Option, refl, ap, sym, ◌∙◌, subst, inl, inr, arith, append_assoc, length-append}
use Rattle.std.proofs.lemmas.List.{get_or_append_left}
use mathlib.Core.List.{IsPrefix}
use Rattle.atomic_table.specs.Table.{Me}
use Rattle.atomic_table.specs.Seated.{TableId}
use Rattle.az_base.specs.declared.options.Options.{Options}
use Rattle.zone_model.specs.declared.entry.Entry.{Entry}
use Rattle.zone_model.specs.History.{entries_of}
use Rattle.zone_gate.specs.declared.cut.Cut.{Cut}
use Rattle.zone_gate.specs.declared.view.View.{View}
use Rattle.zone_gate.specs.declared.view.Owned.{Owned}
use Rattle.zone_gate.specs.Gathering.{Gathered, Knows, KnowsAll}
use Rattle.zone_gate.specs.Owning.{Has, HasThread, OwnIn, owned}
use Rattle.zone_gate.specs.Shown.{SeatShown}
use Rattle.zone_gate.specs.Tokens.{entries_in, view_in}
use Rattle.zone_gate.specs.Views.{longer, resting}
use Rattle.zone_gate.proofs.Begins.{prefix_trans}

has_left : (x : Owned) (a b : List Owned) → Has x a → Has x (a ++ b)
has_left x [] b h = absurd h
has_left x (y ∷ ys) b (inl e) = inl e
has_left x (y ∷ ys) b (inr h) = inr (has_left x ys b h)

has_right : (x : Owned) (a b : List Owned) → Has x b → Has x (a ++ b)
has_right x [] b h = h
has_right x (y ∷ ys) b h = inr (has_right x ys b h)

Has-HasThread : (x : Owned) (own : List Owned) → Has x own → HasThread x.thread own
Has-HasThread x [] h = absurd h
Has-HasThread x (y ∷ ys) (inl e) = inl (ap (λ (o : Owned). o.thread) e)
Has-HasThread x (y ∷ ys) (inr h) = inr (Has-HasThread x ys h)

has_entries : (x : Owned) (own : List Owned) (list : List Entry) → Has x own → OwnIn list own → x.entries ≡ entries_of x.thread list
has_entries x [] list h o = absurd h
has_entries x (y ∷ ys) list (inl e) o = subst (λ (z : Owned). z.entries ≡ entries_of z.thread list) e o.0
has_entries x (y ∷ ys) list (inr h) o = has_entries x ys list h o.1

knows_more : (v w : View) (ss : List SeatShown) → IsPrefix v.seen w.seen → ((x : Owned) → Has x v.own → Has x w.own) → KnowsAll v ss → KnowsAll w ss
knows_more v w [] p f k = tt
knows_more v w (s ∷ ss) p f k = ((prefix_trans s.seen v.seen w.seen k.0.0 p, f (owned s.thread s.own) k.0.1), knows_more v w ss p f k.1)

pub knows_append : (v : View) (a b : List SeatShown) → KnowsAll v a → KnowsAll v b → KnowsAll v (a ++ b)
knows_append v [] b ka kb = kb
knows_append v (s ∷ ss) b ka kb = (ka.0, knows_append v ss b ka.1 kb)

module _ {X : Type 0} where
  -- one more seat was taken in
  pub gathers : (start me me' : Me (Option X) View) (all left left' : List SeatShown) (s : SeatShown) (o : Options) → Gathered start me all left → left ≡ left' ++ s ∷ []
      → me' ≡ (resting me.0.options (longer me.0.seen s.seen) (me.0.own ++ owned s.thread s.own ∷ []), [])
      → IsPrefix me.0.seen (longer me.0.seen s.seen) → IsPrefix s.seen (longer me.0.seen s.seen) → Gathered start me' all left'
  gathers start me me' all left left' s o g cut is p q =
      let v : View = resting me.0.options (longer me.0.seen s.seen) (me.0.own ++ owned s.thread s.own ∷ []) in
      let mine : Owned = owned s.thread s.own in
      subst (λ (m : Me (Option X) View). Gathered start m all left') (sym is) (record {
        taken = s ∷ g.taken;
        parts = g.parts ∙ (ap (λ l. l ++ g.taken) cut ∙ append_assoc left' (s ∷ []) g.taken);
        knows = ((q, has_right mine me.0.own (mine ∷ []) (inl refl)), knows_more me.0 v g.taken p (λ x h. has_left x me.0.own (mine ∷ []) h) g.knows);
        at_rest = record { view = refl; slots = refl };
        seen = prefix_trans start.0.seen me.0.seen (longer me.0.seen s.seen) g.seen p;
        own = λ x h. has_left x me.0.own (mine ∷ []) (g.own x h);
        options_are = g.options_are;
      })

one_view : (views : List View) (v w : View) → views ≡ v ∷ [] → views ≡ w ∷ [] → w ≡ v
one_view views v w e f = cc

-- what is known of the token of a seat's badge
pub seat_view : (views : List View) (w : View) (gate : TableId) (t : ℕ) (cuts : List Cut) (s : SeatShown) → views ≡ resting (view_in views).options (view_in views).seen (owned t (entries_in (view_in views).own) ∷ []) ∷ []
    → views ≡ w ∷ [] → s ≡ record { gate = gate; options = (view_in views).options; thread = t; own = entries_in (view_in views).own; seen = (view_in views).seen; cuts = cuts } → w ≡ resting s.options s.seen (owned s.thread s.own ∷ [])
seat_view views w gate t cuts s is one shown = subst (λ (z : SeatShown). w ≡ resting z.options z.seen (owned z.thread z.own ∷ [])) (sym shown)
    (one_view views (resting (view_in views).options (view_in views).seen (owned t (entries_in (view_in views).own) ∷ [])) w is one)

module _ {X : Type 0} where
  pub gathers_as : (start me me' : Me (Option X) View) (all left left' : List SeatShown) (s : SeatShown) (w : View) → Gathered start me all left → left ≡ left' ++ s ∷ [] → w ≡ resting s.options s.seen (owned s.thread s.own ∷ [])
      → me' ≡ (resting me.0.options (longer me.0.seen w.seen) (me.0.own ++ w.own), []) → IsPrefix me.0.seen (longer me.0.seen w.seen) × IsPrefix w.seen (longer me.0.seen w.seen) → Gathered start me' all left'
  gathers_as start me me' all left left' s w g cut view is both =
      let two = subst (λ (u : View). (me' ≡ (resting me.0.options (longer me.0.seen u.seen) (me.0.own ++ u.own), [])) × IsPrefix me.0.seen (longer me.0.seen u.seen) × IsPrefix u.seen (longer me.0.seen u.seen)) view (is, both.0, both.1) in
      gathers start me me' all left left' s s.options g cut two.0 two.1 two.2

-- the first seat, and then the others
pub knows_first : (v w : View) (s : SeatShown) (all rest : List SeatShown) (o : Options) → v ≡ resting o s.seen (owned s.thread s.own ∷ []) → IsPrefix v.seen w.seen → ((x : Owned) → Has x v.own → Has x w.own) → KnowsAll w rest → all ≡ rest ++ s ∷ [] → KnowsAll w all
knows_first v w s all rest o is p f k parts =
    let here : Knows w s = (
      subst (λ l. IsPrefix l w.seen) (ap (λ (u : View). u.seen) is) p,
      f (owned s.thread s.own) (subst (λ (u : View). Has (owned s.thread s.own) u.own) (sym is) (inl refl)),
    ) in
    subst (KnowsAll w) (sym parts) (knows_append w rest (s ∷ []) k (here, tt))

pub all_begin : (v : View) (list : List Entry) (ss : List SeatShown) → KnowsAll v ss → IsPrefix v.seen list → All (λ s. IsPrefix s.seen list) ss
all_begin v list [] k p i d l = absurd (omega arith)
all_begin v list (s ∷ ss) k p zero d l = prefix_trans s.seen v.seen list k.0.0 p
all_begin v list (s ∷ ss) k p (suc i) d l = all_begin v list ss k.1 p i d (omega arith)

pub all_own : (v : View) (list : List Entry) (ss : List SeatShown) → KnowsAll v ss → OwnIn list v.own → All (λ s. entries_of s.thread list ≡ s.own) ss
all_own v list [] k o i d l = absurd (omega arith)
all_own v list (s ∷ ss) k o zero d l = sym (has_entries (owned s.thread s.own) v.own list k.0.1 o)
all_own v list (s ∷ ss) k o (suc i) d l = all_own v list ss k.1 o i d (omega arith)

pub all_threads : (v : View) (ss : List SeatShown) (t : ℕ) → KnowsAll v ss → Contains (map (λ (s : SeatShown). s.thread) ss) t → HasThread t v.own
all_threads v [] t k c = absurd (let l = c.1 in omega arith)
all_threads v (s ∷ ss) t k c = at c.0 c.1 c.2 (λ there. all_threads v ss t k.1 there)
  where
    at : (i : ℕ) → i < length (map (λ (x : SeatShown). x.thread) (s ∷ ss)) → get_or (map (λ (x : SeatShown). x.thread) (s ∷ ss)) i t ≡ t → (Contains (map (λ (x : SeatShown). x.thread) ss) t → HasThread t v.own) → HasThread t v.own
    at zero l e later = subst (λ (u : ℕ). HasThread u v.own) e (Has-HasThread (owned s.thread s.own) v.own k.0.1)
    at (suc i) l e later = later (i, omega arith, e)

pub all_front : (P : SeatShown → Type 0) (xs ys : List SeatShown) (s : SeatShown) → xs ≡ ys ++ s ∷ [] → All P xs → All P ys
all_front P xs [] s e all k d l = absurd (omega arith)
all_front P xs (y ∷ ys) s e all k d l =
    let more : length xs ≡ length (y ∷ ys) + 1 = ap length e ∙ length-append (y ∷ ys) (s ∷ []) in
    subst P (ap (λ zs. get_or zs k d) e ∙ get_or_append_left (y ∷ ys) (s ∷ []) d k l) (all k d (omega arith))

-- a gate has a thread, and so there is a seat
pub none_left : (threads : List ℕ) (ss : List SeatShown) → 0 < length threads → ss ≡ [] → ((t : ℕ) → Contains threads t → Contains (map (λ (s : SeatShown). s.thread) ss) t) → ⊥
none_left [] ss some none all = absurd (omega arith)
none_left (t ∷ ts) ss some none all =
    let there = subst (λ (zs : List SeatShown). Contains (map (λ (s : SeatShown). s.thread) zs) t) none (all t (0, omega arith, refl)) in
    let l = there.1 in omega arith
