-- One view changes, and the rule still holds
use Rattle.std.proofs.Common.{◌≡◌, ◌≢◌, ℕ, zero, suc, ◌≤◌, ◌<◌, true, List, set, Option, Some, None, refl, ap, sym, ◌∙◌, subst, ⊎_elim, inl, inr, arith, slice_index, slice_set}
use mathlib.Core.Logic.{dite}
use mathlib.Core.Option.{some}
use mathlib.Core.Option as maybe
use native.Mathlib.Decide.{ℕ_discrete}
use lib.ListN.{get_elem?}
use Rattle.atomic_table.specs.Table.{State, Me}
use Rattle.atomic_table.proofs.Lists.{set_here, set_else}
use Rattle.az_base.specs.declared.options.Options.{Options}
use Rattle.zone_model.specs.declared.entry.Entry.{Entry}
use Rattle.zone_gate.specs.declared.view.View.{View}
use Rattle.zone_gate.specs.Owning.{most_threads}
use Rattle.zone_gate.specs.Rule.{Away, Fits, Home, RuleHolds, words_at}
use Rattle.zone_gate.specs.Views.{Shares, count_ticket, threads_in, tickets_in, total}
use Rattle.zone_gate.proofs.Rows.{apart_set, at_length, each_set, one_there, total_below, total_set}

tickets_few : (t : Option ℕ) (n : ℕ) → ((m : ℕ) → t ≡ Some m → 0 < n) → count_ticket t ≤ n
tickets_few None n h = omega arith
tickets_few (Some m) n h = let p = h m refl in omega arith

module _ {X : Type 0} (list_of : X → List Entry) (options_of : X → Options) (options : Options) (threads : List ℕ) where
  abbrev St : Type 0
  St = State (Option X) View

  abbrev M : Type 0
  M = Me (Option X) View

  abbrev Rule : St → Type 0
  Rule = RuleHolds list_of options_of options threads

  pub out_few : (s : St) (r : Rule s) → total tickets_in s.views ≤ most_threads
  out_few s r = let h = total_below tickets_in threads_in s.views (λ id v at. tickets_few v.ticket (threads_in v) (λ m e. ((r.each id v at).waits m e).0)) in let f = r.few in omega arith

  pub fits_more : (list : List Entry) (serving out more : ℕ) (v : View) → out ≤ more → Fits options threads list serving out v → Fits options threads list serving more v
  fits_more list serving out more v le f = record {
    options_are = f.options_are;
    seen = f.seen;
    untold = f.untold;
    own = f.own;
    own_seen = f.own_seen;
    distinct = f.distinct;
    listed = f.listed;
    waits = λ n e. let w = f.waits n e in (w.0, (w.1.0, (let l = w.1.1 in omega arith), w.1.2));
    holder = f.holder;
  }

  -- the holder stays the holder where the view that changes goes on holding
  pub away_stays : (homes : List (maybe.Option (Option X))) (views : List View) (id : ℕ) (v w : View) → get_elem? views id ≡ some v → (v.holds ≡ true → w.holds ≡ true) → Away {X = X} homes views → Away {X = X} homes (set views id w)
  away_stays homes views id v w at goes_on a = dite (ℕ_discrete a.id id)
      (λ same. record {
        at = a.at;
        id = id;
        view = w;
        there = set_here views id w (at_length views id v at);
        holds = goes_on (ap (λ (u : View). u.holds) (one_there views id v a.view at (subst (λ (k : ℕ). get_elem? views k ≡ some a.view) same a.there)) ∙ a.holds);
      })
      (λ other. record { at = a.at; id = a.id; view = a.view; there = set_else views id a.id w other ∙ a.there; holds = a.holds })

  -- one view changes, and the list stays
  unfoldable pub changes : (s : St) (r : Rule s) (id : ℕ) (v w : View) (words : List ℕ) → get_elem? s.views id ≡ some v → words ≡ words_at r.serving (total tickets_in (set s.views id w)) → total tickets_in s.views ≤ total tickets_in (set s.views id w)
      → Fits options threads r.list r.serving (total tickets_in (set s.views id w)) w → ((j : ℕ) (u : View) → j ≢ id → get_elem? s.views j ≡ some u → ¬ Shares w u)
      → total threads_in (set s.views id w) ≤ most_threads → (v.holds ≡ true → w.holds ≡ true) → Rule record { words = words; homes = s.homes; views = set s.views id w }
  changes s r id v w words at is more fits alone few goes_on = record {
    list = r.list;
    serving = r.serving;
    low = r.low;
    words = is;
    each = each_set (Fits options threads r.list r.serving (total tickets_in (set s.views id w))) s.views id w fits (λ j u _ e. fits_more r.list r.serving (total tickets_in s.views) (total tickets_in (set s.views id w)) u more (r.each j u e));
    apart = apart_set s.views id w r.apart alone;
    few = few;
    named = r.named;
    slot = ⊎_elim (λ (h : Home list_of options_of options r.list s.homes). inl h) (λ (a : Away s.homes s.views). inr (away_stays s.homes s.views id v w at goes_on a)) r.slot;
  }

  -- a load leaves the words
  pub loaded : (s : St) (r : Rule s) (views : List View) (i : ℕ) → total tickets_in views ≡ total tickets_in s.views → i < 2 → slice_set s.words i (slice_index s.words i) ≡ words_at r.serving (total tickets_in views)
  loaded s r views i same low = ap (λ ws. slice_set ws i (slice_index ws i)) r.words ∙ (back i low ∙ ap (words_at r.serving) (sym same))
    where
      back : (k : ℕ) → k < 2 → slice_set (words_at r.serving (total tickets_in s.views)) k (slice_index (words_at r.serving (total tickets_in s.views)) k) ≡ words_at r.serving (total tickets_in s.views)
      back zero l = refl
      back (suc zero) l = refl
      back (suc (suc k)) l = absurd (omega arith)

  pub same_tickets : (s : St) (id : ℕ) (v w : View) → get_elem? s.views id ≡ some v → tickets_in w ≡ tickets_in v → total tickets_in (set s.views id w) ≡ total tickets_in s.views
  same_tickets s id v w at same = let h = total_set tickets_in s.views id v w at in omega arith
