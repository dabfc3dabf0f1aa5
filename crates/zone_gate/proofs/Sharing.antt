-- Split, join, and the look after it keep the rule
use Rattle.std.proofs.Common.{◌≡◌, ◌≢◌, ℕ, ◌+◌, ◌≤◌, true≢false, List, [], ◌∷◌, ◌++◌, length, set, Option, Some, None, length-append, refl, ap, sym, ◌∙◌, subst, ⊎_elim, inl, inr, arith, slice_index, slice_set}
use mathlib.Core.Option.{some, none}
use lib.ListN.{get_elem?}
use Rattle.atomic_table.specs.Table.{State, Me, step, keeps, Allows, Splits, Joins}
use Rattle.atomic_table.proofs.Lists.{at_set, set_else, at_longer}
use Rattle.az_base.specs.declared.options.Options.{Options}
use Rattle.zone_model.specs.declared.entry.Entry.{Entry}
use Rattle.zone_gate.specs.declared.view.View.{View}
use Rattle.zone_gate.specs.declared.view.Owned.{Owned}
use Rattle.zone_gate.specs.Owning.{Distinct, HasThread, OwnIn, after_first, first_only}
use Rattle.zone_gate.specs.Rule.{Away, Fits, Home, RuleHolds, words_at}
use Rattle.zone_gate.specs.Steps.{Looks}
use Rattle.zone_gate.specs.Views.{Shares, joined, longer, resting, spent, threads_in, tickets_in, total}
use Rattle.zone_gate.proofs.Begins.{longer_both, shorter_longer}
use Rattle.zone_gate.proofs.Changing.{changes, fits_more, loaded, same_tickets}
use Rattle.zone_gate.proofs.Owning.{Distinct-append, HasThread-append, OwnIn-append, OwnIn-between}
use Rattle.zone_gate.proofs.Rows.{apart_snoc, each_snoc, set_swap, total_set, total_snoc}

module _ {X : Type 0} (list_of : X → List Entry) (options_of : X → Options) (options : Options) (threads : List ℕ) where
  abbrev St : Type 0
  St = State (Option X) View

  abbrev M : Type 0
  M = Me (Option X) View

  abbrev Rule : St → Type 0
  Rule = RuleHolds list_of options_of options threads

  -- a seat at rest gives some of its threads to a new seat, which has seen as much
  splits : (id : ℕ) (o : Options) (seen : List Entry) (own a b : List Owned)
      → ((t : ℕ) → HasThread t a → HasThread t own) → ((t : ℕ) → HasThread t b → HasThread t own) → (Distinct own → (t : ℕ) → HasThread t a → HasThread t b → ⊥)
      → ((l : List Entry) → OwnIn l own → OwnIn l a × OwnIn l b) → (Distinct own → Distinct a × Distinct b) → length a + length b ≤ length own
      → Splits Rule id (resting o seen own) (resting o seen a) (resting o seen b)
  unfolding changes
  splits id o seen own a b in_a in_b no_both owns distinct few s r at =
      let v : View = resting o seen own in
      let w : View = resting o seen a in
      let x : View = resting o seen b in
      let f = r.each id v at in
      let same : total tickets_in (set s.views id w) ≡ total tickets_in s.views = same_tickets list_of options_of options threads s id v w at refl in
      let left = total_set threads_in s.views id v w at in
      let most = r.few in
      let first = changes list_of options_of options threads s r id v w s.words at (r.words ∙ ap (words_at r.serving) (sym same)) (omega arith)
      (record {
        options_are = f.options_are;
        seen = f.seen;
        untold = f.untold;
        own = (owns r.list f.own).0;
        own_seen = (owns seen f.own_seen).0;
        distinct = (distinct f.distinct).0;
        listed = λ t h. f.listed t (in_a t h);
        waits = λ m e. absurd (cc (e));
        holder = λ h. absurd (true≢false (sym h));
      })
      (λ j u other e sh. ⊎_elim
      (λ (t : (t : ℕ) × HasThread t a × HasThread t u.own). other (sym (r.apart id j v u at e (inl (t.0, in_a t.0 t.1, t.2)))))
      (λ (t : (m : ℕ) × (None ≡ Some m) × (u.ticket ≡ Some m)). let no = t.1 in absurd (cc))
      sh)
      (omega arith)
      (λ h. h) in
      let more : total tickets_in (set s.views id w ++ x ∷ []) ≡ total tickets_in (set s.views id w) = (let h = total_snoc tickets_in (set s.views id w) x in omega arith) in
      record {
        list = r.list;
        serving = r.serving;
        low = r.low;
        words = first.words ∙ ap (words_at r.serving) (sym more);
        each = each_snoc (Fits options threads r.list r.serving (total tickets_in (set s.views id w ++ x ∷ []))) (set s.views id w) x
            (record {
              options_are = f.options_are;
              seen = f.seen;
              untold = f.untold;
              own = (owns r.list f.own).1;
              own_seen = (owns seen f.own_seen).1;
              distinct = (distinct f.distinct).1;
              listed = λ t h. f.listed t (in_b t h);
              waits = λ m e. absurd (cc (e));
              holder = λ h. absurd (true≢false (sym h));
            })
            (λ j u e. fits_more list_of options_of options threads r.list r.serving (total tickets_in (set s.views id w)) (total tickets_in (set s.views id w ++ x ∷ [])) u (omega arith) (first.each j u e));
        apart = apart_snoc (set s.views id w) x first.apart (λ j u e sh. ⊎_elim
            (λ (t : (t : ℕ) × HasThread t b × HasThread t u.own). ⊎_elim
            (λ (y : (j ≡ id) × (w ≡ u)). no_both f.distinct t.0 (subst (λ (z : View). HasThread t.0 z.own) (sym y.1) t.2) t.1)
            (λ (y : (j ≢ id) × (get_elem? s.views j ≡ some u)). y.0 (sym (r.apart id j v u at y.1 (inl (t.0, in_b t.0 t.1, t.2)))))
            (at_set s.views id j w u e))
            (λ (t : (m : ℕ) × (None ≡ Some m) × (u.ticket ≡ Some m)). let no = t.1 in absurd (cc))
            sh);
        few = (let h = total_snoc threads_in (set s.views id w) x in omega arith);
        named = r.named;
        slot = ⊎_elim (λ (h : Home list_of options_of options r.list s.homes). inl h) (λ (y : Away s.homes (set s.views id w)). inr (record { at = y.at; id = y.id; view = y.view; there = at_longer (set s.views id w) (x ∷ []) y.id y.view y.there; holds = y.holds })) first.slot;
      }

  -- a note has seen as much, and owns nothing
  pub notes : (id : ℕ) (o : Options) (seen : List Entry) (own : List Owned) → Splits Rule id (resting o seen own) (resting o seen own) (resting o seen [])
  notes id o seen own = splits id o seen own own [] (λ t h. h) (λ t h. absurd h) (λ d t h k. k) (λ l h. (h, tt)) (λ h. (h, tt)) (omega arith)

  -- a new seat has the first thread, and the old one the others
  pub deals : (id : ℕ) (o : Options) (seen : List Entry) (own : List Owned) → Splits Rule id (resting o seen own) (resting o seen (after_first own)) (resting o seen (first_only own))
  deals id o seen [] = splits id o seen [] [] [] (λ t h. h) (λ t h. h) (λ d t h k. k) (λ l h. (tt, tt)) (λ h. (tt, tt)) (omega arith)
  deals id o seen (x ∷ xs) = splits id o seen (x ∷ xs) xs (x ∷ []) (λ t h. inr h) (λ t h. ⊎_elim (λ (e : x.thread ≡ t). inl e) (λ (no : ⊥). absurd no) h)
      (λ d t h k. ⊎_elim (λ (e : x.thread ≡ t). d.0 (subst (λ u. HasThread u xs) (sym e) h)) (λ (no : ⊥). no) k) (λ l h. (h.1, (h.0, tt))) (λ h. (h.1, ((λ n. n), tt))) (omega arith)

  -- a view at rest takes in another, and the other is spent
  pub joins : (id : ℕ) (o : Options) (seen : List Entry) (own : List Owned) (other : ℕ) (p : Options) (theirs : List Entry) (more : List Owned)
      → Joins Rule id (resting o seen own) other (resting p theirs more) (joined (resting o seen own) (resting p theirs more)) spent
  unfolding changes
  joins id o seen own other p theirs more s r at apart there =
      let v : View = resting o seen own in
      let x : View = resting p theirs more in
      let both : View = joined v x in
      let there' : get_elem? s.views other ≡ some x = sym (set_else s.views id other both apart) ∙ there in
      let f = r.each id v at in
      let g = r.each other x there' in
      let three = longer_both seen theirs r.list f.seen g.seen in
      let same : total tickets_in (set s.views other spent) ≡ total tickets_in s.views = same_tickets list_of options_of options threads s other x spent there' refl in
      let one = total_set threads_in s.views other x spent there' in
      let most = r.few in
      let none_of_spent : (u : View) → ¬ Shares spent u = λ u sh. ⊎_elim
      (λ (t : (t : ℕ) × ⊥ × HasThread t u.own). t.1)
      (λ (t : (m : ℕ) × (None ≡ Some m) × (u.ticket ≡ Some m)). let no = t.1 in absurd (cc))
      sh in
      let first = changes list_of options_of options threads s r other x spent s.words there' (r.words ∙ ap (words_at r.serving) (sym same)) (omega arith)
      (record {
        options_are = λ h. absurd (true≢false (sym h));
        seen = (r.list, refl);
        untold = ([], refl);
        own = tt;
        own_seen = tt;
        distinct = tt;
        listed = λ t h. absurd h;
        waits = λ m e. absurd (cc (e));
        holder = λ h. absurd (true≢false (sym h));
      })
      (λ j u _ e. none_of_spent u)
      (omega arith)
      (λ h. h) in
      let s1 : St = record { words = s.words; homes = s.homes; views = set s.views other spent } in
      let at1 : get_elem? s1.views id ≡ some v = set_else s.views other id spent (λ e. apart (sym e)) ∙ at in
      let same1 : total tickets_in (set s1.views id both) ≡ total tickets_in s1.views = same_tickets list_of options_of options threads s1 id v both at1 refl in
      let two = total_set threads_in s1.views id v both at1 in
      let long : threads_in both ≡ length own + length more = length-append own more in
      let second = changes list_of options_of options threads s1 first id v both s.words at1 (first.words ∙ ap (words_at r.serving) (sym same1)) (omega arith)
      (record {
        options_are = f.options_are;
        seen = three.2;
        untold = shorter_longer seen theirs three.0 three.1;
        own = OwnIn-append r.list own more f.own g.own;
        own_seen = OwnIn-append (longer seen theirs) own more (OwnIn-between own seen (longer seen theirs) r.list three.0 three.2 f.own_seen f.own) (OwnIn-between more theirs (longer seen theirs) r.list three.1 three.2 g.own_seen g.own);
        distinct = Distinct-append own more f.distinct g.distinct (λ t h k. apart (sym (r.apart id other v x at there' (inl (t, h, k)))));
        listed = λ t h. ⊎_elim (λ (l : HasThread t own). f.listed t l) (λ (l : HasThread t more). g.listed t l) (HasThread-append t own more h);
        waits = λ m e. absurd (cc (e));
        holder = λ h. absurd (true≢false (sym h));
      })
      (λ j u not_me e sh. ⊎_elim
      (λ (t : (t : ℕ) × HasThread t (own ++ more) × HasThread t u.own). ⊎_elim
      (λ (y : (j ≡ other) × (spent ≡ u)). absurd (subst (λ (z : View). HasThread t.0 z.own) (sym y.1) t.2))
      (λ (y : (j ≢ other) × (get_elem? s.views j ≡ some u)). ⊎_elim
      (λ (l : HasThread t.0 own). not_me (sym (r.apart id j v u at y.1 (inl (t.0, l, t.2)))))
      (λ (l : HasThread t.0 more). y.0 (sym (r.apart other j x u there' y.1 (inl (t.0, l, t.2)))))
      (HasThread-append t.0 own more t.1))
      (at_set s.views other j spent u e))
      (λ (t : (m : ℕ) × (None ≡ Some m) × (u.ticket ≡ Some m)). let no = t.1 in absurd (cc))
      sh)
      (omega arith)
      (λ h. h) in
      subst (λ (views : List View). Rule record { words = s.words; homes = s.homes; views = views }) (sym (set_swap s.views id other both spent apart)) second

  -- a seat without a ticket is told what it has joined
  pub tells : (id : ℕ) (v : View) (c : List (ℕ × Option X)) → v.ticket ≡ None → Allows Rule 1 id (v, c) 1 (λ n. n) (Looks list_of options_of (step 1 1 0 0 none) (v, c))
  tells id v c idle s r wide at low =
      let f = r.each id v at in
      let w : View = record v { untold = [] } in
      let same : total tickets_in (set s.views id w) ≡ total tickets_in s.views = same_tickets list_of options_of options threads s id v w at refl in
      let mine : Fits options threads r.list r.serving (total tickets_in (set s.views id w)) w = record {
        options_are = f.options_are;
        seen = f.seen;
        untold = (v.seen, refl);
        own = f.own;
        own_seen = f.own_seen;
        distinct = f.distinct;
        listed = f.listed;
        waits = λ m e. let k = f.waits m e in (k.0, (k.1.0, (let l = k.1.1 in omega arith), k.1.2));
        holder = f.holder;
      } in (
        w,
        keeps,
        tt,
        changes list_of options_of options threads s r id v w (slice_set s.words 1 (slice_index s.words 1)) at (loaded list_of options_of options threads s r (set s.views id w) 1 same (omega arith)) (omega arith) mine
            (λ j u other e sh. other (sym (r.apart id j v u at e sh))) (let g = total_set threads_in s.views id v w at in let b = r.few in omega arith) (λ h. h),
        ((λ m e. absurd (cc (idle, e))), λ _. record { view = refl; begins = f.untold; own = f.own_seen }),
      )
