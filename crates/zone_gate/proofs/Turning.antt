-- Draw, look and give back keep the rule
use Rattle.std.proofs.Common.{◌≡◌, ◌≢◌, ℕ, ◌+◌, ◌-◌, ◌%◌, ◌^◌, ◌≤◌, ◌<◌, true, false, true≢false, List, [], ◌∷◌, ◌++◌, length, set, All, Contains, Option, Some, None, refl, ap, sym, ◌∙◌, subst, ⊎_elim, inl, inr, arith, slice_index, slice_set}
use mathlib.Core.Logic.{dite}
use mathlib.Core.Option.{some, none}
use mathlib.Core.List.{IsPrefix}
use native.Mathlib.Decide.{ℕ_discrete}
use lib.ListN.{get_elem?}
use Rattle.std.proofs.lemmas.List.Elements.{All-append}
use Rattle.atomic_table.specs.Table.{State, Me, step, keeps, takes, gives, Allows}
use Rattle.atomic_table.proofs.Lists.{set_here, set_again}
use Rattle.az_base.specs.declared.options.Options.{Options}
use Rattle.zone_model.specs.declared.entry.Entry.{Entry}
use Rattle.zone_model.specs.History.{entries_of}
use Rattle.zone_gate.specs.declared.view.View.{View}
use Rattle.zone_gate.specs.declared.view.Owned.{Owned}
use Rattle.zone_gate.specs.Owning.{HasThread, OwnIn, most_threads, owned}
use Rattle.zone_gate.specs.Rule.{Away, Fits, Home, RuleHolds, words_at}
use Rattle.zone_gate.specs.Steps.{Draws, GivesBack, Looks, holding, waiting}
use Rattle.zone_gate.specs.Views.{Shares, count_ticket, resting, threads_in, tickets_in, total}
use Rattle.zone_gate.proofs.Begins.{prefix_more, prefix_self, prefix_trans}
use Rattle.zone_gate.proofs.Changing.{changes, fits_more, loaded, out_few, same_tickets}
use Rattle.zone_gate.proofs.Owning.{OwnIn-others}
use Rattle.zone_gate.proofs.Rows.{apart_set, at_length, each_set, one_there, total_set}
use Rattle.zone_gate.proofs.Tickets.{first_ticket, next_serving, next_ticket, tickets_differ}

idle_tickets : (v : View) → v.ticket ≡ None → tickets_in v ≡ 0
idle_tickets v e = ap count_ticket e

slot_value : {X : Type 0} (x y : X) (xs ys : List (ℕ × Option X)) → xs ≡ ys → xs ≡ (0, Some x) ∷ [] → ys ≡ (0, Some y) ∷ [] → x ≡ y
slot_value {X} x y xs ys same e f =
    let a : ℕ × Option X = (0, Some x) in
    let b : ℕ × Option X = (0, Some y) in
    let pair : a ≡ b = cc in
    let value : Some x ≡ Some y = ap (λ (p : ℕ × Option X). p.1) pair in cc

one_owned : (a b : Owned) → a ∷ [] ≡ b ∷ [] → a ≡ b
one_owned a b e = cc

module _ {X : Type 0} (list_of : X → List Entry) (options_of : X → Options) (options : Options) (threads : List ℕ) where
  abbrev St : Type 0
  St = State (Option X) View

  abbrev M : Type 0
  M = Me (Option X) View

  abbrev Rule : St → Type 0
  Rule = RuleHolds list_of options_of options threads

  -- the seat has a ticket: the number that was found
  pub draws : (id : ℕ) (v : View) (c : List (ℕ × Option X)) → v.ticket ≡ None → 0 < threads_in v
      → Allows Rule 1 id (v, c) 0 (λ n. (n + 1) % 2 ^ 64) (Draws list_of options_of (step 1 0 1 0 none) (v, c))
  draws id v c idle some_thread s r wide at low =
      let out : ℕ = total tickets_in s.views in
      let n : ℕ = slice_index s.words 0 in
      let found : n ≡ (r.serving + out) % 2 ^ 64 = ap (λ ws. slice_index ws 0) r.words in
      let w : View = waiting v n in
      let small = out_few list_of options_of options threads s r in
      let f = r.each id v at in
      let more : total tickets_in (set s.views id w) ≡ out + 1 = (let h = total_set tickets_in s.views id v w at in let z = idle_tickets v idle in omega arith) in
      let words : slice_set s.words 0 ((n + 1) % 2 ^ 64) ≡ words_at r.serving (total tickets_in (set s.views id w)) =
      ap (λ ws. slice_set ws 0 ((slice_index ws 0 + 1) % 2 ^ 64)) r.words ∙ (ap (λ (k : ℕ). k ∷ r.serving ∷ []) (next_ticket r.serving out) ∙ ap (words_at r.serving) (sym more)) in
      let mine : Fits options threads r.list r.serving (total tickets_in (set s.views id w)) w = record {
        options_are = f.options_are;
        seen = f.seen;
        untold = f.untold;
        own = f.own;
        own_seen = f.own_seen;
        distinct = f.distinct;
        listed = f.listed;
        waits = λ m e. (some_thread, (out, omega arith, cc (e, found)));
        holder = λ h. absurd (cc (idle, (f.holder h).0));
      } in
      let alone : (j : ℕ) (u : View) → j ≢ id → get_elem? s.views j ≡ some u → ¬ Shares w u = λ j u other e sh. ⊎_elim
      (λ (t : (t : ℕ) × HasThread t v.own × HasThread t u.own). other (sym (r.apart id j v u at e (inl t))))
      (λ (t : (m : ℕ) × (Some n ≡ Some m) × (u.ticket ≡ Some m)).
      let k = ((r.each j u e).waits t.0 t.2).1 in
      let is : (r.serving + k.0) % 2 ^ 64 ≡ (r.serving + out) % 2 ^ 64 = cc (k.2, t.1, found) in
      tickets_differ r.serving k.0 out k.1 small is)
      sh in
      let owners : total threads_in (set s.views id w) ≤ most_threads = (let h = total_set threads_in s.views id v w at in let g = r.few in omega arith) in
      (w, keeps, tt, changes list_of options_of options threads s r id v w (slice_set s.words 0 ((n + 1) % 2 ^ 64)) at words (omega arith) mine alone owners (λ h. h), refl)

  -- a seat that doesn't change
  unmoved : (s : St) (r : Rule s) (id i : ℕ) (v : View) → get_elem? s.views id ≡ some v → i < 2 → Rule record { words = slice_set s.words i (slice_index s.words i); homes = s.homes; views = set s.views id v }
  unmoved s r id i v at low = subst (λ (views : List View). Rule record { words = slice_set s.words i (slice_index s.words i); homes = s.homes; views = views }) (sym (set_again s.views id v at)) record {
    list = r.list;
    serving = r.serving;
    low = r.low;
    words = loaded list_of options_of options threads s r s.views i refl low;
    each = r.each;
    apart = r.apart;
    few = r.few;
    named = r.named;
    slot = r.slot;
  }

  -- the slot is taken by the seat whose turn it is
  taken : (s : St) (r : Rule s) (id : ℕ) (v : View) (h : Home list_of options_of options r.list s.homes) → length s.homes ≡ 1 → get_elem? s.views id ≡ some v → v.ticket ≡ Some r.serving
      → Rule record { words = slice_set s.words 1 (slice_index s.words 1); homes = slice_set s.homes 0 none; views = set s.views id (holding v (list_of h.value)) }
  taken s r id v h wide at mine =
      let f = r.each id v at in
      let w : View = holding v (list_of h.value) in
      let same : total tickets_in (set s.views id w) ≡ total tickets_in s.views = same_tickets list_of options_of options threads s id v w at refl in
      let is : r.list ≡ list_of h.value = sym h.list_is in
      record {
        list = r.list;
        serving = r.serving;
        low = r.low;
        words = loaded list_of options_of options threads s r (set s.views id w) 1 same (omega arith);
        each = each_set (Fits options threads r.list r.serving (total tickets_in (set s.views id w))) s.views id w
            (record {
              options_are = f.options_are;
              seen = subst (λ l. IsPrefix (list_of h.value) l) (sym is) (prefix_self (list_of h.value));
              untold = subst (λ l. IsPrefix v.untold l) is (prefix_trans v.untold v.seen r.list f.untold f.seen);
              own = f.own;
              own_seen = subst (λ l. OwnIn l v.own) is f.own;
              distinct = f.distinct;
              listed = f.listed;
              waits = λ m e. let k = f.waits m e in (k.0, (k.1.0, (let l = k.1.1 in omega arith), k.1.2));
              holder = λ _. (mine, sym is);
            })
            (λ j u _ e. fits_more list_of options_of options threads r.list r.serving (total tickets_in s.views) (total tickets_in (set s.views id w)) u (omega arith) (r.each j u e));
        apart = apart_set s.views id w r.apart (λ j u other e sh. other (sym (r.apart id j v u at e sh)));
        few = (let g = total_set threads_in s.views id v w at in let b = r.few in omega arith);
        named = r.named;
        slot = inr (record { at = set_here s.homes 0 none (omega arith); id = id; view = w; there = set_here s.views id w (at_length s.views id v at); holds = refl });
      }

  -- the slot isn't out where a seat's turn has come that doesn't hold it
  not_away : (s : St) (r : Rule s) (id : ℕ) (v : View) → get_elem? s.views id ≡ some v → v.ticket ≡ Some r.serving → v.holds ≡ false → ¬ Away s.homes s.views
  not_away s r id v at mine free a =
      let same : id ≡ a.id = r.apart id a.id v a.view at a.there (inr (r.serving, mine, ((r.each a.id a.view a.there).holder a.holds).0)) in
      let is : v ≡ a.view = one_there s.views id v a.view at (subst (λ (k : ℕ). get_elem? s.views k ≡ some a.view) (sym same) a.there) in
      true≢false (sym a.holds ∙ (ap (λ (u : View). u.holds) (sym is) ∙ free))

  -- where it is the seat's turn, it takes the slot
  pub looks : (id : ℕ) (v : View) (c : List (ℕ × Option X)) (mine : ℕ) → v.ticket ≡ Some mine → v.holds ≡ false
      → Allows Rule 1 id (v, c) 1 (λ n. n) (Looks list_of options_of (step 1 1 0 0 none) (v, c))
  looks id v c mine turn free s r wide at low =
      let n : ℕ = slice_index s.words 1 in
      let found : n ≡ r.serving = ap (λ ws. slice_index ws 1) r.words in
      let f = r.each id v at in
      dite (ℕ_discrete n mine)
      (λ hit. let served : v.ticket ≡ Some r.serving = turn ∙ ap Some (sym hit ∙ found) in ⊎_elim
      (λ (h : Home list_of options_of options r.list s.homes). (
        holding v (list_of h.value),
        takes 0 (Some h.value),
        h.at,
        taken s r id v h wide at served,
        (
          (λ m e. (
            (λ _. record {
              value = h.value;
              view = refl;
              slots = refl;
              begins = subst (λ l. IsPrefix v.seen l) (sym h.list_is) f.seen;
              own = subst (λ l. OwnIn l v.own) (sym h.list_is) f.own;
              options_are = λ alive. h.options_are ∙ sym (f.options_are alive);
            }),
            λ miss. absurd (miss (cc (hit, turn, e))),
          )),
          λ idle. absurd (cc (turn, idle)),
        ),
      ))
      (λ (a : Away s.homes s.views). absurd (not_away s r id v at served free a))
      r.slot)
      (λ miss. (v, keeps, tt, unmoved s r id 1 v at (omega arith), ((λ m e. ((λ hit. absurd (miss (cc (hit, turn, e)))), (λ _. refl))), λ idle. absurd (cc (turn, idle)))))

  -- the slot goes home with a list that has grown by entries of the seat's thread
  pub gives_home : (id : ℕ) (v : View) (y : X) (t : ℕ) (es new : List Entry) → v.own ≡ owned t es ∷ [] → v.live ≡ true → v.holds ≡ true
      → list_of y ≡ v.seen ++ new → All (λ e. e.thread ≡ t) new → options_of y ≡ v.options
      → Allows Rule 1 id (v, (0, Some y) ∷ []) 1 (λ n. (n + 1) % 2 ^ 64) (GivesBack list_of options_of (step 1 1 1 0 none) (v, (0, Some y) ∷ []))
  gives_home id v y t es new own alive holds grown all chosen s r wide at low =
      let f = r.each id v at in
      let out : ℕ = total tickets_in s.views in
      let n : ℕ = slice_index s.words 1 in
      let small = out_few list_of options_of options threads s r in
      let served = (f.holder holds).0 in
      let wait = f.waits r.serving served in
      let first : wait.1.0 ≡ 0 = first_ticket r.serving wait.1.0 r.low (let l = wait.1.1 in omega arith) wait.1.2 in
      let some_out : 0 < out = (let l = wait.1.1 in omega arith) in
      let is : list_of y ≡ r.list ++ new = grown ∙ ap (λ l. l ++ new) (f.holder holds).1 in
      let next : ℕ = (r.serving + 1) % 2 ^ 64 in
      let w : View = resting v.options (list_of y) (owned t (entries_of t (list_of y)) ∷ []) in
      let less : total tickets_in (set s.views id w) + 1 ≡ out = (let h = total_set tickets_in s.views id v w at in let o : tickets_in v ≡ 1 = ap count_ticket served in omega arith) in
      let mine_has : (u : ℕ) → HasThread u w.own → HasThread u v.own = λ u h. subst (HasThread u) (sym own) (⊎_elim (λ (e : t ≡ u). inl e) (λ (no : ⊥). inr no) h) in
      let shares : (u : View) → Shares w u → Shares v u = λ u sh. ⊎_elim
      (λ (x : (k : ℕ) × HasThread k w.own × HasThread k u.own). inl (x.0, mine_has x.0 x.1, x.2))
      (λ (x : (m : ℕ) × (w.ticket ≡ Some m) × (u.ticket ≡ Some m)). let no = x.1 in absurd (cc))
      sh in (
        w,
        gives,
        tt,
        record {
          list = list_of y;
          serving = next;
          low = omega arith;
          words = ap (λ ws. slice_set ws 1 ((slice_index ws 1 + 1) % 2 ^ 64)) r.words
              ∙ ap (λ (k : ℕ). k ∷ next ∷ []) (next_serving r.serving out some_out ∙ ap (λ (k : ℕ). (next + k) % 2 ^ 64) (omega arith));
          each = each_set (Fits options threads (list_of y) next (total tickets_in (set s.views id w))) s.views id w
              (record {
                options_are = λ _. f.options_are alive;
                seen = prefix_self (list_of y);
                untold = (list_of y, refl);
                own = (refl, tt);
                own_seen = (refl, tt);
                distinct = ((λ h. h), tt);
                listed = λ u h. f.listed u (mine_has u h);
                waits = λ m e. absurd (cc (e));
                holder = λ h. absurd (true≢false (sym h));
              })
              (λ j u other e. let g = r.each j u e in record {
                options_are = g.options_are;
                seen = subst (λ l. IsPrefix u.seen l) (sym is) (prefix_trans u.seen r.list (r.list ++ new) g.seen (prefix_more r.list new));
                untold = g.untold;
                own = subst (λ l. OwnIn l u.own) (sym is) (OwnIn-others u.own r.list new t (λ h. other (sym (r.apart id j v u at e (inl (t, subst (HasThread t) (sym own) (inl refl), h))))) all g.own);
                own_seen = g.own_seen;
                distinct = g.distinct;
                listed = g.listed;
                waits = λ m i. let k = g.waits m i in
                    let later : k.1.0 ≢ 0 = λ z. other (sym (r.apart id j v u at e (inr (r.serving, served, i ∙ ap Some (k.1.2 ∙ (let l = r.low in omega arith)))))) in
                    (k.0, (k.1.0 - 1, (let l = k.1.1 in omega arith), k.1.2 ∙ (let a = next_serving r.serving k.1.0 (omega arith) in a)));
                holder = λ h. absurd (other (sym (r.apart id j v u at e (inr (r.serving, served, (g.holder h).0)))));
              });
          apart = apart_set s.views id w r.apart (λ j u other e sh. other (sym (r.apart id j v u at e (shares u sh))));
          few = (let g = total_set threads_in s.views id v w at in let b = r.few in let o : threads_in v ≡ 1 = ap length own in omega arith);
          named = subst (All (λ e. Contains threads e.thread)) (sym is) (All-append (λ e. Contains threads e.thread) r.list new r.named
              (λ k d l. subst (Contains threads) (sym (all k d l)) (f.listed t (subst (HasThread t) (sym own) (inl refl)))));
          slot = inl (record { value = y; at = set_here s.homes 0 (some (Some y)) (omega arith); list_is = refl; options_are = chosen ∙ f.options_are alive });
        },
        λ y' t' es' e1 e2.
            let same_y : y ≡ y' = slot_value y y' ((0, Some y) ∷ []) ((0, Some y') ∷ []) e1 refl refl in
            let same_t : t ≡ t' = ap (λ (o : Owned). o.thread) (one_owned (owned t es) (owned t' es') (sym own ∙ e2)) in
            ap (λ (z : X × ℕ). (resting v.options (list_of z.0) (owned z.1 (entries_of z.1 (list_of z.0)) ∷ []), [])) (λ i. (same_y i, same_t i)),
      )
