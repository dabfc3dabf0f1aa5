-- What is asked for has one history in the order of the places, but for the room of its lists
use Rattle.std.proofs.Common.{◌≡◌, ℕ, ◌+◌, ◌==◌, ◌||◌, Bool, true, false, cond, not, List, [], ◌∷◌, ◌++◌, map, filter, flat_map, refl, sym, ap, ap₂, subst, ◌∙◌, append_assoc, append-nil, eq-eqb, true≢false}
use Rattle.std.specs.List.{AllByRecursion}
use Rattle.std.proofs.lemmas.List.{map-append}
use Rattle.std.proofs.lemmas.List.Elements.{recursion_from_All}
use Rattle.az_base.specs.declared.options.Options.{Options}
use Rattle.zone_model.specs.declared.act.Act.{Act}
use Rattle.zone_model.specs.declared.act.Act.TheVariants as act
use Rattle.zone_model.specs.declared.call.Call.{Call}
use Rattle.zone_model.specs.declared.entry.Entry.{Entry}
use Rattle.zone_model.specs.Bare.{bare_entry}
use Rattle.zone_model.specs.State.{State, opening}
use Rattle.zone_model.specs.History.{Run, Legal, IsGroup, entries_of, calls_of}
use Rattle.zone_model.specs.Part.{Part, part_of, opening_part, is_local, Solo}
use Rattle.zone_model.specs.LocalSteps.{LocalStep}
use Rattle.zone_model.proofs.Soundness.{ends_sound, sound_intact, sound_made}
use Rattle.zone_model.proofs.PartSteps.{parts_law}
use Rattle.zone_model.proofs.LocalCalls.{step_local}
use Rattle.play_order.specs.Places.{Played, latest_first, waiting, publishes, in_order, waiting_entries, published}
use Rattle.zone_history.specs.Histories.{Request}
use Rattle.play_order.specs.Play.{own_entries, is_local_act, IsTurn, AreTurns}
use Rattle.play_order.proofs.Order.{order_more, waits_more, latest_more}
use Rattle.zone_model.specs.Replies.{AllOf, NoCondemn}
use Rattle.zone_model.proofs.Groups.{group_once}
use Rattle.play_order.proofs.Threads.{own_append}
use Rattle.zone_model.proofs.Alone.{own_once, runs_once, local_once}

abbrev bares : List Entry → List Entry
bares es = map bare_entry es

-- two lines are alike, but for room
pub record SameLine (x y : Played) : Type 0 where
  pub thread : x.thread ≡ y.thread
  pub local : x.local ≡ y.local
  pub entries : map bare_entry x.entries ≡ map bare_entry y.entries

bare_cond : (b : Bool) (es fs : List Entry) → bares (cond b es fs) ≡ cond b (bares es) (bares fs)
bare_cond true es fs = refl
bare_cond false es fs = refl

bare_two : (es fs ds gs : List Entry) → bares es ≡ bares ds → bares fs ≡ bares gs → bares (es ++ fs) ≡ bares (ds ++ gs)
bare_two es fs ds gs h k = map-append bare_entry es fs ∙ ap₂ (λ a b. a ++ b) h k ∙ sym (map-append bare_entry ds gs)

bare_choice : (b c : Bool) (es fs ds gs : List Entry) → b ≡ c → bares es ≡ bares ds → bares fs ≡ bares gs → bares (cond b es fs) ≡ bares (cond c ds gs)
bare_choice b c es fs ds gs e h k = bare_cond b es fs ∙ ap (λ b. cond b (bares es) (bares fs)) e ∙ ap₂ (cond c) h k ∙ sym (bare_cond c ds gs)

-- the first entry of a thread's list, in the history
found : (p : Entry → Bool) (h a b : List Entry) (e : Entry) → filter p h ≡ a ++ e ∷ b → (before : List Entry) × (later : List Entry) × (h ≡ before ++ e ∷ later) × (filter p before ≡ a)
found p [] [] b e is = absurd (bad is)
  where
    bad : {e : Entry} {b : List Entry} → [] ≡ e ∷ b → ⊥
    bad h = cc (h)
found p [] (x ∷ a) b e is = absurd (bad is)
  where
    bad : {e : Entry} {b : List Entry} → [] ≡ e ∷ b → ⊥
    bad h = cc (h)
found p (x ∷ h) a b e is = by (p x) refl a is (found p h)
  where
    heads : (x y : Entry) (xs ys : List Entry) → x ∷ xs ≡ y ∷ ys → (x ≡ y) × (xs ≡ ys)
    heads x y xs ys h = (cc, cc)

    by : (t : Bool) → p x ≡ t → (a : List Entry) → cond t (x ∷ filter p h) (filter p h) ≡ a ++ e ∷ b
        → ((a b : List Entry) (e : Entry) → filter p h ≡ a ++ e ∷ b → (before : List Entry) × (later : List Entry) × (h ≡ before ++ e ∷ later) × (filter p before ≡ a))
        → (before : List Entry) × (later : List Entry) × (x ∷ h ≡ before ++ e ∷ later) × (filter p before ≡ a)
    by true t [] is rest = ([], h, ap (λ y. y ∷ h) (heads x e (filter p h) b is).0, refl)
    by true t (y ∷ a) is rest =
        let i = heads x y (filter p h) (a ++ e ∷ b) is in
        let r = rest a b e i.1 in
        (x ∷ r.0, r.1, ap (λ es. x ∷ es) r.2, ap (λ c. cond c (x ∷ filter p r.0) (filter p r.0)) t ∙ ap₂ (λ u v. u ∷ v) i.0 r.3)
    by false t a is rest =
        let r = rest a b e is in
        (x ∷ r.0, r.1, ap (λ es. x ∷ es) r.2, ap (λ c. cond c (x ∷ filter p r.0) (filter p r.0)) t ∙ r.3)

run_split : (z : State) (es fs : List Entry) (y : State) → Run z (es ++ fs) y → (mid : State) × Run z es mid × Run mid fs y
run_split z [] fs y h = (z, refl, h)
run_split z (e ∷ es) fs y h = let rest = run_split h.0 es fs y h.2 in (rest.0, (h.0, h.1, rest.1), rest.2)

one_call : (es : List Entry) (c : Call) → calls_of es ≡ c ∷ [] → (e : Entry) × (es ≡ e ∷ []) × (e.call ≡ c)
one_call [] c h = absurd (bad h)
  where
    bad : {c : Call} → [] ≡ c ∷ [] → ⊥
    bad h = cc (h)
one_call (e ∷ []) c h = (e, refl, cc)
one_call (e ∷ f ∷ es) c h = absurd (bad h)
  where
    bad : {c d g : Call} {cs : List Call} → g ∷ d ∷ cs ≡ c ∷ [] → ⊥
    bad h = cc (h)

-- no line asks for a Condemn
abbrev pub NoCondemns : List Request → Type 0
NoCondemns asked = AllByRecursion (λ a. NoCondemn a.1) asked

module _ (o : Options) (pending : ℕ) where
  -- two lists of lines give the same, but for room
  pub record Alike (ds es : List Played) : Type 0 where
    pub journal : map bare_entry (in_order pending ds) ≡ map bare_entry (in_order pending es)
    pub waits : (t : ℕ) → map bare_entry (waiting_entries pending t ds) ≡ map bare_entry (waiting_entries pending t es)
    pub own : (t : ℕ) → map bare_entry (own_entries t ds) ≡ map bare_entry (own_entries t es)
    pub count : (t : ℕ) → waiting pending t (latest_first [] ds) ≡ waiting pending t (latest_first [] es)

  module _ (ds es : List Played) (x y : Played) (at : Alike ds es) (same : SameLine x y) where
    publish_alike : publishes pending (latest_first [] ds) x ≡ publishes pending (latest_first [] es) y
    publish_alike = ap₂ (λ l n. not l || (n == pending)) same.local (at.count x.thread ∙ ap (λ t. waiting pending t (latest_first [] es)) same.thread)

    w_alike : bares (waiting_entries pending x.thread ds) ≡ bares (waiting_entries pending y.thread es)
    w_alike = at.waits x.thread ∙ ap (λ t. bares (waiting_entries pending t es)) same.thread

    own_single : (t : ℕ) (x : Played) → own_entries t (x ∷ []) ≡ cond (x.thread == t) x.entries []
    own_single t x = by (x.thread == t)
      where
        by : (b : Bool) → flat_map (λ (l : Played). l.entries) (cond b (x ∷ []) []) ≡ cond b x.entries []
        by true = append-nil x.entries
        by false = refl

    thread_test : (t : ℕ) → (x.thread == t) ≡ (y.thread == t)
    thread_test t = ap (λ n. n == t) same.thread

    alike_more : Alike (ds ++ x ∷ []) (es ++ y ∷ [])
    alike_more = record {
      journal = ap bares (order_more pending ds x)
          ∙ bare_two (in_order pending ds) (published pending ds x) (in_order pending es) (published pending es y) at.journal
          (bare_two (cond (publishes pending (latest_first [] ds) x) (waiting_entries pending x.thread ds) []) (cond x.local [] x.entries) (cond (publishes pending (latest_first [] es) y) (waiting_entries pending y.thread es) []) (cond y.local [] y.entries)
          (bare_choice (publishes pending (latest_first [] ds) x) (publishes pending (latest_first [] es) y) (waiting_entries pending x.thread ds) [] (waiting_entries pending y.thread es) [] publish_alike w_alike refl)
          (bare_choice x.local y.local [] x.entries [] y.entries same.local refl same.entries))
          ∙ ap bares (sym (order_more pending es y));
      waits = λ t. ap bares (waits_more pending ds x t)
          ∙ bare_choice (x.thread == t) (y.thread == t)
          (cond (publishes pending (latest_first [] ds) x) [] (waiting_entries pending t ds) ++ cond x.local x.entries []) (waiting_entries pending t ds)
          (cond (publishes pending (latest_first [] es) y) [] (waiting_entries pending t es) ++ cond y.local y.entries []) (waiting_entries pending t es)
          (thread_test t)
          (bare_two (cond (publishes pending (latest_first [] ds) x) [] (waiting_entries pending t ds)) (cond x.local x.entries []) (cond (publishes pending (latest_first [] es) y) [] (waiting_entries pending t es)) (cond y.local y.entries [])
          (bare_choice (publishes pending (latest_first [] ds) x) (publishes pending (latest_first [] es) y) [] (waiting_entries pending t ds) [] (waiting_entries pending t es) publish_alike refl (at.waits t))
          (bare_choice x.local y.local x.entries [] y.entries [] same.local same.entries refl))
          (at.waits t)
          ∙ ap bares (sym (waits_more pending es y t));
      own = λ t. ap bares (own_append t ds (x ∷ []))
          ∙ bare_two (own_entries t ds) (own_entries t (x ∷ [])) (own_entries t es) (own_entries t (y ∷ [])) (at.own t)
          (ap bares (own_single t x) ∙ bare_choice (x.thread == t) (y.thread == t) x.entries [] y.entries [] (thread_test t) same.entries refl ∙ ap bares (sym (own_single t y)))
          ∙ ap bares (sym (own_append t es (y ∷ [])));
      count = λ t. ap (waiting pending t) (latest_more pending ds x) ∙ counted t ∙ sym (ap (waiting pending t) (latest_more pending es y));
    }
      where
        counted : (t : ℕ) → waiting pending t (x ∷ latest_first [] ds) ≡ waiting pending t (y ∷ latest_first [] es)
        counted t =
            ap₂ (λ c l. cond c (cond l (cond (waiting pending t (latest_first [] ds) == pending) 1 (waiting pending t (latest_first [] ds) + 1)) 0) (waiting pending t (latest_first [] ds))) (thread_test t) same.local
            ∙ ap (λ n. cond (y.thread == t) (cond y.local (cond (n == pending) 1 (n + 1)) 0) n) (at.count t)

  -- later lines only add to the order
  order_prefix : (ds later : List Played) → (tail : List Entry) × (in_order pending (ds ++ later) ≡ in_order pending ds ++ tail)
  order_prefix ds [] = ([], ap (in_order pending) (append-nil ds) ∙ sym (append-nil (in_order pending ds)))
  order_prefix ds (x ∷ later) =
      let rest = order_prefix (ds ++ x ∷ []) later in
      (published pending ds x ++ rest.0, ap (in_order pending) (sym (append_assoc ds (x ∷ []) later)) ∙ rest.1 ∙ ap (λ es. es ++ rest.0) (order_more pending ds x) ∙ append_assoc (in_order pending ds) (published pending ds x) rest.0)

  -- what is known of all lines together
  pub record Facts (ls : List Played) : Type 0 where
    pub legal : Legal o (in_order pending ls)
    pub own : (t : ℕ) → entries_of t (in_order pending ls) ≡ own_entries t ls

  -- a shared line runs from the state after what was published and what waited of its thread
  shared_run : (ds : List Played) (l : Played) (later : List Played) → l.local ≡ false → Facts (ds ++ l ∷ later)
      → (mid : State) × (y : State) × Run (opening o) (in_order pending ds ++ waiting_entries pending l.thread ds) mid × Run mid l.entries y
  shared_run ds l later shared facts =
      let more = order_prefix (ds ++ l ∷ []) later in
      let says : in_order pending (ds ++ l ∷ later) ≡ ((in_order pending ds ++ waiting_entries pending l.thread ds) ++ l.entries) ++ more.0 =
      ap (in_order pending) (sym (append_assoc ds (l ∷ []) later)) ∙ more.1
      ∙ ap (λ es. es ++ more.0) (order_more pending ds l ∙ ap (λ es. in_order pending ds ++ es) plain ∙ sym (append_assoc (in_order pending ds) (waiting_entries pending l.thread ds) l.entries)) in
      let run = subst (λ es. Run (opening o) es facts.legal.0) says facts.legal.1 in
      let outer = run_split (opening o) ((in_order pending ds ++ waiting_entries pending l.thread ds) ++ l.entries) more.0 facts.legal.0 run in
      let inner = run_split (opening o) (in_order pending ds ++ waiting_entries pending l.thread ds) l.entries outer.0 outer.1 in
      (inner.0, outer.0, inner.1, inner.2)
    where
      plain : published pending ds l ≡ waiting_entries pending l.thread ds ++ l.entries
      plain = rw (shared) refl

  -- a local line is a local step at its thread's part
  local_run : (ds : List Played) (l : Played) (later : List Played) (part : Part) (c : Call) → Facts (ds ++ l ∷ later) → Solo o (own_entries l.thread ds) part → is_local part c ≡ true → AllOf l.thread l.entries
      → calls_of l.entries ≡ c ∷ [] → (e : Entry) × (after : Part) × (l.entries ≡ e ∷ []) × (e.call ≡ c) × LocalStep part l.thread e after
  local_run ds l later part c facts solo local own calls =
      let t = l.thread in
      let one = one_call l.entries c calls in
      let e = one.0 in
      let mine = subst (AllOf t) one.1 own in
      let here : own_entries t (ds ++ l ∷ later) ≡ own_entries t ds ++ e ∷ own_entries t later = own_append t ds (l ∷ later) ∙ ap (λ es. own_entries t ds ++ es) (front ∙ ap (λ es. es ++ own_entries t later) one.1) in
      let f = found (λ e. e.thread == t) (in_order pending (ds ++ l ∷ later)) (own_entries t ds) (own_entries t later) e (facts.own t ∙ here) in
      let run = run_split (opening o) f.0 (e ∷ f.1) facts.legal.0 (subst (λ es. Run (opening o) es facts.legal.0) f.2 facts.legal.1) in
      let z = run.0 in
      let after = run.2.0 in
      let sound = ends_sound o f.0 z run.1 in
      let same = own_once (opening_part o) (entries_of t f.0) (own_entries t ds) (part_of z t) part (parts_law o f.0 z t run.1) solo (ap bares f.3) in
      let step = step_local z (sound_intact z sound) (sound_made z sound) e after run.2.1 (ap₂ (λ u d. is_local (part_of z u) d) mine.0 one.2 ∙ ap (λ p. is_local p c) same ∙ local) in
      let ours = subst (λ u. LocalStep (part_of z u) u e (part_of after u)) mine.0 step in
      (e, part_of after t, one.1, one.2, subst (λ p. LocalStep p t e (part_of after t)) same ours)
    where
      front : own_entries l.thread (l ∷ later) ≡ l.entries ++ own_entries l.thread later
      front = rw (eq-eqb l.thread l.thread refl) refl

  module _ (ds es : List Played) (l k : Played) (ls ks : List Played) (at : Alike ds es) (facts : Facts (ds ++ l ∷ ls)) (also : Facts (es ++ k ∷ ks)) where
    local_alike : (a : Act) (p : Part) → IsGroup a l.entries → IsGroup a k.entries → AllOf l.thread l.entries → AllOf k.thread k.entries → l.thread ≡ k.thread
        → Solo o (own_entries l.thread ds) p → Solo o (own_entries k.thread es) p → is_local_act p a ≡ true → bares l.entries ≡ bares k.entries
    local_alike (act.Call c) p g i own mine thread solo alone local =
        let x = local_run ds l ls p c facts solo local own g in
        let y = local_run es k ks p c also alone local mine i in
        ap bares x.2 ∙ ap (λ e. e ∷ []) (local_once p l.thread x.0 y.0 x.1 y.1 x.4 (subst (λ t. LocalStep p t y.0 y.1) (sym thread) y.4) (x.3 ∙ sym y.3)) ∙ sym (ap bares y.2)
    local_alike (act.Collect m) p g i own mine thread solo alone local = absurd (true≢false (sym local))

    shared_alike : (a : Act) → NoCondemn a → IsGroup a l.entries → IsGroup a k.entries → AllOf l.thread l.entries → AllOf k.thread k.entries → l.thread ≡ k.thread → l.local ≡ false → k.local ≡ false → bares l.entries ≡ bares k.entries
    shared_alike a plain g i own mine thread shared other =
        let x = shared_run ds l ls shared facts in
        let y = shared_run es k ks other also in
        let same = runs_once (opening o) (in_order pending ds ++ waiting_entries pending l.thread ds) (in_order pending es ++ waiting_entries pending k.thread es) x.0 y.0 x.2 y.2
        (bare_two (in_order pending ds) (waiting_entries pending l.thread ds) (in_order pending es) (waiting_entries pending k.thread es) at.journal (at.waits l.thread ∙ ap (λ t. bares (waiting_entries pending t es)) thread)) in
        (group_once l.thread x.0 a l.entries k.entries x.1 y.1 plain g i own (subst (λ t. AllOf t k.entries) (sym thread) mine) x.3 (subst (λ z. Run z k.entries y.1) (sym same) y.3)).0

    -- a line and its like
    same_line : (a : Request) → NoCondemn a.1 → IsTurn o ds a l → IsTurn o es a k → SameLine l k
    same_line a plain h i =
        let thread = h.thread ∙ sym i.thread in
        let part = own_once (opening_part o) (own_entries l.thread ds) (own_entries k.thread es) h.part i.part h.given i.given (at.own l.thread ∙ ap (λ t. bares (own_entries t es)) thread) in
        let local = h.local ∙ ap (λ p. is_local_act p a.1) part ∙ sym i.local in
        let own = recursion_from_All _ l.entries h.own in
        let mine = recursion_from_All _ k.entries i.own in
        record { thread = thread; local = local; entries = by l.local refl thread part local own mine }
      where
        by : (b : Bool) → l.local ≡ b → l.thread ≡ k.thread → h.part ≡ i.part → l.local ≡ k.local → AllOf l.thread l.entries → AllOf k.thread k.entries → bares l.entries ≡ bares k.entries
        by true is thread part local own mine = local_alike a.1 h.part h.group i.group own mine thread h.given (subst (λ p. Solo o (own_entries k.thread es) p) (sym part) i.given) (sym h.local ∙ is)
        by false is thread part local own mine = shared_alike a.1 plain h.group i.group own mine thread is (sym local ∙ is)

  -- whatever is asked for is played in one way, but for room
  played_once : (asked : List Request) (ds es ls ks : List Played) → NoCondemns asked → Alike ds es → Facts (ds ++ ls) → Facts (es ++ ks) → AreTurns o ds asked ls → AreTurns o es asked ks → Alike (ds ++ ls) (es ++ ks)
  played_once [] ds es [] [] plain at facts also h i = subst (λ x. Alike x (es ++ [])) (sym (append-nil ds)) (subst (λ y. Alike ds y) (sym (append-nil es)) at)
  played_once [] ds es (l ∷ ls) ks plain at facts also h i = absurd h
  played_once [] ds es [] (k ∷ ks) plain at facts also h i = absurd i
  played_once (a ∷ asked) ds es [] ks plain at facts also h i = absurd h
  played_once (a ∷ asked) ds es (l ∷ ls) [] plain at facts also h i = absurd i
  played_once (a ∷ asked) ds es (l ∷ ls) (k ∷ ks) plain at facts also h i =
      let same = same_line ds es l k ls ks at facts also a plain.0 h.0 i.0 in
      let here = append_assoc ds (l ∷ []) ls in
      let there = append_assoc es (k ∷ []) ks in
      let rest = played_once asked (ds ++ l ∷ []) (es ++ k ∷ []) ls ks plain.1 (alike_more ds es l k at same) (subst Facts (sym here) facts) (subst Facts (sym there) also) h.1 i.1 in
      subst (λ x. Alike x (es ++ k ∷ ks)) here (subst (λ y. Alike ((ds ++ l ∷ []) ++ ls) y) there rest)

  pub order_once : (asked : List Request) (ls ks : List Played) → NoCondemns asked → Facts ls → Facts ks → AreTurns o [] asked ls → AreTurns o [] asked ks → map bare_entry (in_order pending ls) ≡ map bare_entry (in_order pending ks)
  order_once asked ls ks plain facts also h i = (played_once asked [] [] ls ks plain (record { journal = refl; waits = λ t. refl; own = λ t. refl; count = λ t. refl }) facts also h i).journal
