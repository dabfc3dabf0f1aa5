-- The steps of a collection keep a state sound
use Rattle.std.proofs.Common.{◌≡◌, ◌+◌, ℕ, Bool, true, false, cond, not, ◌||◌, List, [], ◌∷◌, ◌++◌, Some, None, IsTrue, refl, sym, ap, subst, ◌∙◌, inl, inr, fold, find}
use Rattle.std.specs.Option.{option_map_or}
use Rattle.std.specs.FinMap.{FinMap, get, retain_keys, get-retain_keys}
use Rattle.std.specs.Cmp.{tied_itself}
use Rattle.std.specs.Ordering.{is_eq}
use Rattle.std.specs.declared.cmp.Ordering.{Ordering}
use Rattle.std.specs.declared.cmp.Ordering.TheVariants.{Equal}
use Rattle.az_base.specs.declared.action.Action.{Action}
use Rattle.az_base.specs.declared.action.Action.TheVariants as action
use Rattle.az_base.specs.declared.action.Mode.{Mode}
use Rattle.az_base.specs.declared.block_id.BlockId.{BlockId}
use Rattle.az_base.specs.declared.weak_loc.WeakLoc.{WeakLoc}
use Rattle.az_base.specs.declared.weak_loc.WeakLoc.TheVariants as weak
use Rattle.az_base.specs.Ids.{same_id, among, ids_total}
use Rattle.az_base.specs.Places.{pair_cmp, loc_cmp, exact_pair, exact_locs}
use Rattle.zone_model.specs.State.{State, Cycle, with_cycle, without, is_word_of, referent, word_at, is_escaped}
use Rattle.zone_model.specs.Reach.{Edge, IsHeld}
use Rattle.zone_model.specs.Collection.{HasCondemned, MayCondemn, Reclaims, IsKept, new_cycle, with_action, actions_of, with_finalised, with_condemned, shows_one}
use Rattle.zone_model.specs.Sound.{is_started}
use Rattle.zone_model.proofs.Intact.{Intact}
use Rattle.zone_model.proofs.IntactChanges.{start_of, condemned_of, root_intact, weak_less, cycle_intact, removed_intact}
use Rattle.zone_model.proofs.Paths.{path_more}
use Rattle.zone_model.proofs.IntactWords.{referred, edge_out, edited_intact}

some_block : (a b : BlockId) → Some a ≡ Some b → a ≡ b
some_block a b h = cc

pub begin_intact : (z : State) → Intact z → (t : ℕ) (mode : Mode) → Intact (with_cycle z (Some (new_cycle z t mode)))
begin_intact z s t mode = cycle_intact z s (Some (new_cycle z t mode)) (λ b h. h) (λ b h. cc (h)) (λ l b h. refl)

-- what is left of a table
pub left_key : {K X : Type 0} {R : K → K → Ordering} (exact : (a b : K) → R a b ≡ Equal → a ≡ b) (m : FinMap R X) (p : K → Bool) (k : K) (x : X) → get (retain_keys m (λ k. not (p k))) k ≡ Some x → (p k ≡ false) × (get m k ≡ Some x)
left_key exact m p k x h = by_test (p k) refl (sym (get-retain_keys m (λ k. not (p k)) k (λ j e. ap (λ i. not (p i)) (sym (exact k j e)))) ∙ h)
  where
    by_test : (t : Bool) → p k ≡ t → cond (not t) (get m k) None ≡ Some x → (p k ≡ false) × (get m k ≡ Some x)
    by_test true e h = cc (h)
    by_test false e h = (e, h)

pub condemn_intact : (z : State) → Intact z → (c : Cycle) (r : List BlockId) → z.cycle ≡ Some c → MayCondemn z c r → Intact (with_condemned z c r)
condemn_intact z s c r is may =
    cycle_intact (record z { weak = less }) (weak_less z s less (λ l b h. (left_key exact_locs z.weak (λ l. shows_one r (get z.weak l)) l b h).1)) (Some (record c { condemned = Some r }))
    (λ b h. s.cycle.started b (ap (λ o. start_of o b) is ∙ h))
    (λ b h. may.start b h)
    (λ l b h.
    let left = left_key exact_locs z.weak (λ l. shows_one r (get z.weak l)) l b h in
    sym (ap (shows_one r) left.1) ∙ left.0)
  where
    less : FinMap loc_cmp BlockId
    less = retain_keys z.weak (λ l. not (shows_one r (get z.weak l)))

pub found_among : (p : BlockId → Bool) (ids : List BlockId) (b : BlockId) → find p ids ≡ Some b → among ids b ≡ true
found_among p [] b h = cc (h)
found_among p (x ∷ ids) b h = by_test (p x) (found_among p ids b) h
  where
    or_true : (t : Bool) → (t || true) ≡ true
    or_true true = refl
    or_true false = refl

    by_test : (t : Bool) → (find p ids ≡ Some b → among ids b ≡ true) → cond t (Some x) (find p ids) ≡ Some b → (same_id b x || among ids b) ≡ true
    by_test true rest h = ap (λ y. same_id b y || among ids b) (some_block x b h) ∙ ap (λ o. is_eq o || among ids b) (tied_itself ids_total b)
    by_test false rest h = ap (λ t. same_id b x || t) (rest h) ∙ or_true (same_id b x)

-- a condemned block has escaped
pub condemned_out : (z : State) → Intact z → (t : ℕ) (r : List BlockId) → HasCondemned z t r → (b : BlockId) → among r b ≡ true → IsTrue (is_started z b) × IsTrue (is_escaped z b)
condemned_out z s t r has b h =
    let started : IsTrue (is_started z b) = s.cycle.condemned b (ap (λ o. condemned_of o b) has.1.0 ∙ ap (λ o. option_map_or (λ r. among r b) o false) has.2 ∙ h) in
    (started, s.cycle.started b started)

-- an action puts an escaped block into a root
action_intact : (z : State) → Intact z → (b : BlockId) → IsTrue (is_escaped z b) → (a : Action) → Intact (with_action b z a)
action_intact z s b out (action.Keep g) = root_intact z s g.0 (Some b) (λ q h. subst (λ x. IsTrue (is_escaped z x)) (some_block b q h) out)
action_intact z s b out (action.Pass g at) = root_intact z s g.0 (referent (word_at z (Some b) at)) (λ q h.
    let edge = referred z (Some b) at q h in
    edge_out z edge.0 q (subst (λ x. IsTrue (is_escaped z x)) (some_block b edge.0 edge.1) out) (s.names.words edge.0 q edge.2))

actions_intact : (z : State) → Intact z → (b : BlockId) → IsTrue (is_escaped z b) → (actions : List Action) → Intact (fold (with_action b) z actions)
actions_intact z s b out [] = s
actions_intact z s b out (action.Keep g ∷ more) = actions_intact (with_action b z (action.Keep g)) (action_intact z s b out (action.Keep g)) b out more
actions_intact z s b out (action.Pass g at ∷ more) = actions_intact (with_action b z (action.Pass g at)) (action_intact z s b out (action.Pass g at)) b out more

pub finalise_intact : (z : State) → Intact z → (b : BlockId) → IsTrue (is_escaped z b) → Intact (with_finalised (fold (with_action b) z (actions_of z b)) b)
finalise_intact z s b out =
    let done = actions_intact z s b out (actions_of z b) in
    edited_intact (fold (with_action b) z (actions_of z b)) done b (λ k. record k { finalised = true }) (λ k. refl) (λ k. refl) (λ k i q is h. done.names.words b q (k, i, is, h))

module _ (z : State) (s : Intact z) (t : ℕ) (gone kept : List BlockId) (after : State) (h : Reclaims z t gone kept after) where
  not_true : (b : Bool) → (b ≡ true → ⊥) → b ≡ false
  not_true true h = absurd (h refl)
  not_true false h = refl

  -- a condemned block that is kept isn't gone
  spared : (b : BlockId) → (IsTrue (among h.r b) → IsKept z h.r b) → among gone b ≡ false
  spared b k = not_true (among gone b) (λ taken. let parts = (h.gone_ones.1 b).0 taken in parts.1 (k parts.0))

  held : (b : BlockId) → IsHeld z b → among gone b ≡ false
  held b is = spared b (λ in_r. (b, inl is, ([], refl)))

  edge_spared : (a b : BlockId) → Edge z a b → among gone a ≡ false → among gone b ≡ false
  edge_spared a b e left = by_in (among h.r a) refl
    where
      by_kept : among h.r a ≡ true → (k : Bool) → among kept a ≡ k → among gone b ≡ false
      by_kept in_r true is = spared b (λ _. let path = ((h.kept_ones.1 a).0 is).1 in (path.0, path.1, (path.2.0 ++ b ∷ [], path_more (Edge z) path.0 path.2.0 a b path.2.1 e)))
      by_kept in_r false is =
          let taken : among gone a ≡ true = (h.gone_ones.1 a).1 (in_r, λ k. let no : true ≡ false = sym ((h.kept_ones.1 a).1 (in_r, k)) ∙ is in cc (no)) in
          let no : true ≡ false = sym taken ∙ left in
          cc (no)

      by_in : (i : Bool) → among h.r a ≡ i → among gone b ≡ false
      by_in true is = by_kept is (among kept a) refl
      by_in false is = spared b (λ _. (a, inr is, (b ∷ [], (e, refl))))

  taken_out : (b : BlockId) → among gone b ≡ true → IsTrue (is_started z b) × IsTrue (is_escaped z b)
  taken_out b taken = condemned_out z s t h.r h.condemned b ((h.gone_ones.1 b).0 taken).0

  abbrev weak_left : FinMap loc_cmp BlockId
  weak_left = retain_keys z.weak (λ l. not (is_word_of gone l))

  abbrev assocs_left : FinMap pair_cmp BlockId
  assocs_left = retain_keys z.assocs (λ pair. not (among gone pair.0))

  -- first the tables, then the blocks
  abbrev tables : State
  tables = record z { assocs = assocs_left; weak = weak_left; reclaims = z.reclaims + 1; cycle = None }

  weak_was : (l : WeakLoc) (b : BlockId) → get weak_left l ≡ Some b → (is_word_of gone l ≡ false) × (get z.weak l ≡ Some b)
  weak_was l b is = left_key exact_locs z.weak (is_word_of gone) l b is

  assoc_was : (p : BlockId × ℕ) (b : BlockId) → get assocs_left p ≡ Some b → (among gone p.0 ≡ false) × (get z.assocs p ≡ Some b)
  assoc_was p b is = left_key exact_pair z.assocs (λ pair. among gone pair.0) p b is

  tables_intact : Intact tables
  tables_intact = record {
    names = record {
      registers = s.names.registers;
      roots = s.names.roots;
      words = s.names.words;
      counts = s.names.counts;
      objects = λ a k b is. s.names.objects a k b (assoc_was (a, k) b is).1;
      values = λ a k b is. s.names.values a k b (assoc_was (a, k) b is).1;
      shown = λ l b is. s.names.shown l b (weak_was l b is).1;
      showing = λ a at b is. s.names.showing a at b (weak_was (weak.Word a at) b is).1;
    };
    cycle = record {
      started = λ b no. cc (no);
      condemned = λ b no. cc (no);
      cleared = λ l b is. refl;
    };
    used = s.used;
  }

  pub reclaim_intact : Intact (record (without z gone) { reclaims = z.reclaims + 1; cycle = None })
  reclaim_intact = removed_intact tables tables_intact gone
      (λ u r b is. held b (inl (u, r, is)))
      (λ g b is. held b (inr (inl (g, is))))
      (λ a b e left. edge_spared a b (inl e) left)
      (λ b is. held b (inr (inr is)))
      (λ a k b is. let was = assoc_was (a, k) b is in (was.0, edge_spared a b (inr (k, was.1)) was.0))
      (λ l b is. not_true (among gone b) (λ taken.
      let in_r : condemned_of z.cycle b ≡ true = ap (λ o. condemned_of o b) h.condemned.1.0 ∙ ap (λ o. option_map_or (λ r. among r b) o false) h.condemned.2 ∙ ((h.gone_ones.1 b).0 taken).0 in
      let no : true ≡ false = sym in_r ∙ s.cycle.cleared l b (weak_was l b is).1 in
      cc (no)))
      (λ a at b is. (weak_was (weak.Word a at) b is).0)
      (λ b no. cc (no))
