-- Places and lists as one finite map, and what single changes of them keep
use Rattle.std.proofs.Common.{◌≡◌, ℕ, ◌<◌, ◌≤◌, Bool, true, false, cond, List, [], ◌∷◌, length, slice_get, Option, Some, None, IsSome, refl, sym, ap, subst, ◌∙◌, arith, suc}
use Rattle.std.proofs.lemmas.Option.{slice_get_within}
use Rattle.std.specs.HashMap.{HashMap, spare}
use Rattle.std.specs.List.{IsDistinct, swap_remove}
use Rattle.std.specs.Map.{lookup, keys_of}
use Rattle.std.specs.Option.{option_map, MatchOption}
use Rattle.std.specs.Ordering.{eq_by_cmp}
use Rattle.std.specs.Cmp.{eq_by_cmp_equiv}
use Rattle.std.specs.FinMap.{get, insert, remove, len, same_map, get-insert, get-remove}
use Rattle.smallvec.specs.SmallVec.{SmallVec}
use Rattle.az_base.specs.declared.block_id.BlockId.{BlockId}
use Rattle.az_base.specs.declared.weak_loc.WeakLoc.{WeakLoc}
use Rattle.az_base.specs.Places.{loc_cmp, locs_total, exact_locs}
use Rattle.weak_table.specs.Listings.{Listed}
use Rattle.az_base.specs.Places.{loc_eq}
use Rattle.weak_table.specs.Locs.{Puts}
use Rattle.weak_table.specs.Lists.{members_at, IsRoomy, SameMembers, Enters, Leaves}
use Rattle.weak_table.specs.Agrees.{Agrees, place, is_one}
use Rattle.weak_table.specs.Grouped.{with_groups, shown_groups, IsIndexed}
use Rattle.az_base.proofs.Places.{eq_locs, loc_is}
use Rattle.az_base.proofs.Ids.{eq_self}
use Rattle.weak_table.proofs.Agree.{agrees-entered, agrees-left, moved-there}
use Rattle.az_base.proofs.Tables.{shown-get, shown-len}

abbrev pub group_in : Option Listed → Option BlockId
group_in o = option_map (λ (p : Listed). p.group) o

pub lookup-groups : (test : WeakLoc → Bool) (es : List (WeakLoc × Listed)) → lookup test (with_groups es) ≡ group_in (lookup test es)
lookup-groups test [] = refl
lookup-groups test (e ∷ es) = by (test e.0) (lookup-groups test es)
  where
    by : (b : Bool) → lookup test (with_groups es) ≡ group_in (lookup test es) → cond b (Some e.1.group) (lookup test (with_groups es)) ≡ group_in (cond b (Some e.1) (lookup test es))
    by true h = refl
    by false h = h

-- the group of a location is that of its place
pub shown-group : (es : List (WeakLoc × Listed)) (q : WeakLoc) → get (shown_groups es) q ≡ group_in (lookup (loc_eq q) es)
shown-group es q = shown-get locs_total loc_eq eq_locs (with_groups es) q ∙ lookup-groups (loc_eq q) es

turn : (a b : WeakLoc) → loc_eq a b ≡ eq_by_cmp loc_cmp b a
turn a b = eq_locs a b ∙ (eq_by_cmp_equiv locs_total).symm a b

pub shown-put : (es fs : List (WeakLoc × Listed)) (l : WeakLoc) (p : Listed) → Puts l (Some p) es fs → shown_groups fs ≡ insert (shown_groups es) l p.group
shown-put es fs l p is = same_map locs_total exact_locs _ _ (λ q.
    shown-group fs q ∙ ap group_in (is q) ∙ by q (loc_eq l q) ∙ ap (λ t. cond t (Some p.group) (get (shown_groups es) q)) (turn l q)
    ∙ sym (get-insert locs_total (shown_groups es) l p.group q))
  where
    by : (q : WeakLoc) (t : Bool) → group_in (cond t (Some p) (lookup (loc_eq q) es)) ≡ cond t (Some p.group) (get (shown_groups es) q)
    by q true = refl
    by q false = sym (shown-group es q)

pub shown-taken : (es fs : List (WeakLoc × Listed)) (l : WeakLoc) → ((q : WeakLoc) → group_in (lookup (loc_eq q) fs) ≡ cond (loc_eq l q) None (group_in (lookup (loc_eq q) es))) → shown_groups fs ≡ remove (shown_groups es) l
shown-taken es fs l is = same_map locs_total exact_locs _ _ (λ q.
    shown-group fs q ∙ is q ∙ ap (cond (loc_eq l q) None) (sym (shown-group es q)) ∙ ap (λ t. cond t None (get (shown_groups es) q)) (turn l q)
    ∙ sym (get-remove locs_total (shown_groups es) l q))

pub group_without : (t : Bool) (o : Option Listed) → group_in (cond t None o) ≡ cond t None (group_in o)
group_without true o = refl
group_without false o = refl

same_keys : (es : List (WeakLoc × Listed)) → keys_of (with_groups es) ≡ keys_of es
same_keys [] = refl
same_keys (e ∷ es) = ap (λ ks. e.0 ∷ ks) (same_keys es)

same_length : (es : List (WeakLoc × Listed)) → length (with_groups es) ≡ length es
same_length [] = refl
same_length (e ∷ es) = ap suc (same_length es)

pub groups-len : (es : List (WeakLoc × Listed)) → IsDistinct loc_eq (keys_of es) → length es ≡ len (shown_groups es)
groups-len es once = sym (shown-len locs_total loc_eq eq_locs (with_groups es) (subst (IsDistinct loc_eq) (sym (same_keys es)) once) ∙ same_length es)

no_group : (o : Option Listed) → group_in o ≡ None → o ≡ None
no_group None e = refl
no_group (Some p) e = cc

a_group : (o : Option Listed) (b : BlockId) → group_in o ≡ Some b → (p : Listed) × (o ≡ Some p) × (p.group ≡ b)
a_group None b e = cc
a_group (Some p) b e = (p, refl, same e)
  where
    same : Some p.group ≡ Some b → p.group ≡ b
    same e = cc

empty_list : (xs : List WeakLoc) (i : ℕ) (x : WeakLoc) → slice_get xs 0 ≡ None → slice_get xs i ≡ Some x → ⊥
empty_list [] i x e h = cc
empty_list (y ∷ xs) i x e h = cc

agrees-same : (P Q : WeakLoc → Option Listed) (L M : BlockId → List WeakLoc) → ((q : WeakLoc) → Q q ≡ P q) → ((b : BlockId) → M b ≡ L b) → Agrees P L → Agrees Q M
agrees-same P Q L M p l a = record {
  placed = λ q s h. ap (λ xs. slice_get xs s.at) (l s.group) ∙ a.placed q s (sym (p q) ∙ h);
  listed = λ b i q h. p q ∙ a.listed b i q (sym (ap (λ xs. slice_get xs i) (l b)) ∙ h);
}

module _ {S U : Type 0} (places : HashMap WeakLoc Listed S) (lists : HashMap BlockId (SmallVec WeakLoc) U) (tight : Option BlockId) (room : Bool) (x : IsIndexed places lists tight room) where
  -- a group without a first location has none
  pub none-of : (group : BlockId) → slice_get (members_at lists.entries group) 0 ≡ None → (q : WeakLoc) → get (shown_groups places.entries) q ≡ Some group → ⊥
  none-of group e q h =
      let p = a_group (lookup (loc_eq q) places.entries) group (sym (shown-group places.entries q) ∙ h) in
      empty_list (members_at lists.entries group) p.0.at q e (subst (λ b. slice_get (members_at lists.entries b) p.0.at ≡ Some q) p.2 (x.agrees.placed q p.0 p.1))

  pub one-of : (group : BlockId) (l : WeakLoc) → slice_get (members_at lists.entries group) 0 ≡ Some l → get (shown_groups places.entries) l ≡ Some group
  one-of group l e = shown-group places.entries l ∙ ap group_in (x.agrees.listed group 0 l e)

  pub absent-place : (l : WeakLoc) → get (shown_groups places.entries) l ≡ None → lookup (loc_eq l) places.entries ≡ None
  absent-place l e = no_group _ (sym (shown-group places.entries l) ∙ e)

  module _ (later : HashMap WeakLoc Listed S) (others : HashMap BlockId (SmallVec WeakLoc) U) where
    -- nothing but the room has changed
    pub kept-index : later.entries ≡ places.entries → spare places ≤ spare later → SameMembers lists.entries others.entries → IsRoomy tight others.entries → spare lists ≤ spare others → IsIndexed later others tight room
    kept-index same more members roomy wide = record {
      agrees = agrees-same _ _ _ _ (λ q. ap (lookup (loc_eq q)) same) members x.agrees;
      roomy = roomy;
      ready = λ r. let h = x.ready r in (h.0, omega (arith, h, more), omega (arith, h, wide));
    }

    pub ready-index : later.entries ≡ places.entries → 0 < spare later → SameMembers lists.entries others.entries → IsRoomy None others.entries → 0 < spare others → IsIndexed later others None true
    ready-index same more members roomy wide = record {
      agrees = agrees-same _ _ _ _ (λ q. ap (lookup (loc_eq q)) same) members x.agrees;
      roomy = roomy;
      ready = λ r. (refl, more, wide);
    }

    pub added-index : (l : WeakLoc) (group : BlockId) (at : ℕ) → lookup (loc_eq l) places.entries ≡ None → at ≡ length (members_at lists.entries group) → Puts l (Some (place group at)) places.entries later.entries
        → Enters group l lists.entries others.entries → IsRoomy (Some group) others.entries → IsIndexed later others (Some group) false
    added-index l group at none is puts enters roomy = record {
      agrees = agrees-entered (λ l. lookup (loc_eq l) places.entries) (λ l. lookup (loc_eq l) later.entries) (members_at lists.entries) (members_at others.entries) x.agrees l group none
          (λ q. puts q ∙ ap (λ n. cond (loc_eq l q) (Some (place group n)) (lookup (loc_eq q) places.entries)) is) enters;
      roomy = roomy;
      ready = λ r. cc;
    }

  -- a location left, and perhaps another one moved
  module _ (l : WeakLoc) (p : Listed) (was : lookup (loc_eq l) places.entries ≡ Some p) where
    pub place-within : p.at < length (members_at lists.entries p.group)
    place-within = slice_get_within (members_at lists.entries p.group) p.at l (x.agrees.placed l p was)

    module _ (others : HashMap BlockId (SmallVec WeakLoc) U) (moved : Option WeakLoc) (leaves : Leaves p.group p.at lists.entries others.entries) (mover : moved ≡ slice_get (members_at others.entries p.group) p.at) where
      mover_then : moved ≡ slice_get (swap_remove (members_at lists.entries p.group) p.at leaves.0) p.at
      mover_then = mover ∙ ap (λ xs. slice_get xs p.at) (leaves.1 p.group ∙ ap (λ t. cond t (swap_remove (members_at lists.entries p.group) p.at leaves.0) (members_at lists.entries p.group)) (eq_self p.group))

      module _ (later : HashMap WeakLoc Listed S) (at : (q : WeakLoc) → lookup (loc_eq q) later.entries ≡ cond (is_one moved q) (Some p) (cond (loc_eq l q) None (lookup (loc_eq q) places.entries))) where
        pub left-index : spare places ≤ spare later → ((t : Option BlockId) → IsRoomy t lists.entries → IsRoomy t others.entries) → spare lists ≤ spare others → IsIndexed later others tight room
        left-index more roomy wide = record {
          agrees = agrees-left (λ l. lookup (loc_eq l) places.entries) (λ l. lookup (loc_eq l) later.entries) (members_at lists.entries) (members_at others.entries) x.agrees l p.group p.at leaves.0 moved was leaves.1 mover_then at;
          roomy = roomy tight x.roomy;
          ready = λ r. let h = x.ready r in (h.0, omega (arith, h, more), omega (arith, h, wide));
        }

        pub left-shown : shown_groups later.entries ≡ remove (shown_groups places.entries) l
        left-shown = shown-taken places.entries later.entries l (λ q. ap group_in (at q) ∙ by q moved refl)
          where
            by_move : (q m : WeakLoc) → moved ≡ Some m → (t : Bool) → loc_eq m q ≡ t → group_in (cond t (Some p) (cond (loc_eq l q) None (lookup (loc_eq q) places.entries))) ≡ cond (loc_eq l q) None (group_in (lookup (loc_eq q) places.entries))
            by_move q m e true f =
                ap group_in (sym (moved-there (λ l. lookup (loc_eq l) places.entries) (λ l. lookup (loc_eq l) later.entries) (members_at lists.entries) (members_at others.entries) x.agrees l p.group p.at leaves.0 moved was leaves.1 mover_then at q (e ∙ ap Some (loc_is m q f))))
                ∙ group_without (loc_eq l q) (lookup (loc_eq q) places.entries)
            by_move q m e false f = group_without (loc_eq l q) (lookup (loc_eq q) places.entries)

            by : (q : WeakLoc) (o : Option WeakLoc) → moved ≡ o → group_in (cond (is_one o q) (Some p) (cond (loc_eq l q) None (lookup (loc_eq q) places.entries))) ≡ cond (loc_eq l q) None (group_in (lookup (loc_eq q) places.entries))
            by q None e = group_without (loc_eq l q) (lookup (loc_eq q) places.entries)
            by q (Some m) e = by_move q m e (loc_eq m q) refl

      pub moved-listed : (mid : List (WeakLoc × Listed)) (m : WeakLoc) → Puts l None places.entries mid → moved ≡ Some m → IsSome (lookup (loc_eq m) mid)
      moved-listed mid m puts e =
          subst IsSome (sym (puts m ∙ moved-there (λ l. lookup (loc_eq l) places.entries) (λ q. cond (is_one moved q) (Some p) (cond (loc_eq l q) None (lookup (loc_eq q) places.entries)))
          (members_at lists.entries) (members_at others.entries) x.agrees l p.group p.at leaves.0 moved was leaves.1 mover_then (λ q. refl) m e)) refl

-- what the first of a list says of its group
pub some-listed : {S U : Type 0} (places : HashMap WeakLoc Listed S) (lists : HashMap BlockId (SmallVec WeakLoc) U) (tight : Option BlockId) (room : Bool) → IsIndexed places lists tight room
    → (group : BlockId) (o : Option WeakLoc) → slice_get (members_at lists.entries group) 0 ≡ o
    → MatchOption o ((q : WeakLoc) → get (shown_groups places.entries) q ≡ Some group → ⊥) (λ l. get (shown_groups places.entries) l ≡ Some group)
some-listed places lists tight room x group None e = none-of places lists tight room x group e
some-listed places lists tight room x group (Some l) e = one-of places lists tight room x group l e

pub same_roomy : (tight : Option BlockId) (es fs : List (BlockId × SmallVec WeakLoc)) → fs ≡ es → IsRoomy tight es → IsRoomy tight fs
same_roomy tight es fs e h = subst (IsRoomy tight) (sym e) h
