-- What a search has followed and found
use Rattle.std.proofs.Common.{◌≡◌, ℕ, ◌+◌, ◌<◌, ◌≤◌, zero, suc, Bool, true, false, ◌||◌, List, [], ◌∷◌, ◌++◌, length, take, map, All, Option, Some, None, slice_get, option_map, refl, sym, ap, subst, ◌∙◌, arith, ◌⊎◌, inl, inr}
use Rattle.std.proofs.lemmas.Option.{slice_get-map}
use Rattle.std.proofs.lemmas.List.Elements.{All-map}
use Rattle.std.specs.Map.{keys_of}
use Rattle.std.specs.FinMap.{FinMap}
use Rattle.az_base.specs.declared.block_id.BlockId.{BlockId}
use Rattle.az_base.specs.Ids.{id_cmp, among, same_id}
use Rattle.zone_model.specs.Part.{Part}
use Rattle.zone_model.specs.State.{Block}
use Rattle.local_set.specs.Tables.{Distinct}
use Rattle.local_set.specs.Walks.{VisitsAll, IsIn, IsReached, referents_of, words_at}
use Rattle.local_set.proofs.Lists.{among_of, place_of, within, next_taken, all_taken, or_true, some_id}
use Rattle.local_set.proofs.Walks.{Walked, Done, walked_first, walked_more, done_none, done_more, all_reached}
use Rattle.escape_plan.specs.declared.search.Search.{Search}
use Rattle.escape_plan.specs.Planning.{length_at, quanta_at, sum_of, LedFrom}
use Rattle.escape_plan.specs.Searching.{each_of, with_length, Counts, IsNext, Found}

-- the first of a list that only grew
pub take_kept : (old new : List BlockId) (n : ℕ) → n ≤ length old → ((k : ℕ) (q : BlockId) → slice_get old k ≡ Some q → slice_get new k ≡ Some q) → take n new ≡ take n old
take_kept old new zero l kept = refl
take_kept [] new (suc n) l kept = absurd (omega (arith, l))
take_kept (x ∷ old) [] (suc n) l kept = let no : None ≡ Some x = kept zero x refl in cc
take_kept (x ∷ old) (y ∷ new) (suc n) l kept = let same : y ≡ x = some_id y x (kept zero x refl) in ap (λ z. z ∷ take n new) same ∙ ap (λ zs. x ∷ zs) (take_kept old new n (omega (arith, l)) (λ k q h. kept (suc k) q h))

pub length_more : {X : Type 0} (xs : List X) (x : X) → length (xs ++ x ∷ []) ≡ length xs + 1
length_more [] x = refl
length_more (y ∷ xs) x = let rest : length (xs ++ x ∷ []) ≡ length xs + 1 = length_more xs x in omega (arith, rest)

map_more : {X Y : Type 0} (f : X → Y) (xs : List X) (x : X) → map f (xs ++ x ∷ []) ≡ map f xs ++ f x ∷ []
map_more f [] x = refl
map_more f (y ∷ xs) x = ap (λ l. f y ∷ l) (map_more f xs x)

-- the quanta of one block more
pub sum_more : (m : FinMap id_cmp Block) (ids : List BlockId) (id : BlockId) → sum_of m (ids ++ id ∷ []) ≡ sum_of m ids + quanta_at m id
sum_more m [] id = omega arith
sum_more m (x ∷ ids) id = let rest : sum_of m (ids ++ id ∷ []) ≡ sum_of m ids + quanta_at m id = sum_more m ids id in omega (arith, rest)

-- one block more was followed
pub counts_more : (m : FinMap id_cmp Block) (s n : Search) (id : BlockId) → Counts m s → slice_get s.found.keys (length s.followed.items) ≡ Some id
    → ((k : ℕ) (q : BlockId) → slice_get s.found.keys k ≡ Some q → slice_get n.found.keys k ≡ Some q)
    → n.followed.items ≡ s.followed.items ++ with_length m id ∷ [] → n.quanta ≡ s.quanta + quanta_at m id → Counts m n
counts_more m s n id c is kept followed quanta = record {
  within = let w : at < length n.found.keys = within n.found.keys at id (kept at id is) in omega (arith, w, len);
  followed = followed ∙ ap (λ l. l ++ with_length m id ∷ []) c.followed ∙ sym (map_more (with_length m) (take at s.found.keys) id) ∙ ap (map (with_length m)) taken;
  quanta = quanta ∙ ap (λ k. k + quanta_at m id) c.quanta ∙ sym (sum_more m (take at s.found.keys) id) ∙ ap (sum_of m) taken;
}
  where
    at : ℕ
    at = length s.followed.items

    len : length n.followed.items ≡ at + 1
    len = ap length followed ∙ length_more s.followed.items (with_length m id)

    taken : take at s.found.keys ++ id ∷ [] ≡ take (length n.followed.items) n.found.keys
    taken = ap (λ l. l ++ id ∷ []) (sym (take_kept s.found.keys n.found.keys at c.within kept)) ∙ next_taken n.found.keys at id (kept at id is) ∙ ap (λ k. take k n.found.keys) (sym len)

-- the same, where nothing was followed yet
pub counts_none : (m : FinMap id_cmp Block) (s : Search) → s.followed.items ≡ [] → s.quanta ≡ 0 → Counts m s
counts_none m s none zero_quanta = record {
  within = let e : length s.followed.items ≡ 0 = ap length none in omega (arith, e);
  followed = none ∙ ap (λ (l : List (BlockId × ℕ)). map (with_length m) (take (length l) s.found.keys)) (sym none);
  quanta = zero_quanta ∙ ap (λ (l : List (BlockId × ℕ)). sum_of m (take (length l) s.found.keys)) (sym none);
}

keys_with : (m : FinMap id_cmp Block) (ids : List BlockId) → keys_of (map (with_length m) ids) ≡ ids
keys_with m [] = refl
keys_with m (x ∷ ids) = ap (λ l. x ∷ l) (keys_with m ids)

lengths_with : (m : FinMap id_cmp Block) (ids : List BlockId) → All (λ (e : BlockId × ℕ). e.1 ≡ length_at m e.0) (map (with_length m) ids)
lengths_with m ids = All-map (λ (e : BlockId × ℕ). e.1 ≡ length_at m e.0) (with_length m) ids (λ k d h. refl)

among_taken : (ids : List BlockId) (n : ℕ) (q : BlockId) → among (take n ids) q ≡ true → among ids q ≡ true
among_taken ids zero q h = cc
among_taken [] (suc n) q h = cc
among_taken (x ∷ ids) (suc n) q h = go (same_id q x) h (among_taken ids n q)
  where
    go : (b : Bool) → (b || among (take n ids) q) ≡ true → (among (take n ids) q ≡ true → among ids q ≡ true) → (b || among ids q) ≡ true
    go true h rest = refl
    go false h rest = rest h

distinct_taken : (ids : List BlockId) (n : ℕ) → Distinct ids → Distinct (take n ids)
distinct_taken ids zero d = tt
distinct_taken [] (suc n) d = tt
distinct_taken (x ∷ ids) (suc n) d = (go (among (take n ids) x) refl, distinct_taken ids n d.1)
  where
    go : (b : Bool) → among (take n ids) x ≡ b → among (take n ids) x ≡ false
    go true e = let no : false ≡ true = sym d.0 ∙ among_taken ids n x e in cc (no)
    go false e = e

some_some : (a b : Option BlockId) → Some a ≡ Some b → a ≡ b
some_some a b h = cc

-- the first blocks, as they stand in the list of options
pub in_first : (first : List BlockId) (f : BlockId) → IsIn (each_of first) f → among first f ≡ true
in_first first f h = go (slice_get first h.0) refl (sym (slice_get-map (λ (b : BlockId). Some b) first h.0) ∙ h.1)
  where
    go : (o : Option BlockId) → slice_get first h.0 ≡ o → option_map (λ (b : BlockId). Some b) o ≡ Some (Some f) → among first f ≡ true
    go None e k = cc
    go (Some b) e k = among_of first h.0 f (e ∙ some_some (Some b) (Some f) k)

pub first_in : (first : List BlockId) (f : BlockId) → among first f ≡ true → IsIn (each_of first) f
first_in first f h = let place = place_of first f h in (place.0, slice_get-map (λ (b : BlockId). Some b) first place.0 ∙ ap (option_map (λ (b : BlockId). Some b)) place.1)

-- what was followed when the search ended
pub found_all : (p : Part) (first : List BlockId) (s : Search) (room : ℕ) → s.room ≡ room → Counts p.blocks s → Walked p.blocks (each_of first) s.found.keys → Done p.blocks s.found.keys (length s.followed.items)
    → IsNext s None → Found p first room s.followed.items s.quanta
found_all p first s room is c w done end = record {
  distinct = subst Distinct (sym keys) (distinct_taken s.found.keys at w.distinct);
  lengths = subst (All (λ (e : BlockId × ℕ). e.1 ≡ length_at p.blocks e.0)) (sym c.followed) (lengths_with p.blocks (take at s.found.keys));
  quanta = c.quanta ∙ ap (sum_of p.blocks) (sym keys);
  led = λ q h.
      let here : among s.found.keys q ≡ true = among_taken s.found.keys at q (sym (ap (λ l. among l q) keys) ∙ h) in
      let led = w.led q here in
      (led.0, in_first first led.0 led.1, (w.own q here, led.2));
  whole = λ fits q led. elim end [
    | inl over ↦ absurd (omega (arith, fits, over, is))
    | inr all ↦
        let reached = all_reached p.blocks (each_of first) s.found.keys at all w done q in
        ap (λ l. among l q) (keys ∙ all_taken s.found.keys at all) ∙ reached.1 (led.2.0, led.0, first_in first led.0 led.1, led.2.1)
  ];
}
  where
    at : ℕ
    at = length s.followed.items

    keys : keys_of s.followed.items ≡ take at s.found.keys
    keys = ap (λ (l : List (BlockId × ℕ)). keys_of l) c.followed ∙ keys_with p.blocks (take at s.found.keys)
