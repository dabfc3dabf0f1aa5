-- One subzone more
use Rattle.std.proofs.Common.{◌≡◌, ◌⊎◌, inl, inr, ℕ, zero, suc, ◌+◌, ◌-◌, ◌<◌, ◌^◌, List, [], ◌∷◌, ◌++◌, Some, refl, sym, ap, ◌∙◌, subst, arith, length, slice_get, get_or}
use Rattle.std.proofs.Math.ListN.{get_or-append}
use Rattle.std.proofs.Math.Seq.{get_or-append_seam}
use Rattle.quantum_space.proofs.Runs.{below_or}
use Rattle.quantum_space.specs.declared.spot.Kind.{Kind}
use Rattle.quantum_space.specs.declared.spot.Kind.TheVariants as kind
use Rattle.block_space.specs.declared.table.Subzone.{Subzone}
use Rattle.block_space.specs.Tables.{Table', IsTable, numbers, opened_with, subzone_of, with_room}

pub get_front : {X : Type 0} (xs ys : List X) (i : ℕ) (x : X) → slice_get xs i ≡ Some x → slice_get (xs ++ ys) i ≡ Some x
get_front [] ys i x e = cc
get_front (y ∷ xs) ys zero x e = e
get_front (y ∷ xs) ys (suc i) x e = get_front xs ys i x e

pub get_end : {X : Type 0} (xs : List X) (x : X) → slice_get (xs ++ x ∷ []) (length xs) ≡ Some x
get_end [] x = refl
get_end (y ∷ xs) x = get_end xs x

pub end_cases : {X : Type 0} (xs : List X) (y : X) (i : ℕ) (x : X) → slice_get (xs ++ y ∷ []) i ≡ Some x → (slice_get xs i ≡ Some x) ⊎ ((i ≡ length xs) × (y ≡ x))
end_cases [] y zero x e = inr (refl, cc)
end_cases [] y (suc i) x e = cc
end_cases (z ∷ xs) y zero x e = inl e
end_cases (z ∷ xs) y (suc i) x e = elim (end_cases xs y i x e) [ inl k ↦ inl k | inr k ↦ inr (ap suc k.0, k.1) ]

pub get_within : {X : Type 0} (xs : List X) (i : ℕ) (x : X) → slice_get xs i ≡ Some x → i < length xs
get_within [] i x e = cc
get_within (y ∷ xs) zero x e = omega arith
get_within (y ∷ xs) (suc i) x e = omega (arith, get_within xs i x e)

pub length_end : {X : Type 0} (xs : List X) (x : X) → length (xs ++ x ∷ []) ≡ length xs + 1
length_end [] x = refl
length_end (y ∷ xs) x = omega (arith, length_end xs x)

module _ (subzones : List Subzone) (own other : List ℕ) (z : Subzone) where
  -- a list of numbers with one more
  pub number_there : (i s : ℕ) → (i < length own) × (get_or own i 0 ≡ s) → (i < length (own ++ length subzones ∷ [])) × (get_or (own ++ length subzones ∷ []) i 0 ≡ s)
  number_there i s h = (omega (arith, h.0, length_end own (length subzones)), get_or-append own (length subzones ∷ []) 0 i h.0 ∙ h.1)

  pub number_end : (length own < length (own ++ length subzones ∷ [])) × (get_or (own ++ length subzones ∷ []) (length own) 0 ≡ length subzones)
  number_end = (omega (arith, length_end own (length subzones)), get_or-append_seam own (length subzones) [] 0)

  pub number_back : (i : ℕ) → i < length (own ++ length subzones ∷ []) → ((i < length own) × (get_or (own ++ length subzones ∷ []) i 0 ≡ get_or own i 0)) ⊎ ((i ≡ length own) × (get_or (own ++ length subzones ∷ []) i 0 ≡ length subzones))
  number_back i l = elim (below_or i (length own)) [
    | inl m ↦ inl (m, get_or-append own (length subzones ∷ []) 0 i m)
    | inr m ↦ (let e : i ≡ length own = omega (arith, m, l, length_end own (length subzones)) in inr (e, ap (λ j. get_or (own ++ length subzones ∷ []) j 0) e ∙ get_or-append_seam own (length subzones) [] 0))
  ]

-- the numbers of a kind are below the number of subzones
pub number_below : (t : Table') (k : Kind) (i : ℕ) → IsTable t → i < length (numbers t k) → get_or (numbers t k) i 0 < length t.subzones
number_below t k i inv l = get_within t.subzones _ _ (inv.back k i l)

small_opened : (t : Table') → IsTable t → 0 < t.room → IsTable (opened_with t kind.Small)
small_opened t inv room = record {
  there = λ s z e. elim (end_cases t.subzones (subzone_of kind.Small (length t.small)) s z e) [
    | inl k ↦ old z s (inv.there s z k)
    | inr k ↦ subst (λ (y : Subzone). (y.index < length (numbers (opened_with t kind.Small) y.kind)) × (get_or (numbers (opened_with t kind.Small) y.kind) y.index 0 ≡ s)) k.1
        (let n = number_end t.subzones t.small t.medium z in (n.0, n.1 ∙ sym k.0))
  ];
  back = back;
  ascending = ascending;
  sum = omega (arith, inv.sum, length_end t.subzones (subzone_of kind.Small (length t.small)), length_end t.small (length t.subzones));
  few = omega (arith, inv.few, room, length_end t.subzones (subzone_of kind.Small (length t.small)));
}
  where
    old : (z : Subzone) (s : ℕ) → (z.index < length (numbers t z.kind)) × (get_or (numbers t z.kind) z.index 0 ≡ s) → (z.index < length (numbers (opened_with t kind.Small) z.kind)) × (get_or (numbers (opened_with t kind.Small) z.kind) z.index 0 ≡ s)
    old z s h = go z.kind h
      where
        go : (k : Kind) → (z.index < length (numbers t k)) × (get_or (numbers t k) z.index 0 ≡ s) → (z.index < length (numbers (opened_with t kind.Small) k)) × (get_or (numbers (opened_with t kind.Small) k) z.index 0 ≡ s)
        go kind.Small h = number_there t.subzones t.small t.medium z z.index s h
        go kind.Medium h = h

    back : (k : Kind) (i : ℕ) → i < length (numbers (opened_with t kind.Small) k) → slice_get (opened_with t kind.Small).subzones (get_or (numbers (opened_with t kind.Small) k) i 0) ≡ Some (subzone_of k i)
    back kind.Small i l = elim (number_back t.subzones t.small t.medium (subzone_of kind.Small 0) i l) [
      | inl m ↦ get_front t.subzones _ _ _ (ap (λ j. slice_get t.subzones j) m.1 ∙ inv.back kind.Small i m.0)
      | inr m ↦ ap (λ j. slice_get (opened_with t kind.Small).subzones j) m.1 ∙ get_end t.subzones (subzone_of kind.Small (length t.small)) ∙ ap (λ j. Some (subzone_of kind.Small j)) (sym m.0)
    ]
    back kind.Medium i l = get_front t.subzones _ _ _ (inv.back kind.Medium i l)

    ascending : (k : Kind) (i j : ℕ) → i < j → j < length (numbers (opened_with t kind.Small) k) → get_or (numbers (opened_with t kind.Small) k) i 0 < get_or (numbers (opened_with t kind.Small) k) j 0
    ascending kind.Small i j l m = elim (number_back t.subzones t.small t.medium (subzone_of kind.Small 0) j m) [
      | inl b ↦ (let a = get_or-append t.small (length t.subzones ∷ []) 0 i (omega (arith, l, b.0)) in omega (arith, a, b.1, inv.ascending kind.Small i j l b.0))
      | inr b ↦ (let i_below : i < length t.small = omega (arith, l, b.0) in let a = get_or-append t.small (length t.subzones ∷ []) 0 i i_below in omega (arith, a, b.1, number_below t kind.Small i inv i_below))
    ]
    ascending kind.Medium i j l m = inv.ascending kind.Medium i j l m

medium_opened : (t : Table') → IsTable t → 0 < t.room → IsTable (opened_with t kind.Medium)
medium_opened t inv room = record {
  there = λ s z e. elim (end_cases t.subzones (subzone_of kind.Medium (length t.medium)) s z e) [
    | inl k ↦ old z s (inv.there s z k)
    | inr k ↦ subst (λ (y : Subzone). (y.index < length (numbers (opened_with t kind.Medium) y.kind)) × (get_or (numbers (opened_with t kind.Medium) y.kind) y.index 0 ≡ s)) k.1
        (let n = number_end t.subzones t.medium t.small z in (n.0, n.1 ∙ sym k.0))
  ];
  back = back;
  ascending = ascending;
  sum = omega (arith, inv.sum, length_end t.subzones (subzone_of kind.Medium (length t.medium)), length_end t.medium (length t.subzones));
  few = omega (arith, inv.few, room, length_end t.subzones (subzone_of kind.Medium (length t.medium)));
}
  where
    old : (z : Subzone) (s : ℕ) → (z.index < length (numbers t z.kind)) × (get_or (numbers t z.kind) z.index 0 ≡ s) → (z.index < length (numbers (opened_with t kind.Medium) z.kind)) × (get_or (numbers (opened_with t kind.Medium) z.kind) z.index 0 ≡ s)
    old z s h = go z.kind h
      where
        go : (k : Kind) → (z.index < length (numbers t k)) × (get_or (numbers t k) z.index 0 ≡ s) → (z.index < length (numbers (opened_with t kind.Medium) k)) × (get_or (numbers (opened_with t kind.Medium) k) z.index 0 ≡ s)
        go kind.Medium h = number_there t.subzones t.medium t.small z z.index s h
        go kind.Small h = h

    back : (k : Kind) (i : ℕ) → i < length (numbers (opened_with t kind.Medium) k) → slice_get (opened_with t kind.Medium).subzones (get_or (numbers (opened_with t kind.Medium) k) i 0) ≡ Some (subzone_of k i)
    back kind.Medium i l = elim (number_back t.subzones t.medium t.small (subzone_of kind.Medium 0) i l) [
      | inl m ↦ get_front t.subzones _ _ _ (ap (λ j. slice_get t.subzones j) m.1 ∙ inv.back kind.Medium i m.0)
      | inr m ↦ ap (λ j. slice_get (opened_with t kind.Medium).subzones j) m.1 ∙ get_end t.subzones (subzone_of kind.Medium (length t.medium)) ∙ ap (λ j. Some (subzone_of kind.Medium j)) (sym m.0)
    ]
    back kind.Small i l = get_front t.subzones _ _ _ (inv.back kind.Small i l)

    ascending : (k : Kind) (i j : ℕ) → i < j → j < length (numbers (opened_with t kind.Medium) k) → get_or (numbers (opened_with t kind.Medium) k) i 0 < get_or (numbers (opened_with t kind.Medium) k) j 0
    ascending kind.Medium i j l m = elim (number_back t.subzones t.medium t.small (subzone_of kind.Medium 0) j m) [
      | inl b ↦ (let a = get_or-append t.medium (length t.subzones ∷ []) 0 i (omega (arith, l, b.0)) in omega (arith, a, b.1, inv.ascending kind.Medium i j l b.0))
      | inr b ↦ (let i_below : i < length t.medium = omega (arith, l, b.0) in let a = get_or-append t.medium (length t.subzones ∷ []) 0 i i_below in omega (arith, a, b.1, number_below t kind.Medium i inv i_below))
    ]
    ascending kind.Small i j l m = inv.ascending kind.Small i j l m

pub table_opened : (t : Table') (k : Kind) → IsTable t → 0 < t.room → IsTable (opened_with t k)
table_opened t kind.Small inv room = small_opened t inv room
table_opened t kind.Medium inv room = medium_opened t inv room

pub table_more : (t : Table') (room : ℕ) → IsTable t → length t.subzones + room < 2 ^ 32 → IsTable (with_room t room)
table_more t room inv few = record {
  there = λ s z e. there s z (inv.there s z e);
  back = back;
  ascending = ascending;
  sum = inv.sum;
  few = few;
}
  where
    there : (s : ℕ) (z : Subzone) → (z.index < length (numbers t z.kind)) × (get_or (numbers t z.kind) z.index 0 ≡ s) → (z.index < length (numbers (with_room t room) z.kind)) × (get_or (numbers (with_room t room) z.kind) z.index 0 ≡ s)
    there s z h = go z.kind h
      where
        go : (k : Kind) → (z.index < length (numbers t k)) × (get_or (numbers t k) z.index 0 ≡ s) → (z.index < length (numbers (with_room t room) k)) × (get_or (numbers (with_room t room) k) z.index 0 ≡ s)
        go kind.Small h = h
        go kind.Medium h = h

    back : (k : Kind) (i : ℕ) → i < length (numbers (with_room t room) k) → slice_get t.subzones (get_or (numbers (with_room t room) k) i 0) ≡ Some (subzone_of k i)
    back kind.Small i l = inv.back kind.Small i l
    back kind.Medium i l = inv.back kind.Medium i l

    ascending : (k : Kind) (i j : ℕ) → i < j → j < length (numbers (with_room t room) k) → get_or (numbers (with_room t room) k) i 0 < get_or (numbers (with_room t room) k) j 0
    ascending kind.Small i j l m = inv.ascending kind.Small i j l m
    ascending kind.Medium i j l m = inv.ascending kind.Medium i j l m

no_number : (k : Kind) → numbers (record { subzones = []; small = []; medium = []; room = 0 }) k ≡ []
no_number kind.Small = refl
no_number kind.Medium = refl

none_below : (i : ℕ) (xs : List ℕ) → xs ≡ [] → i < length xs → ⊥
none_below i xs e l = omega (arith, l, ap length e)

pub table_none : IsTable (record { subzones = []; small = []; medium = []; room = 0 })
table_none = record {
  there = λ s z e. cc;
  back = λ k i l. absurd (none_below i _ (no_number k) l);
  ascending = λ k i j l m. absurd (none_below j _ (no_number k) m);
  sum = refl;
  few = omega arith;
}

pub small_pushed : (t : Table') (xs : List Subzone) (ys : List ℕ) (n i : ℕ) → IsTable t → 0 < t.room → n ≡ length t.subzones → i ≡ length t.small
    → xs ≡ t.subzones ++ subzone_of kind.Small i ∷ [] → ys ≡ t.small ++ n ∷ [] → IsTable (record { subzones = xs; small = ys; medium = t.medium; room = t.room - 1 })
small_pushed t xs ys n i inv room en ei exs eys =
    let fx : xs ≡ t.subzones ++ subzone_of kind.Small (length t.small) ∷ [] = exs ∙ ap (λ j. t.subzones ++ subzone_of kind.Small j ∷ []) ei in
    let fy : ys ≡ t.small ++ length t.subzones ∷ [] = eys ∙ ap (λ j. t.small ++ j ∷ []) en in
    subst (λ (zs : List Subzone). IsTable (record { subzones = zs; small = ys; medium = t.medium; room = t.room - 1 })) (sym fx)
    (subst (λ (zs : List ℕ). IsTable (record { subzones = t.subzones ++ subzone_of kind.Small (length t.small) ∷ []; small = zs; medium = t.medium; room = t.room - 1 })) (sym fy) (small_opened t inv room))

pub medium_pushed : (t : Table') (xs : List Subzone) (ys : List ℕ) (n i : ℕ) → IsTable t → 0 < t.room → n ≡ length t.subzones → i ≡ length t.medium
    → xs ≡ t.subzones ++ subzone_of kind.Medium i ∷ [] → ys ≡ t.medium ++ n ∷ [] → IsTable (record { subzones = xs; small = t.small; medium = ys; room = t.room - 1 })
medium_pushed t xs ys n i inv room en ei exs eys =
    let fx : xs ≡ t.subzones ++ subzone_of kind.Medium (length t.medium) ∷ [] = exs ∙ ap (λ j. t.subzones ++ subzone_of kind.Medium j ∷ []) ei in
    let fy : ys ≡ t.medium ++ length t.subzones ∷ [] = eys ∙ ap (λ j. t.medium ++ j ∷ []) en in
    subst (λ (zs : List Subzone). IsTable (record { subzones = zs; small = t.small; medium = ys; room = t.room - 1 })) (sym fx)
    (subst (λ (zs : List ℕ). IsTable (record { subzones = t.subzones ++ subzone_of kind.Medium (length t.medium) ∷ []; small = t.small; medium = zs; room = t.room - 1 })) (sym fy) (medium_opened t inv room))

pub table_kept : (t : Table') (xs : List Subzone) (ys zs : List ℕ) (room : ℕ) → IsTable t → xs ≡ t.subzones → ys ≡ t.small → zs ≡ t.medium → length t.subzones + room < 2 ^ 32
    → IsTable (record { subzones = xs; small = ys; medium = zs; room = room })
table_kept t xs ys zs room inv ex ey ez few =
    subst (λ (vs : List Subzone). IsTable (record { subzones = vs; small = ys; medium = zs; room = room })) (sym ex)
    (subst (λ (bs : List ℕ). IsTable (record { subzones = t.subzones; small = bs; medium = zs; room = room })) (sym ey)
    (subst (λ (cs : List ℕ). IsTable (record { subzones = t.subzones; small = t.small; medium = cs; room = room })) (sym ez) (table_more t room inv few)))
