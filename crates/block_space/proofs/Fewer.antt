-- Blocks that are freed, whatever words they have among them
use Rattle.std.proofs.Common.{MatchOption, IfSome, Contains, ◌≡◌, ◌≢◌, ◌⊎◌, inl, inr, ℕ, zero, suc, ◌+◌, ◌*◌, ◌<◌, ◌++◌, ◌∷◌, [], List, Option, Some, None, refl, sym, ap, ◌∙◌, subst, arith, length, get_or, set, slice_get}
use Rattle.std.specs.Bool.{⊤}
use Rattle.std.specs.Option.{option_and_then}
use Rattle.std.proofs.lemmas.List.Elements.{Contains-append_left, Contains-append_right}
use Rattle.az_base.specs.declared.block_id.BlockId.{BlockId}
use Rattle.block_layouts.specs.declared.layout.Layout.{Layout}
use Rattle.block_layouts.specs.Layouts.{len_of}
use Rattle.quantum_space.specs.declared.place.Place.{Place}
use Rattle.quantum_space.specs.declared.placed.PlacedWord.{PlacedWord}
use Rattle.quantum_space.specs.declared.placed.PlacedWord.TheVariants as word
use Rattle.quantum_space.specs.PlacedWords.{known, spot_at}
use Rattle.quantum_space.specs.Regions.{HasBlock, IsFreed, Region', no_id}
use Rattle.quantum_space.proofs.Runs.{below_or}
use Rattle.quantum_space.proofs.Placing.{row_le, some_quanta, word_inside}
use Rattle.quantum_space.specs.declared.spot.Spot.{Spot}
use Rattle.quantum_space.specs.declared.spot.Kind.{Kind}
use Rattle.quantum_space.specs.declared.spot.Kind.TheVariants as kind
use Rattle.block_space.specs.Tables.{Table', numbers, subzone_of}
use Rattle.block_space.specs.Spaces.{AreRight, BeginsAt, IsFreedAt, IsRight, IsSpace, IsTakenOff, IsWhole, Space', layout_at, placed_at, region, size_of, space_of, spot_in, spot_of}
use Rattle.block_space.specs.Maps.{HasBlockLess, HasBlocksLess, IsSound, LeadsTo, MayBeTakenOff, MayFree}
use Rattle.block_space.proofs.Keeping.{kept, kind_freed}
use Rattle.block_space.proofs.Mapping.{kind_cases, layout_spot, some_spot, spot_from, taken_off, word_spot}
use Rattle.block_space.proofs.Still.{none_above}

-- what is left where the blocks at these places were freed
pub record Fewer (s : Space') (ps : List Place) (cur : Space') : Type 0 where
  pub table : cur.table ≡ s.table
  pub ids : (k : Kind) → (region cur k).ids ≡ (region s k).ids
  pub words : (k : Kind) → (region cur k).words ≡ (region s k).words
  pub width : (k : Kind) → (region cur k).width ≡ (region s k).width
  pub only : (k : Kind) (at : ℕ) (o : Layout) → get_or (region cur k).layouts at None ≡ Some o → get_or (region s k).layouts at None ≡ Some o
  pub gone : (k : Kind) (at : ℕ) (o : Layout) → get_or (region s k).layouts at None ≡ Some o → get_or (region cur k).layouts at None ≡ None → (p : Place) × Contains ps p × (spot_of s p ≡ Some (spot_at k at))

pub fewer_none : (s : Space') → Fewer s [] s
fewer_none s = record { table = refl; ids = λ k. refl; words = λ k. refl; width = λ k. refl; only = λ k at o e. e; gone = λ k at o e f. absurd (let g : None ≡ Some o = sym f ∙ e in cc) }

set_only : (ls : List (Option Layout)) (j k : ℕ) (o : Layout) → get_or (set ls j None) k None ≡ Some o → get_or ls k None ≡ Some o
set_only [] zero k o e = e
set_only [] (suc j) k o e = e
set_only (x ∷ ls) zero zero o e = cc
set_only (x ∷ ls) zero (suc k) o e = e
set_only (x ∷ ls) (suc j) zero o e = e
set_only (x ∷ ls) (suc j) (suc k) o e = set_only ls j k o e

set_gone : (ls : List (Option Layout)) (j k : ℕ) (o : Layout) → get_or ls k None ≡ Some o → get_or (set ls j None) k None ≡ None → k ≡ j
set_gone [] zero k o e f = absurd (let g : None ≡ Some o = sym f ∙ e in cc)
set_gone [] (suc j) k o e f = absurd (let g : None ≡ Some o = sym f ∙ e in cc)
set_gone (x ∷ ls) zero zero o e f = refl
set_gone (x ∷ ls) zero (suc k) o e f = absurd (let g : None ≡ Some o = sym f ∙ e in cc)
set_gone (x ∷ ls) (suc j) zero o e f = absurd (let g : None ≡ Some o = sym f ∙ e in cc)
set_gone (x ∷ ls) (suc j) (suc k) o e f = ap suc (set_gone ls j k o e f)

-- spots are those of the table
spot_same : (s cur : Space') (p : Place) → cur.table ≡ s.table → spot_of cur p ≡ spot_of s p
spot_same s cur p e = ap (λ (t : Table'). option_and_then (λ z. spot_in z p.quantum) (slice_get t.subzones p.subzone)) e

-- what was freed at a place where a block began
pub taken_spot : (mid new : Space') (p : Place) (l : Layout) → layout_at mid p ≡ Some l → IsTakenOff mid new p → (x : Spot) × (spot_of mid p ≡ Some x) × IsFreedAt mid new l x × (get_or (region mid x.kind).layouts x.at None ≡ Some l)
taken_spot mid new p l e off =
    let x = some_spot mid p l e in
    let f = subst (λ (m : Option Spot). MatchOption m ⊥ (λ y. IfSome (get_or (region mid y.kind).layouts y.at None) (λ o. IsFreedAt mid new o y))) x.1 off in
    (x.0, x.1, subst (λ (o : Option Layout). IfSome o (λ y. IsFreedAt mid new y x.0)) x.2 f, x.2)

-- one more was freed
module _ (s : Space') (ps : List Place) (mid new : Space') (p : Place) (few : Fewer s ps mid) where
  widen : (k : Kind) (at : ℕ) → (q : Place) × Contains ps q × (spot_of s q ≡ Some (spot_at k at)) → (q : Place) × Contains (ps ++ p ∷ []) q × (spot_of s q ≡ Some (spot_at k at))
  widen k at h = (h.0, Contains-append_left ps (p ∷ []) h.0 h.1, h.2)

  as_it_was : Fewer s (ps ++ p ∷ []) mid
  as_it_was = record { table = few.table; ids = few.ids; words = few.words; width = few.width; only = few.only; gone = λ k at o e f. widen k at (few.gone k at o e f) }

  module _ (l : Layout) (x : Spot) (there : spot_of mid p ≡ Some x) (off : IsFreedAt mid new l x) where
    left : (k : Kind) → (k ≡ x.kind) × IsFreed (region mid k) (region new k) l x.at ⊎ (region new k ≡ region mid k)
    left k = elim (kind_cases k x.kind) [
      | inl e ↦ inl (e, subst (λ (j : Kind). IsFreed (region mid j) (region new j) l x.at) (sym e) off.freed)
      | inr e ↦ inr (subst (λ (j : Kind). region new j ≡ region mid j) (sym e) off.others)
    ]

    only : (k : Kind) (at : ℕ) (o : Layout) → get_or (region new k).layouts at None ≡ Some o → get_or (region mid k).layouts at None ≡ Some o
    only k at o e = elim (left k) [
      | inl f ↦ set_only (region mid k).layouts x.at at o (sym (ap (λ (r : Region'). get_or r.layouts at None) f.1.rest) ∙ e)
      | inr f ↦ sym (ap (λ (r : Region'). get_or r.layouts at None) f) ∙ e
    ]

    gone : (k : Kind) (at : ℕ) (o : Layout) → get_or (region mid k).layouts at None ≡ Some o → get_or (region new k).layouts at None ≡ None → spot_of s p ≡ Some (spot_at k at)
    gone k at o e f = elim (left k) [
      | inl g ↦ (let same : at ≡ x.at = set_gone (region mid k).layouts x.at at o e (sym (ap (λ (r : Region'). get_or r.layouts at None) g.1.rest) ∙ f) in
          sym (spot_same s mid p few.table) ∙ there ∙ ap Some (ap (λ (j : Kind). spot_at j x.at) (sym g.0) ∙ ap (λ n. spot_at k n) (sym same)))
      | inr g ↦ absurd (let h : None ≡ Some o = sym f ∙ ap (λ (r : Region'). get_or r.layouts at None) g ∙ e in cc)
    ]

    freed : Fewer s (ps ++ p ∷ []) new
    freed = record {
      table = off.table ∙ few.table;
      ids = λ k. elim (left k) [ inl f ↦ ap (λ (r : Region'). r.ids) f.1.rest ∙ few.ids k | inr f ↦ ap (λ (r : Region'). r.ids) f ∙ few.ids k ];
      words = λ k. elim (left k) [ inl f ↦ ap (λ (r : Region'). r.words) f.1.rest ∙ few.words k | inr f ↦ ap (λ (r : Region'). r.words) f ∙ few.words k ];
      width = λ k. elim (left k) [ inl f ↦ ap (λ (r : Region'). r.width) f.1.rest ∙ few.width k | inr f ↦ ap (λ (r : Region'). r.width) f ∙ few.width k ];
      only = λ k at o e. few.only k at o (only k at o e);
      gone = λ k at o e f. was k at o e f (get_or (region mid k).layouts at None) refl;
    }
      where
        was : (k : Kind) (at : ℕ) (o : Layout) → get_or (region s k).layouts at None ≡ Some o → get_or (region new k).layouts at None ≡ None → (m : Option Layout) → get_or (region mid k).layouts at None ≡ m
            → (q : Place) × Contains (ps ++ p ∷ []) q × (spot_of s q ≡ Some (spot_at k at))
        was k at o e f None g = widen k at (few.gone k at o e g)
        was k at o e f (Some y) g = (p, Contains-append_right ps (p ∷ []) p (0, omega arith, refl), gone k at y g f)

  pub fewer_more : MayBeTakenOff mid p new → Fewer s (ps ++ p ∷ []) new
  fewer_more off = go (layout_at mid p) refl off
    where
      go : (o : Option Layout) → layout_at mid p ≡ o → MatchOption o (new ≡ mid) (λ _. IsTakenOff mid new p) → Fewer s (ps ++ p ∷ []) new
      go None e f = subst (λ (y : Space'). Fewer s (ps ++ p ∷ []) y) (sym f) as_it_was
      go (Some l) e f = (let b = taken_spot mid new p l e f in freed l b.0 b.1 b.2)

-- a block that is there has a place
pub place_for : (s : Space') (k : Kind) (at : ℕ) (l : Layout) → IsSound s → get_or (region s k).layouts at None ≡ Some l → (q : Place) × (spot_of s q ≡ Some (spot_at k at))
place_for s k at l sound e =
    let lies = (sound.regions k).blocks at l e in
    let size : (region s k).map.size ≡ size_of k = sound.space.size k in
    let below = none_above (region s k) at l (sound.regions k) e in
    let there : lies.subzone < length (numbers s.table k) = elim (below_or lies.subzone (region s k).opened) [
      | inl b ↦ omega (arith, b, sound.space.opened k)
      | inr b ↦ absurd (omega (arith, below, lies.place, row_le (region s k).map.size (region s k).opened lies.subzone b))
    ] in
    let g = sound.table.back k lies.subzone there in
    let inside : lies.quantum < size_of k = omega (arith, lies.within, size, some_quanta (region s k).width (len_of l)) in
    let at_is : lies.subzone * size_of k + lies.quantum ≡ at = ap (λ n. lies.subzone * n + lies.quantum) (sym size) ∙ sym lies.place in (
      record { subzone = get_or (numbers s.table k) lies.subzone 0; quantum = lies.quantum },
      spot_from s (record { subzone = get_or (numbers s.table k) lies.subzone 0; quantum = lies.quantum }) (subzone_of k lies.subzone) g inside ∙ ap (λ n. Some (spot_at k n)) at_is,
    )

-- what was freed may be told by its place
pub may_less : (mid new : Space') (p : Place) → IsSound mid → MayBeTakenOff mid p new → MatchOption (layout_at mid p) (new ≡ mid) (λ _. HasBlockLess mid new p)
may_less mid new p sound off = go (layout_at mid p) refl off
  where
    go : (o : Option Layout) → layout_at mid p ≡ o → MatchOption o (new ≡ mid) (λ _. IsTakenOff mid new p) → MatchOption o (new ≡ mid) (λ _. HasBlockLess mid new p)
    go None e f = f
    go (Some l) e f = (let x = some_spot mid p l e in
        taken_off mid new sound p (subst (λ (m : Option Spot). MatchOption m ⊥ (λ y. HasBlock (region mid y.kind) y.at)) (sym x.1) (subst (λ (o : Option Layout). MatchOption o ⊥ (λ y. ⊤)) (sym x.2) tt)) f)

-- what holds of a space holds when a block was freed
freed_small : (mid new : Space') (l : Layout) (at : ℕ) → IsSpace mid → get_or mid.small.layouts at None ≡ Some l → IsFreedAt mid new l (spot_at kind.Small at) → IsSpace new
freed_small mid new l at inv stored off =
    subst (λ (m : Region'). IsSpace (space_of new.small m new.table new.spare new.used)) (sym off.others)
    (subst (λ (t : Table'). IsSpace (space_of new.small mid.medium t new.spare new.used)) (sym off.table)
    (subst (λ (ns : List ℕ). IsSpace (space_of new.small mid.medium mid.table ns new.used)) (sym off.spare)
    (kept mid kind.Small new.small mid.table mid.spare new.used inv (kind_freed mid kind.Small new.small l at new.used inv stored off.freed off.used))))

freed_medium : (mid new : Space') (l : Layout) (at : ℕ) → IsSpace mid → get_or mid.medium.layouts at None ≡ Some l → IsFreedAt mid new l (spot_at kind.Medium at) → IsSpace new
freed_medium mid new l at inv stored off =
    subst (λ (m : Region'). IsSpace (space_of m new.medium new.table new.spare new.used)) (sym off.others)
    (subst (λ (t : Table'). IsSpace (space_of mid.small new.medium t new.spare new.used)) (sym off.table)
    (subst (λ (ns : List ℕ). IsSpace (space_of mid.small new.medium mid.table ns new.used)) (sym off.spare)
    (kept mid kind.Medium new.medium mid.table mid.spare new.used inv (kind_freed mid kind.Medium new.medium l at new.used inv stored off.freed off.used))))

pub space_freed : (mid new : Space') (p : Place) → IsSpace mid → MayBeTakenOff mid p new → IsSpace new
space_freed mid new p inv off = go (layout_at mid p) refl off
  where
    by_kind : (k : Kind) (l : Layout) (at : ℕ) → get_or (region mid k).layouts at None ≡ Some l → IsFreedAt mid new l (spot_at k at) → IsSpace new
    by_kind kind.Small l at e f = freed_small mid new l at inv e f
    by_kind kind.Medium l at e f = freed_medium mid new l at inv e f

    go : (o : Option Layout) → layout_at mid p ≡ o → MatchOption o (new ≡ mid) (λ _. IsTakenOff mid new p) → IsSpace new
    go None e f = subst (λ (y : Space'). IsSpace y) (sym f) inv
    go (Some l) e f = (let b = taken_spot mid new p l e f in by_kind b.0.kind l b.0.at b.3 b.2)

-- words that stay are right about where their blocks lie
module _ (s cur : Space') (ps : List Place) (sound : IsSound s) (may : MayFree s ps) (less : HasBlocksLess s cur ps) (few : Fewer s ps cur) where
  -- a block to which a word that stays leads has not gone
  begins_on : (k : Kind) (at : ℕ) (id : BlockId) → ((o : Layout) → get_or (region s k).layouts at None ≡ Some o → get_or (region cur k).layouts at None ≢ None) → BeginsAt (region s k).layouts (region s k).ids at id → BeginsAt (region cur k).layouts (region cur k).ids at id
  begins_on k at id stays h = go (get_or (region s k).layouts at None) refl h
    where
      now : (o : Layout) → get_or (region s k).layouts at None ≡ Some o → get_or (region s k).ids at no_id ≡ id → (m : Option Layout) → get_or (region cur k).layouts at None ≡ m → MatchOption m ⊥ (λ l. get_or (region cur k).ids at no_id ≡ id)
      now o e f None g = absurd (stays o e g)
      now o e f (Some y) g = ap (λ (xs : List BlockId). get_or xs at no_id) (few.ids k) ∙ f

      go : (m : Option Layout) → get_or (region s k).layouts at None ≡ m → MatchOption m ⊥ (λ l. get_or (region s k).ids at no_id ≡ id) → BeginsAt (region cur k).layouts (region cur k).ids at id
      go None e f = absurd f
      go (Some o) e f = now o e f (get_or (region cur k).layouts at None) refl

  module _ (k : Kind) (at : ℕ) (l : Layout) (stored : get_or (region cur k).layouts at None ≡ Some l) (i : ℕ) (lt : i < len_of l) where
    was : get_or (region s k).layouts at None ≡ Some l
    was = few.only k at l stored

    home : (q : Place) × (spot_of s q ≡ Some (spot_at k at))
    home = place_for s k at l sound was

    same_word : get_or (region cur k).words (at * (region cur k).width + i) word.Null ≡ get_or (region s k).words (at * (region s k).width + i) word.Null
    same_word = ap (λ (xs : List PlacedWord). get_or xs (at * (region cur k).width + i) word.Null) (few.words k) ∙ ap (λ n. get_or (region s k).words (at * n + i) word.Null) (few.width k)

    stays_there : ¬ Contains ps home.0
    stays_there c =
        let gone = less.gone home.0 c in
        let here : layout_at cur home.0 ≡ Some l = layout_spot cur home.0 (spot_at k at) (spot_same s cur home.0 few.table ∙ home.1) ∙ stored in
        (let f : None ≡ Some l = sym gone ∙ here in cc)

    leads_not : (p : Place) → Contains ps p → ¬ LeadsTo s (get_or (region s k).words (at * (region s k).width + i) word.Null) p
    leads_not p c = subst (λ (w : PlacedWord). ¬ LeadsTo s w p) (word_spot s home.0 (spot_at k at) i home.1) (may.apart home.0 l i (layout_spot s home.0 (spot_at k at) home.1 ∙ was) stays_there lt p c)

    stays_right : (c : Kind) (j : ℕ) (id : BlockId) → ((p : Place) → Contains ps p → spot_of s p ≢ Some (spot_at c j)) → BeginsAt (region s c).layouts (region s c).ids j id → BeginsAt (region cur c).layouts (region cur c).ids j id
    stays_right c j id f = begins_on c j id (λ o e none. (let gone = few.gone c j o e none in f gone.0 gone.1 gone.2))

    right_by : (w : PlacedWord) → ((p : Place) → Contains ps p → ¬ LeadsTo s w p) → IsRight s.small.layouts s.medium.layouts s.small.ids s.medium.ids w → IsRight cur.small.layouts cur.medium.layouts cur.small.ids cur.medium.ids w
    right_by word.Null f h = h
    right_by (word.Block id) f h = h
    right_by (word.InSmall id j) f h = stays_right kind.Small j id f h
    right_by (word.InMedium id j) f h = stays_right kind.Medium j id f h
    right_by (word.Number n) f h = h

    right_here : AreRight (region s k) s.small s.medium → IsRight cur.small.layouts cur.medium.layouts cur.small.ids cur.medium.ids (get_or (region cur k).words (at * (region cur k).width + i) word.Null)
    right_here right = subst (λ (w : PlacedWord). IsRight cur.small.layouts cur.medium.layouts cur.small.ids cur.medium.ids w) (sym same_word) (right_by (get_or (region s k).words (at * (region s k).width + i) word.Null) leads_not (right at l was i lt))

  pub whole_freed : IsWhole s → IsSpace cur → IsWhole cur
  whole_freed inv space = record {
    space = space;
    small = λ at l e i lt. right_here kind.Small at l e i lt inv.small;
    medium = λ at l e i lt. right_here kind.Medium at l e i lt inv.medium;
  }

-- where no word knows where its block lies, none leads anywhere
leads_nowhere : (s : Space') → IsSound s → ((j : ℕ) → j < length s.small.words → known (get_or s.small.words j word.Null) ≡ None) → ((j : ℕ) → j < length s.medium.words → known (get_or s.medium.words j word.Null) ≡ None)
    → (ps : List Place) (q : Place) (o : Layout) (i : ℕ) → layout_at s q ≡ Some o → ¬ Contains ps q → i < len_of o → (p : Place) → Contains ps p → ¬ LeadsTo s (placed_at s q i) p
leads_nowhere s sound small medium ps q o i e d lt p c leads =
    let x = some_spot s q o e in
    let inside = word_inside (region s x.0.kind) x.0.at i (sound.regions x.0.kind) (subst (λ (m : Option Layout). MatchOption m ⊥ (λ l. i < len_of l)) (sym x.2) lt) in
    let none : known (placed_at s q i) ≡ None = ap known (word_spot s q x.0 i x.1) ∙ by_kind x.0.kind (x.0.at * (region s x.0.kind).width + i) inside in
    subst (λ (m : Option Spot). MatchOption m ⊥ (λ x. spot_of s p ≡ Some x)) none leads
  where
    by_kind : (k : Kind) (j : ℕ) → j < length (region s k).words → known (get_or (region s k).words j word.Null) ≡ None
    by_kind kind.Small j l = small j l
    by_kind kind.Medium j l = medium j l

pub nothing_leads : (s : Space') → IsSound s → ((j : ℕ) → j < length s.small.words → known (get_or s.small.words j word.Null) ≡ None) → ((j : ℕ) → j < length s.medium.words → known (get_or s.medium.words j word.Null) ≡ None)
    → (ps : List Place) → MayFree s ps
nothing_leads s sound small medium ps = record { apart = leads_nowhere s sound small medium ps }
