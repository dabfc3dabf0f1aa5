-- Blocks at their places
use Rattle.std.proofs.Common.{IfSome, MatchOption, ◌≡◌, ◌≢◌, ◌⊎◌, inl, inr, ℕ, ◌+◌, ◌*◌, ◌<◌, ◌++◌, ◌∷◌, [], List, Option, Some, None, Bool, true, false, nat_lt, if◌then◌else◌, refl, sym, ap, ◌∙◌, subst, arith, length, get_or, get_or-set_same, slice_get}
use Rattle.std.proofs.lemmas.Bool.{ltb-true, lt-ltb}
use Rattle.std.specs.Option.{option_and_then, option_map_or}
use Rattle.az_base.specs.declared.block_id.BlockId.{BlockId}
use Rattle.quantum_space.specs.declared.placed.PlacedWord.TheVariants as word
use Rattle.block_layouts.specs.declared.layout.Layout.{Layout}
use Rattle.block_layouts.specs.Layouts.{len_of}
use Rattle.quantum_space.specs.declared.place.Place.{Place}
use Rattle.quantum_space.specs.Regions.{Region', HasBlock, IsRegion, no_id}
use Rattle.quantum_space.proofs.Cursors.{one_row}
use Rattle.quantum_space.proofs.Placing.{some_quanta}
use Rattle.quantum_space.specs.declared.spot.Spot.{Spot}
use Rattle.quantum_space.specs.declared.spot.Kind.{Kind}
use Rattle.quantum_space.specs.declared.spot.Kind.TheVariants as kind
use Rattle.quantum_space.specs.PlacedWords.{spot_at}
use Rattle.block_space.specs.Marking.{HasBlockLessIn, HasBlockMoreIn}
use Rattle.block_space.specs.declared.table.Subzone.{Subzone}
use Rattle.block_space.specs.Tables.{Table', IsTable, numbers, opened_with, subzone_of}
use Rattle.block_space.specs.Spaces.{Space', HasBlockAt, IsFreedAt, IsPlacedAt, IsSpace, IsTakenOff, byte_at, id_at, kind_of, layout_at, other, region, size_of, spot_in, spot_of, placed_at}
use Rattle.block_space.specs.Maps.{HasBlockLess, HasBlockMore, IsSameBlock, IsSound}
use Rattle.block_space.proofs.Keeping.{stored_block, unopened_both}
use Rattle.block_space.proofs.Opening.{end_cases, get_front, table_opened}
use Rattle.block_space.proofs.Still.{IsStill, all_still, freed_gone, freed_only, freed_still, none_above, placed_only, placed_still}
use Rattle.block_space.proofs.Sums.{stored_within}

-- where the block at a place is among those of its kind
pub some_spot : (s : Space') (q : Place) (o : Layout) → layout_at s q ≡ Some o → (x : Spot) × (spot_of s q ≡ Some x) × (get_or (region s x.kind).layouts x.at None ≡ Some o)
some_spot s q o h = go (spot_of s q) refl h
  where
    go : (m : Option Spot) → spot_of s q ≡ m → option_and_then (λ x. get_or (region s x.kind).layouts x.at None) m ≡ Some o → (x : Spot) × (spot_of s q ≡ Some x) × (get_or (region s x.kind).layouts x.at None ≡ Some o)
    go None e k = cc
    go (Some x) e k = (x, e, k)

pub layout_spot : (s : Space') (q : Place) (x : Spot) → spot_of s q ≡ Some x → layout_at s q ≡ get_or (region s x.kind).layouts x.at None
layout_spot s q x e = ap (λ m. option_and_then (λ y. get_or (region s y.kind).layouts y.at None) m) e

pub byte_spot : (s : Space') (q : Place) (x : Spot) → spot_of s q ≡ Some x → byte_at s q ≡ get_or (region s x.kind).map.bytes x.at 0
byte_spot s q x e = ap (λ m. option_map_or (λ y. get_or (region s y.kind).map.bytes y.at 0) m 0) e

pub id_spot : (s : Space') (q : Place) (x : Spot) → spot_of s q ≡ Some x → id_at s q ≡ get_or (region s x.kind).ids x.at no_id
id_spot s q x e = ap (λ m. option_map_or (λ y. get_or (region s y.kind).ids y.at no_id) m no_id) e

pub word_spot : (s : Space') (q : Place) (x : Spot) (i : ℕ) → spot_of s q ≡ Some x → placed_at s q i ≡ get_or (region s x.kind).words (x.at * (region s x.kind).width + i) word.Null
word_spot s q x i e = ap (λ m. option_map_or (λ y. get_or (region s y.kind).words (y.at * (region s y.kind).width + i) word.Null) m word.Null) e

-- what a place is
pub record Parts (s : Space') (q : Place) (x : Spot) : Type 0 where
  pub z : Subzone
  pub get : slice_get s.table.subzones q.subzone ≡ Some z
  pub below : q.quantum < size_of z.kind
  pub is : spot_at z.kind (z.index * size_of z.kind + q.quantum) ≡ x

in_parts : (z : Subzone) (q : ℕ) (x : Spot) → spot_in z q ≡ Some x → (q < size_of z.kind) × (spot_at z.kind (z.index * size_of z.kind + q) ≡ x)
in_parts z q x e = go (nat_lt q (size_of z.kind)) refl e
  where
    go : (b : Bool) → nat_lt q (size_of z.kind) ≡ b → (if b then Some (spot_at z.kind (z.index * size_of z.kind + q)) else None) ≡ Some x → (q < size_of z.kind) × (spot_at z.kind (z.index * size_of z.kind + q) ≡ x)
    go true t f = (ltb-true q (size_of z.kind) t, cc)
    go false t f = cc

pub parts : (s : Space') (q : Place) (x : Spot) → spot_of s q ≡ Some x → Parts s q x
parts s q x e = go (slice_get s.table.subzones q.subzone) refl e
  where
    go : (m : Option Subzone) → slice_get s.table.subzones q.subzone ≡ m → option_and_then (λ z. spot_in z q.quantum) m ≡ Some x → Parts s q x
    go None g f = cc
    go (Some z) g f = (let p = in_parts z q.quantum x f in record { z = z; get = g; below = p.0; is = p.1 })

pub spot_from : (s : Space') (q : Place) (z : Subzone) → slice_get s.table.subzones q.subzone ≡ Some z → q.quantum < size_of z.kind → spot_of s q ≡ Some (spot_at z.kind (z.index * size_of z.kind + q.quantum))
spot_from s q z g l =
    ap (λ m. option_and_then (λ y. spot_in y q.quantum) m) g
    ∙ ap (λ b. if b then Some (spot_at z.kind (z.index * size_of z.kind + q.quantum)) else None) (lt-ltb q.quantum (size_of z.kind) l)

-- a place that is there is there in a space with more numbers
pub spot_kept : (s new : Space') (q : Place) (x : Spot) → ((z : Subzone) → slice_get s.table.subzones q.subzone ≡ Some z → slice_get new.table.subzones q.subzone ≡ Some z) → spot_of s q ≡ Some x → spot_of new q ≡ Some x
spot_kept s new q x more e = let p = parts s q x e in spot_from new q p.z (more p.z p.get) p.below ∙ ap Some p.is

abbrev place_of : ℕ → ℕ → Place
place_of s q = record { subzone = s; quantum = q }

-- two places are no one
pub one_place : (s : Space') (q p : Place) (x : Spot) → IsTable s.table → spot_of s q ≡ Some x → spot_of s p ≡ Some x → q ≡ p
one_place s q p x inv e f =
    let a = parts s q x e in
    let b = parts s p x f in
    let same = a.is ∙ sym b.is in
    let kinds : a.z.kind ≡ b.z.kind = ap (λ (y : Spot). y.kind) same in
    let sizes : size_of a.z.kind ≡ size_of b.z.kind = ap size_of kinds in
    let ats : a.z.index * size_of a.z.kind + q.quantum ≡ b.z.index * size_of a.z.kind + p.quantum = ap (λ (y : Spot). y.at) same ∙ ap (λ n. b.z.index * n + p.quantum) (sym sizes) in
    let rows = one_row (size_of a.z.kind) a.z.index b.z.index q.quantum p.quantum ats a.below (omega (arith, b.below, sizes)) in
    let numbered : q.subzone ≡ p.subzone =
    sym (inv.there q.subzone a.z a.get).1 ∙ ap (λ k. get_or (numbers s.table k) a.z.index 0) kinds ∙ ap (λ n. get_or (numbers s.table b.z.kind) n 0) rows.0 ∙ (inv.there p.subzone b.z b.get).1 in
    ap (λ n. place_of n q.quantum) numbered ∙ ap (λ n. place_of p.subzone n) rows.1

pub kind_cases : (j k : Kind) → (j ≡ k) ⊎ (j ≡ other k)
kind_cases kind.Small kind.Small = inl refl
kind_cases kind.Small kind.Medium = inr refl
kind_cases kind.Medium kind.Small = inr refl
kind_cases kind.Medium kind.Medium = inl refl

kinds_differ : (k : Kind) → k ≢ other k
kinds_differ kind.Small e = cc
kinds_differ kind.Medium e = cc

opened_subzones : (t : Table') (k : Kind) → (opened_with t k).subzones ≡ t.subzones ++ subzone_of k (length (numbers t k)) ∷ []
opened_subzones t kind.Small = refl
opened_subzones t kind.Medium = refl

-- a block that is still where it was, at its place
pub same_block : (s new : Space') (q : Place) (x : Spot) (o : Layout) → spot_of s q ≡ Some x → spot_of new q ≡ Some x → IsStill (region s x.kind) (region new x.kind) x.at o → IsSameBlock s new q o
same_block s new q x o e f still = record {
  layout = layout_spot new q x f ∙ still.layout;
  id = id_spot new q x f ∙ still.id ∙ sym (id_spot s q x e);
  byte = byte_spot new q x f ∙ still.byte ∙ sym (byte_spot s q x e);
  words = λ i l. word_spot new q x i f ∙ still.words i l ∙ sym (word_spot s q x i e);
}

-- a block more
module _ (s new : Space') (sound : IsSound s) (id : BlockId) (l : Layout) (p : Place) (is : IsPlacedAt s new id l p) where
  abbrev k : Kind
  k = kind_of (len_of l)

  abbrev at : ℕ
  at = is.placed.index * (region s k).map.size + p.quantum

  more : (q : ℕ) (z : Subzone) → slice_get s.table.subzones q ≡ Some z → slice_get new.table.subzones q ≡ Some z
  more q z g = elim is.placed.table [
    | inl t ↦ ap (λ (x : Table'). slice_get x.subzones q) t.1 ∙ g
    | inr t ↦ ap (λ (x : Table'). slice_get x.subzones q) t.1 ∙ ap (λ (xs : List Subzone). slice_get xs q) (opened_subzones s.table k) ∙ get_front s.table.subzones (subzone_of k (length (numbers s.table k)) ∷ []) q z g
  ]

  less : (q : ℕ) (z : Subzone) → slice_get new.table.subzones q ≡ Some z → (slice_get s.table.subzones q ≡ Some z) ⊎ ((k ≡ z.kind) × ((region s k).opened ≡ z.index))
  less q z g = elim is.placed.table [
    | inl t ↦ inl (sym (ap (λ (x : Table'). slice_get x.subzones q) t.1) ∙ g)
    | inr t ↦ (let h : slice_get (s.table.subzones ++ subzone_of k (length (numbers s.table k)) ∷ []) q ≡ Some z =
        sym (ap (λ (x : Table'). slice_get x.subzones q) t.1 ∙ ap (λ (xs : List Subzone). slice_get xs q) (opened_subzones s.table k)) ∙ g in
        elim (end_cases s.table.subzones (subzone_of k (length (numbers s.table k))) q z h) [
          | inl b ↦ inl b
          | inr b ↦ inr (ap (λ (y : Subzone). y.kind) b.1, sym (sound.space.opened k) ∙ ap (λ (y : Subzone). y.index) b.1)
        ])
  ]

  table : IsTable new.table
  table = elim is.placed.table [
    | inl t ↦ subst (λ (x : Table'). IsTable x) (sym t.1) sound.table
    | inr t ↦ subst (λ (x : Table'). IsTable x) (sym t.1) (table_opened s.table k sound.table (omega (arith, t.0, is.placed.placed.hole.there, unopened_both s k sound.space)))
  ]

  here : spot_of new p ≡ Some (spot_at k at)
  here =
      let g : slice_get new.table.subzones p.subzone ≡ Some (subzone_of k is.placed.index) = ap (λ n. slice_get new.table.subzones n) is.placed.number.1 ∙ table.back k is.placed.index is.placed.number.0 in
      let b : p.quantum < size_of k = omega (arith, is.placed.placed.hole.here.hole.0, sound.space.size k, some_quanta (region s k).width (len_of l)) in
      spot_from new p (subzone_of k is.placed.index) g b ∙ ap (λ n. Some (spot_at k (is.placed.index * n + p.quantum))) (sym (sound.space.size k))

  still : (x : Spot) (o : Layout) → get_or (region s x.kind).layouts x.at None ≡ Some o → IsStill (region s x.kind) (region new x.kind) x.at o
  still x o e = elim (kind_cases x.kind k) [
    | inl j ↦ subst (λ (m : Kind). IsStill (region s m) (region new m) x.at o) (sym j)
        (placed_still (region s k) (region new k) (sound.regions k) id l (is.placed.index, p.quantum) at is.placed.placed x.at o (subst (λ (m : Kind). get_or (region s m).layouts x.at None ≡ Some o) j e))
    | inr j ↦ subst (λ (m : Kind). IsStill (region s m) (region new m) x.at o) (sym j)
        (all_still (region s (other k)) (region new (other k)) x.at o is.others (subst (λ (m : Kind). get_or (region s m).layouts x.at None ≡ Some o) j e))
  ]

  others : (q : Place) (o : Layout) → layout_at s q ≡ Some o → IsSameBlock s new q o
  others q o e = let x = some_spot s q o e in same_block s new q x.0 o x.1 (spot_kept s new q x.0 (more q.subzone) x.1) (still x.0 o x.2)

  -- a block of the new space is the new one, or was there
  was : (x : Spot) (o : Layout) → get_or (region new x.kind).layouts x.at None ≡ Some o → (x ≡ spot_at k at) ⊎ (get_or (region s x.kind).layouts x.at None ≡ Some o)
  was x o e = elim (kind_cases x.kind k) [
    | inl j ↦ elim (placed_only (region s k) (region new k) (sound.regions k) id l (is.placed.index, p.quantum) at is.placed.placed x.at o (subst (λ (m : Kind). get_or (region new m).layouts x.at None ≡ Some o) j e)) [
      | inl a ↦ inl (ap (λ (m : Kind). spot_at m x.at) j ∙ ap (λ n. spot_at k n) a)
      | inr a ↦ inr (subst (λ (m : Kind). get_or (region s m).layouts x.at None ≡ Some o) (sym j) a)
    ]
    | inr j ↦ inr (subst (λ (m : Kind). get_or (region s m).layouts x.at None ≡ Some o) (sym j)
        (ap (λ (r : Region'). get_or r.layouts x.at None) (sym is.others) ∙ subst (λ (m : Kind). get_or (region new m).layouts x.at None ≡ Some o) j e))
  ]

  was_there : (q : Place) (x : Spot) (o : Layout) → spot_of new q ≡ Some x → get_or (region s x.kind).layouts x.at None ≡ Some o → layout_at s q ≡ Some o
  was_there q x o f e = (let a = parts new q x f in elim (less q.subzone a.z a.get) [
    | inl g ↦ layout_spot s q x (spot_from s q a.z g a.below ∙ ap Some a.is) ∙ e
    | inr g ↦ absurd (let kinds : k ≡ x.kind = g.0 ∙ ap (λ (y : Spot). y.kind) a.is in
        let sizes : (region s k).map.size ≡ size_of a.z.kind = sound.space.size k ∙ ap size_of g.0 in
        let ats : a.z.index * size_of a.z.kind + q.quantum ≡ x.at = ap (λ (y : Spot). y.at) a.is in
        let there : get_or (region s k).layouts x.at None ≡ Some o = subst (λ (m : Kind). get_or (region s m).layouts x.at None ≡ Some o) (sym kinds) e in
        let rows : (region s k).opened * (region s k).map.size ≡ a.z.index * size_of a.z.kind = ap (λ n. n * (region s k).map.size) g.1 ∙ ap (λ n. a.z.index * n) sizes in
        omega (arith, none_above (region s k) x.at o (sound.regions k) there, ats, rows))
  ])

  only : (q : Place) (o : Layout) → layout_at new q ≡ Some o → (q ≡ p) ⊎ (layout_at s q ≡ Some o)
  only q o e = (let x = some_spot new q o e in elim (was x.0 o x.2) [
    | inl a ↦ inl (one_place new q p x.0 table x.1 (here ∙ ap Some (sym a)))
    | inr a ↦ inr (was_there q x.0 o x.1 a)
  ])

  none_or_some : (m : Option Layout) → layout_at s p ≡ m → layout_at s p ≡ None
  none_or_some None e = e
  none_or_some (Some o) e =
      (let x = some_spot s p o e in
      let same : Some x.0 ≡ Some (spot_at k at) = sym (spot_kept s new p x.0 (more p.subzone) x.1) ∙ here in
      let f : get_or (region s k).layouts at None ≡ Some o = subst (λ (y : Spot). get_or (region s y.kind).layouts y.at None ≡ Some o) (let q : x.0 ≡ spot_at k at = cc in q) x.2 in
      let n = is.placed.placed.fresh in cc)

  pub block_more : HasBlockMore s new id l p
  block_more = record {
    fresh = none_or_some (layout_at s p) refl;
    layout = layout_spot new p (spot_at k at) here ∙ ap (λ (xs : List (Option Layout)). get_or xs at None) is.placed.placed.layouts ∙ get_or-set_same (region s k).layouts at (Some l) None is.placed.placed.inside;
    its_id = id_spot new p (spot_at k at) here ∙ ap (λ (xs : List BlockId). get_or xs at no_id) is.placed.placed.ids ∙ get_or-set_same (region s k).ids at id no_id (let r = sound.regions k in omega (arith, is.placed.placed.inside, r.ids, r.layouts));
    byte = byte_spot new p (spot_at k at) here ∙ is.placed.placed.first;
    words = λ i b. word_spot new p (spot_at k at) i here ∙ ap (λ w. get_or (region new k).words (at * w + i) word.Null) is.placed.placed.width ∙ is.placed.placed.words i b;
    others = others;
    only = only;
  }

  -- the same by quantum
  pub block_more_in : (x : Spot) → spot_of new p ≡ Some x → HasBlockMoreIn s new id l x
  block_more_in x e = subst (λ (y : Spot). HasBlockMoreIn s new id l y) (let q : spot_at k at ≡ x = (let f : Some (spot_at k at) ≡ Some x = sym here ∙ e in cc) in q) (record {
    fresh = is.placed.placed.fresh;
    layout = ap (λ (xs : List (Option Layout)). get_or xs at None) is.placed.placed.layouts ∙ get_or-set_same (region s k).layouts at (Some l) None is.placed.placed.inside;
    its_id = ap (λ (xs : List BlockId). get_or xs at no_id) is.placed.placed.ids ∙ get_or-set_same (region s k).ids at id no_id (let r = sound.regions k in omega (arith, is.placed.placed.inside, r.ids, r.layouts));
    byte = is.placed.placed.first;
    others = λ y o e. (let t = still y o e in record { layout = t.layout; id = t.id; byte = t.byte; words = t.words });
    only = was;
  })

-- a block less
module _ (s new : Space') (sound : IsSound s) (l : Layout) (p : Place) (x : Spot) (there : spot_of s p ≡ Some x) (stored : get_or (region s x.kind).layouts x.at None ≡ Some l) (is : IsFreedAt s new l x) where
  spots : (q : Place) → spot_of new q ≡ spot_of s q
  spots q = ap (λ (t : Table'). option_and_then (λ z. spot_in z q.quantum) (slice_get t.subzones q.subzone)) is.table

  inside : x.at < length (region s x.kind).layouts
  inside = stored_within (region s x.kind).layouts x.at l stored

  other_spot : (q : Place) (y : Spot) → q ≢ p → spot_of s q ≡ Some y → y ≢ x
  other_spot q y d e f = d (one_place s q p y sound.table e (there ∙ ap Some (sym f)))

  left_still : (y : Spot) (o : Layout) → y ≢ x → get_or (region s y.kind).layouts y.at None ≡ Some o → IsStill (region s y.kind) (region new y.kind) y.at o
  left_still y o d e = elim (kind_cases y.kind x.kind) [
    | inl j ↦ subst (λ (m : Kind). IsStill (region s m) (region new m) y.at o) (sym j)
        (freed_still (region s x.kind) (region new x.kind) (sound.regions x.kind) l x.at stored is.freed y.at o (λ a. d (ap (λ (m : Kind). spot_at m y.at) j ∙ ap (λ n. spot_at x.kind n) a)) (subst (λ (m : Kind). get_or (region s m).layouts y.at None ≡ Some o) j e))
    | inr j ↦ subst (λ (m : Kind). IsStill (region s m) (region new m) y.at o) (sym j)
        (all_still (region s (other x.kind)) (region new (other x.kind)) y.at o is.others (subst (λ (m : Kind). get_or (region s m).layouts y.at None ≡ Some o) j e))
  ]

  left_was : (y : Spot) (o : Layout) → get_or (region new y.kind).layouts y.at None ≡ Some o → get_or (region s y.kind).layouts y.at None ≡ Some o
  left_was y o e = elim (kind_cases y.kind x.kind) [
    | inl j ↦ subst (λ (m : Kind). get_or (region s m).layouts y.at None ≡ Some o) (sym j)
        (freed_only (region s x.kind) (region new x.kind) (sound.regions x.kind) l x.at stored is.freed y.at o inside (subst (λ (m : Kind). get_or (region new m).layouts y.at None ≡ Some o) j e)).1
    | inr j ↦ subst (λ (m : Kind). get_or (region s m).layouts y.at None ≡ Some o) (sym j)
        (ap (λ (r : Region'). get_or r.layouts y.at None) (sym is.others) ∙ subst (λ (m : Kind). get_or (region new m).layouts y.at None ≡ Some o) j e)
  ]

  pub block_less : HasBlockLess s new p
  block_less = record {
    gone = layout_spot new p x (spots p ∙ there) ∙ freed_gone (region s x.kind) (region new x.kind) (sound.regions x.kind) l x.at stored is.freed inside;
    others = λ q o d e. (let y = some_spot s q o e in same_block s new q y.0 o y.1 (spots q ∙ y.1) (left_still y.0 o (other_spot q y.0 d y.1) y.2));
    only = λ q o e. (let y = some_spot new q o e in layout_spot s q y.0 (sym (spots q) ∙ y.1) ∙ left_was y.0 o y.2);
  }

  -- the same by quantum
  pub block_less_in : HasBlockLessIn s new x
  block_less_in = record {
    gone = sym (layout_spot new p x (spots p ∙ there)) ∙ block_less.gone;
    others = λ y o d e. (let t = left_still y o d e in record { layout = t.layout; id = t.id; byte = t.byte; words = t.words });
    only = left_was;
    spare = is.spare;
  }

pub taken_off : (s new : Space') → IsSound s → (p : Place) → HasBlockAt s p → IsTakenOff s new p → HasBlockLess s new p
taken_off s new sound p has off = go (spot_of s p) refl has off
  where
    go : (m : Option Spot) → spot_of s p ≡ m → MatchOption m ⊥ (λ x. HasBlock (region s x.kind) x.at)
        → MatchOption m ⊥ (λ x. IfSome (get_or (region s x.kind).layouts x.at None) (λ l. IsFreedAt s new l x)) → HasBlockLess s new p
    go None e h f = absurd h
    go (Some x) e h f =
        (let b = stored_block (region s x.kind) x.at h in
        block_less s new sound b.0 p x e b.1 (subst (λ (o : Option Layout). IfSome o (λ l. IsFreedAt s new l x)) b.1 f))

pub sound_of : (s : Space') → IsSpace s → IsTable s.table → IsRegion s.small → IsRegion s.medium → IsSound s
sound_of s space table small medium = record { space = space; table = table; regions = regions }
  where
    regions : (k : Kind) → IsRegion (region s k)
    regions kind.Small = small
    regions kind.Medium = medium
