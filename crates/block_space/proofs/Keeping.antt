-- What holds of a space after a change
use Rattle.std.proofs.Common.{MatchOption, ◌≡◌, ◌⊎◌, inl, inr, ℕ, zero, suc, ◌+◌, ◌-◌, ◌*◌, ◌<◌, ◌≤◌, ◌^◌, ◌++◌, ◌∷◌, List, [], Option, Some, None, refl, sym, ap, ◌∙◌, subst, arith, length, get_or, set, slice_get, drop}
use Rattle.std.specs.Bool.{⊤}
use Rattle.az_base.specs.declared.block_id.BlockId.{BlockId}
use Rattle.block_layouts.specs.declared.layout.Layout.{Layout}
use Rattle.block_layouts.specs.Layouts.{len_of, quanta}
use Rattle.quantum_space.specs.declared.place.Place.{Place}
use Rattle.quantum_space.specs.AdminMaps.{AdminMap'}
use Rattle.quantum_space.specs.Regions.{Region', HasBlock, IsFreed, IsPlaced, IsRoomier, quanta_in, room_of}
use Rattle.quantum_space.proofs.Placing.{roomier_itself, roomier_more, row_le, some_quanta}
use Rattle.quantum_space.specs.declared.spot.Kind.{Kind}
use Rattle.quantum_space.specs.declared.spot.Kind.TheVariants as kind
use Rattle.block_space.specs.Tables.{Table', numbers, opened_with}
use Rattle.block_space.specs.Spaces.{Space', AreLengths, IsCovered, IsPlacedIn, IsRoomierSpace, IsSpace, altered, block_quanta, kind_length, kind_of, kind_quanta, list_quanta, other, region, size_of, width_of}
use Rattle.block_space.proofs.Opening.{length_end}
use Rattle.block_space.proofs.Sums.{first_kind, first_list, kind_append, layout_quanta, lengths_append, list_append, more_lengths, no_quanta, own_length, other_length, same_quanta, set_quanta, stored_within}

-- what a changed kind needs
pub record IsKind (s : Space') (k : Kind) (r : Region') (t : Table') (ns : List ℕ) (n : ℕ) : Type 0 where
  pub opened : length (numbers t k) ≡ r.opened
  pub other_opened : length (numbers t (other k)) ≡ (region s (other k)).opened
  pub size : r.map.size ≡ (region s k).map.size
  pub width : r.width ≡ (region s k).width
  pub used : n + block_quanta (region s k).layouts ≡ s.used + block_quanta r.layouts
  pub few : n + list_quanta ns < 2 ^ 32
  pub lengths : AreLengths ns
  pub covered : IsCovered (kind_quanta k ns) r
  pub other_covered : IsCovered (kind_quanta (other k) ns) (region s (other k))
  pub unopened : (r.map.subzones - r.opened) + ((region s (other k)).map.subzones - (region s (other k)).opened) ≤ t.room
  pub rooms : t.room < 2 ^ 32

small_kept : (s : Space') (r : Region') (t : Table') (ns : List ℕ) (n : ℕ) → IsSpace s → IsKind s kind.Small r t ns n → IsSpace (altered s kind.Small r t ns n)
small_kept s r t ns n inv e = record {
  opened = opened;
  size = size;
  width = width;
  used = omega (arith, inv.used, e.used);
  few = e.few;
  lengths = e.lengths;
  covered = covered;
  unopened = e.unopened;
  rooms = e.rooms;
}
  where
    opened : (k : Kind) → length (numbers t k) ≡ (region (altered s kind.Small r t ns n) k).opened
    opened kind.Small = e.opened
    opened kind.Medium = e.other_opened

    size : (k : Kind) → (region (altered s kind.Small r t ns n) k).map.size ≡ size_of k
    size kind.Small = e.size ∙ inv.size kind.Small
    size kind.Medium = inv.size kind.Medium

    width : (k : Kind) → (region (altered s kind.Small r t ns n) k).width ≡ width_of k
    width kind.Small = e.width ∙ inv.width kind.Small
    width kind.Medium = inv.width kind.Medium

    covered : (k : Kind) → IsCovered (kind_quanta k ns) (region (altered s kind.Small r t ns n) k)
    covered kind.Small = e.covered
    covered kind.Medium = e.other_covered

medium_kept : (s : Space') (r : Region') (t : Table') (ns : List ℕ) (n : ℕ) → IsSpace s → IsKind s kind.Medium r t ns n → IsSpace (altered s kind.Medium r t ns n)
medium_kept s r t ns n inv e = record {
  opened = opened;
  size = size;
  width = width;
  used = omega (arith, inv.used, e.used);
  few = e.few;
  lengths = e.lengths;
  covered = covered;
  unopened = omega (arith, e.unopened);
  rooms = e.rooms;
}
  where
    opened : (k : Kind) → length (numbers t k) ≡ (region (altered s kind.Medium r t ns n) k).opened
    opened kind.Small = e.other_opened
    opened kind.Medium = e.opened

    size : (k : Kind) → (region (altered s kind.Medium r t ns n) k).map.size ≡ size_of k
    size kind.Small = inv.size kind.Small
    size kind.Medium = e.size ∙ inv.size kind.Medium

    width : (k : Kind) → (region (altered s kind.Medium r t ns n) k).width ≡ width_of k
    width kind.Small = inv.width kind.Small
    width kind.Medium = e.width ∙ inv.width kind.Medium

    covered : (k : Kind) → IsCovered (kind_quanta k ns) (region (altered s kind.Medium r t ns n) k)
    covered kind.Small = e.other_covered
    covered kind.Medium = e.covered

pub kept : (s : Space') (k : Kind) (r : Region') (t : Table') (ns : List ℕ) (n : ℕ) → IsSpace s → IsKind s k r t ns n → IsSpace (altered s k r t ns n)
kept s kind.Small r t ns n inv e = small_kept s r t ns n inv e
kept s kind.Medium r t ns n inv e = medium_kept s r t ns n inv e

-- a roomier region has as much room
pub room_roomier : (r new : Region') → IsRoomier r new → room_of r ≤ room_of new
room_roomier r new e =
    let o : new.opened * new.map.size ≡ r.opened * r.map.size = ap (λ x. x * new.map.size) e.opened ∙ ap (λ x. r.opened * x) e.size in
    let m : (new.map.subzones - new.opened) * (new.map.size - 31) ≡ (new.map.subzones - r.opened) * (r.map.size - 31) = ap (λ x. (new.map.subzones - x) * (new.map.size - 31)) e.opened ∙ ap (λ x. (new.map.subzones - r.opened) * (x - 31)) e.size in
    omega (arith, o, m, e.top, row_le (r.map.size - 31) (r.map.subzones - r.opened) (new.map.subzones - r.opened) (omega (arith, e.subzones)))

pub covered_roomier : (n : ℕ) (r new : Region') → IsRoomier r new → IsCovered n r → IsCovered n new
covered_roomier n r new e (inl z) = inl z
covered_roomier n r new e (inr l) = inr (omega (arith, l, room_roomier r new e))

-- the other kind's numbers, where one of a kind has come
other_numbers : (t : Table') (k : Kind) → numbers (opened_with t k) (other k) ≡ numbers t (other k)
other_numbers t kind.Small = refl
other_numbers t kind.Medium = refl

own_numbers : (t : Table') (k : Kind) → numbers (opened_with t k) k ≡ numbers t k ++ length t.subzones ∷ []
own_numbers t kind.Small = refl
own_numbers t kind.Medium = refl

room_opened : (t : Table') (k : Kind) → (opened_with t k).room ≡ t.room - 1
room_opened t kind.Small = refl
room_opened t kind.Medium = refl

pub unopened_both : (s : Space') (k : Kind) → IsSpace s → ((region s k).map.subzones - (region s k).opened) + ((region s (other k)).map.subzones - (region s (other k)).opened) ≤ s.table.room
unopened_both s kind.Small inv = inv.unopened
unopened_both s kind.Medium inv = omega (arith, inv.unopened)

-- a block more, for the first of the lengths
module _ (s : Space') (inv : IsSpace s) (k : Kind) (id : BlockId) (l : Layout) (new : Region') (t : Table') (index quantum : ℕ)
    (own : k ≡ kind_of (len_of l))
    (first : slice_get s.spare 0 ≡ Some (len_of l))
    (placed : IsPlaced (region s k) new id l (index, quantum) (index * (region s k).map.size + quantum))
    (table : ((index < (region s k).opened) × (t ≡ s.table)) ⊎ ((index ≡ (region s k).opened) × (t ≡ opened_with s.table k)))
    (room : room_of (region s k) ≤ room_of new + quanta_in (region s k).width (len_of l)) where
  wide : kind_length k (len_of l) ≡ quanta_in (region s k).width (len_of l)
  wide = ap (λ j. kind_length j (len_of l)) own ∙ own_length (len_of l) ∙ ap (λ j. quanta_in (width_of j) (len_of l)) (sym own) ∙ ap (λ w. quanta_in w (len_of l)) (sym (inv.width k))

  covered : IsCovered (kind_quanta k s.spare) (region s k) → IsCovered (kind_quanta k (drop 1 s.spare)) new
  covered (inl z) = absurd (omega (arith, z, first_kind k s.spare (len_of l) first, wide, some_quanta (region s k).width (len_of l)))
  covered (inr c) = inr (omega (arith, c, first_kind k s.spare (len_of l) first, wide, room))

  other_covered : IsCovered (kind_quanta (other k) s.spare) (region s (other k)) → IsCovered (kind_quanta (other k) (drop 1 s.spare)) (region s (other k))
  other_covered c =
      let z : kind_length (other k) (len_of l) ≡ 0 = ap (λ j. kind_length (other j) (len_of l)) own ∙ other_length (len_of l) in
      let e : kind_quanta (other k) s.spare ≡ kind_quanta (other k) (drop 1 s.spare) = omega (arith, first_kind (other k) s.spare (len_of l) first, z) in
      subst (λ x. IsCovered x (region s (other k))) e c

  sum : s.used + quanta (len_of l) + block_quanta (region s k).layouts ≡ s.used + block_quanta new.layouts
  sum =
      let e = set_quanta (region s k).layouts (index * (region s k).map.size + quantum) (Some l) placed.inside in
      let z = ap (λ o. layout_quanta o) placed.fresh in
      let n = ap block_quanta placed.layouts in
      omega (arith, e, z, n)

  opened : (((index < (region s k).opened) × (t ≡ s.table)) ⊎ ((index ≡ (region s k).opened) × (t ≡ opened_with s.table k)))
      → (((index < (region s k).opened) × (new.opened ≡ (region s k).opened)) ⊎ ((index ≡ (region s k).opened) × (quantum ≡ 0) × (new.opened ≡ (region s k).opened + 1)))
      → (length (numbers t k) ≡ new.opened) × (length (numbers t (other k)) ≡ (region s (other k)).opened)
      × ((new.map.subzones - new.opened) + ((region s (other k)).map.subzones - (region s (other k)).opened) ≤ t.room) × (t.room < 2 ^ 32)
  opened (inl a) (inl b) = (
    ap (λ (x : Table'). length (numbers x k)) a.1 ∙ inv.opened k ∙ sym b.1,
    ap (λ (x : Table'). length (numbers x (other k))) a.1 ∙ inv.opened (other k),
    (let r = ap (λ (x : Table'). x.room) a.1 in let m = ap (λ (x : AdminMap'). x.subzones) placed.map in omega (arith, r, m, b.1, unopened_both s k inv)),
    (let r = ap (λ (x : Table'). x.room) a.1 in omega (arith, r, inv.rooms)),
  )
  opened (inl a) (inr b) = absurd (omega (arith, a.0, b.0))
  opened (inr a) (inl b) = absurd (omega (arith, a.0, b.0))
  opened (inr a) (inr b) = (
    ap (λ (x : Table'). length (numbers x k)) a.1 ∙ ap length (own_numbers s.table k) ∙ length_end (numbers s.table k) (length s.table.subzones) ∙ ap (λ n. n + 1) (inv.opened k) ∙ sym b.2,
    ap (λ (x : Table'). length (numbers x (other k))) a.1 ∙ ap length (other_numbers s.table k) ∙ inv.opened (other k),
    (let r = ap (λ (x : Table'). x.room) a.1 ∙ room_opened s.table k in let m = ap (λ (x : AdminMap'). x.subzones) placed.map in omega (arith, r, m, b.2, b.0, placed.hole.there, unopened_both s k inv)),
    (let r = ap (λ (x : Table'). x.room) a.1 ∙ room_opened s.table k in omega (arith, r, inv.rooms)),
  )

  pub kind_placed : IsKind s k new t (drop 1 s.spare) (s.used + quanta (len_of l))
  kind_placed = (let o = opened table placed.opens in record {
    opened = o.0;
    other_opened = o.1;
    size = ap (λ (x : AdminMap'). x.size) placed.map;
    width = placed.width;
    used = sum;
    few = omega (arith, inv.few, first_list s.spare (len_of l) first);
    lengths = more_lengths s.spare inv.lengths;
    covered = covered (inv.covered k);
    other_covered = other_covered (inv.covered (other k));
    unopened = o.2;
    rooms = o.3;
  })

-- one subzone more
pub kind_grown : (s : Space') (k : Kind) (new : Region') (t : Table') → IsSpace s → IsRoomier (region s k) new → new.map.subzones ≤ (region s k).map.subzones + 1
    → numbers t k ≡ numbers s.table k → numbers t (other k) ≡ numbers s.table (other k)
    → ((region s k).map.subzones - (region s k).opened) + ((region s (other k)).map.subzones - (region s (other k)).opened) + 1 ≤ t.room → t.room < 2 ^ 32 → IsKind s k new t s.spare s.used
kind_grown s k new t inv e one n m room rooms = record {
  opened = ap length n ∙ inv.opened k ∙ sym e.opened;
  other_opened = ap length m ∙ inv.opened (other k);
  size = e.size;
  width = e.width;
  used = ap (λ x. s.used + x) (sym (same_quanta (region s k).layouts new.layouts e.layouts));
  few = inv.few;
  lengths = inv.lengths;
  covered = covered_roomier _ _ _ e (inv.covered k);
  other_covered = inv.covered (other k);
  unopened = omega (arith, room, one, e.opened);
  rooms = rooms;
}

-- a block less
pub kind_freed : (s : Space') (k : Kind) (new : Region') (l : Layout) (at n : ℕ) → IsSpace s → get_or (region s k).layouts at None ≡ Some l → IsFreed (region s k) new l at → n + quanta (len_of l) ≡ s.used → IsKind s k new s.table s.spare n
kind_freed s k new l at n inv stored freed used = record {
  opened = inv.opened k ∙ ap (λ (x : Region'). x.opened) (sym freed.rest);
  other_opened = inv.opened (other k);
  size = ap (λ (x : AdminMap'). x.size) freed.map;
  width = ap (λ (x : Region'). x.width) freed.rest;
  used = (let e = set_quanta (region s k).layouts at None (stored_within _ at l stored) in
      let z : layout_quanta (get_or (region s k).layouts at None) ≡ quanta (len_of l) = ap (λ o. layout_quanta o) stored in
      let m : block_quanta new.layouts ≡ block_quanta (set (region s k).layouts at None) = ap (λ (x : Region'). block_quanta x.layouts) freed.rest in
      omega (arith, e, z, m, used));
  few = omega (arith, inv.few, used);
  lengths = inv.lengths;
  covered = covered_same (inv.covered k);
  other_covered = inv.covered (other k);
  unopened = (let o = ap (λ (x : Region'). x.opened) freed.rest in let m = ap (λ (x : AdminMap'). x.subzones) freed.map in omega (arith, o, m, unopened_both s k inv));
  rooms = inv.rooms;
}
  where
    same_room : room_of new ≡ room_of (region s k)
    same_room = (let o = ap (λ (x : Region'). x.opened) freed.rest in let p = ap (λ (x : Region'). x.top) freed.rest in
        ap (λ (x : AdminMap'). (new.opened * x.size - new.top) + (x.subzones - new.opened) * (x.size - 31)) freed.map
        ∙ ap (λ x. (x * (region s k).map.size - new.top) + ((region s k).map.subzones - x) * ((region s k).map.size - 31)) o
        ∙ ap (λ x. ((region s k).opened * (region s k).map.size - x) + ((region s k).map.subzones - (region s k).opened) * ((region s k).map.size - 31)) p)

    covered_same : IsCovered (kind_quanta k s.spare) (region s k) → IsCovered (kind_quanta k s.spare) new
    covered_same (inl z) = inl z
    covered_same (inr c) = inr (omega (arith, c, same_room))

-- there is room for the first of the lengths
pub first_room : (s : Space') (k : Kind) (n : ℕ) → IsSpace s → slice_get s.spare 0 ≡ Some n → k ≡ kind_of n → quanta_in (region s k).width n + 31 ≤ room_of (region s k)
first_room s k n inv first own = go (inv.covered k)
  where
    wide : kind_length k n ≡ quanta_in (region s k).width n
    wide = ap (λ j. kind_length j n) own ∙ own_length n ∙ ap (λ j. quanta_in (width_of j) n) (sym own) ∙ ap (λ w. quanta_in w n) (sym (inv.width k))

    go : IsCovered (kind_quanta k s.spare) (region s k) → quanta_in (region s k).width n + 31 ≤ room_of (region s k)
    go (inl z) = absurd (omega (arith, z, first_kind k s.spare n first, wide, some_quanta (region s k).width n))
    go (inr c) = omega (arith, c, first_kind k s.spare n first, wide)

none_covered : (k : Kind) (ns : List ℕ) → ns ≡ [] → kind_quanta k ns ≡ 0
none_covered k ns e = ap (kind_quanta k) e

-- a space without a subzone
pub space_none : (a b : Region') (t : Table') (ns : List ℕ) → a.map.size ≡ 4096 → b.map.size ≡ 256 → a.width ≡ 2 → b.width ≡ 128
    → ((k : ℕ) → get_or a.layouts k None ≡ None) → ((k : ℕ) → get_or b.layouts k None ≡ None) → a.opened ≡ 0 → b.opened ≡ 0 → a.map.subzones ≡ 0 → b.map.subzones ≡ 0
    → t.small ≡ [] → t.medium ≡ [] → t.room ≡ 0 → ns ≡ [] → IsSpace (record { small = a; medium = b; table = t; spare = ns; used = 0 })
space_none a b t ns sa sb wa wb la lb oa ob za zb ts tm room none = record {
  opened = opened;
  size = size;
  width = width;
  used = (let x = no_quanta a.layouts la in let y = no_quanta b.layouts lb in omega (arith, x, y));
  few = (let z = ap list_quanta none in omega (arith, z));
  lengths = λ k. (let z = ap (λ (xs : List ℕ). get_or xs k 0) none ∙ none_number k in omega (arith, z));
  covered = λ k. inl (none_covered k ns none);
  unopened = omega (arith, za, zb);
  rooms = omega (arith, room);
}
  where
    none_number : (k : ℕ) → get_or {A = ℕ} [] k 0 ≡ 0
    none_number zero = refl
    none_number (suc k) = refl

    opened : (k : Kind) → length (numbers t k) ≡ (region (record { small = a; medium = b; table = t; spare = ns; used = 0 }) k).opened
    opened kind.Small = ap length ts ∙ sym oa
    opened kind.Medium = ap length tm ∙ sym ob

    size : (k : Kind) → (region (record { small = a; medium = b; table = t; spare = ns; used = 0 }) k).map.size ≡ size_of k
    size kind.Small = sa
    size kind.Medium = sb

    width : (k : Kind) → (region (record { small = a; medium = b; table = t; spare = ns; used = 0 }) k).width ≡ width_of k
    width kind.Small = wa
    width kind.Medium = wb

-- spaces that only got roomier
pub roomier_space : (s : Space') → IsRoomierSpace s s
roomier_space s = record { each = λ k. roomier_itself (region s k); subzones = refl; numbers = λ k. refl; used = refl }

pub roomier_space_more : (a b c : Space') → IsRoomierSpace a b → IsRoomierSpace b c → IsRoomierSpace a c
roomier_space_more a b c f g = record {
  each = λ k. roomier_more _ _ _ (f.each k) (g.each k);
  subzones = g.subzones ∙ f.subzones;
  numbers = λ k. g.numbers k ∙ f.numbers k;
  used = g.used ∙ f.used;
}

pub roomier_spare : (s : Space') (ns : List ℕ) → IsRoomierSpace s (record { small = s.small; medium = s.medium; table = s.table; spare = ns; used = s.used })
roomier_spare s ns = record { each = each; subzones = refl; numbers = λ k. refl; used = refl }
  where
    each : (k : Kind) → IsRoomier (region s k) (region (record { small = s.small; medium = s.medium; table = s.table; spare = ns; used = s.used }) k)
    each kind.Small = roomier_itself s.small
    each kind.Medium = roomier_itself s.medium

pub placed_kept : (s : Space') (k : Kind) (id : BlockId) (l : Layout) (new : Region') (t : Table') (p : Place) (ns : List ℕ) (q : ℕ) → IsSpace s → k ≡ kind_of (len_of l) → slice_get s.spare 0 ≡ Some (len_of l)
    → IsPlacedIn (region s k) new s.table t k id l p → room_of (region s k) ≤ room_of new + quanta_in (region s k).width (len_of l) → ns ≡ drop 1 s.spare → q ≡ quanta (len_of l) → IsSpace (altered s k new t ns (s.used + q))
placed_kept s k id l new t p ns q inv own first placed room en eq =
    subst (λ (x : List ℕ). IsSpace (altered s k new t x (s.used + q))) (sym en)
    (subst (λ (x : ℕ). IsSpace (altered s k new t (drop 1 s.spare) (s.used + x))) (sym eq)
    (kept s k new t (drop 1 s.spare) (s.used + quanta (len_of l)) inv (kind_placed s inv k id l new t placed.index p.quantum own first placed.placed placed.table room)))

-- with more lengths of blocks to come
pub more_come : (s : Space') (ns ms : List ℕ) → IsSpace s → AreLengths ns → s.used + list_quanta s.spare + list_quanta ns < 2 ^ 32 → ms ≡ s.spare ++ ns
    → ((k : Kind) → IsCovered (kind_quanta k s.spare + kind_quanta k ns) (region s k)) → IsSpace (record { small = s.small; medium = s.medium; table = s.table; spare = ms; used = s.used })
more_come s ns ms inv lengths few e covered = subst (λ (x : List ℕ). IsSpace (record { small = s.small; medium = s.medium; table = s.table; spare = x; used = s.used })) (sym e) (record {
  opened = opened;
  size = size;
  width = width;
  used = inv.used;
  few = omega (arith, few, list_append s.spare ns);
  lengths = lengths_append s.spare ns inv.lengths lengths;
  covered = cover;
  unopened = inv.unopened;
  rooms = inv.rooms;
})
  where
    opened : (k : Kind) → length (numbers s.table k) ≡ (region (record { small = s.small; medium = s.medium; table = s.table; spare = s.spare ++ ns; used = s.used }) k).opened
    opened kind.Small = inv.opened kind.Small
    opened kind.Medium = inv.opened kind.Medium

    size : (k : Kind) → (region (record { small = s.small; medium = s.medium; table = s.table; spare = s.spare ++ ns; used = s.used }) k).map.size ≡ size_of k
    size kind.Small = inv.size kind.Small
    size kind.Medium = inv.size kind.Medium

    width : (k : Kind) → (region (record { small = s.small; medium = s.medium; table = s.table; spare = s.spare ++ ns; used = s.used }) k).width ≡ width_of k
    width kind.Small = inv.width kind.Small
    width kind.Medium = inv.width kind.Medium

    cover : (k : Kind) → IsCovered (kind_quanta k (s.spare ++ ns)) (region (record { small = s.small; medium = s.medium; table = s.table; spare = s.spare ++ ns; used = s.used }) k)
    cover kind.Small = subst (λ x. IsCovered x s.small) (sym (kind_append kind.Small s.spare ns)) (covered kind.Small)
    cover kind.Medium = subst (λ x. IsCovered x s.medium) (sym (kind_append kind.Medium s.spare ns)) (covered kind.Medium)

-- the layout of a block that is there
pub stored_block : (r : Region') (at : ℕ) → HasBlock r at → (l : Layout) × (get_or r.layouts at None ≡ Some l)
stored_block r at h = go (get_or r.layouts at None) refl h
  where
    go : (o : Option Layout) → get_or r.layouts at None ≡ o → MatchOption o ⊥ (λ l. ⊤) → (l : Layout) × (get_or r.layouts at None ≡ Some l)
    go None e h = absurd h
    go (Some l) e h = (l, e)

-- room for those that come and for more, once both kinds have it
pub both_covered : (a b : Space') (old ns : List ℕ) (x y : ℕ) → IsRoomierSpace a b → b.spare ≡ old → IsCovered x a.small → IsCovered y b.medium
    → x ≡ kind_quanta kind.Small old + kind_quanta kind.Small ns → y ≡ kind_quanta kind.Medium old + kind_quanta kind.Medium ns → (k : Kind) → IsCovered (kind_quanta k b.spare + kind_quanta k ns) (region b k)
both_covered a b old ns x y more e f g ex ey kind.Small =
    subst (λ z. IsCovered z b.small) (ex ∙ ap (λ (zs : List ℕ). kind_quanta kind.Small zs + kind_quanta kind.Small ns) (sym e)) (covered_roomier x a.small b.small (more.each kind.Small) f)
both_covered a b old ns x y more e f g ex ey kind.Medium = subst (λ z. IsCovered z b.medium) (ey ∙ ap (λ (zs : List ℕ). kind_quanta kind.Medium zs + kind_quanta kind.Medium ns) (sym e)) g
