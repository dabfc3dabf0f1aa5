-- Where the first hole lies, and what a placed block leaves
use Rattle.std.proofs.lemmas.Bool.{eqb-true}
use Rattle.std.specs.Bool.{⊤}
use Rattle.std.proofs.Common.{MatchOption, Bool, true, false, ◌==◌, if◌then◌else◌, ◌≡◌, ◌≢◌, ◌⊎◌, inl, inr, ℕ, zero, suc, ◌+◌, ◌-◌, ◌*◌, ◌/◌, ◌%◌, ◌<◌, ◌≤◌, max, List, [], Option, Some, None, refl, sym, ap, ◌∙◌, subst, arith, length, get_or, set, get_or-set_same, get_or-set_other}
use Rattle.std.proofs.Math.ListN.{length-set}
use Rattle.az_base.specs.declared.block_id.BlockId.{BlockId}
use Rattle.quantum_space.specs.declared.placed.PlacedWord.{PlacedWord}
use Rattle.block_layouts.specs.declared.layout.Layout.{Layout}
use Rattle.block_layouts.specs.Layouts.{len_of}
use Rattle.quantum_space.specs.AdminMaps.{AdminMap', AllAre, HasNoHole, IsChanged, IsFirstOf, IsGrown, IsHoleIn, SameOutside, with_bytes}
use Rattle.quantum_space.specs.Regions.{Region', IsRegion, Lies, HasBlock, HasWord, IsRoomier, IsFirstByte, quanta_in, room_of, new_byte, further_byte, with_byte, with_word}
use Rattle.quantum_space.proofs.Runs.{below_or}
use Rattle.quantum_space.proofs.Cursors.{three_ways, one_row, row_after, no_bytes, set_cases}

new_first : IsFirstByte new_byte
new_first = (omega arith, λ e. omega (arith, e), omega arith)

-- an equal byte is one, too
first_byte : (a b : ℕ) → IsFirstByte a → a ≡ b → IsFirstByte b
first_byte a b f e = subst (λ (x : ℕ). IsFirstByte x) e f

row_more : (o w : ℕ) → (o + 1) * w ≡ o * w + w
row_more o w = omega arith

-- the subzone that was opened last has a hole where nothing is in use any more
pub last_hole : (r : Region') (o n : ℕ) → IsRegion r → r.opened ≡ o + 1 → r.top + n ≤ r.opened * r.map.size → IsHoleIn r.map o (r.top - o * r.map.size) n
last_hole r o n inv e l =
    let x : r.opened * r.map.size ≡ o * r.map.size + r.map.size = ap (λ y. y * r.map.size) e ∙ row_more o r.map.size in
    (omega (arith, x, l, inv.last), λ i k. inv.above (o * r.map.size + (r.top - o * r.map.size) + i) (omega (arith, x, l, inv.last)))

-- and so has the one after it, from its first quantum on
pub next_hole : (r : Region') (n : ℕ) → IsRegion r → n ≤ 32 → IsHoleIn r.map r.opened 0 n
next_hole r n inv l = (omega (arith, l, inv.large), λ i k. inv.above (r.opened * r.map.size + 0 + i) (omega (arith, inv.top_opened)))

before_of : (n : ℕ) → 0 < n → (o : ℕ) × (n ≡ o + 1)
before_of zero l = absurd (omega (arith, l))
before_of (suc o) l = (o, omega arith)

-- where there is room there is a hole
pub room_hole : (r : Region') (n : ℕ) → IsRegion r → 0 < n → n ≤ 32 → n + 31 ≤ room_of r → ¬ ((s : ℕ) → s < r.map.subzones → HasNoHole r.map n s)
room_hole r n inv some few room none = elim (below_or r.opened r.map.subzones) [
  | inl l ↦ none r.opened l 0 (next_hole r n inv few)
  | inr l ↦ (let d : r.map.subzones - r.opened ≡ 0 = omega (arith, l) in
      let z : (r.map.subzones - r.opened) * (r.map.size - 31) ≡ 0 = ap (λ y. y * (r.map.size - 31)) d ∙ (let q : 0 * (r.map.size - 31) ≡ 0 = omega arith in q) in
      let p : r.top + n ≤ r.opened * r.map.size = omega (arith, z, room) in
      elim (below_or 0 r.opened) [
        | inl m ↦ (let o = before_of r.opened m in none o.0 (omega (arith, o.1, inv.enough)) (r.top - o.0 * r.map.size) (last_hole r o.0 n inv o.1 p))
        | inr m ↦ (let q : r.opened ≡ 0 = omega (arith, m) in let y : r.opened * r.map.size ≡ 0 = ap (λ y. y * r.map.size) q ∙ (let t : 0 * r.map.size ≡ 0 = omega arith in t) in absurd (omega (arith, y, p, some)))
      ])
]

-- the first hole lies in a subzone that was opened, or begins the next
pub found_where : (r : Region') (n : ℕ) (f : ℕ × ℕ) → IsRegion r → n ≤ 32 → IsFirstOf r.map n f → (f.0 < r.opened) ⊎ ((f.0 ≡ r.opened) × (f.1 ≡ 0))
found_where r n f inv few first = elim (three_ways f.0 r.opened) [
  | inl l ↦ inl l
  | inr x ↦ elim x [
    | inl e ↦ elim (below_or 0 f.1) [
      | inl l ↦ absurd (first.here.first 0 l (subst (λ s. IsHoleIn r.map s 0 n) (sym e) (next_hole r n inv few)))
      | inr l ↦ inr (e, omega (arith, l))
    ]
    | inr l ↦ absurd (first.none r.opened l 0 (next_hole r n inv few))
  ]
]

-- in an opened subzone it ends within what was opened, and not far behind the top
pub end_near : (r : Region') (n : ℕ) (f : ℕ × ℕ) (at : ℕ) → IsRegion r → IsFirstOf r.map n f → f.0 < r.opened → at ≡ f.0 * r.map.size + f.1
    → (at + n ≤ r.opened * r.map.size) × ((at ≤ r.top) ⊎ (r.opened * r.map.size < r.top + n))
end_near r n f at inv first l e =
    (omega (arith, e, first.here.hole.0, row_after r.map.size f.0 r.opened l), elim (below_or (r.opened * r.map.size) (r.top + n)) [ inl m ↦ inr m | inr m ↦ inl (near m) ])
  where
    near : r.top + n ≤ r.opened * r.map.size → at ≤ r.top
    near m =
        let o = before_of r.opened (omega (arith, l)) in
        let x : r.opened * r.map.size ≡ o.0 * r.map.size + r.map.size = ap (λ y. y * r.map.size) o.1 ∙ row_more o.0 r.map.size in
        elim (three_ways f.0 o.0) [
          | inl b ↦ omega (arith, e, first.here.hole.0, row_after r.map.size f.0 o.0 b, x, inv.last)
          | inr y ↦ elim y [
            | inl s ↦ elim (below_or (r.top - o.0 * r.map.size) f.1) [
              | inl k ↦ absurd (first.here.first (r.top - o.0 * r.map.size) k (subst (λ t. IsHoleIn r.map t (r.top - o.0 * r.map.size) n) (sym s) (last_hole r o.0 n inv o.1 m)))
              | inr k ↦ (let z : f.0 * r.map.size ≡ o.0 * r.map.size = ap (λ t. t * r.map.size) s in omega (arith, e, z, k, x, inv.last))
            ]
            | inr b ↦ absurd (omega (arith, b, l, o.1))
          ]
        ]

-- where nothing in opened subzones is long enough, little is left behind the top
pub little_left : (r : Region') (n : ℕ) (f : ℕ × ℕ) → IsRegion r → 0 < n → IsFirstOf r.map n f → f.0 ≡ r.opened → r.opened * r.map.size < r.top + n
little_left r n f inv some first e = elim (below_or (r.opened * r.map.size) (r.top + n)) [
  | inl l ↦ omega (arith, l)
  | inr l ↦ elim (below_or 0 r.opened) [
    | inl m ↦ (let o = before_of r.opened m in absurd (first.none o.0 (omega (arith, e, o.1)) (r.top - o.0 * r.map.size) (last_hole r o.0 n inv o.1 l)))
    | inr m ↦ (let q : r.opened ≡ 0 = omega (arith, m) in let y : r.opened * r.map.size ≡ 0 = ap (λ y. y * r.map.size) q ∙ (let t : 0 * r.map.size ≡ 0 = omega arith in t) in omega (arith, y, some))
  ]
]

-- what is left of the room
pub room_kept : (a b top at n : ℕ) → at + n ≤ a → (at ≤ top) ⊎ (a < top + n) → (a - top) + b ≤ (a - max top (at + n)) + b + n
room_kept a b top at n l (inl k) = omega (arith, l, k)
room_kept a b top at n l (inr k) = omega (arith, l, k)

pub room_moved : (opened size subzones top n at : ℕ) → opened < subzones → 64 ≤ size → n ≤ 32 → opened * size < top + n → top ≤ opened * size → at ≡ opened * size
    → (opened * size - top) + (subzones - opened) * (size - 31) ≤ ((opened + 1) * size - max top (at + n)) + (subzones - (opened + 1)) * (size - 31) + n
room_moved opened size subzones top n at l large few little beyond e =
    let d : subzones - opened ≡ (subzones - (opened + 1)) + 1 = omega (arith, l) in
    let x : (subzones - opened) * (size - 31) ≡ (subzones - (opened + 1)) * (size - 31) + (size - 31) = ap (λ y. y * (size - 31)) d ∙ row_more (subzones - (opened + 1)) (size - 31) in
    omega (arith, x, row_more opened size, large, few, little, beyond, e)

-- each quantum of a block is in use
pub block_used : (r : Region') (at : ℕ) (l : Layout) (k : ℕ) → Lies r at l → at ≤ k → k < at + quanta_in r.width (len_of l) → 0 < get_or r.map.bytes k 0
block_used r at l k lies b e = elim (three_ways k at) [
  | inl s ↦ absurd (omega (arith, s, b))
  | inr x ↦ elim x [
    | inl s ↦ subst (λ j. 0 < get_or r.map.bytes j 0) (sym s) (let b : 128 ≤ get_or r.map.bytes at 0 = lies.begins.0 in omega (arith, b))
    | inr s ↦ omega (arith, lies.goes_on k (omega (arith, s)) e)
  ]
]

-- a block elsewhere stays, where the bytes of a hole alone changed
module _ (r : Region') (bytes : List ℕ) (from end : ℕ) (same : SameOutside r.map.bytes bytes from end) where
  pub lies_still : (ids : List BlockId) (layouts : List (Option Layout)) (words : List PlacedWord) (opened top at : ℕ) (l : Layout)
      → ((k : ℕ) → at ≤ k → k < at + quanta_in r.width (len_of l) → (k < from) ⊎ (end ≤ k)) → 0 < quanta_in r.width (len_of l) → Lies r at l
      → Lies (record { map = with_bytes r.map bytes; ids = ids; layouts = layouts; words = words; width = r.width; opened = opened; top = top }) at l
  lies_still ids layouts words opened top at l apart some lies = record {
    subzone = lies.subzone;
    quantum = lies.quantum;
    place = lies.place;
    there = lies.there;
    within = lies.within;
    begins = (let e : get_or bytes at 0 ≡ get_or r.map.bytes at 0 = same at (apart at (omega arith) (omega (arith, some))) in first_byte (get_or r.map.bytes at 0) _ lies.begins (sym e));
    goes_on = λ k b m. same k (apart k (omega (arith, b)) m) ∙ lies.goes_on k b m;
  }

pub some_quanta : (w n : ℕ) → 0 < quanta_in w n
some_quanta w n = go (n == 0) ((n - 1) / w)
  where
    go : (b : Bool) (x : ℕ) → 0 < (if b then 1 else x + 1)
    go true x = omega arith
    go false x = omega arith

-- no block begins where a hole does
pub hole_fresh : (r : Region') (n : ℕ) (f : ℕ × ℕ) (at : ℕ) → IsRegion r → 0 < n → IsFirstOf r.map n f → at ≡ f.0 * r.map.size + f.1 → get_or r.layouts at None ≡ None
hole_fresh r n f at inv some first e = go (get_or r.layouts at None) refl
  where
    free : get_or r.map.bytes at 0 ≡ 0
    free = subst (λ x. get_or r.map.bytes x 0 ≡ 0) (let q : f.0 * r.map.size + f.1 + 0 ≡ at = omega (arith, e) in q) (first.here.hole.1 0 some)

    go : (o : Option Layout) → get_or r.layouts at None ≡ o → get_or r.layouts at None ≡ None
    go None x = x
    go (Some l) x = absurd (let b = (inv.blocks at l x).begins.0 in omega (arith, free, b))

-- a region with a block more
module _ (r : Region') (inv : IsRegion r) (id : BlockId) (l : Layout) (f : ℕ × ℕ) (at : ℕ) (bytes : List ℕ) (words : List PlacedWord)
    (first : IsFirstOf r.map (quanta_in r.width (len_of l)) f)
    (place : at ≡ f.0 * r.map.size + f.1)
    (few : quanta_in r.width (len_of l) ≤ 32)
    (same_bytes : length bytes ≡ length r.map.bytes)
    (same_words : length words ≡ length r.words)
    (new : get_or bytes at 0 ≡ new_byte)
    (further : AllAre bytes (at + 1) (at + quanta_in r.width (len_of l)) further_byte)
    (same : SameOutside r.map.bytes bytes at (at + quanta_in r.width (len_of l))) where
  abbrev n : ℕ
  n = quanta_in r.width (len_of l)

  abbrev after : Region'
  after = record { map = with_bytes r.map bytes; ids = set r.ids at id; layouts = set r.layouts at (Some l); words = words; width = r.width; opened = max r.opened (f.0 + 1); top = max r.top (at + quanta_in r.width (len_of l)) }

  one_more : r.opened * r.map.size + r.map.size ≡ (r.opened + 1) * r.map.size
  one_more = omega arith

  apart : (k : ℕ) (o : Layout) → Lies r k o → (j : ℕ) → k ≤ j → j < k + quanta_in r.width (len_of o) → (j < at) ⊎ (at + quanta_in r.width (len_of l) ≤ j)
  apart k o lies j b e = elim (below_or j at) [
    | inl m ↦ inl m
    | inr m ↦ elim (below_or j (at + quanta_in r.width (len_of l))) [
      | inl p ↦ absurd (let z : get_or r.map.bytes j 0 ≡ 0 = subst (λ x. get_or r.map.bytes x 0 ≡ 0) (let q : f.0 * r.map.size + f.1 + (j - at) ≡ j = omega (arith, place, m) in q) (first.here.hole.1 (j - at) (omega (arith, m, p))) in
          omega (arith, z, block_used r k o j lies b e))
      | inr p ↦ inr p
    ]
  ]

  here : Lies after at l
  here = record {
    subzone = f.0;
    quantum = f.1;
    place = place;
    there = first.there;
    within = first.here.hole.0;
    begins = first_byte new_byte _ new_first (sym new);
    goes_on = further;
  }

  inside : at < length r.layouts
  inside = omega (arith, inv.layouts, inv.sized, place, first.here.hole.0, row_after r.map.size f.0 r.map.subzones first.there, some_quanta r.width (len_of l))

  blocks : (k : ℕ) (o : Layout) → get_or (set r.layouts at (Some l)) k None ≡ Some o → Lies after k o
  blocks k o e = elim (three_ways k at) [
    | inl b ↦ still (λ s. omega (arith, b, s))
    | inr x ↦ elim x [
      | inl s ↦ (let q : Some l ≡ Some o = sym (get_or-set_same r.layouts at (Some l) None inside) ∙ ap (λ j. get_or (set r.layouts at (Some l)) j None) (sym s) ∙ e in
          let p : l ≡ o = cc in
          subst (λ j. Lies after j o) (sym s) (subst (λ y. Lies after at y) p here))
      | inr b ↦ still (λ s. omega (arith, b, s))
    ]
  ]
    where
      still : k ≢ at → Lies after k o
      still d =
          let was : Lies r k o = inv.blocks k o (sym (get_or-set_other r.layouts at k (Some l) None d) ∙ e) in
          lies_still r bytes at (at + quanta_in r.width (len_of l)) same _ _ words _ _ k o (apart k o was) (some_quanta r.width (len_of o)) was

  top_opened : after.top ≤ after.opened * r.map.size
  top_opened = elim (found_where r n f inv few first) [
    | inl b ↦ (let e : max r.opened (f.0 + 1) ≡ r.opened = omega (arith, b) in let x : max r.opened (f.0 + 1) * r.map.size ≡ r.opened * r.map.size = ap (λ y. y * r.map.size) e in
        omega (arith, x, inv.top_opened, (end_near r n f at inv first b place).0))
    | inr p ↦ (let e : max r.opened (f.0 + 1) ≡ r.opened + 1 = omega (arith, p.0) in let x : max r.opened (f.0 + 1) * r.map.size ≡ (r.opened + 1) * r.map.size = ap (λ y. y * r.map.size) e in
        let z : f.0 * r.map.size ≡ r.opened * r.map.size = ap (λ y. y * r.map.size) p.0 in
        omega (arith, x, one_more, z, inv.top_opened, place, first.here.hole.0))
  ]

  last : after.opened * r.map.size ≤ after.top + r.map.size
  last = elim (found_where r n f inv few first) [
    | inl b ↦ (let e : max r.opened (f.0 + 1) ≡ r.opened = omega (arith, b) in let x : max r.opened (f.0 + 1) * r.map.size ≡ r.opened * r.map.size = ap (λ y. y * r.map.size) e in omega (arith, x, inv.last))
    | inr p ↦ (let e : max r.opened (f.0 + 1) ≡ r.opened + 1 = omega (arith, p.0) in let x : max r.opened (f.0 + 1) * r.map.size ≡ (r.opened + 1) * r.map.size = ap (λ y. y * r.map.size) e in
        let z : f.0 * r.map.size ≡ r.opened * r.map.size = ap (λ y. y * r.map.size) p.0 in omega (arith, x, one_more, z, place))
  ]

  pub region_placed : IsRegion (record { map = with_bytes r.map bytes; ids = set r.ids at id; layouts = set r.layouts at (Some l); words = words; width = r.width; opened = max r.opened (f.0 + 1); top = max r.top (at + quanta_in r.width (len_of l)) })
  region_placed = record {
    wide = inv.wide;
    large = inv.large;
    sized = same_bytes ∙ inv.sized;
    ids = length-set r.ids at id ∙ inv.ids ∙ sym same_bytes;
    layouts = length-set r.layouts at (Some l) ∙ inv.layouts ∙ sym same_bytes;
    words = same_words ∙ inv.words ∙ ap (λ x. x * r.width) (sym same_bytes);
    enough = omega (arith, inv.enough, first.there);
    top_opened = top_opened;
    last = last;
    above = λ k b. same k (inr (omega (arith, b))) ∙ inv.above k (omega (arith, b));
    blocks = blocks;
  }

  pub opens_where : ((f.0 < r.opened) × (max r.opened (f.0 + 1) ≡ r.opened)) ⊎ ((f.0 ≡ r.opened) × (f.1 ≡ 0) × (max r.opened (f.0 + 1) ≡ r.opened + 1))
  opens_where = elim (found_where r n f inv few first) [ inl b ↦ inl (b, omega (arith, b)) | inr p ↦ inr (p.0, p.1, omega (arith, p.0)) ]

  pub room_after : room_of r ≤ (max r.opened (f.0 + 1) * r.map.size - max r.top (at + quanta_in r.width (len_of l))) + (r.map.subzones - max r.opened (f.0 + 1)) * (r.map.size - 31) + quanta_in r.width (len_of l)
  room_after = elim (found_where r n f inv few first) [
    | inl b ↦ (let e : r.opened ≡ max r.opened (f.0 + 1) = omega (arith, b) in let near = end_near r n f at inv first b place in
        subst (λ x. room_of r ≤ (x * r.map.size - max r.top (at + quanta_in r.width (len_of l))) + (r.map.subzones - x) * (r.map.size - 31) + quanta_in r.width (len_of l)) e
        (room_kept (r.opened * r.map.size) ((r.map.subzones - r.opened) * (r.map.size - 31)) r.top at (quanta_in r.width (len_of l)) near.0 near.1))
    | inr p ↦ (let e : r.opened + 1 ≡ max r.opened (f.0 + 1) = omega (arith, p.0) in
        let z : f.0 * r.map.size ≡ r.opened * r.map.size = ap (λ y. y * r.map.size) p.0 in
        subst (λ x. room_of r ≤ (x * r.map.size - max r.top (at + quanta_in r.width (len_of l))) + (r.map.subzones - x) * (r.map.size - 31) + quanta_in r.width (len_of l)) e
        (room_moved r.opened r.map.size r.map.subzones r.top (quanta_in r.width (len_of l)) at (subst (λ s. s < r.map.subzones) p.0 first.there) inv.large few (little_left r n f inv (some_quanta r.width (len_of l)) first p.0) inv.top_opened (omega (arith, place, z, p.1))))
  ]

-- a region with a block less
module _ (r : Region') (inv : IsRegion r) (l : Layout) (at : ℕ) (bytes : List ℕ) (stored : get_or r.layouts at None ≡ Some l)
    (same_bytes : length bytes ≡ length r.map.bytes)
    (free : AllAre bytes at (at + quanta_in r.width (len_of l)) 0)
    (same : SameOutside r.map.bytes bytes at (at + quanta_in r.width (len_of l))) where
  abbrev gone : Region'
  gone = record { map = with_bytes r.map bytes; ids = r.ids; layouts = set r.layouts at None; words = r.words; width = r.width; opened = r.opened; top = r.top }

  this : Lies r at l
  this = inv.blocks at l stored

  -- two blocks have no quantum in common: each byte of a block but its first is the further one
  apart_from_it : (k : ℕ) (o : Layout) → k ≢ at → Lies r k o → (j : ℕ) → k ≤ j → j < k + quanta_in r.width (len_of o) → (j < at) ⊎ (at + quanta_in r.width (len_of l) ≤ j)
  apart_from_it k o d lies j b e = elim (below_or j at) [
    | inl m ↦ inl m
    | inr m ↦ elim (below_or j (at + quanta_in r.width (len_of l))) [
      | inl p ↦ elim (three_ways k at) [
        | inl q ↦ absurd (this.begins.1 (lies.goes_on at (omega (arith, q)) (omega (arith, m, e))))
        | inr x ↦ elim x [
          | inl q ↦ absurd (d q)
          | inr q ↦ absurd (lies.begins.1 (this.goes_on k (omega (arith, q)) (omega (arith, b, p))))
        ]
      ]
      | inr p ↦ inr p
    ]
  ]

  still_free : (k : ℕ) → r.top ≤ k → get_or bytes k 0 ≡ 0
  still_free k b = elim (below_or k at) [
    | inl m ↦ same k (inl m) ∙ inv.above k b
    | inr m ↦ elim (below_or k (at + quanta_in r.width (len_of l))) [ inl p ↦ free k m p | inr p ↦ same k (inr p) ∙ inv.above k b ]
  ]

  within_it : at < length r.layouts
  within_it = omega (arith, inv.layouts, inv.sized, this.place, this.within, row_after r.map.size this.subzone r.map.subzones this.there, some_quanta r.width (len_of l))

  left : (k : ℕ) (o : Layout) → get_or (set r.layouts at None) k None ≡ Some o → Lies gone k o
  left k o e = elim (three_ways k at) [
    | inl b ↦ still (λ s. omega (arith, b, s))
    | inr x ↦ elim x [
      | inl s ↦ absurd (let q : None ≡ Some o = sym (get_or-set_same r.layouts at None None within_it) ∙ ap (λ j. get_or (set r.layouts at None) j None) (sym s) ∙ e in cc)
      | inr b ↦ still (λ s. omega (arith, b, s))
    ]
  ]
    where
      still : k ≢ at → Lies gone k o
      still d =
          let was : Lies r k o = inv.blocks k o (sym (get_or-set_other r.layouts at k None None d) ∙ e) in
          lies_still r bytes at (at + quanta_in r.width (len_of l)) same _ _ r.words _ _ k o (apart_from_it k o d was) (some_quanta r.width (len_of o)) was

  pub region_freed : IsRegion (record { map = with_bytes r.map bytes; ids = r.ids; layouts = set r.layouts at None; words = r.words; width = r.width; opened = r.opened; top = r.top })
  region_freed = record {
    wide = inv.wide;
    large = inv.large;
    sized = same_bytes ∙ inv.sized;
    ids = inv.ids ∙ sym same_bytes;
    layouts = length-set r.layouts at None ∙ inv.layouts ∙ sym same_bytes;
    words = inv.words ∙ ap (λ x. x * r.width) (sym same_bytes);
    enough = inv.enough;
    top_opened = inv.top_opened;
    last = inv.last;
    above = still_free;
    blocks = left;
  }

pub row_le : (w a b : ℕ) → a ≤ b → a * w ≤ b * w
row_le w a b l = elim (three_ways a b) [ inl m ↦ omega (arith, row_after w a b m) | inr x ↦ elim x [ inl e ↦ omega (arith, ap (λ y. y * w) e) | inr m ↦ absurd (omega (arith, l, m)) ] ]

-- a block's quanta have room for its words
pub words_fit : (w len : ℕ) → 0 < w → len ≤ quanta_in w len * w
words_fit w n l = go (n == 0) refl
  where
    e : ((n - 1) / w + 1) * w ≡ w * ((n - 1) / w) + w
    e = omega arith

    d : w * ((n - 1) / w) + (n - 1) % w ≡ n - 1
    d = omega (arith, l)

    q : (n - 1) % w < w
    q = omega (arith, l)

    go : (b : Bool) → (n == 0) ≡ b → n ≤ (if b then 1 else (n - 1) / w + 1) * w
    go true t = omega (arith, eqb-true n 0 t)
    go false t = omega (arith, e, d, q)

-- the words of a block lie in the list
pub words_inside : (r : Region') (s q at len : ℕ) → IsRegion r → s < r.map.subzones → q + quanta_in r.width len ≤ r.map.size → at ≡ s * r.map.size + q → at * r.width + len ≤ length r.words
words_inside r s q at len inv l b e =
    let inside : at + quanta_in r.width len ≤ length r.map.bytes = omega (arith, e, b, inv.sized, row_after r.map.size s r.map.subzones l) in
    let d : (at + quanta_in r.width len) * r.width ≡ at * r.width + quanta_in r.width len * r.width = omega arith in
    omega (arith, row_le r.width (at + quanta_in r.width len) (length r.map.bytes) inside, d, words_fit r.width len inv.wide, inv.words)

pub quanta_inside : (r : Region') (s q at len : ℕ) → IsRegion r → s < r.map.subzones → q + quanta_in r.width len ≤ r.map.size → at ≡ s * r.map.size + q → at + quanta_in r.width len ≤ length r.map.bytes
quanta_inside r s q at len inv l b e = omega (arith, e, b, inv.sized, row_after r.map.size s r.map.subzones l)

-- what placing writes into the admin bytes
pub record Written (m n : AdminMap') (at end : ℕ) : Type 0 where
  pub is : n ≡ with_bytes m n.bytes
  pub count : length n.bytes ≡ length m.bytes
  pub new : get_or n.bytes at 0 ≡ new_byte
  pub further : AllAre n.bytes (at + 1) end further_byte
  pub same : SameOutside m.bytes n.bytes at end

abbrev of_size : AdminMap' → ℕ → AdminMap'
of_size b x = record { size = x; subzones = b.subzones; bytes = b.bytes }

abbrev of_subzones : ℕ → AdminMap' → ℕ → AdminMap'
of_subzones x b y = record { size = x; subzones = y; bytes = b.bytes }

same_map : (a b : AdminMap') → b.size ≡ a.size → b.subzones ≡ a.subzones → b ≡ with_bytes a b.bytes
same_map a b e f = ap (of_size b) e ∙ ap (of_subzones a.size b) f

pub changed_map : (m n : AdminMap') (from end : ℕ) → IsChanged m n from end → n ≡ with_bytes m n.bytes
changed_map m n from end c = same_map m n c.size c.subzones

written_here : (m n : AdminMap') (at end : ℕ) → IsChanged (with_bytes m (set m.bytes at new_byte)) n (at + 1) end → AllAre n.bytes (at + 1) end further_byte → at < length m.bytes → at < end → Written m n at end
written_here m n at end c all l b = record {
  is = same_map m n c.size c.subzones;
  count = c.count ∙ length-set m.bytes at new_byte;
  new = c.outside at (inl (omega arith)) ∙ get_or-set_same m.bytes at new_byte 0 l;
  further = all;
  same = λ k o. elim o [
    | inl p ↦ c.outside k (inl (omega (arith, p))) ∙ get_or-set_other m.bytes at k new_byte 0 (λ e. absurd (omega (arith, e, p)))
    | inr p ↦ c.outside k (inr p) ∙ get_or-set_other m.bytes at k new_byte 0 (λ e. absurd (omega (arith, e, p, b)))
  ];
}

pub written : (m m1 m2 n : AdminMap') (at end : ℕ) → m1 ≡ m → m2 ≡ with_bytes m1 (set m1.bytes at new_byte) → IsChanged m2 n (at + 1) end → AllAre n.bytes (at + 1) end further_byte → at < length m.bytes → at < end → Written m n at end
written m m1 m2 n at end e f c all l b =
    written_here m n at end (subst (λ (x : AdminMap'). IsChanged (with_bytes x (set x.bytes at new_byte)) n (at + 1) end) e (subst (λ (x : AdminMap'). IsChanged x n (at + 1) end) f c)) all l b

pub same_region : (m m1 : AdminMap') (is is1 : List BlockId) (ls ls1 : List (Option Layout)) (ws : List PlacedWord) (w o o1 t t1 : ℕ) → m1 ≡ m → is1 ≡ is → ls1 ≡ ls → o1 ≡ o → t1 ≡ t
    → IsRegion (record { map = m; ids = is; layouts = ls; words = ws; width = w; opened = o; top = t }) → IsRegion (record { map = m1; ids = is1; layouts = ls1; words = ws; width = w; opened = o1; top = t1 })
same_region m m1 is is1 ls ls1 ws w o o1 t t1 e h d f g i =
    subst (λ (x : AdminMap'). IsRegion (record { map = x; ids = is1; layouts = ls1; words = ws; width = w; opened = o1; top = t1 })) (sym e)
    (subst (λ (x : List BlockId). IsRegion (record { map = m; ids = x; layouts = ls1; words = ws; width = w; opened = o1; top = t1 })) (sym h)
    (subst (λ (x : List (Option Layout)). IsRegion (record { map = m; ids = is; layouts = x; words = ws; width = w; opened = o1; top = t1 })) (sym d)
    (subst (λ (x : ℕ). IsRegion (record { map = m; ids = is; layouts = ls; words = ws; width = w; opened = x; top = t1 })) (sym f)
    (subst (λ (x : ℕ). IsRegion (record { map = m; ids = is; layouts = ls; words = ws; width = w; opened = o; top = x })) (sym g) i))))

pub same_room : (a n : ℕ) (m m1 : AdminMap') (o o1 t t1 : ℕ) → m1 ≡ m → o1 ≡ o → t1 ≡ t
    → a ≤ (o * m.size - t) + (m.subzones - o) * (m.size - 31) + n → a ≤ (o1 * m1.size - t1) + (m1.subzones - o1) * (m1.size - 31) + n
same_room a n m m1 o o1 t t1 e f g i =
    subst (λ (x : AdminMap'). a ≤ (o1 * x.size - t1) + (x.subzones - o1) * (x.size - 31) + n) (sym e)
    (subst (λ (x : ℕ). a ≤ (x * m.size - t1) + (m.subzones - x) * (m.size - 31) + n) (sym f)
    (subst (λ (x : ℕ). a ≤ (o * m.size - x) + (m.subzones - o) * (m.size - 31) + n) (sym g) i))

pub no_layouts : (at : ℕ) → get_or {A = Option Layout} [] at None ≡ None
no_layouts zero = refl
no_layouts (suc at) = refl

no_block : (at : ℕ) (l : Layout) → get_or {A = Option Layout} [] at None ≡ Some l → ⊥
no_block at l e = let f = no_layouts at in cc

pub region_none : (m : AdminMap') (size width : ℕ) → 64 ≤ size → 0 < width → m.size ≡ size → m.subzones ≡ 0 → m.bytes ≡ []
    → IsRegion (record { map = m; ids = []; layouts = []; words = []; width = width; opened = 0; top = 0 })
region_none m size width large wide e f g = record {
  wide = wide;
  large = omega (arith, large, e);
  sized = ap length g ∙ (let z : 0 ≡ 0 * m.size = omega arith in z) ∙ ap (λ x. x * m.size) (sym f);
  ids = sym (ap length g);
  layouts = sym (ap length g);
  words = (let z : 0 ≡ 0 * width = omega arith in z) ∙ ap (λ x. x * width) (sym (ap length g));
  enough = omega arith;
  top_opened = omega arith;
  last = (let z : 0 * m.size ≡ 0 = omega arith in omega (arith, z));
  above = λ k b. ap (λ (xs : List ℕ). get_or xs k 0) g ∙ no_bytes k;
  blocks = λ at l e. absurd (no_block at l e);
}

-- a subzone more
pub region_grown : (r : Region') (m : AdminMap') (is : List BlockId) (ls : List (Option Layout)) (ws : List PlacedWord) → IsRegion r → IsGrown r.map m
    → length is ≡ length r.ids + r.map.size → length ls ≡ length r.layouts + r.map.size → length ws ≡ length r.words + r.map.size * r.width
    → ((k : ℕ) → get_or ls k None ≡ get_or r.layouts k None)
    → IsRegion (record { map = m; ids = is; layouts = ls; words = ws; width = r.width; opened = r.opened; top = r.top })
region_grown r m is ls ws inv g eis els ews same = record {
  wide = inv.wide;
  large = omega (arith, inv.large, g.size);
  sized = g.count ∙ (let e : length r.map.bytes + r.map.size ≡ (r.map.subzones + 1) * r.map.size = omega (arith, inv.sized, row_more r.map.subzones r.map.size) in e)
      ∙ ap (λ x. x * r.map.size) (sym g.subzones) ∙ ap (λ x. m.subzones * x) (sym g.size);
  ids = omega (arith, eis, inv.ids, g.count);
  layouts = omega (arith, els, inv.layouts, g.count);
  words = (let d : (length r.map.bytes + r.map.size) * r.width ≡ length r.map.bytes * r.width + r.map.size * r.width = omega arith in omega (arith, ews, inv.words, d)) ∙ ap (λ x. x * r.width) (sym g.count);
  enough = omega (arith, inv.enough, g.subzones);
  top_opened = (let e : r.opened * m.size ≡ r.opened * r.map.size = ap (λ x. r.opened * x) g.size in omega (arith, e, inv.top_opened));
  last = (let e : r.opened * m.size ≡ r.opened * r.map.size = ap (λ x. r.opened * x) g.size in omega (arith, e, inv.last, g.size));
  above = λ k b. g.same k ∙ inv.above k b;
  blocks = λ at l e. still at l (inv.blocks at l (sym (same at) ∙ e));
}
  where
    still : (at : ℕ) (l : Layout) → Lies r at l → Lies (record { map = m; ids = is; layouts = ls; words = ws; width = r.width; opened = r.opened; top = r.top }) at l
    still at l lies = record {
      subzone = lies.subzone;
      quantum = lies.quantum;
      place = lies.place ∙ ap (λ x. lies.subzone * x + lies.quantum) (sym g.size);
      there = omega (arith, lies.there, g.subzones);
      within = omega (arith, lies.within, g.size);
      begins = (let e = g.same at in first_byte (get_or r.map.bytes at 0) _ lies.begins (sym e));
      goes_on = λ k b c. g.same k ∙ lies.goes_on k b c;
    }

-- another first byte for a block
pub region_noted : (r : Region') (at byte : ℕ) (l : Layout) → IsRegion r → get_or r.layouts at None ≡ Some l → IsFirstByte byte → IsRegion (with_byte r at byte)
region_noted r at byte l inv stored first = record {
  wide = inv.wide;
  large = inv.large;
  sized = length-set r.map.bytes at byte ∙ inv.sized;
  ids = inv.ids ∙ sym (length-set r.map.bytes at byte);
  layouts = inv.layouts ∙ sym (length-set r.map.bytes at byte);
  words = inv.words ∙ ap (λ x. x * r.width) (sym (length-set r.map.bytes at byte));
  enough = inv.enough;
  top_opened = inv.top_opened;
  last = inv.last;
  above = λ k b. get_or-set_other r.map.bytes at k byte 0 (λ e. absurd (let z = inv.above k b in omega (arith, ap (λ j. get_or r.map.bytes j 0) e, z, this.begins.0))) ∙ inv.above k b;
  blocks = λ k o e. still k o (inv.blocks k o e);
}
  where
    this : Lies r at l
    this = inv.blocks at l stored

    inside : at < length r.map.bytes
    inside = omega (arith, inv.sized, this.place, this.within, row_after r.map.size this.subzone r.map.subzones this.there, some_quanta r.width (len_of l))

    begins : (k : ℕ) → IsFirstByte (get_or r.map.bytes k 0) → IsFirstByte (get_or (set r.map.bytes at byte) k 0)
    begins k = set_cases (λ j y. j ≡ k → IsFirstByte (get_or r.map.bytes k 0) → IsFirstByte y) r.map.bytes at byte 0 inside (λ e b. first) (λ j d e b. subst (λ x. IsFirstByte (get_or r.map.bytes x 0)) (sym e) b) k refl

    still : (k : ℕ) (o : Layout) → Lies r k o → Lies (with_byte r at byte) k o
    still k o lies = record {
      subzone = lies.subzone;
      quantum = lies.quantum;
      place = lies.place;
      there = lies.there;
      within = lies.within;
      begins = begins k lies.begins;
      goes_on = λ j b c. get_or-set_other r.map.bytes at j byte 0 (λ e. this.begins.1 (ap (λ x. get_or r.map.bytes x 0) (sym e) ∙ lies.goes_on j b c)) ∙ lies.goes_on j b c;
    }

-- other words
pub region_written : (r : Region') (at i : ℕ) (w : PlacedWord) → IsRegion r → IsRegion (with_word r at i w)
region_written r at i w inv = record {
  wide = inv.wide;
  large = inv.large;
  sized = inv.sized;
  ids = inv.ids;
  layouts = inv.layouts;
  words = length-set r.words (at * r.width + i) w ∙ inv.words;
  enough = inv.enough;
  top_opened = inv.top_opened;
  last = inv.last;
  above = inv.above;
  blocks = λ k o e. (let lies = inv.blocks k o e in record { subzone = lies.subzone; quantum = lies.quantum; place = lies.place; there = lies.there; within = lies.within; begins = lies.begins; goes_on = lies.goes_on });
}

-- a block's words and first quantum are in the lists
pub word_inside : (r : Region') (at i : ℕ) → IsRegion r → HasWord r at i → at * r.width + i < length r.words
word_inside r at i inv has = go (get_or r.layouts at None) refl has
  where
    go : (o : Option Layout) → get_or r.layouts at None ≡ o → MatchOption o ⊥ (λ l. i < len_of l) → at * r.width + i < length r.words
    go None e h = absurd h
    go (Some l) e h = (let lies = inv.blocks at l e in omega (arith, h, words_inside r lies.subzone lies.quantum at (len_of l) inv lies.there lies.within lies.place))

pub block_inside : (r : Region') (at : ℕ) → IsRegion r → HasBlock r at → (l : Layout) × (get_or r.layouts at None ≡ Some l) × (at < length r.map.bytes)
block_inside r at inv has = go (get_or r.layouts at None) refl has
  where
    go : (o : Option Layout) → get_or r.layouts at None ≡ o → MatchOption o ⊥ (λ l. ⊤) → (l : Layout) × (get_or r.layouts at None ≡ Some l) × (at < length r.map.bytes)
    go None e h = absurd h
    go (Some l) e h = (let lies = inv.blocks at l e in (l, e, omega (arith, quanta_inside r lies.subzone lies.quantum at (len_of l) inv lies.there lies.within lies.place, some_quanta r.width (len_of l))))

-- a block ends within its subzone
pub ends_within : (r : Region') (s q : ℕ) (l : Layout) → IsRegion r → q < r.map.size → get_or r.layouts (s * r.map.size + q) None ≡ Some l → q + quanta_in r.width (len_of l) ≤ r.map.size
ends_within r s q l inv b e =
    let lies = inv.blocks (s * r.map.size + q) l e in
    let same = one_row r.map.size s lies.subzone q lies.quantum lies.place b (omega (arith, lies.within, some_quanta r.width (len_of l))) in
    omega (arith, lies.within, same.1)

-- regions that only got roomier
pub roomier_itself : (r : Region') → IsRoomier r r
roomier_itself r = record { size = refl; subzones = omega arith; width = refl; opened = refl; top = refl; bytes = λ k. refl; ids = λ k. refl; layouts = λ k. refl; words = λ k. refl }

pub roomier_more : (a b c : Region') → IsRoomier a b → IsRoomier b c → IsRoomier a c
roomier_more a b c f g = record {
  size = g.size ∙ f.size;
  subzones = omega (arith, f.subzones, g.subzones);
  width = g.width ∙ f.width;
  opened = g.opened ∙ f.opened;
  top = g.top ∙ f.top;
  bytes = λ k. g.bytes k ∙ f.bytes k;
  ids = λ k. g.ids k ∙ f.ids k;
  layouts = λ k. g.layouts k ∙ f.layouts k;
  words = λ k. g.words k ∙ f.words k;
}

pub room_grown : (r n : Region') → IsRoomier r n → n.map.subzones ≡ r.map.subzones + 1 → r.opened ≤ r.map.subzones → 64 ≤ r.map.size → room_of r < room_of n
room_grown r n e s l b =
    let d : n.map.subzones - n.opened ≡ (r.map.subzones - r.opened) + 1 = omega (arith, s, e.opened, l) in
    let x : (n.map.subzones - n.opened) * (n.map.size - 31) ≡ (r.map.subzones - r.opened) * (r.map.size - 31) + (r.map.size - 31) =
    ap (λ y. y * (n.map.size - 31)) d ∙ ap (λ y. ((r.map.subzones - r.opened) + 1) * (y - 31)) e.size ∙ row_more (r.map.subzones - r.opened) (r.map.size - 31) in
    let y : n.opened * n.map.size ≡ r.opened * r.map.size = ap (λ z. z * n.map.size) e.opened ∙ ap (λ z. r.opened * z) e.size in
    omega (arith, x, y, e.top, b)

pub blocks_apart : (r : Region') (at other k : ℕ) (l o : Layout) → Lies r at l → Lies r other o → at ≢ other → at ≤ k → k < at + quanta_in r.width (len_of l) → other ≤ k → k < other + quanta_in r.width (len_of o) → ⊥
blocks_apart r at other k l o f g d a b x y = elim (three_ways at other) [
  | inl m ↦ g.begins.1 (f.goes_on other (omega (arith, m)) (omega (arith, x, b)))
  | inr z ↦ elim z [
    | inl e ↦ d e
    | inr m ↦ f.begins.1 (g.goes_on at (omega (arith, m)) (omega (arith, a, y)))
  ]
]
