-- Blocks of a region that stay as they were
use Rattle.std.proofs.Common.{◌≡◌, ◌≢◌, ◌⊎◌, inl, inr, ℕ, ◌+◌, ◌-◌, ◌*◌, ◌<◌, ◌≤◌, List, Option, Some, None, refl, sym, ap, ◌∙◌, subst, arith, length, get_or, set, get_or-set_same, get_or-set_other}
use Rattle.az_base.specs.declared.block_id.BlockId.{BlockId}
use Rattle.quantum_space.specs.declared.placed.PlacedWord.TheVariants as word
use Rattle.block_layouts.specs.declared.layout.Layout.{Layout}
use Rattle.block_layouts.specs.Layouts.{len_of}
use Rattle.quantum_space.specs.Regions.{Region', IsFreed, IsPlaced, IsRegion, Lies, no_id, quanta_in}
use Rattle.quantum_space.proofs.Runs.{below_or}
use Rattle.quantum_space.proofs.Cursors.{three_ways}
use Rattle.quantum_space.proofs.Placing.{block_used, blocks_apart, row_le, some_quanta, words_fit}

-- the block at a quantum is as it was
pub record IsStill (r new : Region') (k : ℕ) (o : Layout) : Type 0 where
  pub layout : get_or new.layouts k None ≡ Some o
  pub id : get_or new.ids k no_id ≡ get_or r.ids k no_id
  pub byte : get_or new.map.bytes k 0 ≡ get_or r.map.bytes k 0
  pub words : (i : ℕ) → i < len_of o → get_or new.words (k * new.width + i) word.Null ≡ get_or r.words (k * r.width + i) word.Null

pub all_still : (r new : Region') (k : ℕ) (o : Layout) → new ≡ r → get_or r.layouts k None ≡ Some o → IsStill r new k o
all_still r new k o e s = subst (λ (x : Region'). IsStill r x k o) (sym e) (record { layout = s; id = refl; byte = refl; words = λ i l. refl })

-- words of blocks that lie apart lie apart
pub words_apart : (w k at i len other : ℕ) → 0 < w → i < len → (k + quanta_in w len ≤ at) ⊎ (at + quanta_in w other ≤ k) → (k * w + i < at * w) ⊎ (at * w + other ≤ k * w + i)
words_apart w k at i len other wide l (inl a) = (let d : (k + quanta_in w len) * w ≡ k * w + quanta_in w len * w = omega arith in inl (omega (arith, l, d, row_le w (k + quanta_in w len) at a, words_fit w len wide)))
words_apart w k at i len other wide l (inr a) = (let d : (at + quanta_in w other) * w ≡ at * w + quanta_in w other * w = omega arith in inr (omega (arith, l, d, row_le w (at + quanta_in w other) k a, words_fit w other wide)))

differ : (xs : List (Option Layout)) (k at : ℕ) (o : Layout) → get_or xs k None ≡ Some o → get_or xs at None ≡ None → k ≢ at
differ xs k at o e f s = (let g : get_or xs k None ≡ None = ap (λ j. get_or xs j None) s ∙ f in cc)

module _ (r new : Region') (inv : IsRegion r) (id : BlockId) (l : Layout) (f : ℕ × ℕ) (at : ℕ) (placed : IsPlaced r new id l f at) where
  free : (j : ℕ) → at ≤ j → j < at + quanta_in r.width (len_of l) → get_or r.map.bytes j 0 ≡ 0
  free j a b = subst (λ x. get_or r.map.bytes x 0 ≡ 0) (let q : f.0 * r.map.size + f.1 + (j - at) ≡ j = omega (arith, placed.place, a) in q) (placed.hole.here.hole.1 (j - at) (omega (arith, a, b)))

  apart : (k : ℕ) (o : Layout) → Lies r k o → (k + quanta_in r.width (len_of o) ≤ at) ⊎ (at + quanta_in r.width (len_of l) ≤ k)
  apart k o lies = elim (below_or k at) [
    | inl a ↦ elim (below_or at (k + quanta_in r.width (len_of o))) [
      | inl b ↦ absurd (let z = free at (omega arith) (omega (arith, some_quanta r.width (len_of l))) in let u = block_used r k o at lies (omega (arith, a)) b in omega (arith, z, u))
      | inr b ↦ inl b
    ]
    | inr a ↦ elim (below_or k (at + quanta_in r.width (len_of l))) [
      | inl b ↦ absurd (let z = free k a b in omega (arith, z, lies.begins.0))
      | inr b ↦ inr b
    ]
  ]

  outside : (k : ℕ) (o : Layout) → (k + quanta_in r.width (len_of o) ≤ at) ⊎ (at + quanta_in r.width (len_of l) ≤ k) → (k < at) ⊎ (at + quanta_in r.width (len_of l) ≤ k)
  outside k o (inl a) = inl (omega (arith, a, some_quanta r.width (len_of o)))
  outside k o (inr a) = inr a

  pub placed_still : (k : ℕ) (o : Layout) → get_or r.layouts k None ≡ Some o → IsStill r new k o
  placed_still k o e =
      let lies = inv.blocks k o e in
      let a = apart k o lies in
      record {
        layout = ap (λ (xs : List (Option Layout)). get_or xs k None) placed.layouts ∙ get_or-set_other r.layouts at k (Some l) None (differ r.layouts k at o e placed.fresh) ∙ e;
        id = ap (λ (xs : List BlockId). get_or xs k no_id) placed.ids ∙ get_or-set_other r.ids at k id no_id (differ r.layouts k at o e placed.fresh);
        byte = placed.bytes k (outside k o a);
        words = λ i b. ap (λ w. get_or new.words (k * w + i) word.Null) placed.width ∙ placed.others (k * r.width + i) (words_apart r.width k at i (len_of o) (len_of l) inv.wide b a);
      }

  pub placed_only : (k : ℕ) (o : Layout) → get_or new.layouts k None ≡ Some o → (k ≡ at) ⊎ (get_or r.layouts k None ≡ Some o)
  placed_only k o e =
      let same = ap (λ (xs : List (Option Layout)). get_or xs k None) placed.layouts in
      elim (three_ways k at) [
        | inl b ↦ inr (sym (get_or-set_other r.layouts at k (Some l) None (λ s. absurd (omega (arith, b, s)))) ∙ sym same ∙ e)
        | inr x ↦ elim x [
          | inl s ↦ inl s
          | inr b ↦ inr (sym (get_or-set_other r.layouts at k (Some l) None (λ s. absurd (omega (arith, b, s)))) ∙ sym same ∙ e)
        ]
      ]

-- no block lies where no subzone was opened
pub none_above : (r : Region') (k : ℕ) (o : Layout) → IsRegion r → get_or r.layouts k None ≡ Some o → k < r.opened * r.map.size
none_above r k o inv e = elim (below_or k (r.opened * r.map.size)) [
  | inl l ↦ l
  | inr l ↦ absurd (let z = inv.above k (omega (arith, l, inv.top_opened)) in let b = (inv.blocks k o e).begins.0 in omega (arith, z, b))
]

module _ (r new : Region') (inv : IsRegion r) (l : Layout) (at : ℕ) (stored : get_or r.layouts at None ≡ Some l) (freed : IsFreed r new l at) where
  left : new.layouts ≡ set r.layouts at None
  left = ap (λ (x : Region'). x.layouts) freed.rest

  apart_from : (k : ℕ) (o : Layout) → get_or r.layouts k None ≡ Some o → k ≢ at → (k < at) ⊎ (at + quanta_in r.width (len_of l) ≤ k)
  apart_from k o e d = elim (below_or k at) [
    | inl a ↦ inl a
    | inr a ↦ elim (below_or k (at + quanta_in r.width (len_of l))) [
      | inl b ↦ absurd (blocks_apart r at k k l o (inv.blocks at l stored) (inv.blocks k o e) (λ s. d (sym s)) a b (omega arith) (omega (arith, some_quanta r.width (len_of o))))
      | inr b ↦ inr b
    ]
  ]

  pub freed_still : (k : ℕ) (o : Layout) → k ≢ at → get_or r.layouts k None ≡ Some o → IsStill r new k o
  freed_still k o d e = record {
    layout = ap (λ (xs : List (Option Layout)). get_or xs k None) left ∙ get_or-set_other r.layouts at k None None d ∙ e;
    id = ap (λ (x : Region'). get_or x.ids k no_id) freed.rest;
    byte = freed.bytes k (apart_from k o e d);
    words = λ i b. ap (λ (x : Region'). get_or x.words (k * x.width + i) word.Null) freed.rest;
  }

  pub freed_gone : at < length r.layouts → get_or new.layouts at None ≡ None
  freed_gone b = ap (λ (xs : List (Option Layout)). get_or xs at None) left ∙ get_or-set_same r.layouts at None None b

  pub freed_only : (k : ℕ) (o : Layout) → at < length r.layouts → get_or new.layouts k None ≡ Some o → (k ≢ at) × (get_or r.layouts k None ≡ Some o)
  freed_only k o b e = elim (three_ways k at) [
    | inl a ↦ (let d : k ≢ at = λ s. absurd (omega (arith, a, s)) in (d, sym (ap (λ (xs : List (Option Layout)). get_or xs k None) left ∙ get_or-set_other r.layouts at k None None d) ∙ e))
    | inr x ↦ elim x [
      | inl s ↦ absurd (let g : get_or new.layouts k None ≡ None = ap (λ j. get_or new.layouts j None) s ∙ freed_gone b in cc)
      | inr a ↦ (let d : k ≢ at = λ s. absurd (omega (arith, a, s)) in (d, sym (ap (λ (xs : List (Option Layout)). get_or xs k None) left ∙ get_or-set_other r.layouts at k None None d) ∙ e))
    ]
  ]
