-- One more edge in a small graph
use Rattle.std.proofs.Common.{◌≡◌, ℕ, ◌<◌, ◌==◌, ◌&&◌, ◌++◌, Bool, true, false, List, [], ◌∷◌, refl, sym, subst, arith, ◌⊎◌, inl, inr, length, zero, suc, nat_lt, map, slice_set, slice_index_or, drop, cond}
use Rattle.az_base.specs.declared.block_id.BlockId.{BlockId}
use Rattle.az_base.specs.declared.action.Mode.{Mode}
use Rattle.quantum_space.specs.Shapes.{Has, Shape, Shades}
use Rattle.gen_marker.specs.Marking.{Shut, Enlivens}
use Rattle.quantum_space.proofs.Lists.{end_cases}
use Rattle.gen_marker.specs.Closure.{Stored}
use Rattle.finalise_pass.specs.SmallGraphs.{row_at, small_shape}

pub pushed : (old new : List BlockId) (b : BlockId) → new ≡ old ++ b ∷ [] → (y : BlockId) → Has new y → Has old y ⊎ (y ≡ b)
pushed old new b e y h = elim (end_cases old b y (subst (λ xs. Has xs y) e h)) [ inl k ↦ inl k | inr k ↦ inr (sym k) ]

pub unpushed : (old new : List BlockId) (b : BlockId) → new ≡ old → (y : BlockId) → Has new y → Has old y ⊎ (y ≡ b)
unpushed old new b e y h = inl (subst (λ xs. Has xs y) e h)

pub row_store : {V : Type 0} (f : V → List BlockId) (vs : List V) (at i : ℕ) (v d : V) (b : BlockId) → at < length vs → ((y : BlockId) → Has (f v) y → Has (f (slice_index_or vs at d)) y ⊎ (y ≡ b))
    → (y : BlockId) → Has (row_at (map f (slice_set vs at v)) i) y → Has (row_at (map f vs) i) y ⊎ (y ≡ b)
row_store f [] at i v d b l h y k = absurd (omega (arith, l))
row_store f (x ∷ xs) zero zero v d b l h y k = h y k
row_store f (x ∷ xs) zero (suc i) v d b l h y k = inl k
row_store f (x ∷ xs) (suc at) zero v d b l h y k = inl k
row_store f (x ∷ xs) (suc at) (suc i) v d b l h y k = row_store f xs at i v d b (omega (arith, l)) h y k

pub store_is : (t n : ℕ) (rows after : List (List BlockId)) (young : ℕ) (anchors : List BlockId) (all : Bool) (some : List BlockId) (b : BlockId)
    → ((i : ℕ) (y : BlockId) → Has (row_at after i) y → Has (row_at rows i) y ⊎ (y ≡ b)) → Stored (small_shape t n rows young anchors all some) (small_shape t n after young anchors all some) b
store_is t n rows after young anchors all some b h = record {
  blocks = refl;
  young = λ x. refl;
  edge = λ x y k. go ((x.thread == t) && nat_lt x.serial n) x.serial y (h x.serial y) k;
}
  where
    go : (c : Bool) (i : ℕ) (y : BlockId) → (Has (row_at after i) y → Has (row_at rows i) y ⊎ (y ≡ b)) → Has (cond c (drop 0 (row_at after i)) []) y → Has (cond c (drop 0 (row_at rows i)) []) y ⊎ (y ≡ b)
    go true i y h k = h k
    go false i y h k = absurd k

-- a store and then an enlivening
pub store_enliven : ((m : Mode) (s t : Shape) (b : BlockId) (old new : Shades) → Stored s t b → Shut m s old → Enlivens t.blocks b old new → Shut m t new)
    → (m n : Mode) (s t u : Shape) (b : BlockId) (old mid new : Shades) → Stored s t b → mid ≡ old → Shut m s old → Enlivens t.blocks b mid new → n ≡ m → u ≡ t → Shut n u new
store_enliven law m n s t u b old mid new st same shut en modes shapes =
    subst (λ (k : Mode). Shut k u new) (sym modes) (subst (λ (x : Shape). Shut m x new) (sym shapes) (law m s t b old new st shut (subst (λ (f : Shades). Enlivens t.blocks b f new) same en)))
