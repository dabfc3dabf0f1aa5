-- What a sound state is to the heap's calls, and what of it lasts while blocks escape
use Rattle.std.proofs.Common.{◌≡◌, ℕ, inl, inr, Option, Some, None, is_some, refl, ap, arith}
use Rattle.std.specs.FinMap.{get}
use Rattle.az_base.specs.Ids.{id_of}
use Rattle.zone_model.specs.State.{State, Block}
use Rattle.zone_model.specs.Sound.{Sound}
use Rattle.zone_model.proofs.Blocks.{not_both}
use Rattle.shared_heap.specs.Stands.{EscapedClosed}
use Rattle.shared_heap.specs.Holding.{HoldsItsOwn}

-- the next id of a thread is no block's
pub next_unused : (z : State) (t : ℕ) → Sound z → get z.blocks (id_of t (z.serials t)) ≡ None
next_unused z t s = go (get z.blocks (id_of t (z.serials t))) refl
  where
    go : (o : Option Block) → get z.blocks (id_of t (z.serials t)) ≡ o → o ≡ None
    go None e = refl
    go (Some b) e = let below = s.numbers.serials (id_of t (z.serials t)) (ap is_some e) in absurd (omega (arith, below))

-- what has escaped leads to what has escaped alone
pub closed : (z : State) → Sound z → EscapedClosed z
closed z s a b out (inl word) = elim (s.names.words a b word) [ inl escaped ↦ escaped | inr own ↦ absurd (not_both _ out own.0) ]
closed z s a b out (inr value) = s.names.values a value.0 b value.1

-- what a thread holds in a sound state is its own or has escaped
pub holds_its_own : (z : State) → Sound z → HoldsItsOwn z
holds_its_own z s = record {
  registers = s.names.registers;
  words = λ a b inside word. elim (s.names.words a b word) [ inl escaped ↦ inl escaped | inr own ↦ inr own.1 ];
}
