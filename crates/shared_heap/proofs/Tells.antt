-- What a thread holds by the heap's numbers stands in its registers or in the words of its unescaped blocks, and the other way round
use Rattle.std.proofs.Common.{◌≡◌, ◌+◌, ◌<◌, ◌==◌, ◌&&◌, ◌⊎◌, nat_le, ℕ, zero, suc, Bool, true, false, cond, T, List, [], ◌∷◌, Option, Some, None, IsSome, IsTrue, is_some, slice_get, refl, sym, ap, ◌∙◌, inl, inr, arith, eq-eqb}
use Rattle.std.proofs.lemmas.Bool.Decides.{nat_tests}
use Rattle.std.specs.declared.cmp.Ordering.{Ordering}
use Rattle.std.specs.declared.cmp.Ordering.TheVariants.{Less, Equal, Greater}
use Rattle.std.specs.Ordering.{is_eq}
use Rattle.std.specs.Cmp.{IsTotalOrder, tied_itself}
use Rattle.std.specs.FinMap.{FinMap, IsAntisymmetric, entries, entries_sorted, find, get, get-entries, is_sorted}
use Rattle.std.specs.FinMap.Entries.{below_all}
use Rattle.az_base.specs.declared.block_id.BlockId.{BlockId}
use Rattle.az_base.specs.declared.word.Word.{Word}
use Rattle.az_base.specs.declared.word.Word.TheVariants as word
use Rattle.az_base.specs.Ids.{ids_total, exact_ids}
use Rattle.az_base.proofs.Ids.{same_self}
use Rattle.zone_model.specs.InRange.{InRange}
use Rattle.zone_model.specs.Maps.{total, list_total}
use Rattle.zone_model.specs.Part.{part_of}
use Rattle.zone_model.specs.Reach.{Edge, IsHeld, InRegister}
use Rattle.zone_model.specs.Sound.{Sound}
use Rattle.zone_model.specs.State.{State, Block, is_escaped, is_own, is_unescaped}
use Rattle.zone_model.proofs.Blocks.{not_both, own_inside}
use Rattle.zone_model.proofs.MapLaws.{first, second, find_below}
use Rattle.zone_model.proofs.PartNeeds.{in_part, part_has}
use Rattle.zone_model.specs.Holds.{holds_of, is_block, register_holds, words_to}
use Rattle.shared_heap.specs.Holding.{HoldsAgree, refers_to}
use Rattle.shared_heap.specs.Shared.{Shared, held}
use Rattle.shared_heap.specs.Stands.{Stands}
use Rattle.shared_heap.proofs.Admitting.{same_ids, sum_without}
use Rattle.shared_heap.proofs.Stepping.{escaped_here}
use Rattle.shared_heap.proofs.Unheld.{word_more}

-- a sum above 0 has an entry that counts
module _ {K X : Type 0} {R : K → K → Ordering} (o : IsTotalOrder R) (same : IsAntisymmetric R) (f : K → X → ℕ) where
  lifted : (e : K × X) (es : List (K × X)) (k : K) (x : X) → T (below_all R e.0 es) → find R k es ≡ Some x → find R k (e ∷ es) ≡ Some x
  lifted e es k x below is =
      elim (R k e.0) as (λ r. R k e.0 ≡ r → cond (is_eq r) (Some e.1) (find R k es) ≡ Some x) [
        | Less ↦ λ t. is
        | Equal ↦ λ t. let none : None ≡ Some x = sym (find_below o e.0 es below) ∙ ap (λ q. find R q es) (sym (same k e.0 t)) ∙ is in cc (none)
        | Greater ↦ λ t. is
      ] refl

  counted_in : (es : List (K × X)) → T (is_sorted R es) → 0 < list_total f es → (k : K) × (x : X) × (find R k es ≡ Some x) × (0 < f k x)
  counted_in [] s more = absurd (omega (arith, more))
  counted_in (e ∷ es) s more = by (f e.0 e.1) refl (λ m. counted_in es (second (below_all R e.0 es) (is_sorted R es) s) m) more
    where
      by : (n : ℕ) → f e.0 e.1 ≡ n → (0 < list_total f es → (k : K) × (x : X) × (find R k es ≡ Some x) × (0 < f k x)) → 0 < f e.0 e.1 + list_total f es → (k : K) × (x : X) × (find R k (e ∷ es) ≡ Some x) × (0 < f k x)
      by zero is rest m = let r = rest (omega (arith, is, m)) in (r.0, r.1, lifted e es r.0 r.1 (first (below_all R e.0 es) (is_sorted R es) s) r.2, r.3)
      by (suc n) is rest m = (e.0, e.1, ap (λ r. cond (is_eq r) (Some e.1) (find R e.0 es)) (tied_itself o e.0), omega (arith, is))

  pub some_counts : (m : FinMap R X) → 0 < total f m → (k : K) × (x : X) × (get m k ≡ Some x) × (0 < f k x)
  unfolding total
  some_counts m more = let r = counted_in (entries m) (entries_sorted m) more in (r.0, r.1, get-entries m r.0 ∙ r.2, r.3)

-- registers
this_block : (q : BlockId) (v : Option BlockId) → is_block q v ≡ true → v ≡ Some q
this_block q None h = cc (h)
this_block q (Some b) h = ap Some (same_ids b q h)

some_register : (n : ℕ) (f : ℕ → Option BlockId) (q : BlockId) → 0 < register_holds f q n → (r : ℕ) × (f r ≡ Some q)
some_register zero f q more = absurd (omega (arith, more))
some_register (suc n) f q more = by (is_block q (f n)) refl (some_register n f q) more
  where
    by : (t : Bool) → is_block q (f n) ≡ t → (0 < register_holds f q n → (r : ℕ) × (f r ≡ Some q)) → 0 < register_holds f q n + cond {A = ℕ} (is_block q (f n)) 1 0 → (r : ℕ) × (f r ≡ Some q)
    by true e rest m = (n, this_block q (f n) e)
    by false e rest m = let none : cond {A = ℕ} (is_block q (f n)) 1 0 ≡ 0 = ap (λ t. cond {A = ℕ} t 1 0) e in rest (omega (arith, none, m))

in_registers : (n : ℕ) (f : ℕ → Option BlockId) (q : BlockId) (r : ℕ) → r < n → f r ≡ Some q → 0 < register_holds f q n
in_registers zero f q r l is = absurd (omega (arith, l))
in_registers (suc n) f q r l is = by (r == n) refl (λ k. in_registers n f q r k is)
  where
    by : (t : Bool) → (r == n) ≡ t → (r < n → 0 < register_holds f q n) → 0 < register_holds f q (suc n)
    by true e rest =
        let at : r ≡ n = grind (arith, nat_tests) in
        let one : cond {A = ℕ} (is_block q (f n)) 1 0 ≡ 1 = ap (λ v. cond {A = ℕ} (is_block q v) 1 0) (ap f (sym at) ∙ is) ∙ ap (λ t. cond {A = ℕ} t 1 0) (same_self q) in
        omega (arith, one)
    by false e rest = let before : r < n = grind (arith, nat_tests) in let more = rest before in omega (arith, more)

-- words
this_word : (q : BlockId) (w : Word) → refers_to q w ≡ true → w ≡ word.Block q
this_word q word.Null h = cc (h)
this_word q (word.Block b) h = ap word.Block (same_ids b q h)
this_word q (word.Number n) h = cc (h)

some_word : (q : BlockId) (ws : List Word) → 0 < words_to q ws → (i : ℕ) × (slice_get ws i ≡ Some (word.Block q))
some_word q [] more = absurd (omega (arith, more))
some_word q (w ∷ ws) more = by (refers_to q w) refl (some_word q ws)
  where
    by : (t : Bool) → refers_to q w ≡ t → (0 < words_to q ws → (i : ℕ) × (slice_get ws i ≡ Some (word.Block q))) → (i : ℕ) × (slice_get (w ∷ ws) i ≡ Some (word.Block q))
    by true e rest = (0, ap Some (this_word q w e))
    by false e rest =
        let none : cond {A = ℕ} (refers_to q w) 1 0 ≡ 0 = ap (λ t. cond {A = ℕ} t 1 0) e in
        let sum = word_more q w ws in
        let r = rest (omega (arith, none, sum, more)) in
        (suc r.0, r.1)

in_words : (q : BlockId) (ws : List Word) (i : ℕ) → slice_get ws i ≡ Some (word.Block q) → 0 < words_to q ws
in_words q [] i is = cc (is)
in_words q (w ∷ ws) zero is =
    let one : cond {A = ℕ} (refers_to q w) 1 0 ≡ 1 = ap (λ v. cond {A = ℕ} (refers_to q v) 1 0) (some_same w (word.Block q) is) ∙ ap (λ t. cond {A = ℕ} t 1 0) (same_self q) in
    let sum = word_more q w ws in
    omega (arith, one, sum)
  where
    some_same : (x y : Word) → Some x ≡ Some y → x ≡ y
    some_same x y e = cc
in_words q (w ∷ ws) (suc i) is = let rest = in_words q ws i is in let sum = word_more q w ws in omega (arith, rest, sum)

module _ (h : Shared) (z : State) (stands : Stands h z) (agree : HoldsAgree h z) (sound : Sound z) where
  -- what a thread holds is in a register, or an unescaped block refers to it
  pub holds_tell : (u : ℕ) (b : BlockId) → IsSome (get h.blocks b) → 0 < held h u b → IsHeld z b ⊎ ((a : BlockId) × IsTrue (is_unescaped z a) × Edge z a b)
  holds_tell u b there more =
      let same = agree u b (escaped_here h z b stands there) in
      by (register_holds (z.registers u) b 16) refl (omega (arith, same, more))
    where
      by : (n : ℕ) → register_holds (z.registers u) b 16 ≡ n → 0 < holds_of (part_of z u) b → IsHeld z b ⊎ ((a : BlockId) × IsTrue (is_unescaped z a) × Edge z a b)
      by (suc n) e m = let r = some_register 16 (z.registers u) b (omega (arith, e)) in inl (inl (u, r.0, r.1))
      by zero e m =
          let k = some_counts ids_total exact_ids (λ id (x : Block). words_to b x.words) (part_of z u).blocks (omega (arith, e, m)) in
          let own : IsTrue (is_own z u k.0) = sym (in_part z u k.0) ∙ ap is_some k.2 in
          let w = some_word b k.1.words k.3 in
          inr (k.0, own_inside z u k.0 own, inl (k.1, w.0, sym (part_has z u k.0 own) ∙ k.2, w.1))

  -- an escaped block in a register is held by the table
  pub register_told : InRange z → (b : BlockId) → InRegister z b → IsTrue (is_escaped z b) → (u : ℕ) × (0 < held h u b)
  register_told range b r out =
      let more = in_registers 16 (z.registers r.0) b r.1 (within (nat_le r.1 15) refl) r.2 in
      let same = agree r.0 b out in
      (r.0, omega (arith, more, same))
    where
      within : (t : Bool) → nat_le r.1 15 ≡ t → r.1 < 16
      within true e = grind (arith, nat_tests)
      within false e =
          let past : 15 < r.1 = grind (arith, nat_tests) in
          let none : None ≡ Some b = sym (range.registers r.0 r.1 past) ∙ r.2 in
          cc (none)

  -- and so is one to which an unescaped block refers
  pub below_told : (b : BlockId) → (a : BlockId) × IsTrue (is_unescaped z a) × Edge z a b → IsTrue (is_escaped z b) → (u : ℕ) × (0 < held h u b)
  below_told b (a, inside, inr value) out = absurd (not_both (get z.blocks a) (sound.names.objects a value.0 b value.1) inside)
  below_told b (a, inside, inl e) out =
      let own : IsTrue (is_own z a.thread a) = ap (λ t. t && is_unescaped z a) (eq-eqb a.thread a.thread refl) ∙ inside in
      let here : get (part_of z a.thread).blocks a ≡ Some e.0 = part_has z a.thread a own ∙ e.2 in
      let more = in_words b e.0.words e.1 e.3 in
      let sum = sum_without (part_of z a.thread).blocks a (λ id (x : Block). words_to b x.words) e.0 here in
      let same = agree a.thread b out in
      (a.thread, omega (arith, more, sum, same))
