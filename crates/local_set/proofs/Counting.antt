-- Counts of references that rise and fall
use Rattle.az_base.proofs.Ids.{same_self, same_turned}
use Rattle.std.proofs.Common.{◌≡◌, ℕ, ◌+◌, ◌≤◌, Bool, true, false, cond, Option, Some, None, MatchOption, ◌<◌, zero, suc, refl, sym, ap, ◌∙◌, arith}
use Rattle.std.specs.Option.{unwrap_or}
use Rattle.std.specs.declared.cmp.Ordering.{Ordering}
use Rattle.std.specs.declared.cmp.Ordering.TheVariants.{Less, Equal, Greater}
use Rattle.std.specs.Ordering.{is_eq}
use Rattle.std.specs.FinMap.{FinMap, get, get-insert, get-remove, get-empty, empty}
use Rattle.az_base.specs.declared.block_id.BlockId.{BlockId}
use Rattle.az_base.specs.Ids.{id_cmp, same_id, ids_total, exact_ids}
use Rattle.retain_table.specs.Counted.{count_of, with_count}
use Rattle.zone_model.specs.State.{Block}
use Rattle.zone_model.specs.Holds.{one_if, word_holds}
use Rattle.local_set.specs.Counting.{count_in, IsCounted}
use Rattle.local_set.specs.declared.references.References.{References}

-- the counts after one was set
pub count_set : (m : FinMap id_cmp ℕ) (k : BlockId) (n : ℕ) (q : BlockId) → count_of (with_count m k n) q ≡ cond (same_id q k) n (count_of m q)
count_set m k zero q = ap (λ o. unwrap_or o 0) (get-remove ids_total m k q) ∙ turn (same_id q k)
  where
    turn : (b : Bool) → unwrap_or (cond b None (get m q)) 0 ≡ cond b 0 (count_of m q)
    turn true = refl
    turn false = refl
count_set m k (suc n) q = ap (λ o. unwrap_or o 0) (get-insert ids_total m k (suc n) q) ∙ turn (same_id q k)
  where
    turn : (b : Bool) → unwrap_or (cond b (Some (suc n)) (get m q)) 0 ≡ cond b (suc n) (count_of m q)
    turn true = refl
    turn false = refl

pub count_risen : (m : FinMap id_cmp ℕ) (k : BlockId) (n : ℕ) (q : BlockId) → n ≡ count_of m k + 1 → count_of (with_count m k n) q ≡ count_of m q + one_if q (Some k)
count_risen m k n q h = count_set m k n q ∙ at (id_cmp q k) refl ∙ sym (ap (λ t. count_of m q + cond t 1 0) (same_turned k q))
  where
    at : (r : Ordering) → id_cmp q k ≡ r → cond (is_eq r) n (count_of m q) ≡ count_of m q + cond (is_eq r) 1 0
    at Less e = omega arith
    at Equal e = let one : count_of m q ≡ count_of m k = ap (count_of m) (exact_ids q k e) in omega (arith, h)
    at Greater e = omega arith

pub count_fallen : (m : FinMap id_cmp ℕ) (k : BlockId) (n : ℕ) (q : BlockId) → n + 1 ≡ count_of m k → count_of (with_count m k n) q + one_if q (Some k) ≡ count_of m q
count_fallen m k n q h = ap (λ x. x + one_if q (Some k)) (count_set m k n q) ∙ ap (λ t. cond (same_id q k) n (count_of m q) + cond t 1 0) (same_turned k q) ∙ at (id_cmp q k) refl
  where
    at : (r : Ordering) → id_cmp q k ≡ r → cond (is_eq r) n (count_of m q) + cond (is_eq r) 1 0 ≡ count_of m q
    at Less e = omega arith
    at Equal e = let one : count_of m q ≡ count_of m k = ap (count_of m) (exact_ids q k e) in omega (arith, h)
    at Greater e = omega arith

-- no count passes the bound
pub count_bounded : (m : FinMap id_cmp ℕ) (k : BlockId) (n most : ℕ) → n ≤ most → ((q : BlockId) → count_of m q ≤ most) → (q : BlockId) → count_of (with_count m k n) q ≤ most
count_bounded m k n most h all q = rw (count_set m k n q) (by (same_id q k))
  where
    by : (b : Bool) → cond b n (count_of m q) ≤ most
    by true = h
    by false = all q

pub none_counted : (q : BlockId) → count_of (empty {R = id_cmp}) q ≡ 0
none_counted q = ap (λ o. unwrap_or o 0) (get-empty id_cmp q)

-- a block to which something refers is counted
pub is_counted : (r : References) (held : Option BlockId) → ((q : BlockId) → one_if q held ≤ count_in r q) → IsCounted r held
is_counted r None h = tt
is_counted r (Some b) h =
    let one : one_if b (Some b) ≡ 1 = ap (λ t. cond t 1 0) (same_self b) in
    let least : one_if b (Some b) ≤ count_in r b = h b in
    omega arith

pub counted_from : (r : References) (m : FinMap id_cmp Block) (held : Option BlockId) → ((q : BlockId) → count_in r q ≡ word_holds m q) → MatchOption held (Unit {0}) (λ b. 0 < word_holds m b) → IsCounted r held
counted_from r m None same h = tt
counted_from r m (Some b) same h = let e : count_in r b ≡ word_holds m b = same b in omega (arith, e, h)
