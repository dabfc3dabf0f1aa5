-- Sums over blocks that a list has
use Rattle.std.proofs.Common.{◌≡◌, ℕ, ◌+◌, ◌≤◌, Bool, true, false, cond, ◌||◌, not, ◌&&◌, List, [], ◌∷◌, Option, Some, None, is_some, refl, sym, ap, ◌∙◌, arith}
use Rattle.std.specs.Option.{option_map_or}
use Rattle.std.specs.FinMap.{FinMap, get, retain_keys, get-retain_keys, same_map, contains_key}
use Rattle.std.specs.declared.cmp.Ordering.{Ordering}
use Rattle.std.specs.declared.cmp.Ordering.TheVariants.{Less, Equal, Greater}
use Rattle.std.specs.Ordering.{is_eq}
use Rattle.az_base.specs.declared.block_id.BlockId.{BlockId}
use Rattle.az_base.specs.Ids.{id_cmp, among, same_id, ids_total, exact_ids}
use Rattle.az_base.proofs.Ids.{same_is, same_self}
use Rattle.block_layouts.specs.Layouts.{len_of, quanta}
use Rattle.zone_model.specs.Maps.{total}
use Rattle.zone_model.specs.State.{State, Block}
use Rattle.zone_model.specs.Quanta.{quanta_needed, quanta_where}
use Rattle.zone_model.specs.Part.{part_of, is_in}
use Rattle.zone_model.proofs.Ones.{one, get-one, total-one}
use Rattle.zone_model.proofs.PartNeeds.{in_part, part_has}
use Rattle.zone_model.proofs.Sums.{total_split, total_nothing}
use Rattle.zone_model.proofs.Totals.{total-retain_keys}
use Rattle.local_set.specs.Tables.{Distinct}
use Rattle.escape_plan.specs.Planning.{quanta_at, sum_of}

or_true : (b : Bool) → (b || true) ≡ true
or_true true = refl
or_true false = refl

-- a block that the map has
pub there_is : (m : FinMap id_cmp Block) (q : BlockId) → contains_key m q ≡ true → (b : Block) × (get m q ≡ Some b)
there_is m q h = go (get m q) refl h
  where
    go : (o : Option Block) → get m q ≡ o → is_some o ≡ true → (b : Block) × (get m q ≡ Some b)
    go None e h = cc
    go (Some b) e h = (b, e)

-- the sum over one block
total_single : (f : BlockId → Block → ℕ) (m : FinMap id_cmp Block) (id : BlockId) (x : Block) → get m id ≡ Some x → total (λ k v. cond (same_id k id) (f k v) 0) m ≡ f id x
total_single f m id x is =
    let g : BlockId → Block → ℕ = λ k v. cond (same_id k id) (f k v) 0 in
    sym (total-retain_keys ids_total exact_ids g m (λ k. same_id k id) (λ k v there no. ap (λ b. cond b (f k v) 0) no))
    ∙ ap (total g) (same_map ids_total exact_ids (retain_keys m (λ k. same_id k id)) (one ids_total exact_ids id x) (λ q.
    get-retain_keys m (λ k. same_id k id) q (λ k e. ap (λ y. same_id y id) (sym (exact_ids q k e))) ∙ at q (id_cmp q id) refl ∙ sym (get-one ids_total exact_ids id x q)))
    ∙ total-one ids_total exact_ids g id x ∙ ap (λ b. cond b (f id x) 0) (same_self id)
  where
    at : (q : BlockId) (r : Ordering) → id_cmp q id ≡ r → cond (is_eq r) (get m q) None ≡ cond (is_eq r) (Some x) None
    at q Less e = refl
    at q Equal e = ap (get m) (exact_ids q id e) ∙ is
    at q Greater e = refl

-- what the blocks of a list, each once, give to the quanta
pub total_among : (m k : FinMap id_cmp Block) (ids : List BlockId) → Distinct ids → ((q : BlockId) → among ids q ≡ true → (b : Block) × (get m q ≡ Some b) × (get k q ≡ Some b))
    → total (λ id b. cond (among ids id) (quanta (len_of b.layout)) 0) m ≡ sum_of k ids
total_among m k [] d there = total_nothing ids_total exact_ids m
total_among m k (id ∷ ids) d there =
    let here = there id (ap (λ b. b || among ids id) (same_self id)) in
    let rest : total (λ q b. cond (among ids q) (quanta (len_of b.layout)) 0) m ≡ sum_of k ids = total_among m k ids d.1 (λ q h. there q (ap (λ b. same_id q id || b) h ∙ or_true (same_id q id))) in
    let single : total (λ q b. cond (same_id q id) (quanta (len_of b.layout)) 0) m ≡ quanta_at k id = total_single (λ q b. quanta (len_of b.layout)) m id here.0 here.1 ∙ sym (ap (λ (o : Option Block). option_map_or (λ b. quanta (len_of b.layout)) o 0) here.2) in
    let both : total (λ q b. cond (among (id ∷ ids) q) (quanta (len_of b.layout)) 0) m ≡ total (λ q b. cond (same_id q id) (quanta (len_of b.layout)) 0) m + total (λ q b. cond (among ids q) (quanta (len_of b.layout)) 0) m =
    total_split ids_total exact_ids _ _ _ m (λ q b is. two q (quanta (len_of b.layout)) (same_id q id) refl) in
    omega (arith, rest, single, both)
  where
    two : (q : BlockId) (n : ℕ) (s : Bool) → same_id q id ≡ s → cond (s || among ids q) n 0 ≡ cond s n 0 + cond (among ids q) n 0
    two q n true e = rw (ap (among ids) (same_is q id e) ∙ d.0) (omega arith)
    two q n false e = omega arith

-- the quanta of listed blocks of a thread, in the state
pub needed_sum : (z : State) (t : ℕ) (ids : List BlockId) → Distinct ids → ((q : BlockId) → among ids q ≡ true → is_in (part_of z t) q ≡ true) → quanta_needed z (among ids) ≡ sum_of (part_of z t).blocks ids
needed_sum z t ids d own = total_among z.blocks (part_of z t).blocks ids d (λ q h.
    let b = there_is (part_of z t).blocks q (own q h) in
    (b.0, sym (part_has z t q (sym (in_part z t q) ∙ own q h)) ∙ b.1, b.1))

-- fewer blocks need no more quanta
pub needed_less : (z : State) (some all : BlockId → Bool) → ((q : BlockId) → some q ≡ true → all q ≡ true) → quanta_needed z some ≤ quanta_needed z all
needed_less z some all within =
    let both = total_split ids_total exact_ids _ (λ k (b : Block). cond (some k) (quanta (len_of b.layout)) 0) (λ k (b : Block). cond (all k && not (some k)) (quanta (len_of b.layout)) 0) z.blocks (λ k b is. two (all k) (some k) (quanta (len_of b.layout)) (within k)) in
    omega (arith, both)
  where
    two : (s t : Bool) (n : ℕ) → (t ≡ true → s ≡ true) → cond s n 0 ≡ cond t n 0 + cond (s && not t) n 0
    two true true n h = omega arith
    two true false n h = omega arith
    two false true n h = let no : false ≡ true = h refl in cc (no)
    two false false n h = omega arith
