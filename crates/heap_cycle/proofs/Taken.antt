-- What is left of the tables where some blocks go
use Rattle.std.proofs.Common.{◌≡◌, ◌+◌, ◌<◌, ◌≤◌, ◌||◌, ℕ, Bool, true, false, not, cond, List, [], ◌∷◌, ◌++◌, Option, None, count_by, get_or, length, take, refl, sym, ap, ◌∙◌, arith}
use Rattle.std.proofs.lemmas.Grind.{common_steps}
use Rattle.std.proofs.lemmas.List.{take_more}
use Rattle.std.specs.Option.{option_map}
use Rattle.std.specs.FinMap.{FinMap, get, retain_keys, get-retain_keys, same_map}
use Rattle.az_base.specs.declared.block_id.BlockId.{BlockId}
use Rattle.az_base.specs.Ids.{among, exact_ids, id_cmp, same_id}
use Rattle.az_base.specs.Places.{exact_pair, pair_cmp, pairs_total}
use Rattle.az_base.proofs.Ids.{among_more, same_turned}
use Rattle.assoc_refs.specs.Table.{without_object}
use Rattle.block_table.specs.Stored.{HeapBlock, older}
use Rattle.block_table.specs.Table.{without}
use Rattle.quantum_space.specs.Shapes.{Has, Once}
use Rattle.quantum_space.proofs.Lists.{count_within}

-- one id more
pub one_more : (ids : List BlockId) (n : ℕ) (x : BlockId) → n < length ids → x ≡ get_or ids n x → take (n + 1) ids ≡ take n ids ++ x ∷ []
one_more ids n x l is = take_more ids n x l ∙ ap (λ y. take n ids ++ y ∷ []) (sym is)

-- the associations but those of these blocks
abbrev pub left_by : FinMap pair_cmp BlockId → List BlockId → FinMap pair_cmp BlockId
left_by m ids = retain_keys m (λ p. not (among ids p.0))

pub left_at : (m : FinMap pair_cmp BlockId) (ids : List BlockId) (p : BlockId × ℕ) → get (left_by m ids) p ≡ cond (not (among ids p.0)) (get m p) None
left_at m ids p = get-retain_keys m (λ p. not (among ids p.0)) p (λ k e. ap (λ (k : BlockId × ℕ). not (among ids k.0)) (sym (exact_pair p k e)))

pub all_left : (m : FinMap pair_cmp BlockId) → m ≡ left_by m []
all_left m = same_map pairs_total exact_pair _ _ (λ p. sym (left_at m [] p))

-- those of one block more go
pub one_erased : (old mid new : FinMap pair_cmp BlockId) (ids : List BlockId) (n : ℕ) (x : BlockId) → n < length ids → x ≡ get_or ids n x → mid ≡ left_by old (take n ids) → new ≡ without_object mid x → new ≡ left_by old (take (n + 1) ids)
one_erased old mid new ids n x l is so gone =
    gone ∙ same_map pairs_total exact_pair _ _ (λ p.
    get-retain_keys mid (λ p. not (same_id x p.0)) p (λ k e. ap (λ (k : BlockId × ℕ). not (same_id x k.0)) (sym (exact_pair p k e)))
    ∙ ap (λ m. cond (not (same_id x p.0)) (get m p) None) so
    ∙ ap (λ o. cond (not (same_id x p.0)) o None) (left_at old (take n ids) p)
    ∙ ap (λ s. cond (not s) (cond (not (among (take n ids) p.0)) (get old p) None) None) (same_turned x p.0)
    ∙ by (same_id p.0 x) (among (take n ids) p.0) (get old p)
    ∙ sym (left_at old (take (n + 1) ids) p ∙ ap (λ xs. cond (not (among xs p.0)) (get old p) None) (one_more ids n x l is) ∙ ap (λ b. cond (not b) (get old p) None) (among_more (take n ids) x p.0)))
  where
    by : (s a : Bool) (o : Option BlockId) → cond (not s) (cond (not a) o None) None ≡ cond (not (a || s)) o None
    by true true o = refl
    by false true o = refl
    by true false o = refl
    by false false o = refl

-- the blocks that stay are older
pub older_left : (old mid : FinMap id_cmp HeapBlock) (ids : List BlockId) (b : BlockId) → mid ≡ without old ids → option_map older (get mid b) ≡ cond (among ids b) None (option_map older (get old b))
older_left old mid ids b is =
    ap (λ m. option_map older (get m b)) is ∙ ap (option_map older) (get-retain_keys old (λ x. not (among ids x)) b (λ k e. ap (λ (k : BlockId). not (among ids k)) (sym (exact_ids b k e)))) ∙ by (among ids b) (get old b)
  where
    by : (t : Bool) (o : Option HeapBlock) → option_map older (cond (not t) o None) ≡ cond t None (option_map older o)
    by true o = refl
    by false o = refl

-- a list of blocks without repeats is no longer than one that has them all
pub no_longer : (xs ys : List BlockId) → Once xs → ((b : BlockId) → Has xs b → Has ys b) → length xs ≤ length ys
no_longer xs ys once within = let few = count_within (λ b. true) xs ys once (λ b h e. within b h) in let all = counted xs in omega (arith, few, all)
  where
    counted : (xs : List BlockId) → count_by (λ b. true) xs ≡ length xs
    counted [] = refl
    counted (x ∷ xs) = let r = counted xs in grind (arith, common_steps, r)
