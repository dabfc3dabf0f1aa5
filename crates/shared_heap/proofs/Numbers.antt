-- How many blocks a table has
use Rattle.std.proofs.Common.{◌≡◌, ◌↔◌, ◌+◌, Bool, true, false, cond, List, [], ◌∷◌, Option, Some, None, IsSome, length, refl, sym, ap, subst, ◌∙◌, arith, inl, inr}
use Rattle.std.specs.Cmp.{tied_itself}
use Rattle.std.specs.declared.cmp.Ordering.{Ordering}
use Rattle.std.specs.declared.cmp.Ordering.TheVariants.{Less, Equal, Greater}
use Rattle.std.specs.FinMap.{FinMap, empty, get, insert, remove, get-empty, get-insert, get-remove, same_map}
use Rattle.std.specs.Ordering.{is_eq}
use Rattle.az_base.specs.declared.block_id.BlockId.{BlockId}
use Rattle.az_base.specs.Ids.{id_cmp, ids_total, exact_ids}
use Rattle.block_table.specs.Stored.{HeapBlock}
use Rattle.block_table.specs.Table.{Table, IsTable}
use Rattle.quantum_space.specs.Shapes.{Has, Once}
use Rattle.zone_model.proofs.MapLaws.{total-empty}
use Rattle.shared_heap.specs.Shared.{number_of}
use Rattle.shared_heap.proofs.Sums.{number_more}

none_of : (o : Option HeapBlock) → (IsSome o → ⊥) → o ≡ None
none_of None not = refl
none_of (Some k) not = absurd (not refl)

not_none : (o : Option HeapBlock) → o ≡ None → IsSome o → ⊥
not_none None e h = cc
not_none (Some k) e h = cc

module _ (m : FinMap id_cmp HeapBlock) (x : BlockId) where
  gone : get (remove m x) x ≡ None
  gone = get-remove ids_total m x x ∙ ap (λ r. cond (is_eq r) None (get m x)) (tied_itself ids_total x)

  -- the others stay where one is taken out
  stays : (b : BlockId) → ¬ (x ≡ b) → get (remove m x) b ≡ get m b
  stays b other = get-remove ids_total m x b ∙ by (id_cmp b x) refl
    where
      by : (r : Ordering) → id_cmp b x ≡ r → cond (is_eq r) None (get m b) ≡ get m b
      by Less e = refl
      by Equal e = absurd (other (sym (exact_ids b x e)))
      by Greater e = refl

  -- put in again, all is as it was
  again : (k : HeapBlock) → get m x ≡ Some k → insert (remove m x) x k ≡ m
  again k is = same_map ids_total exact_ids _ _ (λ b. get-insert ids_total (remove m x) x k b ∙ ap (cond (is_eq (id_cmp b x)) (Some k)) (get-remove ids_total m x b) ∙ by b (id_cmp b x) refl)
    where
      by : (b : BlockId) (r : Ordering) → id_cmp b x ≡ r → cond (is_eq r) (Some k) (cond (is_eq r) None (get m b)) ≡ get m b
      by b Less e = refl
      by b Equal e = sym is ∙ ap (get m) (sym (exact_ids b x e))
      by b Greater e = refl

  was : (b : BlockId) (t : Bool) → IsSome (cond t None (get m b)) → IsSome (get m b)
  was b true h = cc
  was b false h = h

  -- what is found after it was taken out is another one
  later : (xs : List BlockId) (b : BlockId) → IsSome (get (remove m x) b) → Has (x ∷ xs) b → Has xs b
  later xs b h (inl e) = absurd (not_none (get (remove m x) x) gone (subst (λ y. IsSome (get (remove m x) y)) (sym e) h))
  later xs b h (inr t) = t

-- with one that is there, there is one more than without it
one_more : (m : FinMap id_cmp HeapBlock) (x : BlockId) (xs : List BlockId) → IsSome (get m x) → number_of (remove m x) ≡ length xs → number_of m ≡ length (x ∷ xs)
one_more m x xs there others = go (get m x) refl
  where
    go : (o : Option HeapBlock) → get m x ≡ o → number_of m ≡ length (x ∷ xs)
    go None e = absurd (not_none (get m x) e there)
    go (Some k) e =
        let more : number_of (insert (remove m x) x k) ≡ number_of (remove m x) + 1 = number_more (remove m x) x k (gone m x) in
        let same : number_of (insert (remove m x) x k) ≡ number_of m = ap number_of (again m x k e) in
        omega (arith, others)

-- a list with each block of the map once is as long as there are blocks
listed : (xs : List BlockId) (m : FinMap id_cmp HeapBlock) → Once xs → ((b : BlockId) → Has xs b ↔ IsSome (get m b)) → number_of m ≡ length xs
listed [] m once is = ap number_of (same_map ids_total exact_ids m empty (λ b. none_of (get m b) (is b).1 ∙ sym (get-empty id_cmp b))) ∙ total-empty id_cmp (λ id (k : HeapBlock). 1)
listed (x ∷ xs) m once is = one_more m x xs ((is x).0 (inl refl)) (listed xs (remove m x) once.1 (λ b. (
  (λ h. subst IsSome (sym (stays m x b (λ same. once.0 (subst (λ y. Has xs y) (sym same) h)))) ((is b).0 (inr h))),
  (λ h. later m x xs b h ((is b).1 (was m x b (is_eq (id_cmp b x)) (subst IsSome (get-remove ids_total m x b) h)))),
)))

pub number_is : (t : Table) → IsTable t → number_of t.blocks ≡ length t.order
number_is t is = listed t.order t.blocks is.once is.order
