-- A table of counts by block as a finite map
use Rattle.std.proofs.Common.{◌≡◌, ℕ, ◌<◌, Bool, true, false, cond, List, [], Some, None, IfSome, is_some, slice_get, length, suc, zero, refl, sym, ap, subst, ◌∙◌, arith}
use Rattle.std.proofs.lemmas.Map.Made.{is_some-lookup}
use Rattle.std.proofs.lemmas.Option.{slice_get-map}
use Rattle.std.specs.List.{IsDistinct, list_any}
use Rattle.std.specs.Map.{lookup, keys_of}
use Rattle.std.specs.Option.{unwrap_or, option_map}
use Rattle.std.specs.FinMap.{FinMap, from_entries, get, contains_key, insert, remove, get-insert, get-remove, get-empty, len}
use Rattle.az_base.specs.declared.block_id.BlockId.{BlockId}
use Rattle.az_base.specs.Ids.{id_cmp, id_eq, same_id, ids_total, exact_ids}
use Rattle.az_base.proofs.Tables.{shown-get, shown-len, shown-insert, shown-remove}
use Rattle.az_base.proofs.Ids.{eq_ids}
use Rattle.retain_table.specs.Counted.{count_of, with_count, IsPositive, IsOrder}

module _ (es : List (BlockId × ℕ)) where
  pub counted-get : (q : BlockId) → get (from_entries {R = id_cmp} es) q ≡ lookup (id_eq q) es
  counted-get q = shown-get ids_total id_eq eq_ids es q

  pub counted-order : IsDistinct id_eq (keys_of es) → IsOrder (from_entries es) (keys_of es)
  counted-order once = record {
    once = subst (λ e. IsDistinct e (keys_of es)) (λ i a b. eq_ids a b i) once;
    counted = λ q. subst (λ t. list_any t (keys_of es) ≡ contains_key (from_entries {R = id_cmp} es) q) (λ i a. eq_ids q a i) (sym (is_some-lookup (id_eq q) es) ∙ ap is_some (sym (counted-get q)));
  }

pub counted-len : (es : List (BlockId × ℕ)) → IsDistinct id_eq (keys_of es) → length es ≡ len (from_entries {R = id_cmp} es)
counted-len es once = sym (shown-len ids_total id_eq eq_ids es once)

module _ (es fs : List (BlockId × ℕ)) (k : BlockId) where
  pub counted-insert : (v : ℕ) → ((q : BlockId) → lookup (id_eq q) fs ≡ cond (id_eq k q) (Some v) (lookup (id_eq q) es)) → from_entries {R = id_cmp} fs ≡ insert (from_entries es) k v
  counted-insert v is = shown-insert ids_total id_eq eq_ids exact_ids es fs k v is

  pub counted-remove : ((q : BlockId) → lookup (id_eq q) fs ≡ cond (id_eq k q) None (lookup (id_eq q) es)) → from_entries {R = id_cmp} fs ≡ remove (from_entries es) k
  counted-remove is = shown-remove ids_total id_eq eq_ids exact_ids es fs k is

pub positive-empty : (es : List (BlockId × ℕ)) → es ≡ [] → IsPositive (from_entries es)
positive-empty es e q = subst (λ xs. IfSome (get (from_entries {R = id_cmp} xs) q) (λ n. 0 < n)) (sym e) (subst (λ o. IfSome o (λ n. 0 < n)) (sym (get-empty id_cmp q)) tt)

pub positive-insert : (m : FinMap id_cmp ℕ) (k : BlockId) (v : ℕ) → 0 < v → IsPositive m → IsPositive (insert m k v)
positive-insert m k v h was q = subst (λ o. IfSome o (λ n. 0 < n)) (sym (get-insert ids_total m k v q)) (by (same_id q k))
  where
    by : (b : Bool) → IfSome (cond b (Some v) (get m q)) (λ n. 0 < n)
    by true = h
    by false = was q

pub positive-remove : (m : FinMap id_cmp ℕ) (k : BlockId) → IsPositive m → IsPositive (remove m k)
positive-remove m k was q = subst (λ o. IfSome o (λ n. 0 < n)) (sym (get-remove ids_total m k q)) (by (same_id q k))
  where
    by : (b : Bool) → IfSome (cond b None (get m q)) (λ n. 0 < n)
    by true = tt
    by false = was q

-- a count that isn't 0 stays
pub with_positive : (m : FinMap id_cmp ℕ) (k : BlockId) (v : ℕ) → 0 < v → insert m k v ≡ with_count m k v
with_positive m k zero h = absurd (omega arith)
with_positive m k (suc v) h = refl

pub none_there : (es : List (BlockId × ℕ)) (n : ℕ) → None ≡ slice_get es n → None ≡ slice_get (keys_of es) n
none_there es n h = ap (option_map (λ (e : BlockId × ℕ). e.0)) h ∙ sym (slice_get-map (λ (e : BlockId × ℕ). e.0) es n)

-- a positive count stands among the entries
pub never_absent : (es : List (BlockId × ℕ)) (k : BlockId) (m : FinMap id_cmp ℕ) → from_entries es ≡ m → 0 < count_of m k → lookup (id_eq k) es ≡ None → ⊥
never_absent es k m is h none =
    let zero_there : count_of m k ≡ 0 = ap (λ n. count_of n k) (sym is) ∙ ap (λ o. unwrap_or o 0) (counted-get es k ∙ none) in
    omega arith
