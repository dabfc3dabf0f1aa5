-- The table where blocks come and go
use Rattle.std.proofs.Common.{◌≡◌, ℕ, zero, suc, ◌||◌, ◌+◌, ◌-◌, ◌≤◌, Bool, true, false, cond, not, List, [], ◌∷◌, ◌++◌, Option, Some, None, length, drop, take, slice_get, refl, sym, ap, ◌∙◌, subst, arith}
use Rattle.std.specs.Option.{option_map, option_map_or}
use Rattle.std.specs.Map.{lookup, keys_of}
use Rattle.std.specs.FinMap.{FinMap, get, insert, remove, get-insert, get-remove, get-retain_keys, same_map}
use Rattle.std.specs.declared.cmp.Ordering.TheVariants.{Equal}
use Rattle.az_base.specs.declared.block_id.BlockId.{BlockId}
use Rattle.az_base.specs.Ids.{id_cmp, id_eq, same_id, among, ids_total, exact_ids}
use Rattle.az_base.proofs.Ids.{eq_ids, same_self, same_is, same_turned, among_more}
use Rattle.block_layouts.specs.Layouts.{quanta, len_of}
use Rattle.zone_model.proofs.MapLaws.{total-empty, at_value}
use Rattle.zone_model.proofs.Totals.{total_added}
use Rattle.block_table.specs.Stored.{HeapBlock, Row}
use Rattle.block_table.specs.Table.{Table, IsKept, IsRemoved, each_of, table_of, used_by, without}
use Rattle.block_table.proofs.Tables.{each_get, each_insert}

size : BlockId → HeapBlock → ℕ
size q k = quanta (len_of k.layout)

kept : Row → HeapBlock
kept r = r.kept

-- an empty table
pub empty_kept : (es : List (BlockId × Row)) (n : ℕ) (room : List ℕ) → es ≡ [] → room ≡ [] → IsKept es 0 0 room n
empty_kept es n room e r = subst (λ es. IsKept es 0 0 room n) (sym e) (subst (λ l. IsKept [] 0 0 l n) (sym r) (record {
  used = total-empty id_cmp (λ id (k : HeapBlock). quanta (len_of k.layout));
  began = omega arith;
  room = omega arith;
  few = omega arith;
  sum = omega arith;
}))

-- a block comes
module _ (es fs : List (BlockId × Row)) (id : BlockId) (r : Row) (more : (q : BlockId) → lookup (id_eq q) fs ≡ cond (id_eq id q) (Some r) (lookup (id_eq q) es)) where
  come : {X : Type 0} (f : Row → X) → each_of f fs ≡ insert (each_of f es) id (f r)
  come f = each_insert f id_eq eq_ids es fs id r more

  pub come_table : (t : Table) (b : ℕ) (room : List ℕ) → table_of es b room ≡ t → keys_of fs ≡ keys_of es ++ id ∷ []
      → table_of fs b (drop 1 room) ≡ record { blocks = insert t.blocks id r.kept; holds = insert t.holds id r.holds; shades = insert t.shades id r.shade; order = t.order ++ id ∷ []; began = t.began; room = drop 1 t.room }
  come_table t b room is keys =
      (λ i. record {
        blocks = come (λ (r : Row). r.kept) i;
        holds = come (λ (r : Row). r.holds) i;
        shades = come (λ (r : Row). r.shade) i;
        order = keys i;
        began = b;
        room = drop 1 room;
      })
      ∙ ap (λ (t : Table). let y : Table = record { blocks = insert t.blocks id r.kept; holds = insert t.holds id r.holds; shades = insert t.shades id r.shade; order = t.order ++ id ∷ []; began = t.began; room = drop 1 t.room } in y) is

  pub come_kept : (b u v n m : ℕ) (room rest : List ℕ) → None ≡ get (each_of (λ (r : Row). r.kept) es) id → length fs ≡ length es + 1 → n ≤ m + 1 → length rest + 1 ≡ length room → v ≡ u + quanta (len_of r.kept.layout) → quanta (len_of r.kept.layout) ≤ 2048
      → IsKept es b u room n → IsKept fs b v rest m
  come_kept b u v n m room rest none long spare left is few k = record {
    used = ap used_by (come (λ (r : Row). r.kept)) ∙ total_added ids_total exact_ids (λ id (k : HeapBlock). quanta (len_of k.layout)) (each_of (λ (r : Row). r.kept) es) id r.kept (sym none) ∙ (let h = k.used in let s : used_by (each_of (λ (r : Row). r.kept) es) + quanta (len_of r.kept.layout) ≡ v = omega (arith, h, is) in s);
    began = (let h = k.began in omega (arith, h, long));
    room = (let h = k.room in omega (arith, h, spare, left));
    few = (let h = k.few in omega (arith, h, long, left));
    sum = (let h = k.sum in omega (arith, h, left, is, few));
  }

-- a block goes
module _ (es fs : List (BlockId × Row)) (id : BlockId) (less : (q : BlockId) → lookup (id_eq q) fs ≡ cond (id_eq id q) None (lookup (id_eq q) es)) where
  gone : {X : Type 0} (f : Row → X) → each_of f fs ≡ remove (each_of f es) id
  gone f = same_map ids_total exact_ids _ _ (λ q.
      each_get f id_eq eq_ids fs q ∙ ap (option_map f) (less q)
      ∙ sym (get-remove ids_total (each_of f es) id q ∙ ap (cond (same_id q id) None) (each_get f id_eq eq_ids es q) ∙ by (same_id q id) (id_eq id q) (sym (eq_ids id q ∙ same_turned id q)) (lookup (id_eq q) es)))
    where
      by : (s t : Bool) → s ≡ t → (o : Option Row) → cond s None (option_map f o) ≡ option_map f (cond t None o)
      by true true e o = refl
      by false false e o = refl
      by true false e o = cc
      by false true e o = cc

  pub gone_table : (t : Table) (b : ℕ) (room : List ℕ) → table_of es b room ≡ t → IsRemoved t id (table_of fs b room)
  gone_table t b room is = subst (λ (t : Table). IsRemoved t id (table_of fs b room)) is (record {
    blocks = gone (λ (r : Row). r.kept);
    holds = gone (λ (r : Row). r.holds);
    shades = gone (λ (r : Row). r.shade);
    began = refl;
    room = refl;
  })

  -- the quanta that it took
  pub gone_used : (u n : ℕ) → n ≡ option_map_or (λ (r : Row). quanta (len_of r.kept.layout)) (lookup (id_eq id) es) 0 → used_by (each_of (λ (r : Row). r.kept) es) ≡ u → used_by (each_of (λ (r : Row). r.kept) fs) + n ≡ u
  gone_used u n is used =
      let old = each_of (λ (r : Row). r.kept) es in
      let went : used_by (each_of (λ (r : Row). r.kept) fs) ≡ used_by (remove old id) = ap used_by (gone (λ (r : Row). r.kept)) in
      let sum : used_by (remove old id) + n ≡ used_by old = removed old n (is ∙ valued (lookup (id_eq id) es) ∙ sym (ap (at_value (λ (k : HeapBlock). quanta (len_of k.layout))) (each_get (λ (r : Row). r.kept) id_eq eq_ids es id))) in
      omega (arith, went, sum, used)
    where
      valued : (o : Option Row) → option_map_or (λ (r : Row). quanta (len_of r.kept.layout)) o 0 ≡ at_value (λ (k : HeapBlock). quanta (len_of k.layout)) (option_map (λ (r : Row). r.kept) o)
      valued None = refl
      valued (Some r) = refl

      removed : (m : FinMap id_cmp HeapBlock) (n : ℕ) → n ≡ at_value (λ (k : HeapBlock). quanta (len_of k.layout)) (get m id) → used_by (remove m id) + n ≡ used_by m
      removed m n is = go (get m id) refl
        where
          absent : get (remove m id) id ≡ None
          absent = get-remove ids_total m id id ∙ ap (λ t. cond t None (get m id)) (same_self id)

          go : (o : Option HeapBlock) → get m id ≡ o → used_by (remove m id) + n ≡ used_by m
          go None e =
              let same : remove m id ≡ m = same_map ids_total exact_ids _ _ (λ q. get-remove ids_total m id q ∙ by q (same_id q id) refl) in
              let zero : n ≡ 0 = is ∙ ap (at_value (λ (k : HeapBlock). quanta (len_of k.layout))) e in
              let u : used_by (remove m id) ≡ used_by m = ap used_by same in
              omega (arith, zero, u)
            where
              by : (q : BlockId) (t : Bool) → same_id q id ≡ t → cond t None (get m q) ≡ get m q
              by q false s = refl
              by q true s = sym (ap (get m) (same_is q id s) ∙ e)
          go (Some k) e =
              let back : insert (remove m id) id k ≡ m = same_map ids_total exact_ids _ _ (λ q. get-insert ids_total (remove m id) id k q ∙ by q (same_id q id) refl) in
              let added : used_by (insert (remove m id) id k) ≡ used_by (remove m id) + quanta (len_of k.layout) = total_added ids_total exact_ids (λ id (k : HeapBlock). quanta (len_of k.layout)) (remove m id) id k absent in
              let same : used_by (insert (remove m id) id k) ≡ used_by m = ap used_by back in
              let size : n ≡ quanta (len_of k.layout) = is ∙ ap (at_value (λ (k : HeapBlock). quanta (len_of k.layout))) e in
              omega (arith, added, same, size)
            where
              by : (q : BlockId) (t : Bool) → same_id q id ≡ t → cond t (Some k) (get (remove m id) q) ≡ get m q
              by q false s = get-remove ids_total m id q ∙ ap (λ t. cond t None (get m q)) s
              by q true s = sym (ap (get m) (same_is q id s) ∙ e)

-- where there is a next length, there is one less behind it
pub fewer : (xs : List ℕ) (n : ℕ) → slice_get xs 0 ≡ Some n → length (drop 1 xs) + 1 ≡ length xs
fewer [] n e = cc
fewer (x ∷ xs) n e = omega arith

-- the fields of a table from which a block went
pub gone_kept : (es fs : List (BlockId × Row)) (id : BlockId) (u n s m : ℕ) (room : List ℕ) → ((q : BlockId) → lookup (id_eq q) fs ≡ cond (id_eq id q) None (lookup (id_eq q) es))
    → n ≡ option_map_or (λ (r : Row). quanta (len_of r.kept.layout)) (lookup (id_eq id) es) 0 → length fs ≤ length es → s ≤ m → (b : ℕ) → b ≡ 0 → IsKept es b u room s → IsKept fs b (u - n) room m
gone_kept es fs id u n s m room less is long spare b none k =
    let e = gone_used es fs id less u n is k.used in
    record {
      used = omega (arith, e);
      began = omega (arith, none);
      room = (let h = k.room in omega (arith, h, spare));
      few = (let h = k.few in omega (arith, h, long));
      sum = (let h = k.sum in omega (arith, h));
    }

-- without blocks
pub without_none : {X : Type 0} (m : FinMap id_cmp X) → without m [] ≡ m
without_none m = same_map ids_total exact_ids _ _ (λ q. get-retain_keys m (λ id. not (among [] id)) q (λ x e. refl))

alike : (ids : List BlockId) (q x : BlockId) → id_cmp q x ≡ Equal → not (among ids x) ≡ not (among ids q)
alike ids q x e = ap (λ b. not (among ids b)) (sym (exact_ids q x e))

get-without : {X : Type 0} (m : FinMap id_cmp X) (ids : List BlockId) (q : BlockId) → get (without m ids) q ≡ cond (not (among ids q)) (get m q) None
get-without m ids q = get-retain_keys m (λ id. not (among ids id)) q (alike ids q)

pub without_more : {X : Type 0} (m : FinMap id_cmp X) (ids : List BlockId) (id : BlockId) → remove (without m ids) id ≡ without m (ids ++ id ∷ [])
without_more {X} m ids id = same_map ids_total exact_ids _ _ (λ q.
    get-remove ids_total (without m ids) id q ∙ ap (cond (same_id q id) None) (get-without m ids q)
    ∙ by (among ids q) (same_id q id) (get m q)
    ∙ ap (λ t. cond (not t) (get m q) None) (sym (among_more ids id q))
    ∙ sym (get-without m (ids ++ id ∷ []) q))
  where
    by : (a s : Bool) (o : Option X) → cond s None (cond (not a) o None) ≡ cond (not (a || s)) o None
    by true true o = refl
    by true false o = refl
    by false true o = refl
    by false false o = refl

pub take_more : (ids : List BlockId) (n : ℕ) (id : BlockId) → slice_get ids n ≡ Some id → take n ids ++ id ∷ [] ≡ take (n + 1) ids
take_more ids n id e = let one : suc n ≡ n + 1 = omega arith in go ids n e ∙ ap (λ k. take k ids) one
  where
    go : (ids : List BlockId) (n : ℕ) → slice_get ids n ≡ Some id → take n ids ++ id ∷ [] ≡ take (suc n) ids
    go [] n e = cc
    go (x ∷ ids) zero e = ap (λ y. y ∷ []) (ap (λ (o : Option BlockId). elim o [ None ↦ id | Some z ↦ z ]) (sym e))
    go (x ∷ ids) (suc n) e = ap (λ l. x ∷ l) (go ids n e)

pub next_without : {X : Type 0} (m k new : FinMap id_cmp X) (ids : List BlockId) (n : ℕ) (id : BlockId) → slice_get ids n ≡ Some id → k ≡ without m (take n ids) → new ≡ remove k id → new ≡ without m (take (n + 1) ids)
next_without m k new ids n id at is went = went ∙ ap (λ x. remove x id) is ∙ without_more m (take n ids) id ∙ ap (without m) (take_more ids n id at)
