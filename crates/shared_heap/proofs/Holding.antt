-- How often threads hold blocks, after one number was set
use Rattle.std.proofs.Common.{◌≡◌, ℕ, ◌+◌, ◌==◌, ◌&&◌, Bool, true, false, cond, List, Option, Some, None, IsSome, is_some, zero, suc, refl, sym, ap, subst, ◌∙◌, arith}
use Rattle.std.proofs.lemmas.Bool.Decides.{nat_tests}
use Rattle.std.specs.Option.{option_map, option_map_or, unwrap_or}
use Rattle.std.specs.declared.cmp.Ordering.{Ordering}
use Rattle.std.specs.declared.cmp.Ordering.TheVariants.{Less, Equal, Greater}
use Rattle.std.specs.Ordering.{is_eq, nat_cmp}
use Rattle.std.specs.Cmp.{nat_cmp_total, tied_itself}
use Rattle.std.specs.FinMap.{get, empty, get-insert, get-remove, get-empty}
use Rattle.az_base.specs.declared.block_id.BlockId.{BlockId}
use Rattle.az_base.specs.Ids.{id_cmp, same_id, ids_total, exact_ids}
use Rattle.az_base.specs.declared.action.Action.{Action}
use Rattle.az_base.specs.declared.word.Word.{Word}
use Rattle.block_layouts.specs.declared.layout.Layout.{Layout}
use Rattle.zone_model.specs.declared.entry.Reply.TheVariants as reply
use Rattle.zone_model.specs.State.{with_edit}
use Rattle.block_table.specs.Holds.{Holds, times, with_times}
use Rattle.shared_heap.specs.Shared.{Shared, held, holding, holding_more, admitted, with_birth, IsFresh}
use Rattle.shared_heap.specs.Steps.{names}
use Rattle.shared_heap.proofs.Counts.{tied}
use Rattle.heap_tables.proofs.Edited.{edit_get}
use Rattle.az_base.proofs.Ids.{same_turned}

-- after one thread's number was set
pub times_with : (m : Holds) (t n u : ℕ) → times (with_times m t n) u ≡ cond (t == u) n (times m u)
times_with m t zero u = ap (λ o. unwrap_or o 0) (get-remove nat_cmp_total m t u ∙ ap (λ b. cond b None (get m u)) (tied u t)) ∙ at (t == u)
  where
    at : (b : Bool) → unwrap_or (cond b None (get m u)) 0 ≡ cond b 0 (times m u)
    at true = refl
    at false = refl
times_with m t (suc n) u = ap (λ o. unwrap_or o 0) (get-insert nat_cmp_total m t (suc n) u ∙ ap (λ b. cond b (Some (suc n)) (get m u)) (tied u t)) ∙ at (t == u)
  where
    at : (b : Bool) → unwrap_or (cond b (Some (suc n)) (get m u)) 0 ≡ cond b (suc n) (times m u)
    at true = refl
    at false = refl

both_hold : (a : Bool) (x y : ℕ) → cond a x y ≡ cond (a && true) x y
both_hold true x y = refl
both_hold false x y = refl

one_fails : (a : Bool) (x y : ℕ) → y ≡ cond (a && false) x y
one_fails true x y = refl
one_fails false x y = refl

pub held_holding : (h : Shared) (t : ℕ) (id : BlockId) (n : ℕ) → IsSome (get h.holds id) → (u : ℕ) (q : BlockId) → held (holding h t id n) u q ≡ cond ((t == u) && same_id id q) n (held h u q)
held_holding h t id n there u q =
    ap (λ o. option_map_or (λ (m : Holds). times m u) o 0) (edit_get h.holds id (λ m. with_times m t n) q)
    ∙ go (id_cmp q id) refl (get h.holds id) refl there
    ∙ ap (λ b. cond ((t == u) && b) n (held h u q)) (same_turned q id)
  where
    go : (r : Ordering) → id_cmp q id ≡ r → (o : Option Holds) → get h.holds id ≡ o → IsSome o
        → option_map_or (λ (m : Holds). times m u) (cond (is_eq r) (option_map (λ m. with_times m t n) (get h.holds q)) (get h.holds q)) 0 ≡ cond ((t == u) && is_eq r) n (held h u q)
    go Less e o f i = one_fails (t == u) n (held h u q)
    go Greater e o f i = one_fails (t == u) n (held h u q)
    go Equal e None f i = cc
    go Equal e (Some m) f i =
        let at : get h.holds q ≡ Some m = ap (get h.holds) (exact_ids q id e) ∙ f in
        rw at (times_with m t n u ∙ both_hold (t == u) n (times m u))

-- the thread holds the block once more
pub held_more : (h : Shared) (t : ℕ) (v : Option BlockId) (u : ℕ) (q : BlockId) → IsSome (get h.blocks q) → ((id : BlockId) → v ≡ Some id → is_some (get h.holds id) ≡ is_some (get h.blocks id))
    → held (holding_more h t v) u q ≡ held h u q + cond ((t == u) && names (reply.Block v) q) 1 0
held_more h t None u q there keys = nothing (t == u)
  where
    nothing : (b : Bool) → held h u q ≡ held h u q + cond (b && false) 1 0
    nothing true = omega arith
    nothing false = omega arith
held_more h t (Some id) u q there keys =
    ap (λ o. option_map_or (λ (m : Holds). times m u) o 0) (edit_get h.holds id (λ m. with_times m t (times m t + 1)) q)
    ∙ go (id_cmp q id) refl (get h.holds q) refl
    ∙ ap (λ b. held h u q + cond ((t == u) && b) 1 0) (same_turned q id)
  where
    raised : (m : Holds) (b : Bool) → (t == u) ≡ b → cond b (times m t + 1) (times m u) ≡ times m u + cond (b && true) 1 0
    raised m true e = let same : t ≡ u = grind (arith, nat_tests) in ap (λ k. times m k + 1) same
    raised m false e = omega arith

    still : (b : Bool) (n : ℕ) → n ≡ n + cond (b && false) 1 0
    still true n = omega arith
    still false n = omega arith

    go : (r : Ordering) → id_cmp q id ≡ r → (o : Option Holds) → get h.holds q ≡ o
        → option_map_or (λ (m : Holds). times m u) (cond (is_eq r) (option_map (λ m. with_times m t (times m t + 1)) (get h.holds q)) (get h.holds q)) 0 ≡ held h u q + cond ((t == u) && is_eq r) 1 0
    go Less e o f = still (t == u) (held h u q)
    go Greater e o f = still (t == u) (held h u q)
    go Equal e None f =
        let some : is_some (get h.holds q) ≡ true = ap (λ i. is_some (get h.holds i)) (exact_ids q id e) ∙ keys id refl ∙ ap (λ i. is_some (get h.blocks i)) (sym (exact_ids q id e)) ∙ there in
        let none : is_some (get h.holds q) ≡ false = ap is_some f in cc
    go Equal e (Some m) f = rw f (times_with m t (times m t + 1) u ∙ raised m (t == u) refl)

-- once more is the number before, and one
pub more_is : (h : Shared) (t : ℕ) (id : BlockId) → holding h t id (held h t id + 1) ≡ holding_more h t (Some id)
more_is h t id = ap (λ m. record h { holds = m }) (go (get h.holds id) refl)
  where
    go : (o : Option Holds) → get h.holds id ≡ o → with_edit h.holds id (λ m. with_times m t (held h t id + 1)) ≡ with_edit h.holds id (λ m. with_times m t (times m t + 1))
    go None e = rw e refl
    go (Some m) e = rw e refl

pub held_by_one : (h : Shared) (t : ℕ) (id : BlockId) (n : ℕ) → n ≡ held h t id + 1 → is_some (get h.holds id) ≡ is_some (get h.blocks id)
    → (u : ℕ) (q : BlockId) → IsSome (get h.blocks q) → held (holding h t id n) u q ≡ held h u q + cond ((t == u) && names (reply.Block (Some id)) q) 1 0
held_by_one h t id n is keys u q there =
    ap (λ k. held (holding h t id k) u q) is ∙ ap (λ (m : Shared). held m u q) (more_is h t id)
    ∙ held_more h t (Some id) u q there (λ other e. subst (λ i. is_some (get h.holds i) ≡ is_some (get h.blocks i)) (the_same e) keys)
  where
    the_same : {a b : BlockId} → Some a ≡ Some b → a ≡ b
    the_same e = cc

no_times : (u : ℕ) → times empty u ≡ 0
no_times u = ap (λ o. unwrap_or o 0) (get-empty nat_cmp u)

-- a block that comes in is held by nobody
pub held_admitted : (h : Shared) (id : BlockId) (layout : Layout) (words : List Word) (u : ℕ) (q : BlockId) → held (admitted h id layout words) u q ≡ cond (same_id id q) 0 (held h u q)
held_admitted h id layout words u q =
    ap (λ o. option_map_or (λ (m : Holds). times m u) o 0) (get-insert ids_total h.holds id empty q) ∙ at (same_id q id) ∙ ap (λ b. cond b 0 (held h u q)) (same_turned q id)
  where
    at : (b : Bool) → option_map_or (λ (m : Holds). times m u) (cond b (Some empty) (get h.holds q)) 0 ≡ cond b 0 (held h u q)
    at true = no_times u
    at false = refl

pub fresh_admitted : (h : Shared) (id : BlockId) (layout : Layout) (words : List Word) → IsFresh (admitted h id layout words) id
fresh_admitted h id layout words = get-insert ids_total h.holds id empty id ∙ ap (λ r. cond (is_eq r) (Some empty) (get h.holds id)) (tied_itself ids_total id)

-- and a block at its birth by its thread
pub held_born : (h : Shared) (t : ℕ) (id : BlockId) (layout : Layout) (actions : List Action) (u : ℕ) (q : BlockId) → held (with_birth h t id layout actions) u q ≡ cond (same_id id q) (cond (t == u) 1 0) (held h u q)
held_born h t id layout actions u q =
    ap (λ o. option_map_or (λ (m : Holds). times m u) o 0) (get-insert ids_total h.holds id (with_times empty t 1) q) ∙ at (same_id q id) ∙ ap (λ b. cond b (cond (t == u) 1 0) (held h u q)) (same_turned q id)
  where
    at : (b : Bool) → option_map_or (λ (m : Holds). times m u) (cond b (Some (with_times empty t 1)) (get h.holds q)) 0 ≡ cond b (cond (t == u) 1 0) (held h u q)
    at true = times_with empty t 1 u ∙ ap (cond (t == u) 1) (no_times u)
    at false = refl
