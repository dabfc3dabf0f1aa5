-- How many finalisers a cycle has to run
use Rattle.std.proofs.Common.{◌≡◌, ◌+◌, ◌&&◌, ◌||◌, ℕ, Bool, true, false, not, cond, List, [], ◌∷◌, Option, Some, None, IsSome, IsTrue, length, filter, count_by, refl, sym, ap, subst, ◌∙◌, arith}
use Rattle.std.specs.Option.{option_map_or, option_and_then}
use Rattle.std.specs.FinMap.{get}
use Rattle.az_base.specs.declared.block_id.BlockId.{BlockId}
use Rattle.az_base.specs.Ids.{among, same_id}
use Rattle.az_base.proofs.Ids.{same_self}
use Rattle.zone_model.specs.Collection.{awaits}
use Rattle.zone_model.specs.Phases.{left_in, left_among}
use Rattle.zone_model.specs.State.{State, Block, Cycle, is_nil}
use Rattle.heap_cycle.specs.Collector.{Collecting}
use Rattle.shared_heap.specs.Shared.{Shared}
use Rattle.heap_cycle.specs.Waiting.{awaits_in, waits}
use Rattle.heap_tables.specs.Standing.{kept_of, escaped_view}
use Rattle.shared_heap.specs.Stands.{Stands}
use Rattle.heap_cycle.proofs.Counting.{count_more}
use Rattle.shared_heap.proofs.Collecting.{state_cycle}

-- of a block of the heap the state says the same
awaits_here : (h : Shared) (z : State) → Stands h z → (b : BlockId) → IsSome (get h.blocks b) → awaits z b ≡ awaits_in h.blocks b
awaits_here h z s b there = by (get z.blocks b) (subst IsSome (s.blocks b) there) ∙ sym (ap (λ o. option_map_or waits o false) (s.blocks b))
  where
    by : (o : Option Block) → IsSome (escaped_view z.reclaims o) → option_map_or (λ (b : Block). not (is_nil b.actions) && not b.finalised) o false ≡ option_map_or waits (escaped_view z.reclaims o) false
    by None i = refl
    by (Some x) i = since x.since refl i
      where
        since : (v : Option ℕ) → x.since ≡ v → IsSome (kept_of z.reclaims x) → (not (is_nil x.actions) && not x.finalised) ≡ option_map_or waits (kept_of z.reclaims x) false
        since None e i = let none = rw e at i in cc (none)
        since (Some n) e i = rw e refl

-- as many are left as wait among these
counted_same : (f g : BlockId → Bool) (xs : List BlockId) → ((b : BlockId) → IsTrue (among xs b) → f b ≡ g b) → length (filter f xs) ≡ count_by g xs
counted_same f g [] same = refl
counted_same f g (x ∷ xs) same =
    by (f x) refl (counted_same f g xs (λ b i. same b (or_true (same_id b x) (among xs b) i))) ∙ sym (count_more g x xs ∙ ap (λ t. cond {A = ℕ} t 1 0 + count_by g xs) (sym (same x (ap (λ t. t || among xs x) (same_self x)))))
  where
    or_true : (a b : Bool) → b ≡ true → (a || b) ≡ true
    or_true true b h = refl
    or_true false b h = h

    by : (t : Bool) → f x ≡ t → length (filter f xs) ≡ count_by g xs → length (cond (f x) (x ∷ filter f xs) (filter f xs)) ≡ cond {A = ℕ} (f x) 1 0 + count_by g xs
    by true e rest = rw e (omega (arith, rest))
    by false e rest = rw e (omega (arith, rest))

pub left_same : (h : Shared) (z : State) (g : Collecting) (r : List BlockId) → Stands h z → h.gc.cycle ≡ Some g → g.condemned ≡ Some r → ((b : BlockId) → IsTrue (among r b) → IsSome (get h.blocks b)) → left_in z ≡ count_by (awaits_in h.blocks) r
left_same h z g r s is condemned there =
    let c = state_cycle g h.gc.cycle z.cycle s.cycle is in
    ap (λ o. left_among z (condemned_set o)) c.1 ∙ ap (left_among z) (c.2.condemned ∙ condemned) ∙ counted_same (awaits z) (awaits_in h.blocks) r (λ b i. awaits_here h z s b (there b i))
  where
    condemned_set : Option Cycle → Option (List BlockId)
    condemned_set o = option_and_then (λ (c : Cycle). c.condemned) o
