-- How changes of a heap are changes of the states for which it stands
use Rattle.std.proofs.Common.{◌≡◌, ℕ, ◌-◌, ◌<◌, ◌==◌, Bool, true, false, cond, List, [], ◌∷◌, Option, Some, None, get_or, min, length, replicate, slice_set, zero, suc, refl, sym, ap, ◌∙◌, arith}
use Rattle.std.proofs.lemmas.Bool.Decides.{nat_tests}
use Rattle.std.specs.Option.{option_map}
use Rattle.std.specs.declared.cmp.Ordering.{Ordering}
use Rattle.std.specs.declared.cmp.Ordering.TheVariants.{Less, Equal, Greater}
use Rattle.std.specs.Ordering.{is_eq}
use Rattle.std.specs.FinMap.{FinMap, get, get-empty, get-insert}
use Rattle.az_base.specs.declared.action.Action.{Action}
use Rattle.az_base.specs.declared.block_id.BlockId.{BlockId}
use Rattle.az_base.specs.declared.options.Options.{Options}
use Rattle.az_base.specs.declared.word.Word.{Word}
use Rattle.az_base.specs.Ids.{id_cmp, same_id, id_of, ids_total, exact_ids}
use Rattle.block_layouts.specs.declared.layout.Layout.{Layout}
use Rattle.block_layouts.specs.Layouts.{first_words}
use Rattle.zone_model.proofs.MapLaws.{get-map_values}
use Rattle.zone_model.specs.State.{State, Block, moment, with_root, with_word, with_register, opening}
use Rattle.zone_model.specs.Escape.{with_escaped}
use Rattle.zone_model.specs.Effect.{new_block, with_new}
use Rattle.zone_model.specs.Quanta.{is_born_escaped}
use Rattle.zone_model.specs.Step.{seen_now}
use Rattle.block_table.specs.Holds.{Holds}
use Rattle.block_table.specs.Stored.{HeapBlock, newly}
use Rattle.shared_heap.specs.Shared.{Shared, new_heap, rooted, written, with_birth, admitted, holding_more}
use Rattle.heap_tables.specs.Standing.{kept_of, escaped_view}
use Rattle.shared_heap.specs.Stands.{Stands}
use Rattle.shared_heap.specs.Steps.{IsUnescaped}
use Rattle.shared_heap.proofs.Collecting.{seen_same}
use Rattle.az_base.proofs.Ids.{same_turned}
use Rattle.heap_tables.proofs.Edited.{edit_get}

nulls : (n g : ℕ) → get_or (replicate n (let o : Option BlockId = None in o)) g None ≡ None
nulls zero g = refl
nulls (suc n) zero = refl
nulls (suc n) (suc g) = nulls n g

pub opening_stands : (o : Options) → Stands (new_heap o) (opening o)
opening_stands o = record {
  options = refl;
  blocks = λ q. get-empty id_cmp q ∙ sym (ap (escaped_view 0) (get-empty id_cmp q));
  roots = nulls 256;
  counts = refl;
  assocs = refl;
  weak = refl;
  cycle = tt;
}

-- who holds what, and what a cycle has seen more, are no part of it
pub holds_stand : (h : Shared) (z : State) (m : FinMap id_cmp Holds) → Stands h z → Stands (record h { holds = m }) z
holds_stand h z m s = record { options = s.options; blocks = s.blocks; roots = s.roots; counts = s.counts; assocs = s.assocs; weak = s.weak; cycle = s.cycle }

pub seen_stands : (h : Shared) (z : State) → Stands h z → Stands h (seen_now z)
seen_stands h z s = record { options = s.options; blocks = s.blocks; roots = s.roots; counts = s.counts; assocs = s.assocs; weak = s.weak; cycle = seen_same h.gc.cycle z.cycle (moment z) s.cycle }

pub register_stands : (h : Shared) (z : State) (t r : ℕ) (v : Option BlockId) → Stands h z → Stands h (with_register z t r v)
register_stands h z t r v s = record { options = s.options; blocks = s.blocks; roots = s.roots; counts = s.counts; assocs = s.assocs; weak = s.weak; cycle = s.cycle }

pub more_stands : (h : Shared) (z : State) (t : ℕ) (v : Option BlockId) → Stands h z → Stands (holding_more h t v) z
more_stands h z t None s = s
more_stands h z t (Some id) s = holds_stand h z _ s

unequal : (i j : ℕ) → (i ≡ j → ⊥) → false ≡ (i == j)
unequal i j h = grind (arith, nat_tests)

one_less : (i j : ℕ) → (i == j) ≡ (suc i == suc j)
one_less i j = grind (arith, nat_tests)

-- a list after a write
pub get_set : {X : Type 0} (xs : List X) (i j : ℕ) (v none : X) → i < length xs → get_or (slice_set xs i v) j none ≡ cond (i == j) v (get_or xs j none)
get_set [] i j v none h = absurd (omega arith)
get_set (x ∷ xs) zero zero v none h = refl
get_set (x ∷ xs) zero (suc j) v none h = ap (λ t. cond t v (get_or xs j none)) (unequal 0 (suc j) (λ e. omega arith))
get_set (x ∷ xs) (suc i) zero v none h = ap (λ t. cond t v x) (unequal (suc i) 0 (λ e. omega arith))
get_set (x ∷ xs) (suc i) (suc j) v none h = get_set xs i j v none (omega arith) ∙ ap (λ t. cond t v (get_or xs j none)) (one_less i j)

pub root_stands : (h : Shared) (z : State) (g : ℕ) (v : Option BlockId) → length h.roots ≡ 256 → g < 256 → Stands h z → Stands (rooted h g v) (with_root z g v)
root_stands h z g v all l s = record {
  options = s.options;
  blocks = s.blocks;
  roots = λ k. get_set h.roots g k v None (omega arith) ∙ ap (cond (g == k) v) (s.roots k);
  counts = s.counts;
  assocs = s.assocs;
  weak = s.weak;
  cycle = s.cycle;
}

-- an edit of the words is one of what the heap keeps
pub word_stands : (h : Shared) (z : State) (id : BlockId) (at : ℕ) (w : Word) → Stands h z → Stands (written h (Some id) at w) (with_word z (Some id) at w)
word_stands h z id at w s = record {
  options = s.options;
  blocks = λ q. edit_get h.blocks id change q ∙ ap (λ o. cond (same_id q id) (option_map change o) o) (s.blocks q) ∙ edited (same_id q id) (get z.blocks q) ∙ sym (ap (escaped_view z.reclaims) (edit_get z.blocks id alter q));
  roots = s.roots;
  counts = s.counts;
  assocs = s.assocs;
  weak = s.weak;
  cycle = s.cycle;
}
  where
    change : HeapBlock → HeapBlock
    change k = record k { words = slice_set k.words at w }

    alter : Block → Block
    alter b = record b { words = slice_set b.words at w }

    of_block : (b : Block) (since : Option ℕ) → b.since ≡ since → option_map change (kept_of z.reclaims b) ≡ kept_of z.reclaims (alter b)
    of_block b None e = rw e refl
    of_block b (Some n) e = rw e refl

    edited : (t : Bool) (o : Option Block) → cond t (option_map change (escaped_view z.reclaims o)) (escaped_view z.reclaims o) ≡ escaped_view z.reclaims (cond t (option_map alter o) o)
    edited false o = refl
    edited true None = refl
    edited true (Some b) = of_block b b.since refl

none_since : (n : ℕ) → min (n - n) 3 ≡ 0
none_since n = omega arith

-- a birth
pub birth_stands : (h : Shared) (z : State) (t to : ℕ) (layout : Layout) (actions : List Action) → is_born_escaped z t layout actions ≡ true → Stands h z
    → Stands (with_birth h t (id_of t (z.serials t)) layout actions) (with_new z t to layout actions)
birth_stands h z t to layout actions born s = record {
  options = s.options;
  blocks = λ q.
      get-insert ids_total h.blocks id (newly layout (first_words layout) actions) q
      ∙ ap (λ o. cond (same_id q id) (Some (newly layout (first_words layout) actions)) o) (s.blocks q)
      ∙ joined (same_id q id) (get z.blocks q)
      ∙ sym (ap (escaped_view z.reclaims) (get-insert ids_total z.blocks id (new_block z t layout actions) q));
  roots = s.roots;
  counts = s.counts;
  assocs = s.assocs;
  weak = s.weak;
  cycle = s.cycle;
}
  where
    id : BlockId
    id = id_of t (z.serials t)

    kept : Some (newly layout (first_words layout) actions) ≡ kept_of z.reclaims (new_block z t layout actions)
    kept = rw (born, none_since z.reclaims) refl

    joined : (b : Bool) (o : Option Block) → cond b (Some (newly layout (first_words layout) actions)) (escaped_view z.reclaims o) ≡ escaped_view z.reclaims (cond b (Some (new_block z t layout actions)) o)
    joined true o = kept
    joined false o = refl

-- an escape of one block
pub admit_stands : (h : Shared) (z : State) (id : BlockId) (layout : Layout) (words : List Word) → IsUnescaped z id layout words → Stands h z
    → Stands (admitted h id layout words) (with_escaped z (same_id id))
admit_stands h z id layout words is s = record {
  options = s.options;
  blocks = λ q.
      get-insert ids_total h.blocks id (newly layout words []) q
      ∙ ap (λ o. cond (same_id q id) (Some (newly layout words [])) o) (s.blocks q)
      ∙ joined q (id_cmp q id) refl
      ∙ sym (ap (escaped_view z.reclaims) (get-map_values id_cmp _ exact_ids z.blocks q));
  roots = s.roots;
  counts = s.counts;
  assocs = s.assocs;
  weak = s.weak;
  cycle = s.cycle;
}
  where
    escape : BlockId → Block → Block
    escape q b = cond (same_id id q) (record b { since = Some z.reclaims }) b

    mine : Block
    mine = record { layout = layout; words = words; actions = []; finalised = false; since = None }

    other : (q : BlockId) → same_id q id ≡ false → (o : Option Block) → escaped_view z.reclaims o ≡ escaped_view z.reclaims (option_map (escape q) o)
    other q e None = refl
    other q e (Some b) = sym (ap (λ t. escaped_view z.reclaims (Some (cond t (record b { since = Some z.reclaims }) b))) (same_turned id q ∙ e))

    joined : (q : BlockId) (r : Ordering) → id_cmp q id ≡ r → cond (is_eq r) (Some (newly layout words [])) (escaped_view z.reclaims (get z.blocks q)) ≡ escaped_view z.reclaims (option_map (escape q) (get z.blocks q))
    joined q Less e = other q (ap is_eq e) (get z.blocks q)
    joined q Greater e = other q (ap is_eq e) (get z.blocks q)
    joined q Equal e =
        ap (λ n. Some (record (newly layout words []) { age = n })) (sym (none_since z.reclaims))
        ∙ sym (ap (λ o. escaped_view z.reclaims (option_map (escape q) o)) (ap (get z.blocks) (exact_ids q id e) ∙ is)
        ∙ ap (λ t. escaped_view z.reclaims (Some (cond t (record mine { since = Some z.reclaims }) mine))) (same_turned id q ∙ ap is_eq e))
