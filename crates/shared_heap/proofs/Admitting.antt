-- What an escape leaves of the agreement between the table of holds and the state
use Rattle.std.proofs.Common.{◌≡◌, ◌+◌, ◌==◌, ℕ, Bool, true, false, cond, not, List, [], Option, Some, None, IsTrue, refl, sym, ap, ◌∙◌, arith}
use Rattle.std.specs.Option.{option_map}
use Rattle.std.specs.declared.cmp.Ordering.{Ordering}
use Rattle.std.specs.declared.cmp.Ordering.TheVariants.{Less, Equal, Greater}
use Rattle.std.specs.Ordering.{is_eq}
use Rattle.std.specs.Cmp.{tied_itself}
use Rattle.std.specs.FinMap.{FinMap, get, insert, get-insert, retain_keys, same_map}
use Rattle.az_base.specs.declared.block_id.BlockId.{BlockId}
use Rattle.az_base.specs.declared.word.Word.{Word}
use Rattle.az_base.specs.Ids.{id_cmp, same_id, ids_total, exact_ids}
use Rattle.block_layouts.specs.declared.layout.Layout.{Layout}
use Rattle.zone_model.specs.Escape.{with_escaped}
use Rattle.zone_model.specs.Maps.{total}
use Rattle.zone_model.specs.Part.{Part, part_of}
use Rattle.zone_model.specs.State.{State, Block, is_escaped}
use Rattle.zone_model.proofs.Blocks.{is_out, left_get, got_escaped, escape_at}
use Rattle.zone_model.proofs.PartChanges.{shown_in, part_get, escaped_part}
use Rattle.zone_model.proofs.Totals.{total_added}
use Rattle.shared_heap.specs.Shared.{Shared, held}
use Rattle.shared_heap.specs.Steps.{IsUnescaped}
use Rattle.zone_model.specs.Holds.{words_to, holds_of}
use Rattle.shared_heap.specs.Holding.{HoldsAgree, HoldsAdmitted, HoldsAsBefore}
use Rattle.az_base.proofs.Ids.{same_turned}

-- ids that the test calls the same are the same
pub same_ids : (a b : BlockId) → same_id a b ≡ true → a ≡ b
same_ids a b h = go (id_cmp a b) refl h
  where
    go : (r : Ordering) → id_cmp a b ≡ r → is_eq r ≡ true → a ≡ b
    go Less e k = cc
    go Equal e k = exact_ids a b e
    go Greater e k = cc

-- a sum without one key
module _ (m : FinMap id_cmp Block) (id : BlockId) (f : BlockId → Block → ℕ) where
  abbrev rest : FinMap id_cmp Block
  rest = retain_keys m (λ k. not (same_id id k))

  rest_get : (q : BlockId) → get rest q ≡ cond (same_id id q) None (get m q)
  rest_get q = left_get m (same_id id) q

  itself : same_id id id ≡ true
  itself = ap is_eq (tied_itself ids_total id)

  pub sum_without : (b : Block) → get m id ≡ Some b → total f m ≡ total f rest + f id b
  sum_without b is = ap (total f) (same_map ids_total exact_ids _ _ (λ q. go q (same_id q id) refl)) ∙ total_added ids_total exact_ids f rest id b (rest_get id ∙ ap (λ t. cond t None (get m id)) itself)
    where
      go : (q : BlockId) (t : Bool) → same_id q id ≡ t → get m q ≡ get (insert rest id b) q
      go q true e = ap (get m) (same_ids q id e) ∙ is ∙ sym (get-insert ids_total rest id b q ∙ ap (λ t. cond t (Some b) (get rest q)) e)
      go q false e = sym (get-insert ids_total rest id b q ∙ ap (λ t. cond t (Some b) (get rest q)) e ∙ rest_get q ∙ ap (λ t. cond t None (get m q)) (same_turned id q ∙ e))

  pub sum_still : get m id ≡ None → total f m ≡ total f rest
  sum_still none = ap (total f) (same_map ids_total exact_ids _ _ (λ q. go q (same_id id q) refl))
    where
      go : (q : BlockId) (t : Bool) → same_id id q ≡ t → get m q ≡ get rest q
      go q true e = ap (get m) (sym (same_ids id q e)) ∙ none ∙ sym (rest_get q ∙ ap (λ t. cond t None (get m q)) e)
      go q false e = sym (rest_get q ∙ ap (λ t. cond t None (get m q)) e)

-- what a part holds besides by the words of the block that escapes
module _ (z : State) (id : BlockId) (layout : Layout) (words : List Word) (is : IsUnescaped z id layout words) where
  abbrev mine : Block
  mine = record { layout = layout; words = words; actions = []; finalised = false; since = None }

  pub holds_split : (u : ℕ) (q : BlockId) → holds_of (part_of z u) q ≡ holds_of (part_of (with_escaped z (same_id id)) u) q + cond (id.thread == u) (words_to q words) 0
  holds_split u q =
      let after : total (λ k b. words_to q b.words) (part_of (with_escaped z (same_id id)) u).blocks ≡ total (λ k b. words_to q b.words) (retain_keys (part_of z u).blocks (λ k. not (same_id id k))) =
      ap (λ (p : Part). total (λ k b. words_to q b.words) p.blocks) (escaped_part z (same_id id) u) in
      let before = sums (id.thread == u) (part_get z u id ∙ ap (shown_in (id.thread == u)) is) in
      rw (before, after) (omega arith)
    where
      sums : (t : Bool) → get (part_of z u).blocks id ≡ shown_in t (Some mine)
          → total (λ k b. words_to q b.words) (part_of z u).blocks ≡ total (λ k b. words_to q b.words) (retain_keys (part_of z u).blocks (λ k. not (same_id id k))) + cond t (words_to q words) 0
      sums true e = sum_without (part_of z u).blocks id (λ k b. words_to q b.words) mine e
      sums false e = let same = sum_still (part_of z u).blocks id (λ k b. words_to q b.words) e in omega (arith, same)

  -- another block that has escaped afterwards had escaped before
  pub still_out : (q : BlockId) → same_id id q ≡ false → IsTrue (is_escaped (with_escaped z (same_id id)) q) → IsTrue (is_escaped z q)
  still_out q other out = sym (ap is_out (got_escaped z (same_id id) q ∙ ap (λ t. option_map (escape_at z t) (get z.blocks q)) other ∙ mapped (get z.blocks q))) ∙ out
    where
      mapped : (o : Option Block) → option_map (escape_at z false) o ≡ o
      mapped None = refl
      mapped (Some b) = refl

  pub as_before : (h new : Shared) → HoldsAgree h z → HoldsAdmitted h new id → HoldsAsBefore new (with_escaped z (same_id id)) id words
  as_before h new agree admitted u q out = admitted u q ∙ go (same_id id q) refl
    where
      go : (t : Bool) → same_id id q ≡ t → cond t 0 (held h u q) ≡ cond t 0 (holds_of (part_of (with_escaped z (same_id id)) u) q + cond (id.thread == u) (words_to q words) 0)
      go true e = refl
      go false e = agree u q (still_out q e out) ∙ holds_split u q
