-- What holds of each block of a map holds after a change of the map
use Rattle.std.proofs.Common.{◌≡◌, Bool, true, false, cond, not, List, Option, Some, None, option_map, refl, sym, ap, subst, ◌∙◌}
use Rattle.std.specs.FinMap.{FinMap, get, insert, get-insert, retain_keys}
use Rattle.az_base.specs.declared.block_id.BlockId.{BlockId}
use Rattle.az_base.specs.Ids.{id_cmp, same_id, among, ids_total}
use Rattle.zone_model.specs.State.{State, Block, with_edit}
use Rattle.zone_model.specs.Escape.{with_escaped}
use Rattle.zone_model.proofs.Blocks.{edit_get, left_get, got_escaped, escape_at, same_is}

abbrev pub Each : (Block → Type 0) → FinMap id_cmp Block → Type 0
Each Q m = (q : BlockId) (b : Block) → get m q ≡ Some b → Q b

some_block : (a b : Block) → Some a ≡ Some b → a ≡ b
some_block a b h = cc

module _ (Q : Block → Type 0) (m : FinMap id_cmp Block) (all : Each Q m) where
  -- a block is changed
  pub each_edit : (id : BlockId) (f : Block → Block) → ((b : Block) → get m id ≡ Some b → Q b → Q (f b)) → Each Q (with_edit m id f)
  each_edit id f keeps q b h = by_key (same_id q id) refl (sym (edit_get m id f q) ∙ h)
    where
      at : (o : Option Block) → get m q ≡ o → q ≡ id → option_map f o ≡ Some b → Q b
      at None is same e = cc (e)
      at (Some k) is same e = subst Q (some_block (f k) b e) (keeps k (ap (get m) (sym same) ∙ is) (all q k is))

      by_key : (t : Bool) → same_id q id ≡ t → cond t (option_map f (get m q)) (get m q) ≡ Some b → Q b
      by_key true e k = at (get m q) refl (same_is q id e) k
      by_key false e k = all q b k

  -- a block comes in
  pub each_insert : (id : BlockId) (new : Block) → Q new → Each Q (insert m id new)
  each_insert id new holds q b h = by_key (same_id q id) (sym (get-insert ids_total m id new q) ∙ h)
    where
      by_key : (u : Bool) → cond u (Some new) (get m q) ≡ Some b → Q b
      by_key true k = subst Q (some_block new b k) holds
      by_key false k = all q b k

  -- blocks are gone
  pub each_left : (gone : List BlockId) → Each Q (retain_keys m (λ id. not (among gone id)))
  each_left gone q b h = by_test (among gone q) (sym (left_get m (among gone) q) ∙ h)
    where
      by_test : (t : Bool) → cond t None (get m q) ≡ Some b → Q b
      by_test true k = cc (k)
      by_test false k = all q b k

-- blocks escape
pub each_escaped : (Q : Block → Type 0) (z : State) (need : BlockId → Bool) → ((b : Block) → Q b → Q (escape_at z true b)) → Each Q z.blocks → Each Q (with_escaped z need).blocks
each_escaped Q z need keeps all q b h = go (get z.blocks q) refl (need q) (sym (got_escaped z need q) ∙ h)
  where
    go : (o : Option Block) → get z.blocks q ≡ o → (t : Bool) → option_map (escape_at z t) o ≡ Some b → Q b
    go None is t e = cc (e)
    go (Some k) is false e = subst Q (some_block k b e) (all q k is)
    go (Some k) is true e = subst Q (some_block (escape_at z true k) b e) (keeps k (all q k is))
