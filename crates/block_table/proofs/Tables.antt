-- The block table seen as finite maps
use Rattle.std.proofs.Common.{◌≡◌, Bool, true, false, cond, List, [], ◌∷◌, map, Option, Some, None, is_some, refl, sym, ap, ◌∙◌}
use Rattle.std.specs.Option.{option_map, option_map_or}
use Rattle.std.specs.Map.{lookup}
use Rattle.std.specs.declared.cmp.Ordering.{Ordering}
use Rattle.std.specs.declared.cmp.Ordering.TheVariants.{Less, Equal, Greater}
use Rattle.std.specs.Ordering.{is_eq}
use Rattle.std.specs.FinMap.{get, insert, get-from_entries, get-insert, same_map}
use Rattle.std.specs.FinMap.Entries.{find}
use Rattle.az_base.specs.declared.block_id.BlockId.{BlockId}
use Rattle.az_base.specs.Ids.{id_cmp, same_id, ids_total, exact_ids}
use Rattle.az_base.proofs.Ids.{same_turned}
use Rattle.zone_model.specs.State.{with_edit}
use Rattle.block_table.specs.Stored.{Row}
use Rattle.block_table.specs.Table.{each_of}

module _ {X : Type 0} (f : Row → X) (eq : BlockId → BlockId → Bool) (same : (a b : BlockId) → eq a b ≡ same_id a b) where
  put : (t s : Bool) (x : Row) (o : Option X) (l : Option Row) → t ≡ s → o ≡ option_map f l → cond s (Some (f x)) o ≡ option_map f (cond t (Some x) l)
  put true true x o l e h = refl
  put true false x o l e h = cc
  put false true x o l e h = cc
  put false false x o l e h = h

  found : (q : BlockId) (es : List (BlockId × Row)) → find id_cmp q (map (λ (e : BlockId × Row). let r : BlockId × X = (e.0, f e.1) in r) es) ≡ option_map f (lookup (eq q) es)
  found q [] = refl
  found q (e ∷ es) = put (eq q e.0) (same_id q e.0) e.1 _ (lookup (eq q) es) (same q e.0) (found q es)

  pub each_get : (es : List (BlockId × Row)) (q : BlockId) → get (each_of f es) q ≡ option_map f (lookup (eq q) es)
  each_get es q = get-from_entries ids_total _ q ∙ found q es

  -- the same entries
  pub each_same : (old new : List (BlockId × Row)) → ((q : BlockId) → lookup (eq q) new ≡ lookup (eq q) old) → each_of f new ≡ each_of f old
  each_same old new is = same_map ids_total exact_ids _ _ (λ q. each_get new q ∙ ap (option_map f) (is q) ∙ sym (each_get old q))

  -- one entry more, or another
  pub each_insert : (old new : List (BlockId × Row)) (id : BlockId) (x : Row) → ((q : BlockId) → lookup (eq q) new ≡ cond (eq id q) (Some x) (lookup (eq q) old)) → each_of f new ≡ insert (each_of f old) id (f x)
  each_insert old new id x is = same_map ids_total exact_ids _ _ (λ q.
      each_get new q ∙ ap (option_map f) (is q)
      ∙ sym (get-insert ids_total (each_of f old) id (f x) q
      ∙ put (eq id q) (same_id q id) x (get (each_of f old) q) (lookup (eq q) old) (same id q ∙ same_turned id q) (each_get old q)))

  pub each_there : (es : List (BlockId × Row)) (id : BlockId) (x : Row) → Some x ≡ lookup (eq id) es → get (each_of f es) id ≡ Some (f x)
  each_there es id x h = each_get es id ∙ ap (option_map f) (sym h)

  -- an entry was edited
  pub each_edit : (old new : List (BlockId × Row)) (id : BlockId) (was now : Row) (g : X → X) → Some was ≡ lookup (eq id) old → f now ≡ g (f was)
      → ((q : BlockId) → lookup (eq q) new ≡ cond (eq id q) (Some now) (lookup (eq q) old)) → each_of f new ≡ with_edit (each_of f old) id g
  each_edit old new id was now g here edited is =
      each_insert old new id now is ∙ ap (insert (each_of f old) id) edited
      ∙ sym (ap (λ (o : Option X). option_map_or (λ x. insert (each_of f old) id (g x)) o (each_of f old)) (each_there old id was here))

  -- what f shows of it stayed
  pub each_kept : (old new : List (BlockId × Row)) (id : BlockId) (was now : Row) → Some was ≡ lookup (eq id) old → f now ≡ f was
      → ((q : BlockId) → lookup (eq q) new ≡ cond (eq id q) (Some now) (lookup (eq q) old)) → each_of f new ≡ each_of f old
  each_kept old new id was now here kept is = same_map ids_total exact_ids _ _ (λ q.
      each_get new q ∙ ap (option_map f) (is q) ∙ stays q (eq id q) refl ∙ sym (each_get old q))
    where
      at_one : (q : BlockId) (r : Ordering) → id_cmp id q ≡ r → is_eq r ≡ true → Some now ≡ Some now → option_map f (Some now) ≡ option_map f (lookup (eq q) old)
      at_one q Less e t k = cc
      at_one q Greater e t k = cc
      at_one q Equal e t k = ap Some kept ∙ ap (option_map f) here ∙ ap (λ i. option_map f (lookup (eq i) old)) (exact_ids id q e)

      stays : (q : BlockId) (b : Bool) → eq id q ≡ b → option_map f (cond b (Some now) (lookup (eq q) old)) ≡ option_map f (lookup (eq q) old)
      stays q true e = at_one q (id_cmp id q) refl (sym (same id q) ∙ e) refl
      stays q false e = refl

-- both maps have the same keys
pub same_keys : {X Y : Type 0} (f : Row → X) (g : Row → Y) (es : List (BlockId × Row)) (q : BlockId) → is_some (get (each_of f es) q) ≡ is_some (get (each_of g es) q)
same_keys f g es q = ap is_some (each_get f same_id (λ a b. refl) es q) ∙ alike (lookup (same_id q) es) ∙ sym (ap is_some (each_get g same_id (λ a b. refl) es q))
  where
    alike : (o : Option Row) → is_some (option_map f o) ≡ is_some (option_map g o)
    alike None = refl
    alike (Some x) = refl
