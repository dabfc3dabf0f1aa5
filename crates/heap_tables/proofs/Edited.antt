-- A map in which a value was edited
use Rattle.std.proofs.Common.{◌≡◌, Bool, true, false, cond, Option, Some, None, refl, sym, ap, ◌∙◌}
use Rattle.std.specs.Option.{option_map, option_map_or}
use Rattle.std.specs.declared.cmp.Ordering.{Ordering}
use Rattle.std.specs.declared.cmp.Ordering.TheVariants.{Less, Equal, Greater}
use Rattle.std.specs.Ordering.{is_eq}
use Rattle.std.specs.FinMap.{FinMap, get, insert, get-insert}
use Rattle.az_base.specs.declared.block_id.BlockId.{BlockId}
use Rattle.az_base.specs.Ids.{id_cmp, same_id, ids_total, exact_ids}
use Rattle.zone_model.specs.State.{with_edit}

pub edit_get : {X : Type 0} (m : FinMap id_cmp X) (id : BlockId) (f : X → X) (q : BlockId) → get (with_edit m id f) q ≡ cond (same_id q id) (option_map f (get m q)) (get m q)
edit_get {X} m id f q = go (get m id) refl
  where
    one_of : (b : Bool) → get m q ≡ cond b (get m q) (get m q)
    one_of true = refl
    one_of false = refl

    go : (o : Option X) → get m id ≡ o → get (option_map_or (λ x. insert m id (f x)) o m) q ≡ cond (same_id q id) (option_map f (get m q)) (get m q)
    go None e = at (id_cmp q id) refl
      where
        at : (r : Ordering) → id_cmp q id ≡ r → get m q ≡ cond (is_eq r) (option_map f (get m q)) (get m q)
        at Less d = refl
        at Equal d = let none : get m q ≡ None = ap (get m) (exact_ids q id d) ∙ e in none ∙ sym (ap (option_map f) none)
        at Greater d = refl
    go (Some x) e = get-insert ids_total m id (f x) q ∙ at (id_cmp q id) refl
      where
        at : (r : Ordering) → id_cmp q id ≡ r → cond (is_eq r) (Some (f x)) (get m q) ≡ cond (is_eq r) (option_map f (get m q)) (get m q)
        at Less d = refl
        at Equal d = sym (ap (option_map f) (ap (get m) (exact_ids q id d) ∙ e))
        at Greater d = refl
