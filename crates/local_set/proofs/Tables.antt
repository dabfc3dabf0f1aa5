-- A table of blocks seen as a finite map
use Rattle.az_base.proofs.Ids.{eq_ids, same_turned, same_self}
use Rattle.std.proofs.Common.{◌≡◌, ℕ, ◌==◌, ◌&&◌, ◌||◌, Bool, true, false, cond, List, [], ◌∷◌, Option, Some, None, is_some, refl, sym, ap, ◌∙◌, arith, not}
use Rattle.std.proofs.lemmas.Bool.Decides.{nat_tests}
use Rattle.std.proofs.lemmas.Grind.{common_steps}
use Rattle.std.specs.Option.{option_map, option_map_or}
use Rattle.std.specs.Map.{lookup}
use Rattle.std.specs.declared.cmp.Ordering.{Ordering}
use Rattle.std.specs.declared.cmp.Ordering.TheVariants.{Less, Equal, Greater}
use Rattle.std.specs.Ordering.{is_eq, nat_cmp, ordering_then}
use Rattle.std.specs.FinMap.{FinMap, get, contains_key, insert, get-from_entries, get-insert, get-empty, empty, retain_keys, same_map}
use Rattle.std.specs.FinMap.Entries.{find}
use Rattle.az_base.specs.declared.block_id.BlockId.{BlockId}
use Rattle.az_base.specs.Ids.{id_cmp, same_id, ids_total, exact_ids, id_eq}
use Rattle.zone_model.specs.State.{Block, with_edit}
use Rattle.zone_model.proofs.Blocks.{edit_get, left_get}
use Rattle.local_set.specs.LocalSets.{blocks_of}

then_eq : (r o : Ordering) → is_eq (ordering_then r o) ≡ (is_eq r && is_eq o)
then_eq Less o = refl
then_eq Equal o = refl
then_eq Greater o = refl

nat_eq_cmp : (x y : ℕ) → (x == y) ≡ is_eq (nat_cmp x y)
nat_eq_cmp x y = grind (arith, nat_tests, common_steps)

found : (q : BlockId) (es : List (BlockId × Block)) → find id_cmp q es ≡ lookup (id_eq q) es
found q [] = refl
found q (e ∷ es) = ap (λ b. cond b (Some e.1) (find id_cmp q es)) (sym (eq_ids q e.0)) ∙ ap (cond (id_eq q e.0) (Some e.1)) (found q es)

-- what the map has is what the table has
pub got : (es : List (BlockId × Block)) (q : BlockId) → get (blocks_of es) q ≡ lookup (id_eq q) es
got es q = get-from_entries ids_total es q ∙ found q es

pub none_there : (q : BlockId) → get (blocks_of []) q ≡ None
none_there q = got [] q

-- a block that isn't found isn't there
pub missing : (es : List (BlockId × Block)) (id : BlockId) → None ≡ lookup (id_eq id) es → contains_key (blocks_of es) id ≡ true → ⊥
missing es id none there = let no : false ≡ true = ap is_some none ∙ sym (ap is_some (got es id)) ∙ there in cc (no)

-- a block that is found is there
pub there_is : (es : List (BlockId × Block)) (id : BlockId) (b : Block) → Some b ≡ lookup (id_eq id) es → get (blocks_of es) id ≡ Some b
there_is es id b h = got es id ∙ sym h

-- one block more, or another
pub inserted : (old new : List (BlockId × Block)) (id : BlockId) (b : Block) → ((q : BlockId) → lookup (id_eq q) new ≡ cond (id_eq id q) (Some b) (lookup (id_eq q) old)) → blocks_of new ≡ insert (blocks_of old) id b
inserted old new id b is = same_map ids_total exact_ids _ _ (λ q.
    got new q ∙ is q ∙ ap (cond (id_eq id q) (Some b)) (sym (got old q)) ∙ ap (λ t. cond t (Some b) (get (blocks_of old) q)) (eq_ids id q ∙ same_turned id q) ∙ sym (get-insert ids_total (blocks_of old) id b q))

-- a block was edited
pub edited : (old new : List (BlockId × Block)) (id : BlockId) (was now : Block) (f : Block → Block) → Some was ≡ lookup (id_eq id) old → now ≡ f was
    → ((q : BlockId) → lookup (id_eq q) new ≡ cond (id_eq id q) (Some now) (lookup (id_eq q) old)) → blocks_of new ≡ with_edit (blocks_of old) id f
edited old new id was now f here same is =
    inserted old new id now is ∙ ap (insert (blocks_of old) id) same
    ∙ sym (ap (λ (o : Option Block). option_map_or (λ x. insert (blocks_of old) id (f x)) o (blocks_of old)) (there_is old id was here))

-- a block was taken out
pub removed : (old new : List (BlockId × Block)) (id : BlockId) → ((q : BlockId) → lookup (id_eq q) new ≡ cond (id_eq id q) None (lookup (id_eq q) old)) → blocks_of new ≡ retain_keys (blocks_of old) (λ q. not (same_id id q))
removed old new id is = same_map ids_total exact_ids _ _ (λ q. got new q ∙ is q ∙ ap (λ t. cond t None (lookup (id_eq q) old)) (eq_ids id q) ∙ ap (cond (same_id id q) None) (sym (got old q)) ∙ sym (left_get (blocks_of old) (same_id id) q))

-- an id that isn't there stays away after an edit
pub edit_absent : (m : FinMap id_cmp Block) (id : BlockId) (f : Block → Block) (q : BlockId) → get m q ≡ None → get (with_edit m id f) q ≡ None
edit_absent m id f q none = edit_get m id f q ∙ ap (λ o. cond (same_id q id) (option_map f o) o) none ∙ both (same_id q id)
  where
    both : (t : Bool) → cond t (option_map f None) None ≡ None
    both true = refl
    both false = refl

-- and after another one came
pub insert_absent : (m : FinMap id_cmp Block) (id : BlockId) (b : Block) (q : BlockId) → get m q ≡ None → (q ≡ id → ⊥) → get (insert m id b) q ≡ None
insert_absent m id b q none other = get-insert ids_total m id b q ∙ at (id_cmp q id) refl
  where
    at : (r : Ordering) → id_cmp q id ≡ r → cond (is_eq r) (Some b) (get m q) ≡ None
    at Less e = none
    at Equal e = absurd (other (exact_ids q id e))
    at Greater e = none

-- and after some were taken away
pub left_absent : (m : FinMap id_cmp Block) (gone : BlockId → Bool) (q : BlockId) → get m q ≡ None → get (retain_keys m (λ q. not (gone q))) q ≡ None
left_absent m gone q none = left_get m gone q ∙ ap (λ o. cond (gone q) None o) none ∙ both (gone q)
  where
    both : (t : Bool) → cond t None (let o : Option Block = None in o) ≡ None
    both true = refl
    both false = refl

-- a block that was taken out and put back
pub put_back : (m : FinMap id_cmp Block) (id : BlockId) (b : Block) → get m id ≡ Some b → insert (retain_keys m (λ q. not (same_id id q))) id b ≡ m
put_back m id b here = same_map ids_total exact_ids _ _ (λ q. get-insert ids_total (retain_keys m (λ q. not (same_id id q))) id b q ∙ ap (cond (same_id q id) (Some b)) (left_get m (same_id id) q ∙ ap (λ t. cond t None (get m q)) (same_turned id q)) ∙ at q (id_cmp q id) refl)
  where
    at : (q : BlockId) (r : Ordering) → id_cmp q id ≡ r → cond (is_eq r) (Some b) (cond (is_eq r) None (get m q)) ≡ get m q
    at q Less e = refl
    at q Equal e = sym (ap (get m) (exact_ids q id e) ∙ here)
    at q Greater e = refl

pub left_itself : (m : FinMap id_cmp Block) (id : BlockId) → get (retain_keys m (λ q. not (same_id id q))) id ≡ None
left_itself m id = left_get m (same_id id) id ∙ ap (λ t. cond t None (get m id)) (same_self id)

-- one block more was taken away
pub left_more : (m : FinMap id_cmp Block) (gone : BlockId → Bool) (id : BlockId) (more : BlockId → Bool) → ((q : BlockId) → more q ≡ (gone q || same_id q id))
    → retain_keys (retain_keys m (λ q. not (gone q))) (λ q. not (same_id id q)) ≡ retain_keys m (λ q. not (more q))
left_more m gone id more is = same_map ids_total exact_ids _ _ (λ q.
    left_get (retain_keys m (λ q. not (gone q))) (same_id id) q ∙ ap (cond (same_id id q) None) (left_get m gone q) ∙ ap (λ t. cond t None (cond (gone q) None (get m q))) (same_turned id q)
    ∙ joined (same_id q id) (gone q) (get m q) ∙ ap (λ t. cond t None (get m q)) (sym (is q)) ∙ sym (left_get m more q))
  where
    joined : (a b : Bool) (o : Option Block) → cond a None (cond b None o) ≡ cond (b || a) None o
    joined true true o = refl
    joined true false o = refl
    joined false true o = refl
    joined false false o = refl

-- where none was taken away
pub left_none : (m : FinMap id_cmp Block) → retain_keys m (λ q. not false) ≡ m
left_none m = same_map ids_total exact_ids _ _ (λ q. left_get m (λ _. false) q)

pub no_blocks : blocks_of [] ≡ empty
no_blocks = same_map ids_total exact_ids _ _ (λ q. none_there q ∙ sym (get-empty id_cmp q))
