-- Words of blocks that go show nothing
use Rattle.std.proofs.Common.{◌≡◌, ◌++◌, ◌||◌, Bool, true, false, not, cond, List, [], ◌∷◌, Option, None, refl, sym, ap, ◌∙◌}
use Rattle.std.specs.FinMap.{FinMap, get, retain_keys, same_map, get-retain_keys}
use Rattle.az_base.specs.declared.block_id.BlockId.{BlockId}
use Rattle.az_base.specs.declared.weak_loc.WeakLoc.{WeakLoc}
use Rattle.az_base.specs.declared.weak_loc.WeakLoc.TheVariants as loc
use Rattle.az_base.specs.Ids.{among, same_id}
use Rattle.az_base.specs.Places.{loc_cmp, locs_total, exact_locs}
use Rattle.az_base.proofs.Ids.{among_more, same_turned}
use Rattle.weak_table.specs.Shows as one
use Rattle.zone_model.specs.State.{is_word_of}

pub forgotten_none : (m : FinMap loc_cmp BlockId) → m ≡ retain_keys m (λ l. not (is_word_of [] l))
forgotten_none m = same_map locs_total exact_locs _ _ (λ q. by q (get m q) ∙ sym (get-retain_keys m (λ l. not (is_word_of [] l)) q (λ x e. ap (λ l. not (is_word_of [] l)) (sym (exact_locs q x e)))))
  where
    by : (q : WeakLoc) (o : Option BlockId) → o ≡ cond (not (is_word_of [] q)) o None
    by (loc.Root w) o = refl
    by (loc.Word b i) o = refl

pub forgotten_more : (m : FinMap loc_cmp BlockId) (xs : List BlockId) (id : BlockId) (n : FinMap loc_cmp BlockId) → n ≡ retain_keys m (λ l. not (is_word_of xs l))
    → retain_keys n (λ l. not (one.is_word_of id l)) ≡ retain_keys m (λ l. not (is_word_of (xs ++ id ∷ []) l))
forgotten_more m xs id n is = same_map locs_total exact_locs _ _ (λ q.
    get-retain_keys n (λ l. not (one.is_word_of id l)) q (λ x e. ap (λ l. not (one.is_word_of id l)) (sym (exact_locs q x e)))
    ∙ ap (λ o. cond (not (one.is_word_of id q)) o None) (ap (λ x. get x q) is ∙ get-retain_keys m (λ l. not (is_word_of xs l)) q (λ x e. ap (λ l. not (is_word_of xs l)) (sym (exact_locs q x e))))
    ∙ by q (get m q)
    ∙ sym (get-retain_keys m (λ l. not (is_word_of (xs ++ id ∷ []) l)) q (λ x e. ap (λ l. not (is_word_of (xs ++ id ∷ []) l)) (sym (exact_locs q x e)))))
  where
    at : (o : Option BlockId) (s t : Bool) → cond (not t) (cond (not s) o None) None ≡ cond (not (s || t)) o None
    at o true true = refl
    at o true false = refl
    at o false true = refl
    at o false false = refl

    by : (q : WeakLoc) (o : Option BlockId) → cond (not (one.is_word_of id q)) (cond (not (is_word_of xs q)) o None) None ≡ cond (not (is_word_of (xs ++ id ∷ []) q)) o None
    by (loc.Root w) o = refl
    by (loc.Word b i) o = at o (among xs b) (same_id id b) ∙ ap (λ t. cond (not t) o None) (sym (among_more xs id b ∙ ap (λ t. among xs b || t) (same_turned b id)))
