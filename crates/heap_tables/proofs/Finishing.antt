-- What running a finaliser changes
use Rattle.std.proofs.Common.{◌≡◌, ℕ, zero, suc, ◌==◌, ◌<◌, ◌||◌, Bool, true, false, cond, List, [], ◌∷◌, Option, Some, None, length, get_or, slice_get, slice_set, option_and_then, IsFalse, refl, sym, ap, ◌∙◌, arith, if◌then◌else◌}
use Rattle.std.proofs.lemmas.Bool.Decides.{nat_tests}
use Rattle.std.specs.Option.{option_map, option_map_or}
use Rattle.std.specs.FinMap.{FinMap, get, same_map}
use Rattle.az_base.specs.declared.block_id.BlockId.{BlockId}
use Rattle.az_base.specs.Ids.{id_cmp, same_id, exact_ids, ids_total}
use Rattle.az_base.proofs.Ids.{same_is, same_turned}
use Rattle.block_table.specs.Places.{in_word}
use Rattle.block_table.specs.Table.{words_in}
use Rattle.block_table.specs.Stored.{HeapBlock}
use Rattle.finalise_pass.specs.Finalisers.{with_done, with_root}
use Rattle.zone_model.specs.State.{is_nil, with_edit}
use Rattle.zone_model.proofs.MapLaws.{get-map_values}
use Rattle.heap_tables.specs.Running.{actions_in, finals_of, unrun}
use Rattle.heap_tables.specs.declared.tables.Tables.{Tables}
use Rattle.heap_tables.proofs.Edited.{edit_get}

-- a root
pub root_set : (rs : List (Option BlockId)) (g : ℕ) (v : Option BlockId) (q : ℕ) → g < length rs → get_or (slice_set rs g v) q None ≡ (if g == q then v else get_or rs q None)
root_set [] g v q h = absurd (omega (arith, h))
root_set (r ∷ rs) zero v zero h = refl
root_set (r ∷ rs) zero v (suc q) h = let no : (zero == suc q) ≡ false = grind (arith, nat_tests) in sym (ap (λ b. cond b v (get_or rs q None)) no)
root_set (r ∷ rs) (suc g) v zero h = let no : (suc g == zero) ≡ false = grind (arith, nat_tests) in sym (ap (λ b. cond b v r) no)
root_set (r ∷ rs) (suc g) v (suc q) h = let same : (suc g == suc q) ≡ (g == q) = one g q in root_set rs g v q (omega (arith, h)) ∙ sym (ap (λ b. cond b v (get_or rs q None)) same)
  where
    one : (a b : ℕ) → (suc a == suc b) ≡ (a == b)
    one a b = grind (arith, nat_tests)

pub with_root_set : (t : Tables) (g : ℕ) (v : Option BlockId) (rs : List (Option BlockId)) → g < length t.roots → rs ≡ slice_set t.roots g v → finals_of (record t { roots = rs }) ≡ with_root (finals_of t) g v
with_root_set t g v rs h is = (λ i. record { roots = λ q. (ap (λ rs. get_or rs q None) is ∙ root_set t.roots g v q h) i; actions = (finals_of t).actions; strong = (finals_of t).strong; done = (finals_of t).done })

-- the block's finaliser has run
module _ (t : Tables) (id : BlockId) where
  abbrev finish : HeapBlock → HeapBlock
  finish k = record k { finalised = true }

  abbrev unfinish : BlockId → HeapBlock → HeapBlock
  unfinish q k = record k { finalised = false }

  abbrev pub finished : Tables
  finished = record t { blocks = record t.blocks { blocks = with_edit t.blocks.blocks id finish } }

  acts : (q : BlockId) → actions_in finished.blocks.blocks q ≡ actions_in t.blocks.blocks q
  acts q = ap (λ (o : Option HeapBlock). option_map_or (λ (k : HeapBlock). k.actions) o []) (edit_get t.blocks.blocks id finish q) ∙ by (same_id q id) (get t.blocks.blocks q)
    where
      by : (s : Bool) (o : Option HeapBlock) → option_map_or (λ (k : HeapBlock). k.actions) (cond s (option_map finish o) o) [] ≡ option_map_or (λ (k : HeapBlock). k.actions) o []
      by false o = refl
      by true None = refl
      by true (Some k) = refl

  same_words : (q : BlockId) → words_in finished.blocks.blocks q ≡ words_in t.blocks.blocks q
  same_words q = ap (λ (o : Option HeapBlock). option_map_or (λ (k : HeapBlock). k.words) o []) (edit_get t.blocks.blocks id finish q) ∙ by (same_id q id) (get t.blocks.blocks q)
    where
      by : (s : Bool) (o : Option HeapBlock) → option_map_or (λ (k : HeapBlock). k.words) (cond s (option_map finish o) o) [] ≡ option_map_or (λ (k : HeapBlock). k.words) o []
      by false o = refl
      by true None = refl
      by true (Some k) = refl

  has_run : IsFalse (is_nil (actions_in t.blocks.blocks id)) → (q : BlockId) → option_map_or (λ (k : HeapBlock). k.finalised) (get finished.blocks.blocks q) false ≡ (same_id id q || option_map_or (λ (k : HeapBlock). k.finalised) (get t.blocks.blocks q) false)
  has_run some q = ap (λ (o : Option HeapBlock). option_map_or (λ (k : HeapBlock). k.finalised) o false) (edit_get t.blocks.blocks id finish q) ∙ by (same_id q id) refl (get t.blocks.blocks q) refl
      ∙ ap (λ b. b || option_map_or (λ (k : HeapBlock). k.finalised) (get t.blocks.blocks q) false) (same_turned q id)
    where
      there : (o : Option HeapBlock) → IsFalse (is_nil (option_map_or (λ (k : HeapBlock). k.actions) o [])) → o ≡ None → ⊥
      there None h e = cc
      there (Some k) h e = cc

      by : (s : Bool) → same_id q id ≡ s → (o : Option HeapBlock) → get t.blocks.blocks q ≡ o → option_map_or (λ (k : HeapBlock). k.finalised) (cond s (option_map finish o) o) false ≡ (s || option_map_or (λ (k : HeapBlock). k.finalised) o false)
      by false e o f = refl
      by true e None f = absurd (there (get t.blocks.blocks id) some (ap (get t.blocks.blocks) (sym (same_is q id e)) ∙ f))
      by true e (Some k) f = refl

  pub finals_finished : IsFalse (is_nil (actions_in t.blocks.blocks id)) → finals_of finished ≡ with_done (finals_of t) id
  finals_finished some = (λ i. record {
    roots = (finals_of t).roots;
    actions = λ q. acts q i;
    strong = λ q at. option_and_then in_word (slice_get (same_words q i) at);
    done = λ q. has_run some q i;
  })

  pub unrun_finished : unrun finished ≡ unrun t
  unrun_finished = ap (λ (m : FinMap id_cmp HeapBlock). let y : Tables = record t { roots = []; blocks = record t.blocks { blocks = m } } in y) (same_map ids_total exact_ids _ _ (λ q.
      get-map_values id_cmp unfinish exact_ids finished.blocks.blocks q ∙ ap (option_map (unfinish q)) (edit_get t.blocks.blocks id finish q) ∙ by q (same_id q id) (get t.blocks.blocks q)
      ∙ sym (get-map_values id_cmp unfinish exact_ids t.blocks.blocks q)))
    where
      by : (q : BlockId) (s : Bool) (o : Option HeapBlock) → option_map (unfinish q) (cond s (option_map finish o) o) ≡ option_map (unfinish q) o
      by q false o = refl
      by q true None = refl
      by q true (Some k) = refl
