-- There always is a list of all that blocks lead to
use Rattle.std.proofs.Common.{◌≡◌, ℕ, ◌+◌, ◌<◌, ◌≤◌, zero, suc, Bool, true, false, List, [], ◌∷◌, ◌++◌, length, Option, Some, None, slice_get, nat_lt, refl, sym, ◌∙◌, arith, ◌⊎◌, inl, inr}
use Rattle.std.proofs.lemmas.Bool.Decides.{nat_tests}
use Rattle.std.specs.FinMap.{contains_key}
use Rattle.az_base.specs.declared.block_id.BlockId.{BlockId}
use Rattle.az_base.specs.Ids.{among}
use Rattle.zone_model.specs.State.{Block}
use Rattle.local_set.specs.LocalSets.{blocks_of}
use Rattle.local_set.specs.Walks.{Map, Visits, VisitsAll, IsReached, referents_of, words_at}
use Rattle.local_set.proofs.Lists.{has}
use Rattle.local_set.proofs.Walks.{Visited, visited_none, visited_more, visited_all, Walked, Done, walked_first, walked_more, done_none, done_more, all_reached, few_found}

visited : (m : Map) (old : List BlockId) (o : Option BlockId) → (new : List BlockId) × Visits m old new o
visited m old None = (old, refl)
visited m old (Some id) = go (contains_key m id) refl (among old id) refl
  where
    go : (c : Bool) → contains_key m id ≡ c → (b : Bool) → among old id ≡ b → (new : List BlockId) × Visits m old new (Some id)
    go false e b f = (old, inl (refl, λ own. let no : false ≡ true = sym e ∙ own in cc (no)))
    go true e true f = (old, inl (refl, λ own. f))
    go true e false f = (old ++ id ∷ [], inr (refl, e, f))

visited_on : (m : Map) (old mid : List BlockId) (helds : List (Option BlockId)) (left n : ℕ) → n + left ≡ length helds → Visited m old mid helds n → (new : List BlockId) × VisitsAll m old new helds
visited_on m old mid helds zero n e v = (mid, visited_all m old mid helds n (omega (arith, e)) v)
visited_on m old mid helds (suc left) n e v =
    let held = has helds n (omega (arith, e)) in
    let w = visited m mid held.0 in
    visited_on m old w.0 helds left (n + 1) (omega (arith, e)) (visited_more m old mid w.0 helds n held.0 v held.1 w.1)

all_visited : (m : Map) (old : List BlockId) (helds : List (Option BlockId)) → (new : List BlockId) × VisitsAll m old new helds
all_visited m old helds = visited_on m old old helds (length helds) 0 (omega arith) (visited_none m old helds)

walked_on : (es : List (BlockId × Block)) (first : List (Option BlockId)) (ids : List BlockId) (left at : ℕ) → length es ≤ at + left → Walked (blocks_of es) first ids → Done (blocks_of es) ids at
    → (found : List BlockId) × IsReached (blocks_of es) first found
walked_on es first ids zero at e w done = (ids, all_reached (blocks_of es) first ids at (let few : length ids ≤ length es = few_found es first ids w in omega (arith, e, few)) w done)
walked_on es first ids (suc left) at e w done = go (nat_lt at (length ids)) refl (λ new. walked_on es first new left (at + 1) (omega (arith, e)))
  where
    go : (b : Bool) → nat_lt at (length ids) ≡ b → ((new : List BlockId) → Walked (blocks_of es) first new → Done (blocks_of es) new (at + 1) → (found : List BlockId) × IsReached (blocks_of es) first found)
        → (found : List BlockId) × IsReached (blocks_of es) first found
    go false t on = (ids, all_reached (blocks_of es) first ids at (grind (arith, nat_tests)) w done)
    go true t on =
        let here = has ids at (grind (arith, nat_tests)) in
        let v = all_visited (blocks_of es) ids (referents_of (words_at (blocks_of es) here.0)) in
        on v.0 (walked_more (blocks_of es) first ids v.0 at here.0 w here.1 v.1) (done_more (blocks_of es) ids v.0 at here.0 here.1 v.1 done)

pub some_reached : (es : List (BlockId × Block)) (first : List (Option BlockId)) → (found : List BlockId) × IsReached (blocks_of es) first found
some_reached es first =
    let v = all_visited (blocks_of es) [] first in
    walked_on es first v.0 (length es) 0 (omega arith) (walked_first (blocks_of es) first v.0 v.1) (done_none (blocks_of es) v.0)
