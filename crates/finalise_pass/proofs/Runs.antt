-- Running the actions of a finaliser
use Rattle.std.proofs.Common.{◌≡◌, ℕ, ◌+◌, ◌≤◌, Bool, true, false, not, ◌&&◌, ◌||◌, List, [], ◌∷◌, refl, sym, ap, ◌∙◌, subst, arith, length, slice_get, Some, None, take, zero, suc, add-one, find, fold}
use Rattle.std.specs.Option.{option_to_list, option_map_or}
use Rattle.az_base.specs.declared.action.Action.{Action}
use Rattle.az_base.specs.declared.action.Action.TheVariants as action
use Rattle.az_base.specs.declared.block_id.BlockId.{BlockId}
use Rattle.az_base.specs.Ids.{same_id}
use Rattle.quantum_space.proofs.Lists.{itself}
use Rattle.zone_model.specs.State.{is_nil}
use Rattle.finalise_pass.specs.Finalisers.{Finalisers, awaits, with_action, with_done}
use Rattle.finalise_pass.specs.Passing.{Passing, GoesPast, HasPassed}
use Rattle.finalise_pass.proofs.Searching.{none_next, none_less, found_passes}

-- actions change roots alone
pub one_keeps : (id : BlockId) (f : Finalisers) (a : Action) → ((with_action id f a).actions ≡ f.actions) × ((with_action id f a).done ≡ f.done)
one_keeps id f (action.Keep g) = (refl, refl)
one_keeps id f (action.Pass g at) = (refl, refl)

pub runs_keep : (id : BlockId) (f : Finalisers) (xs : List Action) → ((fold (with_action id) f xs).actions ≡ f.actions) × ((fold (with_action id) f xs).done ≡ f.done)
runs_keep id f [] = (refl, refl)
runs_keep id f (x ∷ xs) = (let r = runs_keep id (with_action id f x) xs in let o = one_keeps id f x in (r.0 ∙ o.0, r.1 ∙ o.1))

-- one action more
run_one : (id : BlockId) (f : Finalisers) (xs : List Action) (n : ℕ) → fold (with_action id) f (take (suc n) xs) ≡ fold (with_action id) (fold (with_action id) f (take n xs)) (option_to_list (slice_get xs n))
run_one id f [] n = elim n as (λ n. fold (with_action id) f (take (suc n) []) ≡ fold (with_action id) (fold (with_action id) f (take n [])) (option_to_list (slice_get [] n))) [ zero ↦ refl | suc k ↦ refl ]
run_one id f (x ∷ xs) zero = refl
run_one id f (x ∷ xs) (suc n) = run_one id (with_action id f x) xs n

pub run_next : (id : BlockId) (f : Finalisers) (xs : List Action) (n : ℕ) → fold (with_action id) f (take (n + 1) xs) ≡ fold (with_action id) (fold (with_action id) f (take n xs)) (option_to_list (slice_get xs n))
run_next id f xs n = rw add-one (run_one id f xs n)

pub take_whole : (xs : List Action) (n : ℕ) → length xs ≤ n → take n xs ≡ xs
take_whole [] zero l = refl
take_whole [] (suc n) l = refl
take_whole (x ∷ xs) zero l = absurd (omega (arith, l))
take_whole (x ∷ xs) (suc n) l = ap (λ ys. x ∷ ys) (take_whole xs n (omega (arith, l)))

-- a block that is done doesn't await anything, and the others await what they did
done_less : (t a d : Bool) → (a && not (t || d)) ≡ true → (a && not d) ≡ true
done_less true true d e = cc
done_less false true d e = e
done_less t false d e = cc

done_here : (a d : Bool) → (a && not (true || d)) ≡ false
done_here true d = refl
done_here false d = refl

pub run_passed : (id : BlockId) (f : Finalisers) (p : Passing) (ids : List Action) (n : ℕ) → GoesPast (awaits f) p id n → HasPassed p f → find (awaits (with_done (fold (with_action id) f ids) id)) (take n p.condemned) ≡ None
run_passed id f p ids n past passed =
    let xs = p.condemned in
    let keep = runs_keep id f ids in
    let after : Finalisers = with_done (fold (with_action id) f ids) id in
    let each : (b : BlockId) → awaits after b ≡ (not (is_nil (f.actions b)) && not (same_id id b || f.done b)) = λ b. ap (λ (a : BlockId → List Action). not (is_nil (a b)) && not (same_id id b || (fold (with_action id) f ids).done b)) keep.0 ∙ ap (λ (d : BlockId → Bool). not (is_nil (f.actions b)) && not (same_id id b || d b)) keep.1 in
    let less : (b : BlockId) → awaits after b ≡ true → awaits f b ≡ true = λ b t. done_less (same_id id b) (not (is_nil (f.actions b))) (f.done b) (sym (each b) ∙ t) in
    let here : awaits after id ≡ false = each id ∙ ap (λ t. not (is_nil (f.actions id)) && not (t || f.done id)) (itself id) ∙ done_here (not (is_nil (f.actions id))) (f.done id) in
    let at : option_map_or (awaits after) (slice_get xs past.place) false ≡ false = ap (λ o. option_map_or (awaits after) o false) past.is ∙ here in
    subst (λ k. find (awaits after) (take k xs) ≡ None) (sym past.count) (none_next (awaits after) xs past.place (none_less (awaits f) (awaits after) (take past.place xs) less (past.before passed)) at)

-- a block that awaits its finaliser has an action
pub has_actions : (f : Finalisers) (xs : List BlockId) (id : BlockId) → find (awaits f) xs ≡ Some id → is_nil (f.actions id) ≡ false
has_actions f xs id h = go (is_nil (f.actions id)) refl (found_passes (awaits f) xs id h)
  where
    go : (t : Bool) → is_nil (f.actions id) ≡ t → awaits f id ≡ true → is_nil (f.actions id) ≡ false
    go true e k = (let j : awaits f id ≡ false = ap (λ t. not t && not (f.done id)) e in cc)
    go false e k = e
