-- A birth as an escaped block is a step
use Rattle.std.proofs.Common.{◌≡◌, ℕ, ◌==◌, ◌&&◌, ◌||◌, Bool, true, false, cond, List, [], ◌∷◌, map, filter_map, Option, Some, None, is_none, refl, sym, ap, ◌∙◌}
use Rattle.std.specs.List.{list_any}
use Rattle.std.specs.Option.{option_map_or}
use Rattle.az_base.specs.declared.action.Action.{Action}
use Rattle.az_base.specs.declared.action.Action.TheVariants as action
use Rattle.az_base.specs.declared.block_id.BlockId.{BlockId}
use Rattle.az_base.specs.declared.misuse.Misuse.{Misuse}
use Rattle.az_base.specs.declared.misuse.Misuse.TheVariants as misuse
use Rattle.az_base.specs.declared.word.Class.TheVariants as class
use Rattle.az_base.specs.Ids.{id_of}
use Rattle.block_layouts.specs.declared.layout.Layout.{Layout}
use Rattle.block_layouts.specs.Layouts.{len_of, quanta}
use Rattle.zone_model.specs.declared.call.Call.TheVariants as call
use Rattle.zone_model.specs.declared.entry.Reply.TheVariants as reply
use Rattle.zone_model.specs.State.{State}
use Rattle.zone_model.specs.Effect.{with_new}
use Rattle.zone_model.specs.Misuses.{Named, pass_place, first_of, misuse_of, is_overfull}
use Rattle.zone_model.specs.Quanta.{is_born_escaped}
use Rattle.zone_model.specs.Step.{seen_now}
use Rattle.zone_model.proofs.Steps.{step_plain}
use Rattle.shared_heap.specs.Shared.{Shared, with_birth}
use Rattle.shared_heap.specs.Stands.{Stands}
use Rattle.shared_heap.specs.Steps.{Runs, Stepped, next_id}
use Rattle.shared_heap.specs.Words.{is_past, is_other, passes_past, passes_other, birth_misuse}
use Rattle.shared_heap.proofs.Standing.{birth_stands, seen_stands}
use Rattle.shared_heap.proofs.Stepping.{misused}
use Rattle.shared_heap.proofs.Sums.{full_stands}

-- a test of the words that actions pass
any_passed : (layout : Layout) (p : Named → Bool) (actions : List Action)
    → list_any p (map (λ at. record { layout = layout; at = at; class = class.Strong }) (filter_map pass_place actions)) ≡ list_any (λ a. option_map_or (λ at. p (record { layout = layout; at = at; class = class.Strong })) (pass_place a) false) actions
any_passed layout p [] = refl
any_passed layout p (action.Keep g ∷ actions) = any_passed layout p actions
any_passed layout p (action.Pass g at ∷ actions) = ap (λ b. p (record { layout = layout; at = at; class = class.Strong }) || b) (any_passed layout p actions)

none_next : (z : State) (t : ℕ) → (z.serials t == z.options.serials) ≡ is_none (next_id z t)
none_next z t = go (z.serials t == z.options.serials)
  where
    go : (b : Bool) → b ≡ is_none (cond b None (Some (id_of t (z.serials t))))
    go true = refl
    go false = refl

next_is : (z : State) (t : ℕ) (id : BlockId) → Some id ≡ next_id z t → id ≡ id_of t (z.serials t)
next_is z t id e = go (z.serials t == z.options.serials) e
  where
    go : (b : Bool) → Some id ≡ cond b None (Some (id_of t (z.serials t))) → id ≡ id_of t (z.serials t)
    go true e = cc
    go false e = cc

module _ (h : Shared) (z : State) (t to : ℕ) (layout : Layout) (actions : List Action) (runs : Runs h z t) (born : is_born_escaped z t layout actions ≡ true) where
  pub birth_misuses : (id : Option BlockId) → id ≡ next_id z t → misuse_of z t (call.New to layout actions) (λ _. false) ≡ birth_misuse h id layout actions
  birth_misuses id is =
      let listed : Bool → Bool → Bool → Bool → Option Misuse = λ a b c d. first_of ((a, misuse.NoWord) ∷ (b, misuse.WrongClass) ∷ (c, misuse.SerialsUsed) ∷ (d, misuse.ZoneFull) ∷ []) in
      let more = quanta (len_of layout) in
      ap (λ a. listed a (list_any is_other (map (λ at. record { layout = layout; at = at; class = class.Strong }) (filter_map pass_place actions))) (z.serials t == z.options.serials) (is_born_escaped z t layout actions && is_overfull z more)) (any_passed layout is_past actions)
      ∙ ap (λ b. listed (list_any (passes_past layout) actions) b (z.serials t == z.options.serials) (is_born_escaped z t layout actions && is_overfull z more)) (any_passed layout is_other actions)
      ∙ ap (λ c. listed (list_any (passes_past layout) actions) (list_any (passes_other layout) actions) c (is_born_escaped z t layout actions && is_overfull z more)) (none_next z t ∙ sym (ap is_none is))
      ∙ ap (λ d. listed (list_any (passes_past layout) actions) (list_any (passes_other layout) actions) (is_none id) d) (ap (λ b. b && is_overfull z more) born ∙ full_stands h z more runs.stands)

  pub birth_misused : (id : Option BlockId) (m : Misuse) → id ≡ next_id z t → birth_misuse h id layout actions ≡ Some m → Stepped h z t (call.New to layout actions) (reply.Misuse m)
  birth_misused id m is wrong = misused h z t (call.New to layout actions) m runs (λ id n. n) (birth_misuses id is ∙ wrong)

  pub birth_step : (new : Shared) (id : BlockId) → Some id ≡ next_id z t → birth_misuse h (Some id) layout actions ≡ None → new ≡ with_birth h t id layout actions → Stepped new z t (call.New to layout actions) (reply.Block (Some id))
  birth_step new id is right made =
      let mid = with_new z t to layout actions in
      let next : id ≡ id_of t (z.serials t) = next_is z t id is in
      let stands : Stands new mid = rw (made, next) (birth_stands h z t to layout actions born runs.stands) in
      (seen_now mid, step_plain z _ (seen_now mid) runs.running (λ id n. n) (birth_misuses (Some id) is ∙ right) (mid, (ap Some next, refl), refl), seen_stands new mid stands)
