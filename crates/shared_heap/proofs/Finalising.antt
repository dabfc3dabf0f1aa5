-- A finaliser is a step
use Rattle.std.proofs.Common.{◌≡◌, ◌&&◌, ◌==◌, ℕ, Bool, true, false, not, cond, List, [], ◌∷◌, Option, Some, None, IsSome, is_some, option_map, length, length-set, get_or, slice_get, slice_set, find, fold, refl, sym, ap, ◌∙◌, arith}
use Rattle.std.specs.Option.{option_map_or, option_and_then}
use Rattle.std.specs.List.{AllByRecursion}
use Rattle.std.specs.FinMap.{get}
use Rattle.az_base.specs.declared.action.Action.{Action}
use Rattle.az_base.specs.declared.action.Action.TheVariants as action
use Rattle.az_base.specs.declared.block_id.BlockId.{BlockId}
use Rattle.az_base.specs.Ids.{same_id}
use Rattle.zone_model.specs.declared.call.Call.TheVariants as call
use Rattle.zone_model.specs.declared.entry.Reply.TheVariants as reply
use Rattle.zone_model.specs.Collection.{actions_of, awaits, with_action, with_finalised}
use Rattle.zone_model.specs.InRange.{ActionInRange}
use Rattle.zone_model.specs.Sound.{Sound}
use Rattle.zone_model.specs.State.{State, Block, Cycle, is_nil, moment, referent, word_at, with_edit}
use Rattle.zone_model.specs.Step.{seen_now}
use Rattle.zone_model.proofs.Steps.{step_plain}
use Rattle.heap_cycle.specs.Collector.{Collecting}
use Rattle.heap_tables.specs.Running.{actions_in}
use Rattle.shared_heap.specs.Cycles.{IsNext, IsSettling, finalised, one_left_less}
use Rattle.heap_cycle.specs.Phases.{after_action}
use Rattle.shared_heap.specs.Holding.{Serves}
use Rattle.shared_heap.specs.Shared.{Shared}
use Rattle.heap_cycle.specs.Waiting.{awaits_in, waits}
use Rattle.heap_tables.specs.Standing.{kept_of, escaped_view}
use Rattle.shared_heap.specs.Stands.{Stands, SameCycle}
use Rattle.shared_heap.specs.Steps.{Stepped}
use Rattle.block_table.specs.Stored.{HeapBlock}
use Rattle.shared_heap.proofs.Collecting.{seen_same, state_cycle}
use Rattle.heap_tables.proofs.Edited.{edit_get}
use Rattle.shared_heap.proofs.Standing.{get_set}
use Rattle.shared_heap.proofs.Stepping.{same_word}

some_same : {X : Type 0} (x y : X) → Some x ≡ Some y → x ≡ y
some_same x y e = cc

-- what the state and the heap say of a block alike, where unescaped ones have no actions
module _ (h : Shared) (z : State) (s : Stands h z) (sound : Sound z) where
  pub awaits_same : (q : BlockId) → awaits z q ≡ awaits_in h.blocks q
  awaits_same q = go (get z.blocks q) refl ∙ sym (ap (λ o. option_map_or waits o false) (s.blocks q))
    where
      go : (o : Option Block) → get z.blocks q ≡ o → option_map_or (λ (b : Block). not (is_nil b.actions) && not b.finalised) (get z.blocks q) false ≡ option_map_or waits (escaped_view z.reclaims (get z.blocks q)) false
      go None e = rw e refl
      go (Some b) e = rw e (by b.since refl)
        where
          by : (v : Option ℕ) → b.since ≡ v → (not (is_nil b.actions) && not b.finalised) ≡ option_map_or waits (escaped_view z.reclaims (Some b)) false
          by None f = rw f (ap (λ a. not (is_nil a) && not b.finalised) (sound.unescaped q b e f).0)
          by (Some n) f = rw f refl

  pub actions_same_in : (q : BlockId) → actions_of z q ≡ actions_in h.blocks q
  actions_same_in q = go (get z.blocks q) refl ∙ sym (ap (λ (o : Option HeapBlock). option_map_or (λ k. k.actions) o []) (s.blocks q))
    where
      go : (o : Option Block) → get z.blocks q ≡ o → option_map_or (λ (b : Block). b.actions) (get z.blocks q) [] ≡ option_map_or (λ (k : HeapBlock). k.actions) (escaped_view z.reclaims (get z.blocks q)) []
      go None e = rw e refl
      go (Some b) e = rw e (by b.since refl)
        where
          by : (v : Option ℕ) → b.since ≡ v → b.actions ≡ option_map_or (λ (k : HeapBlock). k.actions) (escaped_view z.reclaims (Some b)) []
          by None f = rw f (sound.unescaped q b e f).0
          by (Some n) f = rw f refl

-- a finaliser changes roots alone
abbrev root_after : State → BlockId → (ℕ → Option BlockId) → Action → ℕ → Option BlockId
root_after z b roots (action.Keep g) = λ q. cond (g.0 == q) (Some b) (roots q)
root_after z b roots (action.Pass g at) = λ q. cond (g.0 == q) (referent (word_at z (Some b) at)) (roots q)

abbrev roots_after : State → BlockId → (ℕ → Option BlockId) → List Action → ℕ → Option BlockId
roots_after z b roots [] = roots
roots_after z b roots (a ∷ more) = roots_after z b (root_after z b roots a) more

folded : (z : State) (b : BlockId) (roots : ℕ → Option BlockId) (actions : List Action) → fold (with_action b) (record z { roots = roots }) actions ≡ record z { roots = roots_after z b roots actions }
folded z b roots [] = refl
folded z b roots (action.Keep g ∷ more) = folded z b (root_after z b roots (action.Keep g)) more
folded z b roots (action.Pass g at ∷ more) = folded z b (root_after z b roots (action.Pass g at)) more

-- and the heap's roots go on as the state's
module _ (h : Shared) (z : State) (b : BlockId) (s : Stands h z) (here : (at : ℕ) → word_at z (Some b) at ≡ option_map_or (λ (k : HeapBlock). slice_get k.words at) (get h.blocks b) None) where
  same_roots : (roots : List (Option BlockId)) (f : ℕ → Option BlockId) (actions : List Action) → AllByRecursion ActionInRange actions → length roots ≡ 256 → ((g : ℕ) → get_or roots g None ≡ f g)
      → (g : ℕ) → get_or (fold (after_action h.blocks b) roots actions) g None ≡ roots_after z b f actions g
  same_roots roots f [] range all same = same
  same_roots roots f (action.Keep g ∷ more) range all same =
      same_roots (slice_set roots g.0 (Some b)) (root_after z b f (action.Keep g)) more range.1 (length-set roots g.0 (Some b) ∙ all)
      (λ q. get_set roots g.0 q (Some b) None (omega (arith, range.0, all)) ∙ ap (cond (g.0 == q) (Some b)) (same q))
  same_roots roots f (action.Pass g at ∷ more) range all same =
      let v = referent (option_map_or (λ (k : HeapBlock). slice_get k.words at) (get h.blocks b) None) in
      same_roots (slice_set roots g.0 v) (root_after z b f (action.Pass g at)) more range.1 (length-set roots g.0 v ∙ all)
      (λ q. get_set roots g.0 q v None (omega (arith, range.0, all)) ∙ ap (λ w. cond (g.0 == q) (referent w) (get_or roots q None)) (sym (here at)) ∙ ap (cond (g.0 == q) (referent (word_at z (Some b) at))) (same q))

-- a search that asks the same finds the same
pub finds_same : (f g : BlockId → Bool) (xs : List BlockId) → ((x : BlockId) → f x ≡ g x) → find f xs ≡ find g xs
finds_same f g xs same = ap (λ (t : BlockId → Bool). find t xs) (λ i x. same x i)

pub found_here : (f : BlockId → Bool) (xs : List BlockId) (b : BlockId) → find f xs ≡ Some b → f b ≡ true
found_here f [] b e = cc (e)
found_here f (x ∷ xs) b e = by (f x) refl (found_here f xs b) e
  where
    by : (t : Bool) → f x ≡ t → (find f xs ≡ Some b → f b ≡ true) → cond t (Some x) (find f xs) ≡ Some b → f b ≡ true
    by true k rest e = sym (ap f (some_same x b e)) ∙ k
    by false k rest e = rest e

abbrev done : HeapBlock → HeapBlock
done k = record k { finalised = true }

abbrev done_in : Block → Block
done_in b = record b { finalised = true }

pub finalise_step : (h : Shared) (z : State) (t : ℕ) (b : BlockId) → Serves h z t → IsSettling h t → IsNext h b → length h.roots ≡ 256 → Stepped (finalised h b) z t call.Finalise (reply.Finalised b)
finalise_step h z t b s m next all =
    let found = state_cycle m.0 h.gc.cycle z.cycle s.stands.cycle m.2.0 in
    let c : Cycle = found.0 in
    let same : next.0 ≡ m.0 = some_same next.0 m.0 (sym next.2 ∙ m.2.0) in
    let r : m.1 ≡ next.1 = some_same m.1 next.1 (sym m.3 ∙ sym (ap (λ (g : Collecting). g.condemned) same) ∙ next.3) in (
      seen_now mid,
      step_plain z _ (seen_now mid) s.running (λ id n. n) refl
          (mid, (m.1, (c, (found.1, found.2.owner ∙ m.2.1), found.2.condemned ∙ m.3), finds_same (awaits z) (awaits_in h.blocks) m.1 (awaits_same h z s.stands s.sound) ∙ ap (find (awaits_in h.blocks)) r ∙ next.4, is), refl),
      after,
    )
  where
    there : IsSome (get h.blocks b)
    there = go (get h.blocks b) refl (found_here (awaits_in h.blocks) next.1 b next.4)
      where
        go : (o : Option HeapBlock) → get h.blocks b ≡ o → option_map_or waits o false ≡ true → is_some o ≡ true
        go None e h = cc (h)
        go (Some k) e h = refl

    words : (at : ℕ) → word_at z (Some b) at ≡ option_map_or (λ (k : HeapBlock). slice_get k.words at) (get h.blocks b) None
    words at = same_word h z (Some b) at s.stands there ∙ by (get h.blocks b)
      where
        by : (o : Option HeapBlock) → option_and_then (λ (k : HeapBlock). slice_get k.words at) o ≡ option_map_or (λ (k : HeapBlock). slice_get k.words at) o None
        by None = refl
        by (Some k) = refl

    actions : List Action
    actions = actions_of z b

    in_range : AllByRecursion ActionInRange actions
    in_range = go (get z.blocks b) refl
      where
        go : (o : Option Block) → get z.blocks b ≡ o → AllByRecursion ActionInRange (option_map_or (λ (x : Block). x.actions) o [])
        go None e = tt
        go (Some x) e = s.range.actions b x e

    roots : ℕ → Option BlockId
    roots = roots_after z b z.roots actions

    mid : State
    mid = with_finalised (record z { roots = roots }) b

    is : mid ≡ with_finalised (fold (with_action b) z actions) b
    is = ap (λ (y : State). with_finalised y b) (sym (folded z b z.roots actions))

    blocks : (q : BlockId) → get (with_edit h.blocks b done) q ≡ escaped_view z.reclaims (get (with_edit z.blocks b done_in) q)
    blocks q = edit_get h.blocks b done q ∙ ap (λ o. cond (same_id q b) (option_map done o) o) (s.stands.blocks q) ∙ edited (same_id q b) (get z.blocks q) ∙ sym (ap (escaped_view z.reclaims) (edit_get z.blocks b done_in q))
      where
        of_block : (x : Block) (since : Option ℕ) → x.since ≡ since → option_map done (kept_of z.reclaims x) ≡ kept_of z.reclaims (done_in x)
        of_block x None e = rw e refl
        of_block x (Some n) e = rw e refl

        edited : (t : Bool) (o : Option Block) → cond t (option_map done (escaped_view z.reclaims o)) (escaped_view z.reclaims o) ≡ escaped_view z.reclaims (cond t (option_map done_in o) o)
        edited false o = refl
        edited true None = refl
        edited true (Some x) = of_block x x.since refl

    fewer : (g : Option Collecting) (c : Option Cycle) → SameCycle g c → SameCycle (one_left_less (record { cards = []; cycle = g })).cycle c
    fewer None None k = tt
    fewer None (Some c) k = absurd k
    fewer (Some g) None k = absurd k
    fewer (Some g) (Some c) k = record { owner = k.owner; mode = k.mode; start = k.start; condemned = k.condemned; dark = k.dark }

    after : Stands (finalised h b) (seen_now mid)
    after = record {
      options = s.stands.options;
      blocks = blocks;
      roots = λ g. ap (λ acts. get_or (fold (after_action h.blocks b) h.roots acts) g None) (sym (actions_same_in h z s.stands s.sound b))
          ∙ same_roots h z b s.stands words h.roots z.roots actions in_range all s.stands.roots g;
      counts = s.stands.counts;
      assocs = s.stands.assocs;
      weak = s.stands.weak;
      cycle = seen_same (one_left_less h.gc).cycle z.cycle (moment mid) (fewer h.gc.cycle z.cycle s.stands.cycle);
    }
