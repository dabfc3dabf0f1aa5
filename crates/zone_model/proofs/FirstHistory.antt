-- The history of the first script, and its twin that reclaims nothing
use Rattle.std.proofs.Common.{◌≡◌, ◌+◌, ◌==◌, nat_lt, Bool, true, false, cond, ◌&&◌, ◌||◌, [], ◌∷◌, Some, None, refl, sym, ap, ◌∙◌, subst, IsTrue, is_none}
use Rattle.std.specs.Option.{option_map_or}
use Rattle.std.specs.List.Sorted.{IsStrictlySortedBy}
use Rattle.std.specs.declared.cmp.Ordering.{Ordering}
use Rattle.std.specs.declared.cmp.Ordering.TheVariants.{Less, Equal, Greater}
use Rattle.std.specs.Ordering.{is_eq}
use Rattle.az_base.specs.declared.block_id.BlockId.{BlockId}
use Rattle.az_base.specs.declared.misuse.Misuse.TheVariants as misuse
use Rattle.block_layouts.specs.declared.layout.Layout.{Layout}
use Rattle.block_layouts.specs.declared.layout.Shape.TheVariants as shape
use Rattle.az_base.specs.Ids.{id_cmp, same_id, ids_total, exact_ids}
use Rattle.block_layouts.specs.Layouts.{quanta, len_of}
use Rattle.az_base.specs.OptionRanges.{usual_options}
use Rattle.zone_model.specs.declared.call.Call.TheVariants as call
use Rattle.zone_model.specs.declared.entry.Reply.TheVariants as reply
use Rattle.zone_model.proofs.MapLaws.{total-empty}
use Rattle.zone_model.specs.State.{State, Block, opening, is_own, with_block, with_register, with_next_serial, without_blocks}
use Rattle.zone_model.specs.Worked.{first_thread, ids, first_block, new_entry, first_history}
use Rattle.zone_model.specs.Quanta.{is_born_escaped}
use Rattle.zone_model.specs.Misuses.{misuse_of, is_overfull}
use Rattle.zone_model.specs.Collection.{Lists, Leaves, with_end}
use Rattle.zone_model.specs.Effect.{with_new}
use Rattle.zone_model.specs.Step.{Step, seen_now}
use Rattle.zone_model.specs.History.{Legal}
use Rattle.zone_model.specs.Part.{own_block}
use Rattle.zone_model.proofs.Ones.{get-one}
use Rattle.zone_model.proofs.Steps.{step_plain, plain_happens}

-- a zone that thread 1 begins with a block of its own, in register 0
abbrev pub first_zone : Layout → State
first_zone l = with_register (with_next_serial (with_block (opening usual_options) first_block (own_block l)) 1) 1 0 (Some first_block)

-- the block fits into the local quanta
abbrev pub IsSmall : Layout → Type 0
IsSmall l = nat_lt 65536 (0 + quanta (len_of l)) ≡ false

not_born : (l : Layout) → IsSmall l → is_born_escaped (opening usual_options) 1 l [] ≡ false
not_born l small = ap (λ n. nat_lt 65536 (n + quanta (len_of l))) (total-empty id_cmp _) ∙ small

new_right : (l : Layout) → IsSmall l → misuse_of (opening usual_options) 1 (call.New 0 l []) (λ _. false) ≡ None
new_right l small = ap (λ b. cond (b && is_overfull (opening usual_options) (quanta (len_of l))) (Some misuse.ZoneFull) None) (not_born l small)

new_state : (l : Layout) → IsSmall l → with_new (opening usual_options) 1 0 l [] ≡ first_zone l
new_state l small = ap (λ b. with_register (with_next_serial (with_block (opening usual_options) first_block (record (own_block l) { since = cond b (Some 0) None })) 1) 1 0 (Some first_block)) (not_born l small)

pub new_step : (l : Layout) → IsSmall l → Step (opening usual_options) (new_entry l) (first_zone l)
new_step l small = step_plain (opening usual_options) (new_entry l) (first_zone l) refl (λ id n. n) (new_right l small) (first_zone l, (refl, sym (new_state l small)), refl)

pub new_only : (l : Layout) → IsSmall l → (after : State) → Step (opening usual_options) (new_entry l) after → after ≡ first_zone l
new_only l small after step =
    let happens = plain_happens (opening usual_options) (new_entry l) after step (λ id n. n) (new_right l small) in
    let mid : happens.0 ≡ first_zone l = happens.1.1 ∙ new_state l small in
    happens.2 ∙ ap seen_now mid

and_false : (a : Bool) → (a && false) ≡ false
and_false true = refl
and_false false = refl

pub or_false : (a : Bool) → (a || false) ≡ a
or_false true = refl
or_false false = refl

-- the one block is the thread's own
pub own_in_1 : (l : Layout) (q : BlockId) → is_own (first_zone l) 1 q ≡ same_id q first_block
own_in_1 l q =
    ap (λ o. (q.thread == 1) && option_map_or (λ (b : Block). is_none b.since) o false) (get-one ids_total exact_ids first_block (own_block l) q)
    ∙ by_order (id_cmp q first_block) refl
  where
    by_order : (r : Ordering) → id_cmp q first_block ≡ r → ((q.thread == 1) && option_map_or (λ (b : Block). is_none b.since) (cond (is_eq r) (Some (own_block l)) None) false) ≡ is_eq r
    by_order Less e = and_false (q.thread == 1)
    by_order Equal e = ap (λ (x : BlockId). (x.thread == 1) && true) (exact_ids q first_block e)
    by_order Greater e = and_false (q.thread == 1)

pub lists_one : (P : BlockId → Type 0) (x : BlockId) → ((q : BlockId) → IsTrue (same_id q x) → P q) → ((q : BlockId) → P q → IsTrue (same_id q x)) → Lists (x ∷ []) P
unfolding IsStrictlySortedBy
lists_one P x there back = ((tt, tt), λ q. (λ h. there q (sym (or_false (same_id q x)) ∙ h), λ p. or_false (same_id q x) ∙ back q p))

abbrev last_zone : State
last_zone = with_end (without_blocks (first_zone (shape.Scanned 2)) (first_block ∷ [])) 1

pub first_history_is_legal : Legal usual_options (first_history (first_block ∷ []))
first_history_is_legal =
    let l = shape.Scanned 2 in
    let leaves : Leaves (first_zone l) 1 (first_block ∷ []) last_zone = record {
      no_cycle = λ c h. cc (h.0);
      gone_ones = lists_one _ first_block (λ q h. own_in_1 l q ∙ h) (λ q p. sym (own_in_1 l q) ∙ p);
      does = refl;
    } in
    (last_zone, (first_zone l, new_step l refl, (last_zone, step_plain (first_zone l) _ last_zone refl (λ id n. n) refl (last_zone, leaves, refl), refl)))

-- without the block in the reply of its leave, it is not legal
pub first_history_must_reclaim : Legal usual_options (first_history []) → ⊥
first_history_must_reclaim legal =
    let l = shape.Scanned 2 in
    let second = subst (λ z. Step z (first_thread call.Leave (reply.Reclaimed (ids []))) legal.1.2.0) (new_only l refl legal.1.0 legal.1.1) legal.1.2.1 in
    let happens = plain_happens (first_zone l) _ _ second (λ id n. n) refl in
    let missed : false ≡ true = (happens.1.gone_ones.1 first_block).1 (own_in_1 l first_block) in
    cc (missed)
