-- The calls on counts are steps, and keep the counts within their limit
use Rattle.std.proofs.Common.{◌≡◌, ◌≢◌, ℕ, ◌+◌, ◌-◌, ◌≤◌, ◌==◌, [], ◌∷◌, Bool, true, false, cond, Option, Some, None, Result, Ok, Err, IsSome, IfSome, is_none, zero, suc, refl, sym, ap, subst, ◌∙◌, arith}
use Rattle.std.proofs.lemmas.Bool.Decides.{nat_tests}
use Rattle.std.specs.Option.{option_map_or, unwrap_or}
use Rattle.std.specs.Result.{IfOk, OnErr}
use Rattle.std.specs.FinMap.{FinMap, empty, get, get-empty, get-insert, get-remove}
use Rattle.az_base.specs.declared.block_id.BlockId.{BlockId}
use Rattle.az_base.specs.declared.misuse.Misuse.{Misuse}
use Rattle.az_base.specs.declared.misuse.Misuse.TheVariants as misuse
use Rattle.az_base.specs.declared.options.Options.{Options}
use Rattle.az_base.specs.Ids.{id_cmp, same_id, ids_total}
use Rattle.retain_table.specs.Counted.{Counted, with_count}
use Rattle.retain_table.specs.Counted as table
use Rattle.retain_table.specs.declared.refused.Raise.{Raise}
use Rattle.zone_model.specs.declared.call.Call.{Call}
use Rattle.zone_model.specs.declared.call.Call.TheVariants as call
use Rattle.zone_model.specs.declared.entry.Reply.{Reply}
use Rattle.zone_model.specs.declared.entry.Reply.TheVariants as reply
use Rattle.az_base.specs.WithValue.{with_value}
use Rattle.zone_model.specs.State.{State, positive_count, with_register}
use Rattle.zone_model.specs.State as state
use Rattle.zone_model.specs.Escape.{Need, EscOf}
use Rattle.zone_model.specs.Effect.{count_in, with_count_in}
use Rattle.zone_model.specs.Misuses.{first_of, misuse_of, is_overfull}
use Rattle.zone_model.specs.Quanta.{quanta_needed}
use Rattle.zone_model.specs.Step.{seen_now}
use Rattle.zone_model.proofs.Steps.{step_plain}
use Rattle.shared_heap.specs.Ready.{Ready}
use Rattle.shared_heap.specs.Retained.{count_of, count_at, retain_misuse, release_misuse, count_misuse, take_misuse, recounted, after_retain, after_release}
use Rattle.block_table.specs.Table.{used_by}
use Rattle.shared_heap.specs.Shared.{Shared}
use Rattle.shared_heap.specs.Stands.{Stands, EscapedClosed}
use Rattle.shared_heap.specs.Steps.{Runs, Stepped}
use Rattle.shared_heap.specs.Words.{reply_or}
use Rattle.shared_heap.proofs.Standing.{seen_stands, register_stands}
use Rattle.shared_heap.proofs.Stepping.{misused, none_escape}
use Rattle.shared_heap.proofs.Sums.{not_full}

-- no count is above the limit
abbrev pub IsBelow : FinMap id_cmp ℕ → ℕ → Type 0
IsBelow m limit = (q : BlockId) → unwrap_or (get m q) 0 ≤ limit

pub below_empty : (m : FinMap id_cmp ℕ) (limit : ℕ) → m ≡ empty → IsBelow m limit
below_empty m limit is q =
    let zero_there : unwrap_or (get m q) 0 ≡ 0 = ap (λ (o : Option ℕ). unwrap_or o 0) (ap (λ n. get n q) is ∙ get-empty id_cmp q) in
    omega arith

pub below_with : (m : FinMap id_cmp ℕ) (id : BlockId) (n limit : ℕ) → n ≤ limit → IsBelow m limit → IsBelow (with_count m id n) limit
below_with m id zero limit h below q = subst (λ (o : Option ℕ). unwrap_or o 0 ≤ limit) (sym (get-remove ids_total m id q)) (at (same_id q id))
  where
    at : (b : Bool) → unwrap_or (cond b None (get m q)) 0 ≤ limit
    at true = omega arith
    at false = below q
below_with m id (suc n) limit h below q = subst (λ (o : Option ℕ). unwrap_or o 0 ≤ limit) (sym (get-insert ids_total m id (suc n) q)) (at (same_id q id))
  where
    at : (b : Bool) → unwrap_or (cond b (Some (suc n)) (get m q)) 0 ≤ limit
    at true = h
    at false = below q

-- after a count was to rise, or to fall
pub below_raised : (r : Result ℕ Raise) (old new : Counted) (id : BlockId) (limit : ℕ) → IfOk r (λ n. (n ≡ table.count_of old.counts id + 1) × (n ≤ limit)) → IfOk r (λ n. new.counts ≡ with_count old.counts id n) → OnErr r (new ≡ old)
    → IsBelow old.counts limit → IsBelow new.counts limit
below_raised (Ok n) old new id limit answer counts err below = subst (λ m. IsBelow m limit) (sym counts) (below_with old.counts id n limit answer.1 below)
below_raised (Err e) old new id limit answer counts err below = subst (λ (c : Counted). IsBelow c.counts limit) (sym err) below

pub below_lowered : {E : Type 0} (r : Result ℕ E) (old new : Counted) (id : BlockId) (limit : ℕ) → IfOk r (λ n. n + 1 ≡ table.count_of old.counts id) → IfOk r (λ n. new.counts ≡ with_count old.counts id n) → OnErr r (new ≡ old)
    → IsBelow old.counts limit → IsBelow new.counts limit
below_lowered (Ok n) old new id limit answer counts err below = let most = below id in subst (λ m. IsBelow m limit) (sym counts) (below_with old.counts id n limit (omega arith) below)
below_lowered (Err e) old new id limit answer counts err below = subst (λ (c : Counted). IsBelow c.counts limit) (sym err) below

-- a heap with another count
counted_stands : (h : Shared) (z : State) (id : BlockId) (n : ℕ) (ready : Ready) → Stands h z → Stands (record (recounted h id n) { ready = ready }) (state.with_count z id n)
counted_stands h z id n ready s = record { options = s.options; blocks = s.blocks; roots = s.roots; counts = ap (λ m. with_value m id (positive_count n)) s.counts; assocs = s.assocs; weak = s.weak; cycle = s.cycle }

-- a misuse that left the heap as it was
left : (h new : Shared) (z : State) (t : ℕ) (c : Call) (m : Misuse) → Runs h z t → ((id : BlockId) → Need z t c id → ⊥) → misuse_of z t c (λ _. false) ≡ Some m → new ≡ h → Stepped new z t c (reply.Misuse m)
left h new z t c m runs none wrong same = subst (λ k. Stepped k z t c (reply.Misuse m)) (sym same) (misused h z t c m runs none wrong)

module _ (h new : Shared) (z : State) (t reg : ℕ) (runs : Runs h z t) where
  -- counts are those of the state
  counts_stand : (id : BlockId) → state.count_of z id ≡ count_of h id
  counts_stand id = ap (λ (m : FinMap id_cmp ℕ). unwrap_or (get m id) 0) runs.stands.counts

  count_stands : (a : Option BlockId) → z.registers t reg ≡ a → count_in z t reg ≡ count_at h a
  count_stands a holds = ap (λ o. option_map_or (λ b. state.count_of z b) o 0) holds ∙ go a
    where
      go : (a : Option BlockId) → option_map_or (λ b. state.count_of z b) a 0 ≡ count_at h a
      go None = refl
      go (Some id) = counts_stand id

  -- the misuses
  count_misuses : (a : Option BlockId) → z.registers t reg ≡ a → misuse_of z t (call.Count reg) (λ _. false) ≡ count_misuse a
  count_misuses a holds = ap (λ o. cond (is_none o) (Some misuse.NullBlock) None) holds ∙ go a
    where
      go : (a : Option BlockId) → cond (is_none a) (Some misuse.NullBlock) None ≡ count_misuse a
      go None = refl
      go (Some id) = refl

  release_misuses : (a : Option BlockId) → z.registers t reg ≡ a → misuse_of z t (call.Release reg) (λ _. false) ≡ release_misuse h a
  release_misuses a holds = ap listed holds ∙ go a
    where
      listed : Option BlockId → Option Misuse
      listed o = first_of ((is_none o, misuse.NullBlock) ∷ (option_map_or (λ b. state.count_of z b == 0) o false, misuse.OverRelease) ∷ [])

      go : (a : Option BlockId) → listed a ≡ release_misuse h a
      go None = refl
      go (Some id) = ap (λ n. cond (n == 0) (Some misuse.OverRelease) None) (counts_stand id)

  retain_misuses : (a : Option BlockId) → used_by h.blocks ≤ h.options.heap_quanta → z.registers t reg ≡ a → misuse_of z t (call.Retain reg) (λ _. false) ≡ retain_misuse h a
  retain_misuses a fits holds = ap (λ o. listed o (is_overfull z (quanta_needed z (λ _. false)))) holds ∙ ap (listed a) (not_full h z runs.stands fits) ∙ go a
    where
      listed : Option BlockId → Bool → Option Misuse
      listed o full = first_of ((is_none o, misuse.NullBlock) ∷ (option_map_or (λ b. state.count_of z b == z.options.counts) o false, misuse.CountFull) ∷ (full, misuse.ZoneFull) ∷ [])

      go : (a : Option BlockId) → listed a false ≡ retain_misuse h a
      go None = refl
      go (Some id) = ap (λ n. cond (n == z.options.counts) (Some misuse.CountFull) None) (counts_stand id) ∙ ap (λ (o : Options). cond (count_of h id == o.counts) (Some misuse.CountFull) None) runs.stands.options

  -- the steps
  pub count_step : (id : BlockId) (n : ℕ) → z.registers t reg ≡ Some id → n ≡ count_of h id → Stepped h z t (call.Count reg) (reply.Number n)
  count_step id n holds is =
      (seen_now z, step_plain z _ (seen_now z) runs.running (λ id n. n) (count_misuses (Some id) holds) (z, (is ∙ sym (count_stands (Some id) holds), refl), refl), seen_stands h z runs.stands)

  pub count_misused : z.registers t reg ≡ None → Stepped h z t (call.Count reg) (reply.Misuse misuse.NullBlock)
  count_misused holds = misused h z t (call.Count reg) misuse.NullBlock runs (λ id n. n) (count_misuses None holds)

  -- the state with the new count
  recounted_stands : (id : BlockId) (n : ℕ) (ready : Ready) → z.registers t reg ≡ Some id → new ≡ record (recounted h id n) { ready = ready } → Stands new (with_count_in z t reg n)
  recounted_stands id n ready holds is = rw (is, holds) (counted_stands h z id n ready runs.stands)

  release_step : (id : BlockId) (n : ℕ) → z.registers t reg ≡ Some id → release_misuse h (Some id) ≡ None → n + 1 ≡ count_of h id → new ≡ recounted h id n → Stepped new z t (call.Release reg) (reply.Number n)
  release_step id n holds right falls is =
      let mid = with_count_in z t reg n in
      (seen_now mid, step_plain z _ (seen_now mid) runs.running (λ id n. n) (release_misuses (Some id) holds ∙ right) (mid, (falls ∙ sym (count_stands (Some id) holds), refl), refl), seen_stands new mid (recounted_stands id n h.ready holds is))

  pub release_any : (a : Option BlockId) (r : Reply) → z.registers t reg ≡ a → r ≡ reply_or (release_misuse h a) (reply.Number (count_at h a - 1)) → new ≡ after_release h a r → Stepped new z t (call.Release reg) r
  release_any None r holds says is =
      subst (λ r. Stepped new z t (call.Release reg) r) (sym says) (left h new z t (call.Release reg) misuse.NullBlock runs (λ id n. n) (release_misuses None holds) is)
  release_any (Some id) r holds says is = go (count_of h id == 0) refl says
    where
      one_less : (n : ℕ) → (n == 0) ≡ false → n - 1 + 1 ≡ n
      one_less n e = grind (arith, nat_tests)

      go : (b : Bool) → (count_of h id == 0) ≡ b → r ≡ reply_or (cond b (Some misuse.OverRelease) None) (reply.Number (count_of h id - 1)) → Stepped new z t (call.Release reg) r
      go true e f =
          subst (λ r. Stepped new z t (call.Release reg) r) (sym f) (left h new z t (call.Release reg) misuse.OverRelease runs (λ id n. n) (release_misuses (Some id) holds ∙ ap (λ b. cond b (Some misuse.OverRelease) None) e) (is ∙ ap (after_release h (Some id)) f))
      go false e f =
          subst (λ r. Stepped new z t (call.Release reg) r) (sym f) (release_step id (count_of h id - 1) holds (ap (λ b. cond b (Some misuse.OverRelease) None) e) (one_less (count_of h id) e) (is ∙ ap (after_release h (Some id)) f))

  module _ (sound : EscapedClosed z) (fits : used_by h.blocks ≤ h.options.heap_quanta) where
    retain_needs : (a : Option BlockId) → IfSome a (λ b. IsSome (get h.blocks b)) → z.registers t reg ≡ a → (id : BlockId) → Need z t (call.Retain reg) id → ⊥
    retain_needs a there holds id n = none_escape h z a runs.stands sound there id (subst (λ v. EscOf z v id) holds n)

    retain_step : (id : BlockId) (n room : ℕ) → IsSome (get h.blocks id) → z.registers t reg ≡ Some id → retain_misuse h (Some id) ≡ None → n ≡ count_of h id + 1 → new ≡ after_retain h (Some id) room (reply.Number n)
        → Stepped new z t (call.Retain reg) (reply.Number n)
    retain_step id n room there holds right rises is =
        let mid = with_count_in z t reg n in (
          seen_now mid,
          step_plain z _ (seen_now mid) runs.running (retain_needs (Some id) there holds) (retain_misuses (Some id) fits holds ∙ right) (mid, (rises ∙ ap (λ k. k + 1) (sym (count_stands (Some id) holds)), refl), refl),
          seen_stands new mid (recounted_stands id n (record h.ready { counts = room }) holds is),
        )

    pub retain_any : (a : Option BlockId) (room : ℕ) (r : Reply) → IfSome a (λ b. IsSome (get h.blocks b)) → z.registers t reg ≡ a → r ≡ reply_or (retain_misuse h a) (reply.Number (count_at h a + 1)) → new ≡ after_retain h a room r
        → Stepped new z t (call.Retain reg) r
    retain_any None room r there holds says is =
        subst (λ r. Stepped new z t (call.Retain reg) r) (sym says) (left h new z t (call.Retain reg) misuse.NullBlock runs (retain_needs None there holds) (retain_misuses None fits holds) is)
    retain_any (Some id) room r there holds says is = go (count_of h id == h.options.counts) refl says
      where
        go : (b : Bool) → (count_of h id == h.options.counts) ≡ b → r ≡ reply_or (cond b (Some misuse.CountFull) None) (reply.Number (count_of h id + 1)) → Stepped new z t (call.Retain reg) r
        go true e f =
            subst (λ r. Stepped new z t (call.Retain reg) r) (sym f) (left h new z t (call.Retain reg) misuse.CountFull runs (retain_needs (Some id) there holds) (retain_misuses (Some id) fits holds ∙ ap (λ b. cond b (Some misuse.CountFull) None) e) (is ∙ ap (after_retain h (Some id) room) f))
        go false e f =
            subst (λ r. Stepped new z t (call.Retain reg) r) (sym f) (retain_step id (count_of h id + 1) room there holds (ap (λ b. cond b (Some misuse.CountFull) None) e) refl (is ∙ ap (after_retain h (Some id) room) f))

-- a block is taken by its id
take_misuses : (h : Shared) (z : State) (t to : ℕ) (id : BlockId) → Stands h z → misuse_of z t (call.Take to id) (λ _. false) ≡ take_misuse h id
take_misuses h z t to id s = ap (λ (m : FinMap id_cmp ℕ). cond (unwrap_or (get m id) 0 == 0) (Some misuse.NotHeld) None) s.counts

pub take_misused : (h : Shared) (z : State) (t to : ℕ) (id : BlockId) (n : ℕ) → Runs h z t → n ≡ count_of h id → n ≡ 0 → Stepped h z t (call.Take to id) (reply.Misuse misuse.NotHeld)
take_misused h z t to id n runs is nothing =
    misused h z t (call.Take to id) misuse.NotHeld runs (λ id n. n) (take_misuses h z t to id runs.stands ∙ ap (λ k. cond (k == 0) (Some misuse.NotHeld) None) (sym is ∙ nothing))

pub take_step : (h new : Shared) (z : State) (t to : ℕ) (id : BlockId) (n : ℕ) → Runs h z t → n ≡ count_of h id → n ≢ 0 → Stands new z → Stepped new z t (call.Take to id) (reply.Block (Some id))
take_step h new z t to id n runs is some s =
    let mid = with_register z t to (Some id) in (
      seen_now mid,
      step_plain z _ (seen_now mid) runs.running (λ id n. n) (take_misuses h z t to id runs.stands ∙ ap (λ k. cond (k == 0) (Some misuse.NotHeld) None) (sym is) ∙ ap (λ b. cond b (Some misuse.NotHeld) None) (positive n some)) (mid, (refl, refl), refl),
      seen_stands new mid (register_stands new z t to (Some id) s),
    )
  where
    positive : (n : ℕ) → n ≢ 0 → (n == 0) ≡ false
    positive n h = grind (arith, nat_tests)
