-- What a count says of an unescaped block, and the calls that the heap makes on counts
use Rattle.std.proofs.Common.{◌≡◌, ℕ, ◌==◌, zero, suc, Bool, true, false, cond, [], ◌∷◌, Option, Some, None, is_none, refl, sym, ap, ◌∙◌, arith}
use Rattle.std.proofs.lemmas.Bool.Decides.{nat_tests}
use Rattle.std.specs.Option.{option_map_or, unwrap_or}
use Rattle.std.specs.FinMap.{FinMap, get}
use Rattle.az_base.specs.declared.block_id.BlockId.{BlockId}
use Rattle.az_base.specs.declared.misuse.Misuse.{Misuse}
use Rattle.az_base.specs.declared.misuse.Misuse.TheVariants as misuse
use Rattle.az_base.specs.declared.options.Options.{Options}
use Rattle.az_base.specs.Ids.{id_cmp}
use Rattle.zone_model.specs.declared.call.Call.{Call}
use Rattle.zone_model.specs.declared.call.Call.TheVariants as call
use Rattle.zone_model.specs.declared.entry.Reply.{Reply}
use Rattle.zone_model.specs.declared.entry.Reply.TheVariants as reply
use Rattle.zone_model.specs.State.{State, is_own}
use Rattle.zone_model.specs.State as state
use Rattle.zone_model.specs.Escape.{with_escaped}
use Rattle.zone_model.specs.Misuses.{first_of, misuse_of, is_overfull}
use Rattle.zone_model.specs.Part.{is_in}
use Rattle.zone_model.specs.Quanta.{quanta_needed}
use Rattle.zone_model.proofs.PartEffects.{out_not_own}
use Rattle.zone_model.proofs.PartNeeds.{in_part}
use Rattle.zone_model.specs.Step.{seen_now}
use Rattle.zone_model.proofs.Steps.{step_plain}
use Rattle.shared_heap.specs.Retained.{retain_misuse, after_retain, after_release}
use Rattle.shared_heap.specs.Shared.{Shared}
use Rattle.shared_heap.specs.Stands.{Stands}
use Rattle.shared_heap.specs.Steps as shared
use Rattle.shared_heap.proofs.Standing.{seen_stands}
use Rattle.local_set.specs.LocalSets.{LocalSet, part_in}
use Rattle.escape_plan.specs.Together.{Together}
use Rattle.zone_escape.specs.Making.{CanMake}
use Rattle.zone_escape.proofs.Shown.{part, held, running}

-- the unescaped block of the thread
pub own_block : (l : LocalSet) (v : Option BlockId) → option_map_or (is_in (part_in l)) v false ≡ true → (id : BlockId) × (v ≡ Some id) × (is_in (part_in l) id ≡ true)
own_block l None own = cc
own_block l (Some id) own = (id, refl, own)

module _ (l : LocalSet) (h : Shared) (c : Call) (can : CanMake l h c) (reg : ℕ) (b : BlockId) (holds : (part_in l).registers reg ≡ Some b) (mine : is_in (part_in l) b ≡ true) (z : State) (t : Together l h z) where
  in_register : z.registers l.thread reg ≡ Some b
  in_register = sym (held l h c can z t reg ((part_in l).registers reg) refl) ∙ holds

  -- it has count 0
  no_count : state.count_of z b ≡ 0
  no_count = go (state.count_of z b) refl
    where
      own : is_own z l.thread b ≡ true
      own = sym (in_part z l.thread b) ∙ ap (λ p. is_in p b) (sym (part l h c can z t)) ∙ mine

      go : (n : ℕ) → state.count_of z b ≡ n → n ≡ 0
      go zero e = refl
      go (suc n) e = let differ : false ≡ true = sym (out_not_own z l.thread b (t.heap.sound.names.counts b (omega (arith, e)))) ∙ own in cc (differ)

  pub own_release : misuse_of z l.thread (call.Release reg) (λ _. false) ≡ Some misuse.OverRelease
  own_release = ap listed in_register ∙ ap (λ n. cond (n == 0) (Some misuse.OverRelease) None) no_count
    where
      listed : Option BlockId → Option Misuse
      listed o = first_of ((is_none o, misuse.NullBlock) ∷ (option_map_or (λ q. state.count_of z q == 0) o false, misuse.OverRelease) ∷ [])

  own_counts : misuse_of z l.thread (call.Count reg) (λ _. false) ≡ None
  own_counts = ap (λ o. cond (is_none o) (Some misuse.NullBlock) None) in_register

  pub own_counted : shared.Stepped h z l.thread (call.Count reg) (reply.Number 0)
  own_counted = (
    seen_now z,
    step_plain z _ (seen_now z) (running l h c can z t) (λ q n. n) own_counts (z, (sym (ap (λ o. option_map_or (λ q. state.count_of z q) o 0) in_register ∙ no_count), refl), refl),
    seen_stands h z t.heap.stands,
  )

  -- a `retain` is a misuse where no count may be positive
  own_listed : (need : BlockId → Bool) → misuse_of z l.thread (call.Retain reg) need ≡ cond (state.count_of z b == z.options.counts) (Some misuse.CountFull) (cond (is_overfull z (quanta_needed z need)) (Some misuse.ZoneFull) None)
  own_listed need = ap (λ o. listed o (is_overfull z (quanta_needed z need))) in_register
    where
      listed : Option BlockId → Bool → Option Misuse
      listed o full = first_of ((is_none o, misuse.NullBlock) ∷ (option_map_or (λ q. state.count_of z q == z.options.counts) o false, misuse.CountFull) ∷ (full, misuse.ZoneFull) ∷ [])

  pub own_full : (need : BlockId → Bool) → z.options.counts ≡ 0 → misuse_of z l.thread (call.Retain reg) need ≡ Some misuse.CountFull
  own_full need none = own_listed need ∙ ap (λ b. cond b (Some misuse.CountFull) (cond (is_overfull z (quanta_needed z need)) (Some misuse.ZoneFull) None)) (same z.options.counts (state.count_of z b) no_count none)
    where
      same : (limit n : ℕ) → n ≡ 0 → limit ≡ 0 → (n == limit) ≡ true
      same limit n e h = grind (arith, nat_tests)

  few_counts : (z.options.counts ≡ 0 → ⊥) → (state.count_of z b == z.options.counts) ≡ false
  few_counts some = few z.options.counts (state.count_of z b) no_count some
    where
      few : (limit n : ℕ) → n ≡ 0 → (limit ≡ 0 → ⊥) → (n == limit) ≡ false
      few zero n e h = absurd (h refl)
      few (suc limit) n e h = grind (arith, nat_tests)

  pub own_retain : (need : BlockId → Bool) → (z.options.counts ≡ 0 → ⊥) → misuse_of z l.thread (call.Retain reg) need ≡ cond (is_overfull z (quanta_needed z need)) (Some misuse.ZoneFull) None
  own_retain need some = own_listed need ∙ ap (λ b. cond b (Some misuse.CountFull) (cond (is_overfull z (quanta_needed z need)) (Some misuse.ZoneFull) None)) (few_counts some)

  -- the heap counts it after its escape
  pub raises : (g : Shared) (need : BlockId → Bool) (v : Option BlockId) → v ≡ (part_in l).registers reg → (z.options.counts ≡ 0 → ⊥) → Stands g (with_escaped z need) → retain_misuse g v ≡ None
  raises g need v is some stands =
      ap (retain_misuse g) (is ∙ holds)
      ∙ ap (λ (m : FinMap id_cmp ℕ). cond (unwrap_or (get m b) 0 == g.options.counts) (Some misuse.CountFull) None) (sym stands.counts)
      ∙ ap (λ (o : Options). cond (state.count_of z b == o.counts) (Some misuse.CountFull) None) (sym stands.options) ∙ ap (λ b. cond b (Some misuse.CountFull) None) (few_counts some)

-- a change of a count leaves the holds, the room for an escape and the options
pub retain_holds : (h : Shared) (a : Option BlockId) (room : ℕ) (r : Reply) → (after_retain h a room r).holds ≡ h.holds
retain_holds h None room r = refl
retain_holds h (Some id) room (reply.Number n) = refl
retain_holds h (Some id) room _ = refl

pub retain_room : (h : Shared) (a : Option BlockId) (room : ℕ) (r : Reply) → (after_retain h a room r).room ≡ h.room
retain_room h None room r = refl
retain_room h (Some id) room (reply.Number n) = refl
retain_room h (Some id) room _ = refl

pub retain_options : (h : Shared) (a : Option BlockId) (room : ℕ) (r : Reply) → (after_retain h a room r).options ≡ h.options
retain_options h None room r = refl
retain_options h (Some id) room (reply.Number n) = refl
retain_options h (Some id) room _ = refl

pub release_holds : (h : Shared) (a : Option BlockId) (r : Reply) → (after_release h a r).holds ≡ h.holds
release_holds h None r = refl
release_holds h (Some id) (reply.Number n) = refl
release_holds h (Some id) _ = refl

pub release_room : (h : Shared) (a : Option BlockId) (r : Reply) → (after_release h a r).room ≡ h.room
release_room h None r = refl
release_room h (Some id) (reply.Number n) = refl
release_room h (Some id) _ = refl

pub release_options : (h : Shared) (a : Option BlockId) (r : Reply) → (after_release h a r).options ≡ h.options
release_options h None r = refl
release_options h (Some id) (reply.Number n) = refl
release_options h (Some id) _ = refl
