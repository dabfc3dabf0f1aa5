-- The steps of the calls on associations
use Rattle.std.proofs.Common.{◌≡◌, ℕ, ◌≤◌, false, [], ◌∷◌, Option, Some, None, IsSome, IfSome, is_none, refl, sym, ap, subst, ◌∙◌, inl, inr}
use Rattle.std.specs.Option.{option_map_or}
use Rattle.std.specs.FinMap.{get}
use Rattle.az_base.specs.declared.block_id.BlockId.{BlockId}
use Rattle.az_base.specs.declared.numbers.Key.{Key}
use Rattle.az_base.specs.declared.misuse.Misuse.TheVariants as misuse
use Rattle.zone_model.specs.declared.call.Call.TheVariants as call
use Rattle.zone_model.specs.declared.entry.Reply.TheVariants as reply
use Rattle.zone_model.specs.Effect.{assoc_of}
use Rattle.zone_model.specs.Escape.{Need, EscOf}
use Rattle.zone_model.specs.Misuses.{first_of, misuse_of}
use Rattle.az_base.specs.WithValue.{with_value}
use Rattle.zone_model.specs.State.{State, with_assoc, with_register}
use Rattle.zone_model.specs.Step.{seen_now}
use Rattle.zone_model.proofs.Steps.{step_plain}
use Rattle.shared_heap.specs.Assocs.{associated}
use Rattle.heap_cycle.specs.Livening.{Livens, of_option}
use Rattle.block_table.specs.Table.{used_by}
use Rattle.shared_heap.specs.Shared.{Shared, with_gc}
use Rattle.shared_heap.specs.Stands.{Stands, EscapedClosed}
use Rattle.shared_heap.specs.Steps.{Runs, Stepped}
use Rattle.shared_heap.proofs.Collecting.{live_stands, register_anchored}
use Rattle.shared_heap.proofs.Standing.{register_stands, seen_stands}
use Rattle.shared_heap.proofs.Stepping.{misused, none_escape}
use Rattle.shared_heap.proofs.Sums.{not_full}

-- the heap after an association was set
pub assoc_stands : (h : Shared) (z : State) (object : BlockId) (key : ℕ) (v : Option BlockId) → Stands h z → Stands (associated h (Some object) key v) (with_assoc z object key v)
assoc_stands h z object key v s = record {
  options = s.options;
  blocks = s.blocks;
  roots = s.roots;
  counts = s.counts;
  assocs = ap (λ m. with_value m (object, key) v) s.assocs;
  weak = s.weak;
  cycle = s.cycle;
}

-- what both see of an association
assoc_is : (h : Shared) (z : State) (object : BlockId) (key : ℕ) → Stands h z → assoc_of z (Some object) key ≡ get h.assocs (object, key)
assoc_is h z object key s = ap (λ m. get m (object, key)) s.assocs

module _ (h : Shared) (z : State) (t reg from : ℕ) (key : Key) (a v : Option BlockId) (runs : Runs h z t) (sound : EscapedClosed z) (given : IfSome a (λ b. IsSome (get h.blocks b))) (there : IfSome v (λ b. IsSome (get h.blocks b)))
    (holds : z.registers t reg ≡ a) (has_value : z.registers t from ≡ v) where
  set_needs : (id : BlockId) → Need z t (call.SetAssoc reg key from) id → ⊥
  set_needs id (inl n) = none_escape h z a runs.stands sound given id (subst (λ a. EscOf z a id) holds n)
  set_needs id (inr n) = none_escape h z v runs.stands sound there id (subst (λ v. EscOf z v id) has_value n)

  pub set_null : a ≡ None → Stepped h z t (call.SetAssoc reg key from) (reply.Misuse misuse.NullBlock)
  set_null none = misused h z t (call.SetAssoc reg key from) misuse.NullBlock runs set_needs (rw (holds, none) refl)

  pub set_step : (new : Shared) (object : BlockId) (before : Option BlockId) → used_by h.blocks ≤ h.options.heap_quanta → a ≡ Some object → before ≡ get h.assocs (object, key.0) → new ≡ with_gc (associated h (Some object) key.0 v) new.gc → Livens h.gc new.gc (of_option v) (of_option a)
      → Stepped new z t (call.SetAssoc reg key from) (reply.Block before)
  set_step new object before fits some was is lives =
      let mid = with_assoc z object key.0 v in
      let at : z.registers t reg ≡ Some object = holds ∙ some in
      let reads : before ≡ assoc_of z (z.registers t reg) key.0 = was ∙ sym (ap (λ o. assoc_of z o key.0) at ∙ assoc_is h z object key.0 runs.stands) in
      let writes : mid ≡ option_map_or (λ b. with_assoc z b key.0 (z.registers t from)) (z.registers t reg) z = rw (at, has_value) refl in
      let right : misuse_of z t (call.SetAssoc reg key from) (λ _. false) ≡ None = rw (at, not_full h z runs.stands fits) refl in
      (seen_now mid, step_plain z _ (seen_now mid) runs.running set_needs right (mid, (reads, writes), refl), rw is (live_stands (associated h (Some object) key.0 v) mid new.gc (of_option v) (of_option a) lives (register_anchored mid t from v has_value) (assoc_stands h z object key.0 v runs.stands)))

module _ (h : Shared) (z : State) (t to reg : ℕ) (key : Key) (a : Option BlockId) (runs : Runs h z t) (holds : z.registers t reg ≡ a) where
  get_misuse : misuse_of z t (call.GetAssoc to reg key) (λ _. false) ≡ first_of ((is_none a, misuse.NullBlock) ∷ [])
  get_misuse = ap (λ o. first_of ((is_none o, misuse.NullBlock) ∷ [])) holds

  pub get_null : a ≡ None → Stepped h z t (call.GetAssoc to reg key) (reply.Misuse misuse.NullBlock)
  get_null none = misused h z t (call.GetAssoc to reg key) misuse.NullBlock runs (λ id n. n) (get_misuse ∙ ap (λ o. first_of ((is_none o, misuse.NullBlock) ∷ [])) none)

  pub get_step : (new : Shared) (object : BlockId) (v : Option BlockId) → a ≡ Some object → v ≡ get h.assocs (object, key.0) → Stands new z → Stepped new z t (call.GetAssoc to reg key) (reply.Block v)
  get_step new object v some is s =
      let mid = with_register z t to v in
      let at : z.registers t reg ≡ Some object = holds ∙ some in
      let reads : v ≡ assoc_of z (z.registers t reg) key.0 = is ∙ sym (ap (λ o. assoc_of z o key.0) at ∙ assoc_is h z object key.0 runs.stands) in
      let right : misuse_of z t (call.GetAssoc to reg key) (λ _. false) ≡ None = get_misuse ∙ ap (λ o. first_of ((is_none o, misuse.NullBlock) ∷ [])) some in
      (seen_now mid, step_plain z _ (seen_now mid) runs.running (λ id n. n) right (mid, (reads, refl), refl), seen_stands new mid (register_stands new z t to v s))
