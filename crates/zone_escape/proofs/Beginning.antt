-- What a Begin makes of the heap, and what is owed then
use Rattle.std.proofs.Common.{◌≡◌, ◌+◌, ◌==◌, ◌⊎◌, inl, inr, ℕ, Bool, true, false, cond, not, Option, Some, None, IfSome, is_some, List, refl, sym, ap, subst, ◌∙◌, eqb-true, arith}
use Rattle.std.specs.Option.{option_map_or}
use Rattle.az_base.specs.declared.action.Mode.{Mode}
use Rattle.az_base.specs.declared.block_id.BlockId.{BlockId}
use Rattle.zone_model.specs.declared.entry.Reply.{Reply}
use Rattle.zone_model.specs.declared.entry.Reply.TheVariants as reply
use Rattle.gen_marker.specs.Marking.{blacks}
use Rattle.heap_cycle.specs.Collector.{Collecting, Collector, shade_in}
use Rattle.shared_heap.specs.Cycles.{AfterBegin, IsOpenOf, Opens, black_in, marked_by}
use Rattle.shared_heap.specs.Shared.{Shared, is_busy}
use Rattle.heap_cycle.specs.Waiting.{unfinalised_by}
use Rattle.zone_escape.specs.Answers.{IsPlain}
use Rattle.zone_escape.specs.Cores.{HasLists, lists_of, steps_left, steps_of}
use Rattle.zone_escape.specs.Cycles.{is_begun}

-- nothing has changed, or a cycle has opened
begins : (h k : Shared) (t : ℕ) (mode : Mode) (r : Reply) → AfterBegin h t mode r k.gc → ((r ≡ reply.Busy) × (k.gc ≡ h.gc)) ⊎ ((r ≡ reply.Begun) × Opens h t mode k.gc)
begins h k t mode reply.Busy after = inl (refl, after)
begins h k t mode reply.Begun after = inr (refl, after)
begins h k t mode _ after = absurd after

pub begin_plain : (h k : Shared) (t : ℕ) (mode : Mode) (r : Reply) → AfterBegin h t mode r k.gc → IsPlain r
begin_plain h k t mode reply.Busy after = tt
begin_plain h k t mode reply.Begun after = tt
begin_plain h k t mode _ after = absurd after

-- where a cycle has begun, none was open
none_open : (h : Shared) (t : ℕ) → ((g : Collecting) → IsOpenOf h t g → ⊥) → reply.Begun ≡ cond (is_busy h t) reply.Busy reply.Begun → h.gc.cycle ≡ None
none_open h t own says = by h.gc.cycle refl says
  where
    owned : (g : Collecting) → h.gc.cycle ≡ Some g → (b : Bool) → (g.owner == t) ≡ b → reply.Begun ≡ cond (not b) reply.Busy reply.Begun → h.gc.cycle ≡ None
    owned g e true o f = absurd (own g (e, eqb-true g.owner t o))
    owned g e false o f = cc (f)

    by : (o : Option Collecting) → h.gc.cycle ≡ o → reply.Begun ≡ cond (option_map_or (λ (g : Collecting). not (g.owner == t)) o false) reply.Busy reply.Begun → h.gc.cycle ≡ None
    by None e f = e
    by (Some g) e f = owned g e (g.owner == t) refl f

fresh_steps : (g : Collecting) → g.condemned ≡ None → steps_of g ≡ g.left + 2
fresh_steps g none = ap (λ (o : Option (List BlockId)). cond (is_some o) (g.left + 1) (g.left + 2)) none

fresh_lists : (g : Collecting) → g.condemned ≡ None → lists_of g ≡ 3
fresh_lists g none = ap (λ (o : Option (List BlockId)). cond {A = ℕ} (is_some o) 2 3) none

module _ (h k : Shared) (t : ℕ) (mode : Mode) (r : Reply) (after : AfterBegin h t mode r k.gc) where
  opened : (o : Opens h t mode k.gc) → k.gc.cycle ≡ Some o.cycle
  opened o = ap (λ (g : Collector). g.cycle) o.is

  -- the room of the cycle's entries is owed
  pub begun_owed : (owed steps : ℕ) → ((g : Collecting) → IsOpenOf h t g → ⊥) → r ≡ cond (is_busy h t) reply.Busy reply.Begun → owed ≡ steps_left h → steps ≡ unfinalised_by h.blocks + 2 → steps_left k ≡ cond (is_begun r) (owed + steps) owed
  begun_owed owed steps own says was is = elim (begins h k t mode r after) [
    | inl b ↦ ap (λ (g : Collector). option_map_or steps_of g.cycle 0) b.1 ∙ sym was ∙ ap (λ (s : Reply). cond (is_begun s) (owed + steps) owed) (sym b.0)
    | inr b ↦
        let o = b.1 in
        let none : steps_left h ≡ 0 = ap (λ c. option_map_or steps_of c 0) (none_open h t own (sym b.0 ∙ says)) in
        let now : steps_left k ≡ o.cycle.left + 2 = ap (λ c. option_map_or steps_of c 0) (opened o) ∙ fresh_steps o.cycle o.fresh in
        let left = o.left in
        let sum : steps_left k ≡ owed + steps = omega (arith, none, now, left, was, is) in
        sum ∙ ap (λ (s : Reply). cond (is_begun s) (owed + steps) owed) (sym b.0)
  ]

  pub begun_lists : HasLists h → HasLists k
  begun_lists lists = elim (begins h k t mode r after) [
    | inl b ↦ subst (λ (g : Collector). IfSome g.cycle (λ x. x.rooms ≡ lists_of x)) (sym b.1) lists
    | inr b ↦ subst (λ (c : Option Collecting). IfSome c (λ x. x.rooms ≡ lists_of x)) (sym (opened b.1)) (b.1.rooms ∙ sym (fresh_lists b.1.cycle b.1.fresh))
  ]

  -- nothing is scanned yet
  pub begun_white : r ≡ reply.Begun → black_in k ≡ 0
  begun_white says = elim (begins h k t mode r after) [
    | inl b ↦ let no : reply.Busy ≡ reply.Begun = sym b.0 ∙ says in cc (no)
    | inr b ↦ white b.1
  ]
    where
      white : (o : Opens h t mode k.gc) → black_in k ≡ 0
      white o = ap (marked_by (λ (g : Collecting). blacks g.start (shade_in g))) (opened o) ∙ ap (λ (d : Option (List BlockId)). option_map_or (λ r. 0) d (blacks o.cycle.start (shade_in o.cycle))) o.fresh ∙ o.none_black
