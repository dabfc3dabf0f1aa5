-- Registers and roots of a core's state are in range
use Rattle.std.proofs.Common.{◌≡◌, ℕ, ◌<◌, ◌==◌, Bool, true, false, cond, List, Option, Some, None, length, is_some, refl, sym, ap, subst, ◌∙◌, arith}
use Rattle.std.proofs.lemmas.Bool.Decides.{nat_tests}
use Rattle.std.proofs.lemmas.Option.{slice_get_past}
use Rattle.std.specs.Option.{option_and_then}
use Rattle.std.specs.List.{AllByRecursion}
use Rattle.std.specs.FinMap.{get}
use Rattle.az_base.specs.declared.action.Action.{Action}
use Rattle.az_base.specs.declared.block_id.BlockId.{BlockId}
use Rattle.zone_model.specs.InRange.{InRange, ActionInRange}
use Rattle.zone_model.specs.Part.{Part, part_of}
use Rattle.zone_model.specs.SameShared.{SameShared, escaped_only}
use Rattle.zone_model.specs.Sound.{Sound}
use Rattle.zone_model.specs.State.{State, Block}
use Rattle.local_set.specs.LocalSets.{LocalSet, part_in}
use Rattle.escape_plan.specs.Together.{OthersStay}

-- a thread's waiting entries change its own registers alone, of which there are sixteen, and bear no block with actions
pub waiting_ranges : (l : LocalSet) (z a : State) → InRange z → length l.registers ≡ 16 → Sound a → part_of a l.thread ≡ part_in l → OthersStay l.thread z a → SameShared z a → InRange a
waiting_ranges l z a is sixteen sound part others shared = record {
  registers = λ t r past. by t r past (l.thread == t) refl;
  roots = λ g past. ap (λ f. f g) shared.roots ∙ is.roots g past;
  actions = λ id b here. acts id b here b.since refl;
}
  where
    by : (t r : ℕ) → 15 < r → (s : Bool) → (l.thread == t) ≡ s → a.registers t r ≡ None
    by t r past true e =
        let same : l.thread ≡ t = grind (arith, nat_tests) in
        let own : a.registers l.thread r ≡ None = ap (λ (p : Part). p.registers r) part ∙ ap (λ o. option_and_then (λ x. x) o) (slice_get_past l.registers r (omega (arith, sixteen, past))) in
        ap (λ u. a.registers u r) (sym same) ∙ own
    by t r past false e = ap (λ (p : Part). p.registers r) (others t e) ∙ is.registers t r past

    out : (b : Block) (v : Option ℕ) → b.since ≡ v → is_some v ≡ true → Some b ≡ escaped_only (Some b)
    out b None e h = cc (h)
    out b (Some n) e h = sym (ap (λ v. cond (is_some v) (Some b) None) e)

    before : (b : Block) (o : Option Block) → Some b ≡ escaped_only o → o ≡ Some b
    before b None h = cc (h)
    before b (Some c) h = go c.since h
      where
        go : (v : Option ℕ) → Some b ≡ cond (is_some v) (Some c) None → Some c ≡ Some b
        go None h = cc (h)
        go (Some n) h = sym h

    acts : (id : BlockId) (b : Block) → get a.blocks id ≡ Some b → (v : Option ℕ) → b.since ≡ v → AllByRecursion ActionInRange b.actions
    acts id b here None e = subst (λ (xs : List Action). AllByRecursion ActionInRange xs) (sym (sound.unescaped id b here e).0) tt
    acts id b here (Some n) e = is.actions id b (before b (get z.blocks id) (out b (Some n) e refl ∙ ap escaped_only (sym here) ∙ shared.blocks id))
