-- A call that is no step of a cycle leaves the open cycle
use Rattle.std.proofs.Common.{◌≡◌, ℕ, false, Option, Some, None, refl, ap, ◌∙◌}
use Rattle.std.specs.Option.{option_map_or}
use Rattle.az_base.specs.declared.block_id.BlockId.{BlockId}
use Rattle.zone_model.specs.declared.call.Call.{Call}
use Rattle.zone_model.specs.declared.call.Call.TheVariants as call
use Rattle.zone_model.specs.declared.entry.Reply.{Reply}
use Rattle.zone_model.specs.declared.entry.Reply.TheVariants as reply
use Rattle.zone_model.specs.State.{State, Cycle, with_count, with_assoc, with_weak}
use Rattle.zone_model.specs.Effect.{Effect, weak_loc}
use Rattle.zone_model.specs.History.{is_cycle_step}

count_cycle : (z : State) (o : Option BlockId) (n : ℕ) → (option_map_or (λ b. with_count z b n) o z).cycle ≡ z.cycle
count_cycle z None n = refl
count_cycle z (Some b) n = refl

assoc_cycle : (z : State) (o v : Option BlockId) (key : ℕ) → (option_map_or (λ a. with_assoc z a key v) o z).cycle ≡ z.cycle
assoc_cycle z None v key = refl
assoc_cycle z (Some a) v key = refl

weak_cycle : (z : State) (o : Option _) (v : Option BlockId) → (option_map_or (λ l. with_weak z l v) o z).cycle ≡ z.cycle
weak_cycle z None v = refl
weak_cycle z (Some l) v = refl

abbrev cycle_of : State → Option Cycle
cycle_of z = z.cycle

pub effect_cycle : (z : State) (t : ℕ) (c : Call) (r : Reply) (a : State) → is_cycle_step c ≡ false → Effect z t c r a → a.cycle ≡ z.cycle
effect_cycle z t (call.New to layout actions) (reply.Block id) a n h = ap cycle_of h.1
effect_cycle z t (call.Load to from at) (reply.Block b) a n h = ap cycle_of h.1
effect_cycle z t (call.Store into at from) reply.Done a n h = ap cycle_of h
effect_cycle z t (call.Put into at number) reply.Done a n h = ap cycle_of h
effect_cycle z t (call.Get from at) (reply.Number k) a n h = ap cycle_of h.1
effect_cycle z t (call.Copy to from) reply.Done a n h = ap cycle_of h
effect_cycle z t (call.DropReg reg) reply.Done a n h = ap cycle_of h
effect_cycle z t call.CollectLocal (reply.Reclaimed gone) a n h = ap cycle_of h.1
effect_cycle z t (call.SetRoot root from) reply.Done a n h = ap cycle_of h
effect_cycle z t (call.GetRoot to root) (reply.Block b) a n h = ap cycle_of h.1
effect_cycle z t (call.Retain reg) (reply.Number k) a n h = ap cycle_of h.1 ∙ count_cycle z (z.registers t reg) k
effect_cycle z t (call.Release reg) (reply.Number k) a n h = ap cycle_of h.1 ∙ count_cycle z (z.registers t reg) k
effect_cycle z t (call.Count reg) (reply.Number k) a n h = ap cycle_of h.1
effect_cycle z t (call.Take to id) (reply.Block i) a n h = ap cycle_of h.1
effect_cycle z t (call.SetAssoc object key value) (reply.Block b) a n h = ap cycle_of h.1 ∙ assoc_cycle z (z.registers t object) (z.registers t value) key.0
effect_cycle z t (call.GetAssoc to object key) (reply.Block b) a n h = ap cycle_of h.1
effect_cycle z t (call.SetWeak loc from) (reply.Block v) a n h = ap cycle_of h.1 ∙ weak_cycle z (weak_loc z t loc) v
effect_cycle z t (call.ReadWeak to loc) (reply.Block b) a n h = ap cycle_of h.1
effect_cycle z t call.Stats (reply.Stats k) a n h = ap cycle_of h.1
effect_cycle z t (call.Begin mode) reply.Begun a n h = cc (n)
effect_cycle z t call.Condemn (reply.Condemned r) a n h = cc (n)
effect_cycle z t call.Finalise (reply.Finalised b) a n h = cc (n)
effect_cycle z t call.Reclaim (reply.Settled gone kept) a n h = cc (n)
effect_cycle z t call.Leave (reply.Reclaimed gone) a n h = ap cycle_of h.does
effect_cycle z t _ _ a n h = absurd h
