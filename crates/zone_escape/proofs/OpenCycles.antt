-- What a heap shows of its open cycle
use Rattle.std.proofs.Common.{◌≡◌, ℕ, IfSome, List, Option, Some, None, option_map, refl, sym, ap, subst, ◌∙◌}
use Rattle.std.specs.Option.{option_map_or}
use Rattle.az_base.specs.declared.action.Action.{Action}
use Rattle.az_base.specs.declared.block_id.BlockId.{BlockId}
use Rattle.az_base.specs.declared.weak_loc.WeakLoc.{WeakLoc}
use Rattle.az_base.specs.declared.word.Word.{Word}
use Rattle.block_layouts.specs.declared.layout.Layout.{Layout}
use Rattle.zone_model.specs.declared.entry.Reply.{Reply}
use Rattle.zone_model.specs.declared.entry.Reply.TheVariants as reply
use Rattle.heap_cycle.specs.Collector.{Collecting, Collector}
use Rattle.shared_heap.specs.Cycles.{AfterBarrier}
use Rattle.heap_cycle.specs.Livening.{unshaded}
use Rattle.shared_heap.specs.Retained.{after_retain, after_release}
use Rattle.shared_heap.specs.Shared.{Shared}
use Rattle.shared_heap.specs.Steps.{after_birth, after_read, after_write}
use Rattle.shared_heap.specs.Weak.{after_assign}
use Rattle.escape_plan.specs.Escapes.{KeepsCycle}
use Rattle.zone_escape.specs.Cores.{HasLists, steps_left, steps_of, lists_of}

one_cycle : (f g : Collecting) → Some (unshaded f) ≡ Some (unshaded g) → unshaded f ≡ unshaded g
one_cycle f g h = cc (h)

-- where nothing but the shades has changed, as many entries are still to come
pub keeps_steps : (h k : Shared) → KeepsCycle h k → steps_left k ≡ steps_left h
keeps_steps h k same = by h.gc.cycle k.gc.cycle same
  where
    by : (a b : Option Collecting) → option_map unshaded b ≡ option_map unshaded a → option_map_or steps_of b 0 ≡ option_map_or steps_of a 0
    by None None e = refl
    by None (Some g) e = cc (e)
    by (Some f) None e = cc (e)
    by (Some f) (Some g) e = ap steps_of (one_cycle g f e)

-- and as many lists can be lent
pub keeps_lists : (h k : Shared) → KeepsCycle h k → HasLists h → HasLists k
keeps_lists h k same has = by h.gc.cycle k.gc.cycle same has
  where
    by : (a b : Option Collecting) → option_map unshaded b ≡ option_map unshaded a → IfSome a (λ g. g.rooms ≡ lists_of g) → IfSome b (λ g. g.rooms ≡ lists_of g)
    by None None e l = tt
    by None (Some g) e l = cc (e)
    by (Some f) None e l = cc (e)
    by (Some f) (Some g) e l = subst (λ (x : Collecting). x.rooms ≡ lists_of x) (sym (one_cycle g f e)) l

abbrev bare_cycle : Shared → Option Collecting
bare_cycle h = option_map unshaded h.gc.cycle

-- a call that enlivens, and one after which the holds were told
pub livened : (h k : Shared) (r : Reply) (live carded : List BlockId) → AfterBarrier h.gc k.gc r live carded → KeepsCycle h k
livened h k (reply.Misuse m) live carded same = ap (λ (g : Collector). option_map unshaded g.cycle) same
livened h k _ live carded l = l.cycle

pub told_keeps : (h k n : Shared) → KeepsCycle h k → n ≡ record k { holds = n.holds } → KeepsCycle h n
told_keeps h k n keeps told = ap bare_cycle told ∙ keeps

-- a call that changes nothing of the collections
read_gc : (h : Shared) (t : ℕ) (r : Reply) → (after_read h t r).gc ≡ h.gc
read_gc h t (reply.Block None) = refl
read_gc h t (reply.Block (Some b)) = refl
read_gc h t _ = refl

pub read_keeps : (h k n : Shared) (t : ℕ) (r : Reply) → k ≡ after_read h t r → n ≡ record k { holds = n.holds } → KeepsCycle h n
read_keeps h k n t r read told = told_keeps h k n (ap bare_cycle read ∙ ap (λ (g : Collector). option_map unshaded g.cycle) (read_gc h t r)) told

pub birth_keeps : (h k : Shared) (t : ℕ) (layout : Layout) (actions : List Action) (r : Reply) → k ≡ after_birth h t layout actions r → KeepsCycle h k
birth_keeps h k t layout actions (reply.Block None) value = ap bare_cycle value
birth_keeps h k t layout actions (reply.Block (Some b)) value = ap bare_cycle value
birth_keeps h k t layout actions _ value = ap bare_cycle value

pub retain_keeps : (h k : Shared) (a : Option BlockId) (room : ℕ) (r : Reply) → k ≡ after_retain h a room r → KeepsCycle h k
retain_keeps h k None room r value = ap bare_cycle value
retain_keeps h k (Some id) room (reply.Number n) value = ap bare_cycle value
retain_keeps h k (Some id) room _ value = ap bare_cycle value

pub release_keeps : (h k : Shared) (a : Option BlockId) (r : Reply) → k ≡ after_release h a r → KeepsCycle h k
release_keeps h k None r value = ap bare_cycle value
release_keeps h k (Some id) (reply.Number n) value = ap bare_cycle value
release_keeps h k (Some id) _ value = ap bare_cycle value

pub write_keeps : (h k : Shared) (a : Option BlockId) (at : ℕ) (w : Word) (r : Reply) → k ≡ after_write h a at w r → KeepsCycle h k
write_keeps h k None at w reply.Done value = ap bare_cycle value
write_keeps h k (Some id) at w reply.Done value = ap bare_cycle value
write_keeps h k a at w _ value = ap bare_cycle value

pub assign_keeps : (h k : Shared) (loc : WeakLoc) (r : Reply) → k ≡ after_assign h loc r → KeepsCycle h k
assign_keeps h k loc (reply.Block v) value = ap bare_cycle value
assign_keeps h k loc _ value = ap bare_cycle value

-- one call after another
pub both_keep : (h g k : Shared) → KeepsCycle h g → KeepsCycle g k → KeepsCycle h k
both_keep h g k first then = then ∙ first
