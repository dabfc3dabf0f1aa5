-- A heap that has lent a list of its open cycle
use Rattle.std.proofs.Common.{◌≡◌, ◌<◌, ◌-◌, ℕ, MatchOption, IfSome, Option, Some, None, is_some, cond, option_map, refl, sym, ap, subst, ◌∙◌}
use Rattle.std.specs.Option.{option_map_or}
use Rattle.zone_model.specs.State.{State, Cycle}
use Rattle.heap_cycle.specs.Collector.{Collecting}
use Rattle.shared_heap.specs.Cycles.{IsMarking, IsSettling, one_lent}
use Rattle.shared_heap.specs.Shared.{Shared, with_gc, finalisers_left}
use Rattle.shared_heap.specs.Stands.{Stands, SameCycle}

abbrev pub lent : Shared → Shared
lent h = with_gc h (one_lent h.gc)

-- the cycle afterwards
abbrev pub lending : Collecting → Collecting
lending g = record g { rooms = g.rooms - 1 }

-- it stands for the same states
lent_cycle : (o : Option Collecting) (c : Option Cycle) → SameCycle o c → SameCycle (option_map lending o) c
lent_cycle None None s = tt
lent_cycle None (Some c) s = absurd s
lent_cycle (Some g) None s = absurd s
lent_cycle (Some g) (Some c) s = record { owner = s.owner; mode = s.mode; start = s.start; condemned = s.condemned; dark = s.dark }

pub lent_stands : (h : Shared) (z : State) → Stands h z → Stands (lent h) z
lent_stands h z s = record { options = s.options; blocks = s.blocks; roots = s.roots; counts = s.counts; assocs = s.assocs; weak = s.weak; cycle = lent_cycle h.gc.cycle z.cycle s.cycle }

-- its open cycle goes on where it did
pub lent_marking : (h : Shared) (t : ℕ) → IsMarking h t → IsMarking (lent h) t
lent_marking h t m = (lending m.0, (ap (option_map lending) m.1.0, m.1.1), m.2)

pub lent_settling : (h : Shared) (t : ℕ) → IsSettling h t → IsSettling (lent h) t
lent_settling h t m = (lending m.0, m.1, (ap (option_map lending) m.2.0, m.2.1), m.3)

pub lent_left : (h : Shared) → finalisers_left (lent h) ≡ finalisers_left h
lent_left h = by h.gc.cycle
  where
    by : (o : Option Collecting) → option_map_or (λ (g : Collecting). cond (is_some g.condemned) g.left 0) (option_map lending o) 0 ≡ option_map_or (λ (g : Collecting). cond (is_some g.condemned) g.left 0) o 0
    by None = refl
    by (Some g) = refl

-- what is so of the open cycle
pub of_cycle : (h : Shared) (g : Collecting) (P : Collecting → Type 0) → h.gc.cycle ≡ Some g → IfSome h.gc.cycle P → P g
of_cycle h g P is all = subst (λ (o : Option Collecting). IfSome o P) is all

pub can_lend : (h : Shared) (g : Collecting) → h.gc.cycle ≡ Some g → 0 < g.rooms → MatchOption h.gc.cycle ⊥ (λ x. 0 < x.rooms)
can_lend h g is more = subst (λ (o : Option Collecting). MatchOption o ⊥ (λ x. 0 < x.rooms)) (sym is) more

-- two lists lent
pub twice_stands : (h g k : Shared) → g ≡ lent h → k ≡ lent g → (z : State) → Stands h z → Stands k z
twice_stands h g k once then z s = subst (λ (x : Shared). Stands x z) (sym then) (lent_stands g z (subst (λ (x : Shared). Stands x z) (sym once) (lent_stands h z s)))

pub twice_settling : (h g k : Shared) (t : ℕ) → g ≡ lent h → k ≡ lent g → IsSettling h t → IsSettling k t
twice_settling h g k t once then m = subst (λ (x : Shared). IsSettling x t) (sym then) (lent_settling g t (subst (λ (x : Shared). IsSettling x t) (sym once) (lent_settling h t m)))

pub twice_left : (h g k : Shared) → g ≡ lent h → k ≡ lent g → finalisers_left k ≡ finalisers_left h
twice_left h g k once then = ap finalisers_left then ∙ lent_left g ∙ ap finalisers_left once ∙ lent_left h

pub twice_holds : (h g k : Shared) → g ≡ lent h → k ≡ lent g → k.holds ≡ h.holds
twice_holds h g k once then = ap (λ (s : Shared). s.holds) then ∙ ap (λ (s : Shared). s.holds) once

-- the cycle after a list was lent
pub cycle_lent : (h g : Shared) (f : Collecting) → g ≡ lent h → h.gc.cycle ≡ Some f → g.gc.cycle ≡ Some (lending f)
cycle_lent h g f once is = ap (λ (s : Shared). s.gc.cycle) once ∙ ap (option_map lending) is
