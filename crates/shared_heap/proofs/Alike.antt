-- What a heap stands for is what is shared
use Rattle.std.proofs.Common.{◌≡◌, ℕ, cond, Option, Some, None, is_some, refl, sym, ap, subst, ◌∙◌}
use Rattle.std.specs.FinMap.{get}
use Rattle.zone_model.specs.State.{State, Block, Cycle}
use Rattle.zone_model.specs.SameShared.{escaped_only, SeesMore, SameShared}
use Rattle.heap_cycle.specs.Collector.{Collecting}
use Rattle.shared_heap.specs.Shared.{Shared}
use Rattle.heap_tables.specs.Standing.{escaped_view}
use Rattle.shared_heap.specs.Stands.{Stands, StandsCycle, SameCycle}
use Rattle.shared_heap.proofs.Collecting.{seen_more}

view_only : (r : ℕ) (o : Option Block) → escaped_view r o ≡ escaped_view r (escaped_only o)
view_only r None = refl
view_only r (Some b) = by b.since refl
  where
    by : (v : Option ℕ) → b.since ≡ v → escaped_view r (Some b) ≡ escaped_view r (cond (is_some b.since) (Some b) None)
    by None e = rw e refl
    by (Some n) e = rw e refl

sees_more : (g : Option Collecting) (c d : Option Cycle) → SeesMore c d → SameCycle g c → SameCycle g d
sees_more None None None h s = tt
sees_more None None (Some d) h s = absurd h
sees_more None (Some c) d h s = absurd s
sees_more (Some g) None d h s = absurd s
sees_more (Some g) (Some c) None h s = absurd h
sees_more (Some g) (Some c) (Some d) h s = subst (StandsCycle g) (sym h.1) record {
  owner = s.owner;
  mode = s.mode;
  start = s.start;
  condemned = s.condemned;
  dark = λ none b i w. seen_more c h.0 b (s.dark none b i w);
}

-- so local calls, and publications of their entries, leave the heap as it is
pub stands_same : (h : Shared) (z a : State) → Stands h z → SameShared z a → Stands h a
stands_same h z a s same = record {
  options = same.options ∙ s.options;
  blocks = λ q.
      s.blocks q ∙ view_only z.reclaims (get z.blocks q) ∙ ap (escaped_view z.reclaims) (sym (same.blocks q)) ∙ sym (view_only z.reclaims (get a.blocks q))
      ∙ ap (λ r. escaped_view r (get a.blocks q)) (sym same.reclaims);
  roots = λ g. s.roots g ∙ ap (λ f. f g) (sym same.roots);
  counts = same.counts ∙ s.counts;
  assocs = same.assocs ∙ s.assocs;
  weak = same.weak ∙ s.weak;
  cycle = sees_more h.gc.cycle z.cycle a.cycle same.cycle s.cycle;
}
