-- A core after a slice of marking
use Rattle.std.proofs.Common.{◌≡◌, ℕ, false, List, [], ◌∷◌, Some, option_map, sym, ap, subst, ◌∙◌}
use Rattle.az_base.specs.declared.options.Options.{Options}
use Rattle.zone_model.specs.declared.entry.Entry.{Entry}
use Rattle.zone_model.specs.History.{Ends}
use Rattle.zone_model.specs.LocalSteps.{LocalRun}
use Rattle.zone_model.specs.Part.{Part, part_of}
use Rattle.zone_model.specs.State.{State}
use Rattle.heap_cycle.specs.Collector.{Collecting, Collector}
use Rattle.shared_heap.specs.Cycles.{Darkens}
use Rattle.heap_cycle.specs.Livening.{unshaded}
use Rattle.shared_heap.specs.Holding.{HoldsAgree, Serves}
use Rattle.shared_heap.specs.Shared.{Shared, with_gc}
use Rattle.shared_heap.specs.Stands.{Stands}
use Rattle.zone_history.specs.Journals.{Recorded}
use Rattle.local_set.specs.LocalSets.{LocalSet, part_in}
use Rattle.escape_plan.specs.Escapes.{KeepsCycle}
use Rattle.escape_plan.specs.Together.{Belongs}
use Rattle.zone_escape.specs.Cores.{CoreShown, IsCoreOf}
use Rattle.zone_escape.proofs.OpenCycles.{keeps_steps, keeps_lists}

-- a thread that runs after local calls ran before them
run_running : (p : Part) (t : ℕ) (es : List Entry) (last : Part) → LocalRun p t es last → last.ended ≡ false → p.ended ≡ false
run_running p t [] last run h = sym (ap (λ (x : Part). x.ended) run) ∙ h
run_running p t (e ∷ es) last run h = run.1.running

-- so the heap serves it in the core's state
pub core_serves : (l : LocalSet) (k : CoreShown) (z : State) (u : ℕ) → u ≡ l.thread → Belongs l z → l.ended ≡ false → IsCoreOf k z → Serves k.heap z u
core_serves l k z u thread b running is = record {
  stands = is.heap.stands;
  holds = is.heap.holds;
  sound = is.heap.sound;
  range = is.range;
  running = ap z.ended thread ∙ run_running (part_of z l.thread) l.thread l.waiting (part_in l) b.run running;
}

darkens_keeps : (h k : Shared) → Darkens h.gc k.gc → KeepsCycle h k
darkens_keeps h k d = ap (λ (x : Collector). option_map unshaded x.cycle) d.is ∙ ap (λ (g : Collecting). Some (unshaded g)) d.same ∙ sym (ap (option_map unshaded) d.was)

-- a slice leaves the core's state
pub marked : (h k : Shared) (j : Recorded) (z : State) → k ≡ with_gc h k.gc → Darkens h.gc k.gc → Stands k z → IsCoreOf (record { heap = h; journal = j }) z → IsCoreOf (record { heap = k; journal = j }) z
marked h k j z value dark stands is =
    let keeps = darkens_keeps h k dark in
    record {
      ends = subst (λ (o : Options). Ends o j.entries z) (sym (ap (λ (s : Shared). s.options) value)) is.ends;
      heap = record { stands = stands; holds = subst (λ (s : Shared). HoldsAgree s z) (sym value) is.heap.holds; sound = is.heap.sound };
      range = is.range;
      room = ap (λ (s : Shared). s.room) value ∙ is.room;
      owed = is.owed ∙ sym (keeps_steps h k keeps);
      lists = keeps_lists h k keeps is.lists;
    }
