-- What was published, followed by what waits of any threads, is legal
use Rattle.std.proofs.Common.{◌≡◌, ℕ, List, [], ◌∷◌, ◌++◌, Option, Some, None, refl, sym, ap, subst}
use Rattle.std.specs.Option.{option_map_or}
use Rattle.zone_model.specs.History.{Legal}
use Rattle.zone_model.specs.LocalSteps.{LocalRun}
use Rattle.zone_model.specs.Part.{Part, part_of}
use Rattle.zone_model.specs.Waits.{Waiter, Waits, Others, waiting_of}
use Rattle.zone_model.proofs.Waiting.{all_waiting_legal}
use Rattle.local_set.specs.LocalSets.{LocalSet, part_in}
use Rattle.zone_escape.specs.Cores.{CoreShown, IsCore}
use Rattle.play_core.specs.Worlds.{local_of, waits_of, all_waiting, NoneIs, EachOnce}
use Rattle.play_core.specs.Inside.{Keeps}
use Rattle.play_core.proofs.Sets.{found_is, found_at}
use Rattle.play_core.proofs.Stepping.{world_of, waits_is}

module _ (k : CoreShown) (locals : List LocalSet) (core : IsCore k) (keeps : Keeps k locals) where
  abbrev waiters : List ℕ → List Waiter
  waiters [] = []
  waiters (t ∷ ts) = (t, waits_of (world_of k locals) t) ∷ waiters ts

  flat : (ts : List ℕ) → waiting_of (waiters ts) ≡ all_waiting (world_of k locals) ts
  flat [] = refl
  flat (t ∷ ts) = ap (λ es. waits_of (world_of k locals) t ++ es) (flat ts)

  others : (t : ℕ) (ts : List ℕ) → NoneIs t ts → Others t (waiters ts)
  others t [] h = tt
  others t (u ∷ us) h = (h.0, others t us h.1)

  local_waits : (t : ℕ) → (last : Part) × LocalRun (part_of core.0 t) t (waits_of (world_of k locals) t) last
  local_waits t = by (local_of (world_of k locals) t) refl
    where
      by : (o : Option LocalSet) → local_of (world_of k locals) t ≡ o → (last : Part) × LocalRun (part_of core.0 t) t (waits_of (world_of k locals) t) last
      by None e = (part_of core.0 t, subst (λ es. LocalRun (part_of core.0 t) t es (part_of core.0 t)) (sym (ap (λ o. option_map_or (λ (l : LocalSet). l.waiting) o []) e)) refl)
      by (Some l) e =
          let at = found_at t locals l e in
          let b = keeps.belongs at.0 l at.1 core.0 core.1 in
          (part_in l, subst (λ es. LocalRun (part_of core.0 t) t es (part_in l)) (sym (waits_is (world_of k locals) t l e)) (subst (λ u. LocalRun (part_of core.0 u) u l.waiting (part_in l)) (found_is t locals l e) b.run))

  all_wait : (ts : List ℕ) → EachOnce ts → Waits core.0 (waiters ts)
  all_wait [] h = tt
  all_wait (t ∷ ts) h = (local_waits t, others t ts h.0, all_wait ts h.1)

  pub all_legal : (ts : List ℕ) → EachOnce ts → Legal k.heap.options (k.journal.entries ++ all_waiting (world_of k locals) ts)
  all_legal ts once = subst (λ es. Legal k.heap.options (k.journal.entries ++ es)) (flat ts) (all_waiting_legal k.heap.options k.journal.entries core.0 (waiters ts) core.1.ends (all_wait ts once))
