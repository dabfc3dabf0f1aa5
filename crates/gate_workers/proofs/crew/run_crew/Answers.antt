use Rattle.std.proofs.Common.{◌≡◌, ◌∙◌, List, ℕ, All, Contains, IfOk, Ok, Err, map, length, sym, subst}
use Rattle.zone_model.specs.Bare.{bare_entry}
use Rattle.zone_model.specs.History.{entries_of}
use Rattle.gate_workers.specs.Workers.{first_numbers, written, HoldsLines}
use Rattle.gate_workers.proofs.Workers.{same_lines}
use Rattle.gate_workers.proofs.crew.run_crew.Goals as goal

pub returns-clause-lines : goal.returns-clause-lines
returns-clause-lines g c =
    let threads : c.as_slice.result.now ≡ first_numbers c.args.count = c.as_slice.ensures.value ∙ c.in_ok-threads.ensures.threads in
    let long : length c.in_ok-lines.lines.items ≡ length c.as_slice.result.now = sym c.in_ok-lines.lines.ok.0 ∙ c.in_ok-lines.ensures.count ∙ sym (c.as_slice.ensures.len ∙ c.in_ok-threads.ensures.count) in
    elim c.run.result as (λ r. IfOk r (λ d. HoldsLines (λ l. l.items) c.as_slice.result.now c.in_ok-lines.lines.items (map bare_entry d.entries.items)) → IfOk r (λ d. All (λ t. entries_of t (map bare_entry d.entries.items) ≡ written t (first_numbers c.args.last)) (first_numbers c.args.count))) [
      | Ok d ↦ λ holds. let P : List ℕ → Type 0 = λ ts. All (λ t. entries_of t (map bare_entry d.entries.items) ≡ written t (first_numbers c.args.last)) ts in
          subst P threads (same_lines (λ l. l.items) (first_numbers c.args.last) c.as_slice.result.now c.in_ok-lines.lines.items (map bare_entry d.entries.items) long c.in_ok-lines.ensures.each holds)
      | Err e ↦ λ holds. tt
    ] c.run.ensures.lines

pub returns-clause-others : goal.returns-clause-others
returns-clause-others g c =
    let threads : c.as_slice.result.now ≡ first_numbers c.args.count = c.as_slice.ensures.value ∙ c.in_ok-threads.ensures.threads in
    subst (λ ts. IfOk c.run.result (λ d. All (λ e. Contains ts e.thread) (map bare_entry d.entries.items))) threads c.run.ensures.others
