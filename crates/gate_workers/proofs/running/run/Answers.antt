use Rattle.std.proofs.Common.{◌∙◌, map, refl, sym, subst, Contains, All}
use Rattle.zone_model.specs.Bare.{bare_entry}
use Rattle.gate_workers.specs.Workers.{EachDoes}
use Rattle.gate_workers.proofs.Workers.{jobs_sit, all_left, left_sit, left_threads, left_lines}
use Rattle.gate_workers.proofs.running.run.Goals as goal

pub run_jobs-requires-after_bounds : goal.run_jobs-requires-after_bounds
run_jobs-requires-after_bounds g c κs within = jobs_sit c.in_ok-gate.gate c.args.threads.now c.in_ok-jobs.jobs.items (c.in_ok-jobs.ensures.seats ∙ c.in_ok-gate.ensures.seats)

pub close-requires-clause-of : goal.close-requires-clause-of
close-requires-clause-of g c =
    let each = subst (EachDoes c.in_ok-gate.gate c.in_ok-jobs.jobs.items) c.in_ok-seats.ensures c.in_ok-results.ensures in
    let left = all_left c.in_ok-gate.gate _ (λ j. j.lines) (λ l. l.items) (λ j. refl) c.args.threads.now c.args.lines.items c.in_ok-jobs.jobs.items c.in_ok-seats.seats.items
    (c.in_ok-jobs.ensures.seats ∙ c.in_ok-gate.ensures.seats) c.in_ok-jobs.ensures.lines each in
    left_sit c.in_ok-gate.gate (λ l. l.items) c.args.threads.now c.args.lines.items c.in_ok-seats.seats.items left

pub close-requires-clause-all : goal.close-requires-clause-all
close-requires-clause-all g c =
    let each = subst (EachDoes c.in_ok-gate.gate c.in_ok-jobs.jobs.items) c.in_ok-seats.ensures c.in_ok-results.ensures in
    let left = all_left c.in_ok-gate.gate _ (λ j. j.lines) (λ l. l.items) (λ j. refl) c.args.threads.now c.args.lines.items c.in_ok-jobs.jobs.items c.in_ok-seats.seats.items
    (c.in_ok-jobs.ensures.seats ∙ c.in_ok-gate.ensures.seats) c.in_ok-jobs.ensures.lines each in
    let same = left_threads c.in_ok-gate.gate (λ l. l.items) c.args.threads.now c.args.lines.items c.in_ok-seats.seats.items left in
    λ t here. subst (λ ts. Contains ts t) (sym same) (subst (λ ts. Contains ts t) c.in_ok-gate.ensures.gate.1 here)

pub returns-clause-lines : goal.returns-clause-lines
returns-clause-lines g c =
    let each = subst (EachDoes c.in_ok-gate.gate c.in_ok-jobs.jobs.items) c.in_ok-seats.ensures c.in_ok-results.ensures in
    let left = all_left c.in_ok-gate.gate _ (λ j. j.lines) (λ l. l.items) (λ j. refl) c.args.threads.now c.args.lines.items c.in_ok-jobs.jobs.items c.in_ok-seats.seats.items
    (c.in_ok-jobs.ensures.seats ∙ c.in_ok-gate.ensures.seats) c.in_ok-jobs.ensures.lines each in
    left_lines c.in_ok-gate.gate (λ l. l.items) c.args.threads.now c.args.lines.items c.in_ok-seats.seats.items (map bare_entry c.close.result.entries.items) left c.close.ensures.own

pub returns-clause-others : goal.returns-clause-others
returns-clause-others g c = subst (λ ts. All (λ e. Contains ts e.thread) (map bare_entry c.close.result.entries.items)) c.in_ok-gate.ensures.gate.1 c.close.ensures.others
