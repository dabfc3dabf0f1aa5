use Rattle.std.proofs.Common.{rules, ◌≡◌, length}
use Rattle.run_zone.proofs.Each.{each_does}
use Rattle.run_zone.proofs.running.run_jobs.Goals as goal

pub returns-in-Ok : goal.returns-in-Ok
returns-in-Ok g c =
    let len : length c.in-Ok.results.items ≡ length c.args.jobs.items = let h = c.in-Ok.ensures.len in search rules in
    each_does c.args.jobs.items c.in-Ok.results.items len (λ i d k. let h = (c.in-Ok.ensures.each i d k).1 in (h.job, h.job_is, h.call.met))
