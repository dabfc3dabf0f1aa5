use Rattle.std.proofs.Common.{◌<◌, AllPairs, Contains, refl, sym, subst}
use Rattle.play_core.specs.Playing.{requests}
use Rattle.play_core.proofs.Lines.{history_with_room}
use Rattle.run_zone.proofs.Dealt.{threads_ascend}
use Rattle.run_zone.proofs.Each.{job_seats, can_do, gone_of, gone_gate, gone_threads, gone_history, seats_of_zone}
use Rattle.run_zone.proofs.running.run_threads.Goals as goal

pub create-requires-clause-ascending : goal.create-requires-clause-ascending
create-requires-clause-ascending g c = subst (AllPairs (λ x y. x < y)) (sym c.requires.threads) (threads_ascend c.args.lines.now)

pub run_jobs-requires-clause-jobs : goal.run_jobs-requires-clause-jobs
run_jobs-requires-clause-jobs g c κs within =
    can_do c.in_ok-zone.zone c.args.lines.now c.args.threads.now c.in_ok-jobs.jobs.items
    (job_seats c.in_ok-zone.zone c.args.threads.now c.in_ok-jobs.jobs.items c.in_ok-zone.sessions.items c.in_ok-jobs.ensures.sessions (seats_of_zone c.in_ok-zone.zone c.args.options c.args.threads.now c.in_ok-zone.sessions.items c.in_ok-zone.ensures.zone.0 c.in_ok-zone.ensures.sessions))
    c.in_ok-jobs.ensures.dealt c.requires.named

pub close-requires-clause-of : goal.close-requires-clause-of
close-requires-clause-of g c =
    gone_gate c.in_ok-zone.zone c.args.lines.now c.args.threads.now c.in_ok-ended.ended.items
    (gone_of _ c.in_ok-zone.zone c.args.options c.args.lines.now c.args.threads.now c.in_ok-zone.sessions.items c.in_ok-jobs.jobs.items c.in_ok-results.results.items c.in_ok-ended.ended.items c.in_ok-zone.ensures.zone.0 c.in_ok-zone.ensures.sessions c.in_ok-zone.ensures.unused c.in_ok-jobs.ensures.sessions c.in_ok-jobs.ensures.dealt c.in_ok-results.ensures c.in_ok-ended.ensures)

pub close-requires-clause-all : goal.close-requires-clause-all
close-requires-clause-all g c =
    let gone = gone_of _ c.in_ok-zone.zone c.args.options c.args.lines.now c.args.threads.now c.in_ok-zone.sessions.items c.in_ok-jobs.jobs.items c.in_ok-results.results.items c.in_ok-ended.ended.items c.in_ok-zone.ensures.zone.0 c.in_ok-zone.ensures.sessions c.in_ok-zone.ensures.unused c.in_ok-jobs.ensures.sessions c.in_ok-jobs.ensures.dealt c.in_ok-results.ensures c.in_ok-ended.ensures in
    let same = gone_threads c.in_ok-zone.zone c.args.lines.now c.args.threads.now c.in_ok-ended.ended.items gone in
    λ t here. subst (λ ts. Contains ts t) (sym same) (subst (λ ts. Contains ts t) c.in_ok-zone.ensures.zone.1 here)

pub returns-in-Ok : goal.returns-in-Ok
returns-in-Ok g c =
    let gone = gone_of _ c.in_ok-zone.zone c.args.options c.args.lines.now c.args.threads.now c.in_ok-zone.sessions.items c.in_ok-jobs.jobs.items c.in_ok-results.results.items c.in_ok-ended.ended.items c.in_ok-zone.ensures.zone.0 c.in_ok-zone.ensures.sessions c.in_ok-zone.ensures.unused c.in_ok-jobs.ensures.sessions c.in_ok-jobs.ensures.dealt c.in_ok-results.ensures c.in_ok-ended.ensures in
    history_with_room c.args.options (requests c.args.lines.now) c.in-Ok.closed.journal.entries c.into_vec.result.items c.in-Ok.closed.stats c.into_vec.ensures
    (gone_history c.in_ok-zone.zone c.args.options c.args.lines.now c.args.threads.now c.args.threads.now c.in_ok-ended.ended.items c.in-Ok.closed.journal.entries c.in-Ok.closed.stats c.in_ok-zone.ensures.zone.0 c.in_ok-zone.ensures.zone.1 refl c.requires.threads c.requires.within gone c.in-Ok.ensures)
