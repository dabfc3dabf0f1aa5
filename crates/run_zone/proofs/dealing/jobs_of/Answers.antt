use Rattle.std.proofs.Common.{◌==◌, ◌++◌, filter, map, ap, sym, subst, ◌∙◌, All}
use Rattle.auto_zone.proofs.Seats.{all_snoc}
use Rattle.heap_script.specs.declared.line.Line.{Line}
use Rattle.run_zone.specs.declared.job.Job.{Job}
use Rattle.run_zone.specs.Runs.{IsDealt}
use Rattle.run_zone.proofs.Each.{session_moved}
use Rattle.run_zone.proofs.dealing.jobs_of.Goals as goal

pub loop-session-preserved : goal.loop-session-preserved
loop-session-preserved c =
    let job : Job = record { session = c.in-Some.session; lines = c.in_ok-lines.lines } in
    let more = c.in_ok-push.ensures.items in
    let thread = c.thread-thread.ensures ∙ ap (λ l. l.thread) c.part.ensures.part ∙ c.part.ensures.always.thread in
    record {
      sessions = c.loop-session.invariant.sessions ∙ ap (λ xs. map (λ (j : Job). j.session) c.loop-session.jobs.items ++ xs) c.in-Some.ensures.steps.0
          ∙ session_moved c.loop-session.jobs.items job c.next.new.self.rest.items ∙ ap (λ xs. map (λ (j : Job). j.session) xs ++ c.next.new.self.rest.items) (sym more);
      dealt = subst (All (IsDealt c.args.lines.now)) (sym more) (all_snoc (IsDealt c.args.lines.now) c.loop-session.jobs.items job c.loop-session.invariant.dealt
          (c.in_ok-lines.ensures ∙ ap (λ t. filter (λ (line : Line). line.thread == t) c.args.lines.now) thread));
    }
