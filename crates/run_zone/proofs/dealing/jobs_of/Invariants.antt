use Rattle.std.proofs.Common.{◌≡◌, ◌++◌, map, All}
use Rattle.run_zone.specs.Runs.{IsDealt}
use Rattle.run_zone.proofs.dealing.jobs_of.Given as goal

abbrev pub invariant-loop-session : goal.invariant-loop-session
invariant-loop-session l = record {
  sessions : l.fn.sessions.items ≡ map (λ j. j.session) l.jobs.items ++ l.session-iterator.rest.items;
  dealt : All (IsDealt l.lines) l.jobs.items;
}
