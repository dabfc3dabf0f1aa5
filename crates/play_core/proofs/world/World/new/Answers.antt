use Rattle.play_core.proofs.Opening.{keeps_new, new_threads, all_run, seen_new}
use Rattle.play_core.proofs.world.World.new.Goals as goal

pub invariant_of-result : goal.invariant_of-result
invariant_of-result c =
    keeps_new c.args.options c.args.threads.now c.in_ok-core.core c.in_ok-locals.locals.items c.in_ok-locals.ensures c.requires.ascending c.in_ok-core.ensures.opened c.in_ok-core.ensures.options c.requires.options.pending.0

pub returns-clause-threads : goal.returns-clause-threads
returns-clause-threads c = new_threads c.args.options c.args.threads.now c.in_ok-locals.locals.items c.in_ok-locals.ensures

pub returns-clause-running : goal.returns-clause-running
returns-clause-running c = all_run c.args.options c.args.threads.now c.in_ok-core.core c.in_ok-locals.locals.items c.in_ok-locals.ensures

pub returns-clause-seen : goal.returns-clause-seen
returns-clause-seen c = seen_new c.args.options c.args.threads.now c.in_ok-core.core c.in_ok-locals.locals.items c.in_ok-locals.ensures c.in_ok-core.ensures.options c.in_ok-core.ensures.entries
