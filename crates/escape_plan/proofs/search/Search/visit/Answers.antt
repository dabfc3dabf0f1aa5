use Rattle.std.proofs.Common.{sym}
use Rattle.local_set.specs.LocalSets.{blocks_of}
use Rattle.local_set.proofs.Walks.{inserted_visits}
use Rattle.escape_plan.proofs.search.Search.visit.Goals as goal

pub returns-clause-visits : goal.returns-clause-visits
returns-clause-visits c = inserted_visits (blocks_of c.args.local.now.blocks) c.args.self.now.found.keys c.insert.new.self.keys c.args.id (sym c.if-not-is_own.ensures) c.in-Ok.ensures.keys
