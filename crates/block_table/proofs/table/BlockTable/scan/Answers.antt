use Rattle.block_table.proofs.Marked.{begun_has, marked_lying, rest_is, scans_are}
use Rattle.block_table.proofs.table.BlockTable.scan.Goals as goal

pub scan-requires : goal.scan-requires
scan-requires c = begun_has _ c.self.inside.graph c.self.inside.kept.entries c.self.view_is c.args.id c.requires

pub invariant_of-self : goal.invariant_of-self
invariant_of-self c = marked_lying c.self.inside.graph c.scan.new.self _ _ _ c.scan.ensures.rest c.self.invariant

pub returns-clause-scans : goal.returns-clause-scans
returns-clause-scans c = scans_are _ c.self.inside.graph c.self.inside.kept.entries c.self.view_is c.scan.new.self c.scan.ensures.rest c.args.mode c.args.id c.args.stack.now c.scan.new.stack c.scan.ensures.scans

pub returns-clause-rest : goal.returns-clause-rest
returns-clause-rest c = rest_is _ c.self.inside.graph c.self.inside.kept.entries c.self.view_is c.scan.new.self c.scan.ensures.rest
