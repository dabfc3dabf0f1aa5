use Rattle.std.proofs.Common.{ap, ◌∙◌}
use Rattle.block_table.specs.Table.{Table}
use Rattle.heap_tables.specs.Running.{finals_of, unrun}
use Rattle.heap_tables.specs.declared.tables.Tables.{Tables}
use Rattle.heap_tables.proofs.Finishing.{finals_finished, unrun_finished}
use Rattle.heap_tables.proofs.finals.TablesFinals.set_done.Goals as goal

pub returns-clause-done : goal.returns-clause-done
returns-clause-done c = ap (λ (b : Table). finals_of (let y : Tables = record c.args.self.now { blocks = b } in y)) c.set_finalised.ensures ∙ finals_finished c.args.self.now c.args.id c.requires

pub returns-clause-rest : goal.returns-clause-rest
returns-clause-rest c = ap (λ (b : Table). unrun (let y : Tables = record c.args.self.now { blocks = b } in y)) c.set_finalised.ensures ∙ unrun_finished c.args.self.now c.args.id
