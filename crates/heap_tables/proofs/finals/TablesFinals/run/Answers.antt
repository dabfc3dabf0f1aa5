use Rattle.std.proofs.Common.{ap, ◌∙◌}
use Rattle.finalise_pass.specs.Finalisers.{with_root}
use Rattle.heap_tables.specs.Running.{finals_of}
use Rattle.heap_tables.proofs.Finishing.{with_root_set}
use Rattle.heap_tables.proofs.finals.TablesFinals.run.Goals as goal

pub returns-in-Keep-clause-applied : goal.returns-in-Keep-clause-applied
returns-in-Keep-clause-applied c = rw c.in-Keep.is (with_root_set c.args.self.now c.in-Keep.root.0 _ c.set.new.self c.set.ensures.within c.set.ensures.value)

pub returns-in-Pass-clause-applied : goal.returns-in-Pass-clause-applied
returns-in-Pass-clause-applied c =
    rw c.in-Pass.is (with_root_set c.args.self.now c.in-Pass.root.0 _ c.set-in-Pass.new.self c.set-in-Pass.ensures.within c.set-in-Pass.ensures.value
    ∙ ap (with_root (finals_of c.args.self.now) c.in-Pass.root.0) c.referent-value.ensures)
