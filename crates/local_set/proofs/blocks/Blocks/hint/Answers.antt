use Rattle.std.proofs.Common.{ap, is_some, sym, ◌∙◌}
use Rattle.local_set.proofs.Tables.{got}
use Rattle.local_set.proofs.blocks.Blocks.hint.Goals as goal

pub returns : goal.returns
returns c = rw (← c.self.view_is) (c.get_index_of.ensures.found ∙ sym (ap is_some (got c.self.inside.stored.entries c.args.id)))
