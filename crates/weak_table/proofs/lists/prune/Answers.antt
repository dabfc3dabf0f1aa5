use Rattle.std.proofs.Common.{ap, ◌∙◌, sym}
use Rattle.weak_table.specs.Lists.{list_in}
use Rattle.weak_table.proofs.Roomy.{roomy-gone, members-gone, no_items}
use Rattle.weak_table.proofs.lists.prune.Goals as goal

pub returns-clause-members : goal.returns-clause-members
returns-clause-members c =
    members-gone c.args.lists.now.entries c.swap_remove.new.self.entries c.args.group
    (ap list_in (sym c.in-Some.ensures.value) ∙ no_items c.in-Some.list.now.items (sym c.is_empty.ensures ∙ c.if-not-is_empty.false)) c.swap_remove.ensures.updates.0

pub returns-clause-roomy : goal.returns-clause-roomy
returns-clause-roomy c = λ tight. roomy-gone c.args.lists.now.entries c.swap_remove.new.self.entries c.args.group tight c.swap_remove.ensures.updates.0
