use Rattle.std.proofs.Common.{ap, ◌∙◌, sym, is_some, arith}
use Rattle.weak_table.proofs.Roomy.{roomy-with, members-left}
use Rattle.weak_table.proofs.lists.delist.Goals as goal

pub returns-clause-members : goal.returns-clause-members
returns-clause-members c =
    let there = sym c.in-Some.ensures.value in
    let written = c.get_mut.follows.holds c.swap_remove.new.self in (
      c.swap_remove.result,
      λ b. c.prune.ensures.members b
          ∙ members-left c.args.lists.now.entries (c.get_mut.follows.lender c.swap_remove.new.self).entries c.args.group c.args.at c.swap_remove.result c.in-Some.list.now c.swap_remove.new.self there
          (written.3 (ap is_some there)).0 c.swap_remove.ensures.items b,
    )

pub returns-clause-roomy : goal.returns-clause-roomy
returns-clause-roomy c = λ tight was.
    let there = sym c.in-Some.ensures.value in
    let written = c.get_mut.follows.holds c.swap_remove.new.self in
    c.prune.ensures.roomy tight (roomy-with c.args.lists.now.entries (c.get_mut.follows.lender c.swap_remove.new.self).entries c.args.group tight c.swap_remove.new.self
    (written.3 (ap is_some there)).0
    (λ t. let h = was c.args.group c.in-Some.list.now there t in omega (arith, h, c.swap_remove.ensures.len, c.swap_remove.ensures.capacity)) was)
