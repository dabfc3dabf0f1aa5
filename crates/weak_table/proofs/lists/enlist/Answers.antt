use Rattle.std.proofs.Common.{ap, sym, is_some, arith, refl}
use Rattle.weak_table.proofs.Roomy.{roomy-but}
use Rattle.weak_table.proofs.lists.enlist.Goals as goal

pub returns-then-not-contains_key-clause-roomy : goal.returns-then-not-contains_key-clause-roomy
returns-then-not-contains_key-clause-roomy c =
    roomy-but c.args.lists.now.entries c.insert.new.self.entries c.args.group c.push_reserved.new.self c.in-Ok.ensures.updates.0 c.requires.roomy

pub push_reserved-requires-2 : goal.push_reserved-requires-2
push_reserved-requires-2 c =
    let h = c.requires.roomy c.args.group c.in-Some.list.now (sym c.in-Some.ensures.value) refl in
    (omega arith, omega (arith, h))

pub returns-clause-roomy : goal.returns-clause-roomy
returns-clause-roomy c =
    let there = sym c.in-Some.ensures.value in
    let written = c.get_mut.follows.holds c.push_reserved-2.new.self in
    roomy-but c.args.lists.now.entries (c.get_mut.follows.lender c.push_reserved-2.new.self).entries c.args.group c.push_reserved-2.new.self (written.3 (ap is_some there)).0 c.requires.roomy
